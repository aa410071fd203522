-- `cells_of` keeps a code's words in two cells. Assumes nothing.
use Rattle.std.proofs.Common.{rules}
use Rattle.emit.proofs.Coding.{no_cells, word_cells, value_cells, long_cells, address_cells}
use Rattle.emit.proofs.codes.cells_of.Goals as goal

pub returns-in-None : goal.returns-in-None
returns-in-None c = rw c.in-None.is no_cells

pub returns-in-Some-Word : goal.returns-in-Some-Word
returns-in-Some-Word c = let k = c.in-Some-Word in rw (k.is, c.from.ensures) (word_cells (search rules) (rw k.is at k.field-0-is))

pub returns-in-Some-Value : goal.returns-in-Some-Value
returns-in-Some-Value c = let k = c.in-Some-Value in rw (k.is, c.from-in-Some-Value.ensures, c.from-in-Some-Value-2.ensures) (value_cells (search rules) (search rules) (rw k.is at k.field-0-is))

pub returns-in-Some-Long : goal.returns-in-Some-Long
returns-in-Some-Long c = let k = c.in-Some-Long in rw (k.is, c.from-in-Some-Long.ensures) (long_cells (search rules) (rw k.is at k.field-0-is))

pub returns-in-Some-Address : goal.returns-in-Some-Address
returns-in-Some-Address c = let k = c.in-Some-Address in rw (k.is, c.from-in-Some-Address.ensures) (address_cells (search rules) (rw k.is at k.field-0-is))
