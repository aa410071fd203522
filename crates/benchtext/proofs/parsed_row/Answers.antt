-- `benchtext::parsed_row` meets its contract. Assumes nothing.
use Rattle.std.proofs.Common.{refl, replicate}
use Rattle.rules.specs.Assemble.{Slices, slices}
use Rattle.benchtext.proofs.Rows.{addresses_fit, words_fit, row_read, row_wrong}
use Rattle.benchtext.proofs.parsed_row.Goals as goal

abbrev zeros : Slices
zeros = slices (replicate 12288 0) (replicate 12288 0) (replicate 12288 0)

pub list_row-requires : goal.list_row-requires
list_row-requires c =
    let read = c.in-Ok.ensures in
    (addresses_fit c.args.text.now zeros _ refl _ read.answer read.filled, words_fit c.args.text.now zeros _ refl _ read.answer read.filled)

pub returns-in-Ok : goal.returns-in-Ok
returns-in-Ok c = let read = c.in-Ok.ensures in rw (row_read c.args.text.now zeros _ refl _ read.answer read.filled _ _) at c.list_row.ensures.printed

pub returns-in-Err : goal.returns-in-Err
returns-in-Err c = rw (row_wrong c.args.text.now zeros zeros refl _ c.in-Err.ensures.answer c.args.given c.args.row) at c.write_wrong_line.ensures
