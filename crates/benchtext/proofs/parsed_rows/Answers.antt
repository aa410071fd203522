-- `benchtext::parsed_rows` meets its contract. Assumes nothing.
use Rattle.std.proofs.Common.{refl, replicate, ◌∙◌}
use Rattle.rules.specs.Assemble.{Slices, slices}
use Rattle.benchtext.proofs.Rows.{rows_read, rows_wrong}
use Rattle.benchtext.proofs.parsed_rows.Goals as goal

abbrev zeros : Slices
zeros = slices (replicate 12288 0) (replicate 12288 0) (replicate 12288 0)

pub returns-in-Ok : goal.returns-in-Ok
returns-in-Ok c = let read = c.in-Ok.ensures in c.list_rows.ensures ∙ rows_read c.args.text.now zeros _ refl _ read.answer read.filled _

pub returns-in-Err : goal.returns-in-Err
returns-in-Err c = rows_wrong c.args.text.now zeros zeros refl _ c.in-Err.ensures.answer _
