-- The lengths are compared, and then the bytes. Assumes nothing.
use Rattle.std.proofs.Common.{sym, ◌∙◌}
use Rattle.std.proofs.lemmas.Bool.{ne_eqb}
use Rattle.rules.specs.Text.{bytes}
use Rattle.text.proofs.Compare.{same_longer, same_starts}
use Rattle.sheettext.proofs.arguments.is_sheet_option.Goals as goal

pub returns-then-t-eq2 : goal.returns-then-t-eq2
unfolding bytes
returns-then-t-eq2 c = c.starts_with.ensures ∙ sym (same_starts _ _ c.if-t-eq2.true)

pub returns-else-t-eq2 : goal.returns-else-t-eq2
unfolding bytes
returns-else-t-eq2 c = ne_eqb _ 2 c.if-t-eq2.false ∙ sym (same_longer _ _ c.if-t-eq2.false)
