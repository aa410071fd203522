-- The lengths are compared, and then the bytes.
use Rattle.std.proofs.Common.{sym, ◌∙◌}
use Rattle.std.proofs.lemmas.Bool.{ne_eqb}
use Rattle.rules.specs.Text.{bytes}
use Rattle.text.proofs.Compare.{same_longer, same_starts}
use Rattle.station.proofs.arguments.is_table_option.Goals as goal

pub returns-then-option-eq2 : goal.returns-then-option-eq2
unfolding bytes
returns-then-option-eq2 c = c.starts_with.ensures ∙ sym (same_starts _ _ c.if-option-eq2.true)

pub returns-else-option-eq2 : goal.returns-else-option-eq2
unfolding bytes
returns-else-option-eq2 c = ne_eqb _ 2 c.if-option-eq2.false ∙ sym (same_longer _ _ c.if-option-eq2.false)
