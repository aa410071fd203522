-- `data_head` parts label and directive at a colon, else by the pieces. Assumes nothing.
use mathlib.Core.Path.{sym, refl, ◌∙◌}
use native.Mathlib.Omega.{arith}
use Rattle.text.proofs.Find.{indexed}
use Rattle.line.proofs.Directive.{head_colon}
use Rattle.line.proofs.data_head.Goals as goal

pub label_length-label-requires : goal.label_length-label-requires
label_length-label-requires c = omega (arith, indexed _ _ _ (sym c.find_byte.ensures ∙ c.in-Some.is))

pub overflow_add-result : goal.overflow_add-result
overflow_add-result c = omega (arith, indexed _ _ _ (sym c.find_byte.ensures ∙ c.in-Some.is))

pub returns : goal.returns
returns c = head_colon _ _ _ _ c.requires (indexed _ _ _ (sym c.find_byte.ensures ∙ c.in-Some.is)) c.label_length-label.ensures refl
