-- `form::why_one` tries the one form. Assumes nothing.
use mathlib.Core.Path.{ap, ◌∙◌}
use mathlib.Core.List.{[], ◌∷◌}
use Rattle.explain.specs.Form.{told}
use Rattle.explain.specs.declared.operand.Place.{Place}
use Rattle.explain.proofs.Trying.{one_place, told_all}
use Rattle.explain.proofs.form.why_one.Goals as goal

pub returns : goal.returns
returns c = λ ps. c.tell.ensures ∙ ap (λ (p : Place). told (p ∷ [])) (c.place_of.ensures ∙ one_place _ _ _ _ ps) ∙ told_all _ _ _ (_ ∷ [])
