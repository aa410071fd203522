-- `form::why_pairs` tries the forms. Assumes nothing.
use mathlib.Core.Path.{◌∙◌}
use mathlib.Core.List.{[], ◌∷◌}
use Rattle.explain.proofs.Trying.{told_all}
use Rattle.explain.proofs.form.why_pairs.Goals as goal

pub returns-in-Just : goal.returns-in-Just
returns-in-Just c = rw c.in-Just.is (rw c.pair_form.ensures at c.tell.ensures ∙ told_all _ _ _ (_ ∷ []))

pub returns-in-Immediate : goal.returns-in-Immediate
returns-in-Immediate c = rw c.in-Immediate.is (rw (c.pair_form-in-Immediate.ensures, c.pair_form-in-Immediate-2.ensures) at c.tell-in-Immediate.ensures ∙ told_all _ _ _ (_ ∷ _ ∷ []))

pub returns-in-Move : goal.returns-in-Move
returns-in-Move c =
    rw c.in-Move.is
    (rw (c.pair_form-in-Move.ensures, c.pair_form-in-Move-2.ensures, c.pair_form-in-Move-3.ensures, c.pair_form-in-Move-4.ensures, c.pair_form-in-Move-5.ensures, c.pair_form-in-Move-6.ensures) at c.tell-in-Move.ensures
    ∙ told_all _ _ _ (_ ∷ _ ∷ _ ∷ _ ∷ _ ∷ _ ∷ []))
