-- Outcomes of which nothing is said. Assumes nothing.
use Rattle.std.proofs.Common.{◌≡◌, ℕ, List, [], Option, Ok, refl, sym, subst}
use Rattle.std.proofs.KnownBytes.{Appends-nil}
use Rattle.rules.specs.Text.{Text}
use Rattle.outcome.specs.declared.Outcome.{Outcome}
use Rattle.outcome.specs.declared.Outcome.TheVariants.{Accepted, NotAll, WrongUse}
use Rattle.serving.specs.Said.{Called, Tells}

module _ (c : Called) (s : Text) (o : Outcome) (a : Option (List ℕ)) where
  pub accepted_silent : o ≡ Accepted → Tells c s o a a
  accepted_silent e = subst (λ v. Tells c s v a a) (sym e) ([], Ok tt, refl, Appends-nil a)

  pub not_all_silent : o ≡ NotAll → Tells c s o a a
  not_all_silent e = subst (λ v. Tells c s v a a) (sym e) ([], Ok tt, refl, Appends-nil a)

  pub wrong_use_silent : o ≡ WrongUse → Tells c s o a a
  wrong_use_silent e = subst (λ v. Tells c s v a a) (sym e) ([], Ok tt, refl, Appends-nil a)
