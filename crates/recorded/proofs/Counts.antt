-- What a replay prints. Assumes nothing.
use Rattle.std.proofs.Common.{◌≡◌, ℕ, true, false, List, [], ◌∷◌, ◌++◌, sym, subst}
use Rattle.std.specs.Prelude.{Option, None, Some}
use Rattle.rules.specs.Text.{bytes}
use Rattle.listing.specs.Listing.{decimal}
use Rattle.station.specs.Station.{unless_failed}
use Rattle.station.specs.Printed.{Printed}
use Rattle.station.specs.declared.input.Input.{Input}
use Rattle.station.proofs.Printed.{printed_none}
use Rattle.recorded.specs.Replay.{counts_text, first_text, replay_text}
use Rattle.recorded.specs.declared.Tally.{Tally}

module _ (s : Tally) (i : Input) where
  pub text_failed : i.failed ≡ true → (x : List ℕ) → Printed (replay_text s i) 0 x x
  unfolding replay_text unless_failed
  text_failed f x = rw f (printed_none x)

  pub text_agrees : i.failed ≡ false → s.first ≡ None → {n : ℕ} {x y : List ℕ} → Printed (counts_text s) n x y → Printed (replay_text s i) n x y
  unfolding replay_text unless_failed first_text
  text_agrees f e {n} {x} {y} p = rw f (subst (λ (o : Option ℕ). Printed (first_text o (counts_text s)) n x y) (sym e) p)

  pub text_differs : i.failed ≡ false → (k : ℕ) → s.first ≡ Some k → {n : ℕ} {x y : List ℕ}
      → Printed (counts_text s ++ (bytes "the first that differs is record " ++ (decimal k ++ (10 ∷ [])))) n x y → Printed (replay_text s i) n x y
  unfolding replay_text unless_failed first_text
  text_differs f k e {n} {x} {y} p = rw f (subst (λ (o : Option ℕ). Printed (first_text o (counts_text s)) n x y) (sym e) p)
