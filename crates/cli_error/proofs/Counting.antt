-- Bytes 10 counted one after another. Assumes nothing.
use Rattle.std.proofs.Common.{◌≡◌, ◌+◌, Bool, true, false, cond, eqb, [], ◌∷◌, refl, ◌∙◌, arith}
use Rattle.std.specs.List.{count_by}
use Rattle.std.proofs.lemmas.List.Sums.{sum_by-cons}
use Rattle.rules.specs.Text.{Text}
use Rattle.text.specs.Breaks.{breaks}
use Rattle.text.proofs.Breaks.{breaks_here, breaks_later}
use Rattle.text.proofs.Compare.{eqb_sym}

pub breaks_counted : (s : Text) → count_by (λ b. eqb b 10) s ≡ breaks s
unfolding breaks
breaks_counted [] = refl
breaks_counted (b ∷ s) = rw (sum_by-cons (λ b. cond (eqb b 10) 1 0) b s) (go (eqb b 10) refl (breaks_counted s))
  where
    go : (x : Bool) → eqb b 10 ≡ x → count_by (λ b. eqb b 10) s ≡ breaks s → cond (eqb b 10) 1 0 + count_by (λ b. eqb b 10) s ≡ breaks (b ∷ s)
    go true e h = rw (breaks_here b s (eqb_sym 10 b ∙ e), e) (omega (arith, h))
    go false e h = rw (breaks_later b s (eqb_sym 10 b ∙ e), e) (omega (arith, h))
