-- A text has a piece more than it has separators. Assumes nothing.
use Rattle.std.proofs.Common.{◌≡◌, ℕ, ◌+◌, Bool, true, false, cond, eqb, [], ◌∷◌, length, refl, ◌∙◌, arith}
use Rattle.std.specs.List.{count_by}
use Rattle.std.proofs.lemmas.List.Sums.{sum_by-cons}
use Rattle.rules.specs.Text.{Text, cut_at, cut_where, on_first}
use Rattle.text.proofs.Compare.{eqb_sym}
use Rattle.text.proofs.Until.{cut_here, cut_later, cut_first}

length_on_first : (b : ℕ) (t : Text) → length (on_first b (cut_where (eqb 10) t)) ≡ length (cut_where (eqb 10) t)
unfolding on_first
length_on_first b t = rw (cut_first (eqb 10) t)

pub length_cut : (s : Text) → length (cut_at 10 s) ≡ count_by (λ b. eqb b 10) s + 1
unfolding cut_at cut_where
length_cut [] = refl
length_cut (b ∷ s) = rw (sum_by-cons (λ b. cond (eqb b 10) 1 0) b s) (go (eqb b 10) refl (length_cut s))
  where
    go : (x : Bool) → eqb b 10 ≡ x → length (cut_at 10 s) ≡ count_by (λ b. eqb b 10) s + 1 → length (cut_at 10 (b ∷ s)) ≡ cond (eqb b 10) 1 0 + count_by (λ b. eqb b 10) s + 1
    go true e h = rw (cut_here (eqb 10) b s (eqb_sym 10 b ∙ e), e) (omega (arith, h))
    go false e h = rw (cut_later (eqb 10) b s (eqb_sym 10 b ∙ e), e) (omega (arith, length_on_first b s, h))
