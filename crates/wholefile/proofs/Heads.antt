-- The first place in a text where another stands. Assumes nothing.
use Rattle.std.proofs.Common.{ℕ, suc, ◌≡◌, ◌-◌, ◌+◌, ◌<◌, ◌≤◌, Bool, true, ◌∷◌, length, take, drop, refl, sym, ap, ◌∙◌, arith, add-one}
use Rattle.std.specs.Prelude.{Option, Some, None}
use lib.ListN.{get_or, drop_of_length-le}
use Rattle.std.proofs.lemmas.List.{length-take-le}
use lib.Seq.{drop-cons}
use Rattle.std.proofs.lemmas.List.{take_rest}
use Rattle.rules.specs.Text.{Text, starts, blank}
use Rattle.text.specs.Pieces.{run}
use Rattle.text.proofs.Until.{until_le}
use Rattle.text.proofs.Compare.{starts_short}
use Rattle.wholefile.specs.Limit.{after, behind}

pub starts_long : (p t : Text) → starts p t ≡ true → length p ≤ length t
starts_long p t e = grind (arith, starts_short)

found_at : (p : Text) (b : ℕ) (s : Text) (r : Text) → after p (b ∷ s) ≡ Some r → behind p (b ∷ s) ≡ Some r
unfolding behind
found_at p b s r e = rw (e, behind) refl

next_at : (p : Text) (b : ℕ) (s : Text) → after p (b ∷ s) ≡ None → behind p (b ∷ s) ≡ behind p s
unfolding behind
next_at p b s e = rw (e, behind) refl

-- as the loop finds it
module _ (p t : Text) (i : ℕ) (h : i < length t) (o : Option Text) (q : o ≡ after p (take (length t - i) (drop i t))) (v : behind p t ≡ behind p (drop i t)) where
  here : after p (drop i t) ≡ o
  here = sym (rw (take_rest t i) at q)

  pub behind_found : (r : Text) → o ≡ Some r → Some r ≡ behind p t
  behind_found r e = sym (v ∙ rw (drop-cons t i 0 h) (found_at p (get_or t i 0) (drop (suc i) t) r (rw (drop-cons t i 0 h) at (here ∙ e))))

  pub behind_next : o ≡ None → behind p t ≡ behind p (drop (i + 1) t)
  behind_next e = rw (add-one i) (v ∙ ap (behind p) (drop-cons t i 0 h) ∙ next_at p (get_or t i 0) (drop (suc i) t) (rw (drop-cons t i 0 h) at (here ∙ e)))

pub behind_none : (p t : Text) (i : ℕ) → length t ≤ i → behind p t ≡ behind p (drop i t) → None ≡ behind p t
unfolding behind
behind_none p t i h v = sym (v ∙ ap (behind p) (drop_of_length-le t h))

pub after_is : (p t : Text) (n : ℕ) (y : Bool) → n ≡ length p → y ≡ starts p t → y ≡ true → Some (take (length t - n) (drop n t)) ≡ after p t
after_is p t n y z q e = let s : starts p t ≡ true = sym q ∙ e in rw (z, take_rest t (length p), s) refl

-- the bytes up to a blank
pub piece_fits : (r : ℕ) (t : Text) → r ≡ 0 + run (drop 0 t) → r ≡ length (take r t)
piece_fits r t e =
    let h : r ≤ length t = omega (arith, e, until_le blank t) in
    sym (length-take-le r t h)
