-- The last mark in an error's text. Assumes nothing.
use Rattle.std.proofs.Common.{◌≡◌, ℕ, zero, suc, ◌-◌, ◌<◌, ◌≤◌, Bool, true, false, [], ◌∷◌, length, take, drop, refl, sym, ap, ◌∙◌, arith}
use mathlib.Core.Bool.{false≢true}
use lib.ListN.{get_or, drop_of_length-le}
use lib.Seq.{drop-cons}
use Rattle.rules.specs.Text.{Text, bytes, starts, contains}
use Rattle.text.proofs.Kept.{rest_is}
use Rattle.text.proofs.Contains.{contains_here, contains_later}
use Rattle.cli_error.specs.Reason.{mark, reason_of}

-- no mark begins at i or later
abbrev pub NoMark : Text → ℕ → Type 0
NoMark t i = contains mark (drop i t) ≡ false

pub no_mark_last : (t : Text) → NoMark t (length t)
unfolding contains mark bytes starts
no_mark_last t = let h : length t ≤ length t = omega arith in rw (drop_of_length-le t h)

contains_at : (p t : Text) (i : ℕ) → i < length t → starts p (drop i t) ≡ true → contains p t ≡ true
unfolding contains
contains_at p [] i h e = absurd (omega arith)
contains_at p (b ∷ t) zero h e = contains_here p b t e
contains_at p (b ∷ t) (suc i) h e = go (starts p (b ∷ t)) refl (contains_at p t i (omega arith) e)
  where
    go : (y : Bool) → starts p (b ∷ t) ≡ y → contains p t ≡ true → contains p (b ∷ t) ≡ true
    go true f ih = contains_here p b t f
    go false f ih = contains_later p b t f ∙ ih

reason_here : (b : ℕ) (t : Text) → starts mark (b ∷ t) ≡ true → contains mark t ≡ false → reason_of (b ∷ t) ≡ []
unfolding reason_of
reason_here b t e f = rw (e, f, reason_of)

reason_later : (b : ℕ) (t : Text) → contains mark t ≡ true → reason_of (b ∷ t) ≡ b ∷ reason_of t
unfolding reason_of
reason_later b t f = go (starts mark (b ∷ t)) refl
  where
    go : (y : Bool) → starts mark (b ∷ t) ≡ y → reason_of (b ∷ t) ≡ b ∷ reason_of t
    go true e = rw (e, f, reason_of)
    go false e = rw (e, reason_of)

pub cut_last : (t : Text) (i : ℕ) → i < length t → starts mark (drop i t) ≡ true → contains mark (drop (suc i) t) ≡ false → reason_of t ≡ take i t
cut_last [] i h e f = absurd (omega arith)
cut_last (b ∷ t) zero h e f = reason_here b t e f
cut_last (b ∷ t) (suc i) h e f = reason_later b t (contains_at mark t i (omega arith) e) ∙ ap (λ (u : Text). b ∷ u) (cut_last t i (omega arith) e f)

pub reason_whole : (t : Text) → contains mark t ≡ false → reason_of t ≡ t
unfolding reason_of
reason_whole [] e = refl
reason_whole (b ∷ t) e = go (starts mark (b ∷ t)) refl (reason_whole t)
  where
    go : (y : Bool) → starts mark (b ∷ t) ≡ y → (contains mark t ≡ false → reason_of t ≡ t) → reason_of (b ∷ t) ≡ b ∷ t
    go true f ih = absurd (false≢true (sym e ∙ contains_here mark b t f))
    go false f ih = rw (f, reason_of) (ap (λ (u : Text). b ∷ u) (ih (sym (contains_later mark b t f) ∙ e)))

-- ---- as the loop finds it, which looks at one place in front of i
module _ (t : Text) (i : ℕ) (p : 0 < i) (l : i ≤ length t) {y : Bool} (q : y ≡ starts mark (take (length t - (i - 1)) (drop (i - 1) t))) where
  here : starts mark (drop (i - 1) t) ≡ y
  here = sym (rw (rest_is t (i - 1)) at q)

  pub mark_found : y ≡ true → NoMark t i → take (i - 1) t ≡ reason_of t
  mark_found e n =
      let z : suc (i - 1) ≡ i = omega arith in
      sym (cut_last t (i - 1) (omega arith) (here ∙ e) (rw z n))

  pub no_mark_here : y ≡ false → NoMark t i → NoMark t (i - 1)
  no_mark_here e n =
      let z : suc (i - 1) ≡ i = omega arith in
      let h : i - 1 < length t = omega arith in
      rw (drop-cons t (i - 1) 0 h) (contains_later mark (get_or t (i - 1) 0) (drop (suc (i - 1)) t) (rw (drop-cons t (i - 1) 0 h) at (here ∙ e)) ∙ rw z n)

pub no_mark_at_all : (t : Text) (i : ℕ) → i ≤ 0 → NoMark t i → t ≡ reason_of t
no_mark_at_all t zero h n = sym (reason_whole t n)
no_mark_at_all t (suc i) h n = absurd (omega arith)
