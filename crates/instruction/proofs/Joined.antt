-- Laws of a text whose pieces stand joined already, and what the loop of `is_joined` keeps. Assumes nothing.
use mathlib.Core.Path.{◌≡◌, refl, sym, ap, ◌∙◌}
use mathlib.Core.Bool.{Bool, true, false, not, ◌&&◌, or-false, and-false, false≢true}
use mathlib.Core.List.{List, [], ◌∷◌}
use Prim.Native.Nat.{ℕ, zero, suc, ◌+◌, ◌-◌, ◌≤◌, ◌<◌}
use native.Mathlib.Numerals.{add-one}
use native.Mathlib.Omega.{arith}
use borrow.Author.Tests.{ne_eqb, lt-leb, eqb-true, not-true}
use lib.ListN.{length, take, drop, get_or, length-drop, drop_of_length-le}
use lib.Seq.{drop-cons, drop-drop}
use Rattle.rules.specs.Text.{Text, blank, leading, trim_start, on_first, cut_where, drop_empty, pieces, join_more, joined, other_texts}
use Rattle.text.proofs.Until.{cut_here, cut_later, cut_first}
use Rattle.text.proofs.Trim.{leading_le, drop_leading, leading_trim_start, first_none}
use Rattle.text.proofs.Kept.{rest_is}
use Rattle.text.proofs.Ranges.{over_range}
use Rattle.std.specs.Bool.{MatchBool}
use Rattle.std.specs.List.{range_with_len, AllWithin, HoldsAt}
use Rattle.text.proofs.Pieces.{pieces_trim_start}
use Rattle.instruction.specs.Joined.{is_filled, is_single, is_joined}

-- ---- the test of one byte
both : (x y : Bool) → (x && y) ≡ true → (x ≡ true) × (y ≡ true)
both true y h = (refl, h)
both false y h = absurd (false≢true h)

filled_is : (b : ℕ) (s : Text) → is_filled (b ∷ s) ≡ true → blank b ≡ false
unfolding is_filled
filled_is b s h = not-true (blank b) h

-- a blank that may stand is a space, and a byte that is none stands after it
single_blank : (b : ℕ) (s : Text) → blank b ≡ true → is_single (b ∷ s) ≡ true → (b ≡ 32) × (is_filled s ≡ true)
unfolding is_single
single_blank b s e h = let k = both _ _ (rw e at h) in (eqb-true b 32 k.0, k.1)

joined_parts : (b : ℕ) (s : Text) → is_joined (b ∷ s) ≡ true → (is_single (b ∷ s) ≡ true) × (is_joined s ≡ true)
unfolding is_joined
joined_parts b s h = both _ _ h

-- ---- cut at its blanks, it joins to itself
pub join_more_cut : (s : Text) → join_more (cut_where blank s) ≡ 32 ∷ joined (cut_where blank s)
unfolding join_more joined
join_more_cut s = rw (cut_first blank s)

pub joined_on_first : (b : ℕ) (ps : List Text) → joined (on_first b ps) ≡ b ∷ joined ps
unfolding join_more joined on_first
joined_on_first b [] = refl
joined_on_first b (p ∷ ps) = refl

joined_cut : (s : Text) → is_joined s ≡ true → joined (cut_where blank s) ≡ s
unfolding cut_where joined join_more
joined_cut [] h = refl
joined_cut (b ∷ s) h = go (blank b) refl (joined_parts b s h).0 (joined_cut s (joined_parts b s h).1)
  where
    go : (y : Bool) → blank b ≡ y → is_single (b ∷ s) ≡ true → joined (cut_where blank s) ≡ s → joined (cut_where blank (b ∷ s)) ≡ b ∷ s
    go true e k ih = rw (cut_here blank b s e) (join_more_cut s ∙ rw (ih, (single_blank b s e k).0))
    go false e k ih = rw (cut_later blank b s e) (joined_on_first b (cut_where blank s) ∙ ap (λ (r : Text). b ∷ r) ih)

-- ---- and no piece is empty
kept_on_first : (b : ℕ) (ps : List Text) → drop_empty (other_texts ps) ≡ other_texts ps → drop_empty (on_first b ps) ≡ on_first b ps
unfolding on_first drop_empty other_texts
kept_on_first b [] h = refl
kept_on_first b (p ∷ ps) h = ap (λ (qs : List Text). (b ∷ p) ∷ qs) h

others_on_first : (b : ℕ) (ps : List Text) → other_texts (on_first b ps) ≡ other_texts ps
unfolding on_first other_texts
others_on_first b [] = refl
others_on_first b (p ∷ ps) = refl

-- with a filled byte in front nothing is empty; without, only the first text may be
record NoneEmpty (s : Text) : Type 0 where
  others : drop_empty (other_texts (cut_where blank s)) ≡ other_texts (cut_where blank s)
  whole : is_filled s ≡ true → drop_empty (cut_where blank s) ≡ cut_where blank s

kept : (s : Text) → is_joined s ≡ true → NoneEmpty s
unfolding cut_where drop_empty other_texts is_filled
kept [] h = record { others = refl; whole = λ f. absurd (false≢true f) }
kept (b ∷ s) h = go (blank b) refl (joined_parts b s h).0 (kept s (joined_parts b s h).1)
  where
    go : (y : Bool) → blank b ≡ y → is_single (b ∷ s) ≡ true → NoneEmpty s → NoneEmpty (b ∷ s)
    go true e k ih =
        record {
          others = rw (cut_here blank b s e) (ih.whole (single_blank b s e k).1);
          whole = λ f. absurd (false≢true (sym (filled_is b s f) ∙ e));
        }
    go false e k ih =
        record {
          others = rw (cut_later blank b s e, others_on_first b (cut_where blank s)) ih.others;
          whole = λ f. rw (cut_later blank b s e) (kept_on_first b (cut_where blank s) ih.others);
        }

-- so the joined pieces are the text itself
pub joined_self : (s : Text) → is_joined s ≡ true → leading s ≡ 0 → joined (pieces s) ≡ s
unfolding pieces cut_where drop_empty joined is_filled
joined_self [] h z = refl
joined_self (b ∷ s) h z = ap joined ((kept (b ∷ s) h).whole (ap not (first_none b s z))) ∙ joined_cut (b ∷ s) h

-- from after the blanks on, a text that stands joined is what the pieces join to
module _ (t : Text) (at start : ℕ) (e : start ≡ at + leading (drop at t)) where
  pub start_within : at ≤ length t → start ≤ length t
  start_within h = omega (arith, leading_le (drop at t), length-drop at t)

  from_start : drop start t ≡ trim_start (drop at t)
  from_start = rw e (sym (drop-drop (leading (drop at t)) at t) ∙ drop_leading (drop at t))

  pub joined_there : {y : Bool} → y ≡ is_joined (drop start t) → y ≡ true → take (length t - start) (drop start t) ≡ joined (pieces (drop at t))
  joined_there p q =
      let j : is_joined (trim_start (drop at t)) ≡ true = rw from_start at (sym p ∙ q) in
      rest_is t start ∙ rw from_start (sym (rw (pieces_trim_start (drop at t)) at (joined_self (trim_start (drop at t)) j (leading_trim_start (drop at t)))))

-- ---- the returns of `is_single`
module _ (t : Text) (i : ℕ) (h : i < length t) where
  here : drop i t ≡ get_or t i 0 ∷ drop (suc i) t
  here = drop-cons t i 0 h

  pub single_high : 32 < get_or t i 0 → true ≡ is_single (drop i t)
  unfolding is_single blank
  single_high k = rw (here, lt-leb (get_or t i 0) 13 (omega arith), ne_eqb (get_or t i 0) 32 (λ e. omega arith)) (sym (rw and-false))

  pub single_other : (get_or t i 0 ≡ 32 → ⊥) → {y : Bool} → y ≡ blank (get_or t i 0) → not y ≡ is_single (drop i t)
  unfolding is_single
  single_other d p = rw (here, p, ne_eqb (get_or t i 0) 32 d) (sym (or-false (not (blank (get_or t i 0)))))

  module _ (e : get_or t i 0 ≡ 32) where
    space_here : is_single (drop i t) ≡ is_filled (drop (suc i) t)
    unfolding is_single blank
    space_here = rw (here, e)

    pub single_last : i + 1 ≡ length t → false ≡ is_single (drop i t)
    unfolding is_filled
    single_last k = let l : length t ≤ suc i = omega arith in let gone : drop (suc i) t ≡ [] = drop_of_length-le t l in sym (space_here ∙ ap is_filled gone)

    pub single_space : (i + 1 ≡ length t → ⊥) → {y : Bool} → y ≡ blank (get_or t (i + 1) 0) → not y ≡ is_single (drop i t)
    unfolding is_filled
    single_space d p = rw (space_here, drop-cons t (suc i) 0 (omega arith), p, add-one i)

-- ---- as `all` says it over the places
joined_more : (t : Text) (i : ℕ) → i < length t → is_joined (drop i t) ≡ (is_single (drop i t) && is_joined (drop (suc i) t))
unfolding is_joined
joined_more t i h = rw (drop-cons t i 0 h)

joined_at : (r : Bool) (t : Text) (n at : ℕ) → at + n ≡ length t
    → MatchBool r ((i : ℕ) → i < n → is_single (drop (at + i) t) ≡ true) ((i : ℕ) × (i < n) × (is_single (drop (at + i) t) ≡ false))
    → r ≡ is_joined (drop at t)
unfolding is_joined
joined_at true t zero at e h = let l : length t ≤ at = omega arith in rw (drop_of_length-le t l)
joined_at false t zero at e (i, k, d) = absurd (omega arith)
joined_at true t (suc n) at e h =
    let z : at + 0 ≡ at = omega arith in
    let here : is_single (drop at t) ≡ true = rw z at (h 0 (omega arith)) in
    let ih = joined_at true t n (suc at) (omega arith) (λ i k. let m : suc at + i ≡ at + suc i = omega arith in rw m (h (suc i) (omega arith))) in
    rw (joined_more t at (omega arith), here) ih
joined_at false t (suc n) at e (zero, k, d) =
    let z : at + 0 ≡ at = omega arith in
    rw (joined_more t at (omega arith), rw z at d)
joined_at false t (suc n) at e (suc i, k, d) =
    let m : suc at + i ≡ at + suc i = omega arith in
    let ih = joined_at false t n (suc at) (omega arith) (i, omega arith, rw m d) in
    rw (joined_more t at (omega arith), ← ih, and-false)

pub joined_by : (r : Bool) (t : Text) (at : ℕ) → at ≤ length t
    → MatchBool r (AllWithin (λ i. is_single (drop i t) ≡ true) (range_with_len at (length t - at)) 0 (length (range_with_len at (length t - at))))
    ((k : ℕ) × (k < length (range_with_len at (length t - at))) × HoldsAt (λ i. is_single (drop i t) ≡ false) (range_with_len at (length t - at)) k)
    → r ≡ is_joined (drop at t)
joined_by r t at h m = joined_at r t (length t - at) at (omega arith) (over_range r (λ i. is_single (drop i t) ≡ true) (λ i. is_single (drop i t) ≡ false) at (length t - at) m)
