-- The columns of a row: how they are written, and how long they are. Assumes nothing.
use Prim.Native.Nat.{ℕ, ◌+◌, ◌-◌, ◌≤◌}
use mathlib.Core.Path.{◌≡◌, refl, sym, ap}
use mathlib.Core.Bool.{cond}
use mathlib.Core.List.{List, [], ◌∷◌, append_assoc}
use native.Mathlib.Omega.{arith}
use lib.Dec.{eqb}
use lib.ListN.{length, take, drop, length-append, length-drop}
use lib.Seq.{take_at, take_all}
use Rattle.rules.specs.Text.{Text, bytes}
use Rattle.rules.specs.Assemble.{Place, over}
use Rattle.rules.specs.Number.{no_digits, bad_digit, out_of_range}
use Rattle.requests.specs.Explain.{not_instruction, unknown_mnemonic, wrong_count, wrong_kinds, bad_number, not_recorded, out_of_reach, Verdict, emitted, because}
use Rattle.listing.specs.Listing.{digits_of, decimal}
use Rattle.std.specs.Borrow.{MutBor}
use Rattle.listing.specs.Writer.{Begins, Adds}
use Rattle.listing.specs.declared.writer.Writer.{Writer}
use Rattle.listing.proofs.Digits.{length_digits, few_places, decimal_length}
use Rattle.listing.proofs.Adding.{adds_as, adds_both, adds_all}
use Rattle.whytext.specs.WhyLine.{verdict_text}
use Rattle.printout.specs.Printout.{padded, word_text, words_text, front_text, end_text, row_text, unread_row}

-- the part of a text from n to its end
pub to_end : (t : Text) (n : ℕ) → take (length t - n) (drop n t) ≡ drop n t
to_end t n = take_all (length t - n) (drop n t) (omega (arith, length-drop n t))

-- ---- a line's number
abbrev spaces : Text
spaces = 32 ∷ 32 ∷ 32 ∷ 32 ∷ []

module _ (line : ℕ) (h : line ≤ 9999) where
  four : length (decimal line) ≤ 4
  four = omega (arith, few_places 3 line (omega arith), decimal_length _ line refl)

  pub padded_length : length (padded line) ≡ 4
  unfolding padded bytes
  padded_length = rw (length-append (drop (length (decimal line)) spaces) (decimal line), length-drop (length (decimal line)) spaces) (omega (arith, four))

  -- v has written the digits into a slice, and d is what stands there
  module _ {x : MutBor (List ℕ)} {w v : Writer} (b : Begins x w) (a : Adds (decimal line) w v) where
    pub digits_few : v.len ≤ 4
    digits_few = omega (arith, four, (adds_all b a).0)

    spaces_left : length (take (4 - v.len) (drop v.len spaces)) ≡ 4 - v.len
    spaces_left = rw (to_end spaces v.len) (length-drop v.len spaces)

    module _ {d : List ℕ} (g : d ≡ v.out.now) where
      digits_front : take v.len d ≡ decimal line
      unfolding over
      digits_front = rw (g, (adds_all b a).1) (take_at (decimal line) (drop (length (decimal line)) x.now) v.len (sym (adds_all b a).0))

      pub digits_room : {p q : Writer} → Adds (take (4 - v.len) (drop v.len spaces)) p q → p.len + 4 ≤ length p.out.now → q.len + length (take v.len d) ≤ length q.out.now
      digits_room r h = omega (arith, four, (adds_all b a).0, ap length digits_front, spaces_left, r.len, r.room)

      -- the spaces that are left, and then the digits
      pub number_adds : {p q r : Writer} → Adds (take (4 - v.len) (drop v.len spaces)) p q → Adds (take v.len d) q r → Adds (padded line) p r
      unfolding padded bytes
      number_adds f h = adds_both (rw (to_end spaces v.len, (adds_all b a).0) at f) (rw digits_front at h)

-- ---- words
pub word_length : (w m : ℕ) → length (word_text w m) ≡ 5
unfolding word_text
word_length w m = rw (length-append (digits_of 16 4 w) (cond (eqb m 0) 32 42 ∷ []), length_digits 16 4 w)

pub words_length : (ps : List Place) → length (words_text ps) ≡ 10
unfolding words_text bytes
words_length [] = refl
words_length (p ∷ []) = rw (length-append (word_text p.word p.mark) (32 ∷ 32 ∷ 32 ∷ 32 ∷ 32 ∷ []), word_length p.word p.mark)
words_length (p ∷ q ∷ ps) = rw (length-append (word_text p.word p.mark) (word_text q.word q.mark), word_length p.word p.mark, word_length q.word q.mark)

-- ---- a row
pub front_length : (n : ℕ) (a w : Text) → n ≤ 9999 → length a ≡ 8 → length w ≡ 10 → length (front_text n a w) ≡ 27
unfolding front_text bytes
front_length n a w h e f = simp length-append (omega (arith, padded_length n h))

verdict_short : (v : Verdict) → length (verdict_text v) ≤ 26
unfolding verdict_text bytes
verdict_short emitted = omega arith
verdict_short (because not_instruction) = omega arith
verdict_short (because unknown_mnemonic) = omega arith
verdict_short (because wrong_count) = omega arith
verdict_short (because wrong_kinds) = omega arith
verdict_short (because (bad_number no_digits)) = omega arith
verdict_short (because (bad_number bad_digit)) = omega arith
verdict_short (because (bad_number out_of_range)) = omega arith
verdict_short (because not_recorded) = omega arith
verdict_short (because out_of_reach) = omega arith

pub end_length : (ps : List Place) (v : Verdict) → length (end_text ps v) ≤ 31
unfolding end_text bytes
end_length [] v = simp length-append (omega (arith, verdict_short v))
end_length (p ∷ ps) v = omega arith

pub row_length : (n a : ℕ) (ps : List Place) (v : Verdict) (l : Text) → n ≤ 9999 → length (row_text n a ps v l) ≤ 58 + length l
unfolding row_text
row_length n a ps v l h =
    let front = front_length n (digits_of 16 8 a) (words_text ps) h (length_digits 16 8 a) (words_length ps) in
    simp length-append (omega (arith, front, end_length ps v))

-- ---- parts one after another
pub row_adds : (n a : ℕ) (ps : List Place) (v : Verdict) (l : Text) {w w₁ w₂ w₃ : Writer} → n ≤ 9999
    → Adds (front_text n (digits_of 16 8 a) (words_text ps)) w w₁ → Adds l w₁ w₂ → Adds (end_text ps v) w₂ w₃
    → Adds (row_text n a ps v l) w w₃ × (w₃.len ≤ w.len + 58 + length l)
unfolding row_text
row_adds n a ps v l g p o q =
    let row = adds_both (adds_both p o) q in
    (row, omega (arith, row.len, row_length n a ps v l g))

-- after END: the 23 bytes between the number and the line
pub unread_adds : (line start : ℕ) (l : Text) {w w₁ w₂ w₃ w₄ : Writer} → line ≤ 9999 → Adds (padded line) w w₁
    → Adds (bytes "  not read             ") w₁ w₂ → Adds l w₂ w₃ → Adds (10 ∷ []) w₃ w₄
    → Adds (unread_row (record { number = line; start = start; text = l })) w w₄ × (w₄.len ≤ w.len + 58 + length l)
unfolding unread_row front_text bytes
unread_adds line start l g p q t u =
    (adds_as (adds_both (adds_both (adds_both p q) t) u) (simp append_assoc), omega (arith, p.len, padded_length line g, q.len, t.len, u.len))
