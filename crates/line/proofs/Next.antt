-- Laws of the next piece of a text: whether there is one, the second of two, and what it reads as. Assumes nothing.
use Rattle.std.specs.Prelude.{Option, None, Some}
use mathlib.Core.Path.{◌≡◌, refl, ap, ◌∙◌}
use mathlib.Core.Bool.{Bool, true, false}
use mathlib.Core.List.{[], ◌∷◌}
use Prim.Native.Nat.{ℕ, ◌+◌, ◌-◌, ◌≤◌, ◌<◌}
use native.Mathlib.Omega.{arith}
use borrow.Author.Tests.{ltb-true, ltb-false}
use lib.Dec.{ltb}
use lib.ListN.{length, drop, drop_of_length-le, length-drop}
use Rattle.rules.specs.Text.{Text, bytes, blank, leading, cut_where, drop_empty, pieces, starts, after, nth}
use Rattle.rules.specs.Number.{some_digits, ranged, without, unsigned_reading, hex_tail, by_prefix, reading32}
use Rattle.rules.specs.Line.{reading_in, value_reading, value_reading_in}
use Rattle.text.specs.declared.Span.{Span}
use Rattle.text.specs.Pieces.{run, next_piece}
use Rattle.text.proofs.Until.{until_le}
use Rattle.text.proofs.Pieces.{Next, next_start_lem, next_none, next_some}
use Rattle.numeral.specs.Number.{number_of}
use Rattle.text.specs.Spans.{part, PartIn}
use Rattle.text.proofs.Spans.{length_part}
use Rattle.line.specs.Steps.{piece_in}

pub pieces_empty : pieces [] ≡ []
unfolding pieces cut_where drop_empty
pieces_empty = refl

module _ (t : Text) (at : ℕ) (r : Span) (e : r ≡ next_piece t at) (h : at ≤ length t) where
  ends : r.end ≡ r.start + run (drop r.start t)
  ends = let s : r.start ≡ at + leading (drop at t) = ap (λ (x : Span). x.start) e in ap (λ (x : Span). x.end) e ∙ rw s

  pub next_part : PartIn t r.start r.end
  next_part = record { ordered = omega (arith, ends); inside = omega (arith, ends, next_start_lem t at r e h, until_le blank (drop r.start t), length-drop r.start t) }

  -- an empty one is none
  pub piece_none : r.start ≡ r.end → length t ≤ r.start
  piece_none z = go (ltb r.start (length t)) refl
    where
      go : (y : Bool) → ltb r.start (length t) ≡ y → length t ≤ r.start
      go true q = omega (arith, (next_some t at r e (ltb-true r.start (length t) q)).some)
      go false q = ltb-false r.start (length t) q

  pub piece_some : (r.start ≡ r.end → ⊥) → Next t at r
  piece_some d = next_some t at r e (omega (arith, next_part))

  -- the second piece from here is the first after this one
  pub nth_after : nth 1 (pieces (drop at t)) ≡ nth 0 (pieces (drop r.end t))
  unfolding nth
  nth_after = go (ltb r.start (length t)) refl
    where
      go : (y : Bool) → ltb r.start (length t) ≡ y → nth 1 (pieces (drop at t)) ≡ nth 0 (pieces (drop r.end t))
      go true q = rw (next_some t at r e (ltb-true r.start (length t) q)).parts
      go false q =
          let l : length t ≤ r.start = ltb-false r.start (length t) q in
          let m : length t ≤ r.end = omega (arith, ends) in
          rw (next_none t at r e l, drop_of_length-le t m, pieces_empty)

-- the second of two pieces, f and s
module _ (t : Text) (at : ℕ) (f s : Span) (p : f ≡ next_piece t at) (q : s ≡ next_piece t f.end) (h : at ≤ length t) where
  end_in : f.end ≤ length t
  end_in = (next_part t at f p h).inside

  pub second_part : PartIn t s.start s.end
  second_part = next_part t f.end s q end_in

  -- as a text, empty where there is none
  pub second_is : nth 1 (pieces (drop at t)) ≡ piece_in (part t s.start s.end)
  unfolding nth
  second_is = go (ltb s.start s.end) refl
    where
      some_part : (p : Text) → 0 < length p → Some p ≡ piece_in p
      some_part [] k = absurd (omega arith)
      some_part (b ∷ p) k = refl

      none_part : (p : Text) → length p ≡ 0 → None ≡ piece_in p
      none_part [] k = refl
      none_part (b ∷ p) k = absurd (omega arith)

      long : length (part t s.start s.end) ≡ s.end - s.start
      long = length_part t s.start s.end second_part

      go : (y : Bool) → ltb s.start s.end ≡ y → nth 1 (pieces (drop at t)) ≡ piece_in (part t s.start s.end)
      go true y =
          let l : s.start < s.end = ltb-true s.start s.end y in
          let d : s.start ≡ s.end → ⊥ = λ e. omega arith in
          nth_after t at f p h ∙ rw (piece_some t f.end s q end_in d).parts (some_part (part t s.start s.end) (omega (arith, long)))
      go false y =
          let l : s.end ≤ s.start = ltb-false s.start s.end y in
          let z : s.start ≡ s.end = omega (arith, second_part.ordered) in
          nth_after t at f p h ∙ rw (next_none t f.end s q (piece_none t f.end s q end_in z)) (none_part (part t s.start s.end) (omega (arith, long)))

-- ---- the readings of a piece, by its text
number_of_lem : (s : Text) → reading32 s ≡ reading_in (piece_in s)
unfolding reading_in reading32 by_prefix hex_tail after bytes unsigned_reading without some_digits ranged
number_of_lem [] = refl
number_of_lem (b ∷ s) = refl

value_of_lem : (s : Text) → value_reading s ≡ value_reading_in (piece_in s)
unfolding value_reading_in value_reading starts reading32 by_prefix hex_tail after bytes unsigned_reading without some_digits ranged
value_of_lem [] = refl
value_of_lem (b ∷ s) = refl

module _ (o : Option Text) (p : Text) (e : o ≡ piece_in p) where
  pub number_in : number_of (reading32 p) ≡ number_of (reading_in o)
  number_in = rw e (ap number_of (number_of_lem p))

  pub value_in : number_of (value_reading p) ≡ number_of (value_reading_in o)
  value_in = rw e (ap number_of (value_of_lem p))
