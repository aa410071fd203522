-- Laws of the source's lines by position: the lines from a place on, how many there are, and a line byte by byte. Assumes nothing.
use mathlib.Core.Path.{◌≡◌, refl, ap}
use mathlib.Core.Bool.{Bool, true, false}
use mathlib.Core.List.{List, [], ◌∷◌}
use Prim.Native.Nat.{ℕ, suc, ◌+◌, ◌≤◌, ◌<◌}
use native.Mathlib.Omega.{arith}
use borrow.Author.Tests.{le-leb, lt-leb, ltb-true, ltb-false}
use lib.Dec.{eqb, ltb}
use lib.ListN.{length, drop, get_or, length-drop, drop_of_length-le}
use lib.Seq.{drop-cons, drop-drop, length-take-le}
use Rattle.rules.specs.Text.{Text, cut_at, cut_where, other_texts}
use Rattle.rules.specs.Line.{numbered, lines_of}
use Rattle.text.specs.Pieces.{until}
use Rattle.text.proofs.Until.{until_le, until_rest, cut_first, cut_here, until_here, until_later}
use Rattle.outline.specs.Lines.{line_end, line_from, lines_from}

-- a line ends within the source
pub line_end_le : (s : Text) (i : ℕ) → i ≤ length s → line_end s i ≤ length s
line_end_le s i h = omega (arith, until_le (eqb 10) (drop i s), length-drop i s)

pub line_length : (s : Text) (i : ℕ) → length (line_from s i) ≡ until (eqb 10) (drop i s)
line_length s i = length-take-le (until (eqb 10) (drop i s)) (drop i s) (until_le (eqb 10) (drop i s))

-- ---- the lines from a place on
-- the whole source's lines
pub lines_all : (s : Text) → lines_of s ≡ lines_from s 1 0
unfolding lines_of lines_from
lines_all s = rw (le-leb 0 (length s) (omega arith))

-- none past the source's end
pub lines_none : (s : Text) (n i : ℕ) → length s < i → lines_from s n i ≡ []
unfolding lines_from
lines_none s n i h = rw (lt-leb i (length s) h)

-- the others of a cut, after a byte that passes the test
others_after : (f : ℕ → Bool) (t : Text) → 0 < length t → until f t ≡ 0 → other_texts (cut_where f t) ≡ cut_where f (drop 1 t)
unfolding other_texts
others_after f [] h e = absurd (omega arith)
others_after f (b ∷ t) h e = go (f b) refl
  where
    go : (y : Bool) → f b ≡ y → other_texts (cut_where f (b ∷ t)) ≡ cut_where f t
    go true p = rw (cut_here f b t p)
    go false p = absurd (omega (arith, until_later f b t p))

module _ (s : Text) (n i : ℕ) (h : i ≤ length s) where
  -- the texts after the one at i are those from the next line's start on
  others : numbered (suc n) (suc (i + length (line_from s i))) (other_texts (cut_where (eqb 10) (drop (line_end s i) s))) ≡ lines_from s (suc n) (suc (line_end s i))
  unfolding lines_from cut_at cut_where other_texts numbered
  others = go (ltb (line_end s i) (length s)) refl
    where
      go : (y : Bool) → ltb (line_end s i) (length s) ≡ y
          → numbered (suc n) (suc (i + length (line_from s i))) (other_texts (cut_where (eqb 10) (drop (line_end s i) s))) ≡ lines_from s (suc n) (suc (line_end s i))
      go true e =
          let k = ltb-true (line_end s i) (length s) e in
          let z : until (eqb 10) (drop (line_end s i) s) ≡ 0 = rw (drop-drop (until (eqb 10) (drop i s)) i s) at (until_rest (eqb 10) (drop i s)) in
          let l : 0 < length (drop (line_end s i) s) = omega (arith, length-drop (line_end s i) s) in
          let m : line_end s i + 1 ≡ suc (line_end s i) = omega arith in
          rw (le-leb (suc (line_end s i)) (length s) (omega arith), others_after (eqb 10) (drop (line_end s i) s) l z, drop-drop 1 (line_end s i) s, m, line_length s i)
      go false e =
          let k = ltb-false (line_end s i) (length s) e in
          rw (lt-leb (suc (line_end s i)) (length s) (omega arith), drop_of_length-le s k)

  -- the line at i, and those after it
  pub lines_step : lines_from s n i ≡ record { number = n; start = i; text = line_from s i } ∷ lines_from s (suc n) (suc (line_end s i))
  unfolding lines_from cut_at numbered
  lines_step = rw (le-leb i (length s) h, cut_first (eqb 10) (drop i s), drop-drop (until (eqb 10) (drop i s)) i s) (ap (λ ls. record { number = n; start = i; text = line_from s i } ∷ ls) others)

  -- one line more than those after it
  pub lines_more : length (lines_from s n i) ≡ suc (length (lines_from s (suc n) (suc (line_end s i))))
  lines_more = ap length lines_step

-- ---- how many lines there are
length_numbered : (n i : ℕ) (ts : List Text) → length (numbered n i ts) ≡ length ts
unfolding numbered
length_numbered n i [] = refl
length_numbered n i (t ∷ ts) = ap suc (length_numbered (suc n) (suc (i + length t)) ts)

-- as many as texts between bytes 10
pub lines_count : (s : Text) → length (lines_of s) ≡ length (cut_at 10 s)
unfolding lines_of
lines_count s = length_numbered 1 0 (cut_at 10 s)

-- ---- a line byte by byte
module _ (s : Text) (i : ℕ) where
  pub line_ended : length s ≤ i → line_from s i ≡ []
  unfolding until
  line_ended h = rw (drop_of_length-le s h)

  module _ (h : i < length s) where
    pub line_over : eqb 10 (get_or s i 0) ≡ true → line_from s i ≡ []
    line_over e = rw (drop-cons s i 0 h, until_here (eqb 10) (get_or s i 0) (drop (suc i) s) e)

    pub line_more : eqb 10 (get_or s i 0) ≡ false → line_from s i ≡ get_or s i 0 ∷ line_from s (suc i)
    line_more e = rw (drop-cons s i 0 h, until_later (eqb 10) (get_or s i 0) (drop (suc i) s) e)
