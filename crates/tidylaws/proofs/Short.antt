-- A copy is not longer than its source, and has not more lines. Assumes nothing.
use Prim.Native.Nat.{ℕ, suc, ◌+◌, ◌-◌, ◌≤◌}
use mathlib.Core.Path.{◌≡◌, refl}
use mathlib.Core.Bool.{Bool, true, false}
use mathlib.Core.List.{List, [], ◌∷◌}
use native.Mathlib.Omega.{arith}
use lib.Dec.{eqb}
use lib.ListN.{length, length-append}
use Rattle.rules.specs.Text.{Text, blank, trim, on_first, cut_where, cut_at, drop_empty, pieces, join_more, joined}
use Rattle.text.proofs.Until.{cut_here, cut_later}
use Rattle.text.proofs.Trim.{trim_le}
use Rattle.requests.specs.Tidy.{squeezed, tidy_line, tidy_lines, part_more, parted, tidy}
use Rattle.promises.specs.Tidy.{Kind, skip, fin, origin, step4, kind_of, CopyIsShort}
use Rattle.tidylaws.proofs.Cuts.{around_of}
use Rattle.tidylaws.proofs.Shapes.{Rest, code, data_whole, data_parts, Open, open_whole, open_parts, open_of, copy_by, copy_by_lem, before_by, lines_more}

-- ---- texts and a byte before each
-- the bytes of the texts, one more for each
unfoldable pub room : List Text → ℕ
room [] = 0
room (p ∷ ps) = suc (length p + room ps)

room_join_more : (ps : List Text) → length (join_more ps) ≡ room ps
unfolding join_more room
room_join_more [] = refl
room_join_more (p ∷ ps) = rw (length-append p (join_more ps), room_join_more ps)

room_part_more : (ps : List Text) → length (part_more ps) ≡ room ps
unfolding part_more room
room_part_more [] = refl
room_part_more (p ∷ ps) = rw (length-append p (part_more ps), room_part_more ps)

-- a cut's texts, without the first one's byte in front, fill the text
room_cut : (f : ℕ → Bool) (s : Text) → room (cut_where f s) ≡ suc (length s)
unfolding cut_where room on_first
room_cut f [] = refl
room_cut f (b ∷ s) = go (f b) refl (cut_where f s) refl (room_cut f s)
  where
    go : (y : Bool) → f b ≡ y → (ps : List Text) → cut_where f s ≡ ps → room (cut_where f s) ≡ suc (length s) → room (cut_where f (b ∷ s)) ≡ suc (suc (length s))
    go true e ps g ih = rw (cut_here f b s e) (omega arith)
    go false e [] g ih = absurd (omega (arith, rw g at ih))
    go false e (p ∷ ps) g ih = rw (cut_later f b s e, g) (omega (arith, rw g at ih))

room_drop : (ps : List Text) → room (drop_empty ps) ≤ room ps
unfolding drop_empty room
room_drop [] = omega arith
room_drop ([] ∷ ps) = omega (arith, room_drop ps)
room_drop ((b ∷ p) ∷ ps) = omega (arith, room_drop ps)

-- ---- a line
joined_le : (ps : List Text) → length (joined ps) ≤ room ps - 1
unfolding joined room
joined_le [] = omega arith
joined_le (p ∷ ps) = rw (length-append p (join_more ps), room_join_more ps) (omega arith)

pub squeezed_le : (s : Text) → length (squeezed s) ≤ length s
unfolding squeezed pieces
squeezed_le s = omega (arith, joined_le (drop_empty (cut_where blank s)), room_drop (cut_where blank s), room_cut blank s)

rest_le : {s t : Text} → Rest s t → length t ≤ length s
rest_le {s} (code e) = squeezed_le s
rest_le {s} (data_whole e f) = squeezed_le s
rest_le {s} (data_parts {l} {r} e f) =
    rw ((around_of s l r f).whole, length-append (trim l) (58 ∷ squeezed (trim r)), length-append l (58 ∷ r)) (omega (arith, trim_le l, squeezed_le (trim r), trim_le r))

pub open_le : {s t : Text} → Open s t → length t ≤ length s
open_le {s} (open_whole f) = squeezed_le s
open_le {s} (open_parts {l} {r} {t} f q) =
    rw ((around_of s l r f).whole, length-append (trim l) (58 ∷ t), length-append l (58 ∷ r)) (omega (arith, trim_le l, rest_le q, trim_le r))

kind_le : (k : Kind) (s : Text) → length (copy_by k s) ≤ length s
unfolding copy_by
kind_le skip s = omega arith
kind_le fin s = squeezed_le s
kind_le origin s = squeezed_le s
kind_le step4 s = open_le (open_of s)

line_le : (l : Text) → length (tidy_line l) ≤ length l
line_le l = rw (copy_by_lem l) (omega (arith, kind_le (kind_of (trim l)) (trim l), trim_le l))

-- ---- the lines
room_lines : (ls : List Text) → room (tidy_lines ls) ≤ room ls
unfolding tidy_lines room before_by
room_lines [] = omega arith
room_lines (l ∷ ls) = rw (lines_more l ls) (go (kind_of (trim l)) (tidy_line l) (line_le l) (tidy_lines ls) (room_lines ls))
  where
    go : (k : Kind) (t : Text) → length t ≤ length l → (ts : List Text) → room ts ≤ room ls → room (before_by k t ts) ≤ suc (length l + room ls)
    go skip t h ts g = omega arith
    go fin t h ts g = omega arith
    go origin t h ts g = omega arith
    go step4 t h ts g = omega arith

pub count_lines : (ls : List Text) → length (tidy_lines ls) ≤ length ls
unfolding tidy_lines before_by
count_lines [] = omega arith
count_lines (l ∷ ls) = rw (lines_more l ls) (go (kind_of (trim l)) (tidy_line l) (tidy_lines ls) (count_lines ls))
  where
    go : (k : Kind) (t : Text) (ts : List Text) → length ts ≤ length ls → length (before_by k t ts) ≤ suc (length ls)
    go skip t ts g = omega arith
    go fin t ts g = omega arith
    go origin t ts g = omega arith
    go step4 t ts g = omega arith

parted_le : (ls : List Text) → length (parted ls) ≤ room ls - 1
unfolding parted room
parted_le [] = omega arith
parted_le (l ∷ ls) = rw (length-append l (part_more ls), room_part_more ls) (omega arith)

pub copy_is_short : CopyIsShort
unfolding CopyIsShort tidy cut_at
copy_is_short s = omega (arith, parted_le (tidy_lines (cut_at 10 s)), room_lines (cut_at 10 s), room_cut (eqb 10) s)
