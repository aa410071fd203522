-- The source's lines: numbering them makes none more. Assumes nothing.
use Prim.Native.Nat.{ℕ, suc, ◌+◌}
use mathlib.Core.Path.{◌≡◌, refl, ap}
use mathlib.Core.List.{List, [], ◌∷◌}
use lib.ListN.{length}
use Rattle.rules.specs.Text.{Text, cut_at}
use Rattle.rules.specs.Line.{numbered, lines_of}

pub length_numbered : (n i : ℕ) (ls : List Text) → length (numbered n i ls) ≡ length ls
unfolding numbered
length_numbered n i [] = refl
length_numbered n i (l ∷ ls) = ap suc (length_numbered (suc n) (suc (i + length l)) ls)

pub length_lines : (s : Text) → length (lines_of s) ≡ length (cut_at 10 s)
unfolding lines_of
length_lines s = length_numbered 1 0 (cut_at 10 s)
