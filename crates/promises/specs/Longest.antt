-- How long a list can be: what room a caller has to lend. Assumes nothing.
use Rattle.std.specs.Prelude.{ℕ, ◌*◌, ◌≤◌, ◌≡◌, List, length}
use Rattle.rules.specs.Limits.{max_lines}
use Rattle.rules.specs.Text.{Text, cut_at}
use Rattle.rules.specs.Answer.{accepted}
use Rattle.rules.specs.Assemble.{Sizes, Encoder, Place, assemble_by, assemble}
use Rattle.promises.specs.Lawful.{Lawful}

-- by a lawful pair, an accepted source's list has at most so many places for each line
unfoldable pub AtMostALine : Type 0
AtMostALine =
    (z : Sizes) (e : Encoder) (most : ℕ) → Lawful z e most → (s : Text) (b : ℕ) (l : List Place) → assemble_by z e b s ≡ accepted l
    → (length l ≤ most * length (cut_at 10 s)) × (length (cut_at 10 s) ≤ max_lines)

-- the stations' has at most two, and so at most 8,192 places
unfoldable pub AtMostTwoALine : Type 0
AtMostTwoALine =
    (s : Text) (b : ℕ) (l : List Place) → assemble b s ≡ accepted l
    → (length l ≤ 2 * length (cut_at 10 s)) × (length l ≤ 2 * max_lines)
