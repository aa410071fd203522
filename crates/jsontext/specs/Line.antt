-- A value's text as a line, and what a value owes for it. Assumes nothing.
use Rattle.std.specs.Prelude.{ℕ, ◌≡◌, ◌≤◌, List, [], ◌∷◌, ◌++◌, false, Some}
use Rattle.serde_json.specs.Data.{Data, number, unsigned, depth}
use Rattle.serde_json.specs.Written.{compact_text, has_float}
use Rattle.serde_json.specs.Read.{read}

-- a number from 0 on
abbrev pub whole : ℕ → Data
whole n = number (unsigned n)

-- its text, with no space in it, and byte 10
abbrev pub line_text : Data → List ℕ
line_text d = compact_text d ++ (10 ∷ [])

-- s is the line of d, and what stands in it before byte 10 is read as d
pub record IsLine (d : Data) (s : List ℕ) : Type 0 where
  pub text : s ≡ line_text d
  pub reads : read (compact_text d) ≡ Some d

-- it has no float, and is not too deep to be read
pub record IsPlain (d : Data) : Type 0 where
  pub whole_numbers : has_float d ≡ false
  pub shallow : depth d ≤ 127
