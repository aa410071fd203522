-- The words after a program's name, as text. Assumes nothing.
use Rattle.std.specs.Prelude.{◌≡◌, ◌<◌, ◌≤◌, ℕ, true, false, List, [], ◌∷◌, ◌++◌, length, map, drop, Option, None, Some, bytes_eq}
use Rattle.std.specs.Str.Lossy.{utf8_lossy}
use Rattle.rules.specs.Text.{Text}
use Rattle.console.specs.Arguments.{argument_at}

-- an argument as text: U+FFFD for what is no UTF-8 in it, and then byte 0 after it
abbrev pub word_text : Text → Text
word_text b = elim (bytes_eq (utf8_lossy b) b) [ true ↦ utf8_lossy b | false ↦ utf8_lossy b ++ 0 ∷ [] ]

-- argument k, none past the last
abbrev pub WordAt : List Text → ℕ → Option Text → Type 0
WordAt known k None = length known ≤ k
WordAt known k (Some w) = (k < length known) × (w ≡ argument_at known k)

-- the arguments after the first, as text
abbrev pub words_behind : List Text → List Text
words_behind known = map word_text (drop 1 known)
