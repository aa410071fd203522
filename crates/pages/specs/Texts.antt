-- The texts of an example: standard input, and what is printed and then said. Assumes nothing.
use Rattle.std.specs.Prelude.{Bool, cond, List, [], ◌∷◌, ◌++◌, drop}
use Rattle.rules.specs.Text.{Text, bytes, starts, trim_end, same}
use Rattle.pages.specs.Page.{Sample}

-- what stands after `    >`, and one blank
abbrev pub input_part : Text → Text
input_part l = cond (starts (bytes " ") (drop 5 l)) (drop 6 l) (drop 5 l)

-- what stands after four blanks
abbrev pub wanted_part : Text → Text
wanted_part l = drop 4 l

-- the part of each line, a byte 10 in front of it
unfoldable pub under : (Text → Text) → List Text → Text
under f [] = []
under f (l ∷ ls) = 10 ∷ (f l ++ under f ls)

-- the parts of lines, a byte 10 between them
abbrev pub joined_lines : (Text → Text) → List Text → Text
joined_lines f ls = drop 1 (under f ls)

abbrev pub input_text : Sample → Text
input_text e = joined_lines input_part e.input

abbrev pub wanted_text : Sample → Text
wanted_text e = joined_lines wanted_part e.wanted

-- whether an example holds, where this is printed and then said: blanks at the end do not count
abbrev pub holds : Sample → Text → Bool
holds e got = same (trim_end (wanted_text e)) (trim_end got)
