-- The names that a text gives, one a line, where the text is read in parts. Assumes nothing.
use Rattle.std.specs.Prelude.{List, [], ◌∷◌, map}
use Rattle.rules.specs.Text.{Text, cut_at}
use Rattle.sheettext.specs.Names.{name_kept, names_in}

-- all lines but the last, and the last, which no byte 10 ends
unfoldable pub lines_before : List Text → List Text
lines_before [] = []
lines_before (l ∷ []) = []
lines_before (l ∷ m ∷ ls) = l ∷ lines_before (m ∷ ls)

unfoldable pub last_line : List Text → Text
last_line [] = []
last_line (l ∷ []) = l
last_line (l ∷ m ∷ ls) = last_line (m ∷ ls)

-- the names that byte 10 ends, as much of each as is kept; and what is left: the front of the next name
unfoldable pub whole_names : Text → List Text
whole_names t = map name_kept (lines_before (cut_at 10 t))

unfoldable pub left_of : Text → Text
left_of t = last_line (cut_at 10 t)

-- at the end of the text that is a name too, if it has a byte
abbrev pub last_name : Text → List Text
last_name rest = map name_kept (names_in rest)
