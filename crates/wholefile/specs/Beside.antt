-- The names that a new file and its folder have. Assumes nothing.
use Rattle.std.specs.Prelude.{ℕ, ◌+◌, ◌%◌, cond, ltb, List, ◌∷◌, ◌++◌, map, Option, Some}
use Rattle.std.specs.Path.{path_parent, path_with_file_name}
use Rattle.rules.specs.Text.{Text, bytes}

-- a letter by a byte: a to z or 2 to 7
abbrev pub letter : ℕ → ℕ
letter b = cond (ltb (b % 32) 26) (97 + b % 32) (24 + b % 32)

-- `.lagvettu-` and the letters
abbrev pub drawn_name : List ℕ → Text
drawn_name drawn = bytes ".lagvettu-" ++ map letter drawn

-- in the folder of a name
abbrev pub beside : Text → List ℕ → Text
beside name drawn = path_with_file_name name (drawn_name drawn)

-- the folder that a name is in, `.` for one without a folder
abbrev pub opened : Option Text → Text
opened (Some (b ∷ s)) = b ∷ s
opened o = bytes "."

abbrev pub folder : Text → Text
folder name = opened (path_parent name)
