-- The texts that the programs at the station print: `asmlist` for a script, `movelist` for a text and a distance. Assumes nothing.
use Rattle.std.specs.Prelude.{ℕ, ◌-◌, ◌^◌, Bool, true, false, ◌&&◌, cond, List, [], ◌∷◌, ◌++◌, map, ℤ, Option, None, Result, Ok, Err, eqb, ltb, length, take, unwrap_or}
use Rattle.rules.specs.Limits.{max_source}
use Rattle.rules.specs.Text.{Text, bytes, same}
use Rattle.rules.specs.Number.{Reading, unsigned_reading, signed, hex_tail}
use Rattle.rules.specs.Answer.{Answer, accepted, refused}
use Rattle.rules.specs.Assemble.{Place, Slices, slices, assemble}
use Rattle.rules.specs.Relocate.{move_answer, move_slices}
use Rattle.rules.specs.Tally.{held}
use Rattle.listing.specs.Listing.{decimal, list_text, refused_text}
use Rattle.listing.specs.Reading.{read_list, places_in}
use Rattle.listing.specs.declared.reading.BadLine.{BadLine}
use Rattle.station.specs.declared.input.Input.{Input}
use Rattle.station.specs.declared.arguments.Given.{Given}

-- "a line per word" of the list that the slices hold; "a refusal prints the one line"
unfoldable pub answer_text : Answer ℕ → Slices → Text
answer_text (accepted n) x = list_text (held n x)
answer_text (refused r p) x = refused_text r p

-- the same of a list that is not in slices
unfoldable pub listed_text : Answer (List Place) → Text
listed_text (accepted l) = list_text l
listed_text (refused r p) = refused_text r p

-- what `asmlist` prints for a script: its list at base 0, or why there is none
unfoldable pub script_text : Text → Text
script_text t = listed_text (assemble 0 t)

-- ---- what is printed for an input, of which a buffer keeps the front

-- nothing if it could not be read to its end
unfoldable pub unless_failed : Input → Text → Text
unless_failed i t = cond i.failed [] t

-- a script, for which f is printed: over the limit only the length counts
unfoldable pub input_text : (Text → Text) → Input → List ℕ → Text
input_text f i buffer = unless_failed i (cond (ltb max_source i.total) (refused_text 1 i.total) (f (take i.total buffer)))

-- the one line for a text that is no list's: its first wrong line, or the first for which there is no room
unfoldable pub wrong_line_text : ℕ → Text
wrong_line_text n = (bytes "not a list: line " ++ decimal n) ++ (10 ∷ [])

-- three slices that a list fills
unfoldable pub filled_by : List Place → Slices
filled_by l = slices (map (λ p. p.address) l) (map (λ p. p.word) l) (map (λ p. p.mark) l)

-- what is printed for slices after a call of the mover with a count
unfoldable pub moved_slices_text : ℤ → ℕ → Slices → Text
moved_slices_text d n x = answer_text (move_answer x n d) (move_slices x n d)

-- what is printed for a text, read as so many lines or as no list
unfoldable pub parsed_text : ℤ → Text → Result ℕ BadLine → Text
parsed_text d t (Ok n) = moved_slices_text d n (filled_by (places_in n t))
parsed_text d t (Err e) = wrong_line_text e.number

-- what `movelist` prints, for up to 12,288 lines, the longest list there is
unfoldable pub moved_text : ℤ → Text → Text
moved_text d t = parsed_text d t (read_list 12288 t)

-- a list
unfoldable pub list_input_text : ℤ → Input → List ℕ → Text
list_input_text d i buffer = unless_failed i (moved_text d (take i.total buffer))

-- ---- what a program says on standard error at its end: nothing if all was read and written

unfoldable pub failure_text : Text → Input → Bool → Text
failure_text name i written =
    cond i.failed (take 32 name ++ bytes ": the input cannot be read to its end\n") (cond written [] (take 32 name ++ bytes ": the output is not whole\n"))

-- one that may read a branch table before its input
unfoldable pub tabled_failure_text : Text → Input → Input → Bool → Text
tabled_failure_text name table i written =
    cond table.failed (take 32 name ++ bytes ": the branch table cannot be read to its end\n") (failure_text name i written)

-- ---- arguments

-- the distance, if there is just one argument besides the program's name, and it is a number of 32 bits with an optional sign
unfoldable pub given_distance : ℕ → Text → Option ℤ
given_distance count t = cond (eqb count 2) (signed 10 (2 ^ 31) t) None

-- a number of 32 bits in hexadecimal, with or without a prefix
unfoldable pub hexadecimal_in : Text → Reading ℕ
hexadecimal_in t = unsigned_reading 16 (2 ^ 32) (unwrap_or (hex_tail t) t)

-- `-b FILE` before the other arguments lends a branch table: the program's name, these two, and the file's name is not empty
unfoldable pub lends_table : ℕ → Text → Text → Bool
lends_table count option file = ltb 2 count && (ltb 0 (length file) && same option (bytes "-b"))

-- the other arguments, as if these two were not there
unfoldable pub given_table : ℕ → Text → Text → Given
given_table count option file =
    cond (lends_table count option file) (record { lent = true; count = count - 2; first = 3; second = 4 }) (record { lent = false; count = count; first = 1; second = 2 })
