-- "Our own branch names": a branch table's commands, refusals 16 and 17, its rows, the mnemonics in use under it, and the calls that
-- may be lent one. Assumes nothing.
use Rattle.std.specs.Prelude.{ℕ, zero, suc, ◌+◌, ◌*◌, Bool, false, not, ◌&&◌, ◌||◌, cond, List, [], ◌∷◌, ◌++◌, leb, ltb, eqb, length, get_or}
use Rattle.rules.specs.Text.{Text, blank, same}
use Rattle.rules.specs.Line.{size}
use Rattle.rules.specs.Encode.{branch, Mnemonic, mnemonic, other_mnemonics, operation_in, encode_by, is_some}
use Rattle.rules.specs.Answer.{Answer, accepted, refused, refuse_if, and_then}
use Rattle.rules.specs.Assemble.{Place, assemble_by, Slices, room, write_list}
use Rattle.requests.specs.Explain.{Verdict, explain_all_by, explain_by}

-- ---- commands
-- all before the last are rows of six bytes, so command k, from 0, is at offset 6 * k: its first byte, and the byte i after that
abbrev pub command_of : Text → ℕ → ℕ
command_of t k = get_or t (6 * k) 0

abbrev pub byte_of : Text → ℕ → ℕ → ℕ
byte_of t k i = get_or t (6 * k + i) 0

-- "byte 0 ends it, and bytes after that are not read"
unfoldable pub is_end : Text → ℕ → Bool
is_end t k = ltb (6 * k) (length t) && eqb (command_of t k) 0

-- "byte 1, then a four-byte name padded with spaces, then one condition byte", none of them cut off
unfoldable pub is_row : Text → ℕ → Bool
is_row t k = ltb (6 * k + 5) (length t) && eqb (command_of t k) 1

-- the four bytes, and the condition
unfoldable pub four_of : Text → ℕ → Text
four_of t k = byte_of t k 1 ∷ byte_of t k 2 ∷ byte_of t k 3 ∷ byte_of t k 4 ∷ []

unfoldable pub condition_of : Text → ℕ → ℕ
condition_of t k = byte_of t k 5

-- "padded with spaces": the byte b before s, unless it is a space and nothing follows
unfoldable pub keep_name : ℕ → Text → Text
keep_name b [] = cond (eqb b 32) [] (b ∷ [])
keep_name b (c ∷ s) = b ∷ c ∷ s

unfoldable pub unpadded : Text → Text
unpadded [] = []
unpadded (b ∷ s) = keep_name b (unpadded s)

-- ---- refusals
-- "16: a cut, missing or unknown command, .. or a condition over 15", of a command that does not end the table
unfoldable pub broken : Text → ℕ → Bool
broken t k = not (is_row t k) || ltb 15 (condition_of t k)

-- "a lower-case letter": a to z
unfoldable pub any_lower : Text → Bool
any_lower [] = false
any_lower (b ∷ s) = (leb 97 b && leb b 122) || any_lower s

-- "in an earlier row": the four bytes are those of one of the first n
unfoldable pub earlier : Text → Text → ℕ → Bool
earlier t four zero = false
earlier t four (suc n) = same (four_of t n) four || earlier t four n

-- "17: a name starting with a blank, with a lower-case letter, in an earlier row, or a mnemonic other than the eleven"
unfoldable pub misnamed : Text → ℕ → Bool
misnamed t k =
    blank (byte_of t k 1) || any_lower (four_of t k) || earlier t (four_of t k) k || is_some (operation_in other_mnemonics (unpadded (four_of t k)))

-- "At most 16 rows."
abbrev pub max_rows : ℕ
max_rows = 16

-- from command k on, where so many rows may still come: how many rows there are in all, or "place the command's offset, first command
-- first, 16 before 17"
unfoldable pub check_from : ℕ → Text → ℕ → Answer ℕ
check_from zero t k = cond (is_end t k) (accepted k) (refused 16 (6 * k))
check_from (suc left) t k =
    cond (is_end t k) (accepted k) (refuse_if (broken t k) 16 (6 * k) (refuse_if (misnamed t k) 17 (6 * k) (check_from left t (suc k))))

-- "loading checks it whole"
unfoldable pub checked : Text → Answer ℕ
checked t = check_from max_rows t 0

-- ---- names
-- row k as a mnemonic: its name without the padding, and a branch of its condition
unfoldable pub row_of : Text → ℕ → Mnemonic
row_of t k = mnemonic (unpadded (four_of t k)) (branch (condition_of t k))

-- the rows from command k on, for as long as they are rows with a condition and so many may come; an accepted table has no others
unfoldable pub rows_from : ℕ → Text → ℕ → List Mnemonic
rows_from zero t k = []
rows_from (suc left) t k = cond (broken t k) [] (row_of t k ∷ rows_from left t (suc k))

unfoldable pub rows : Text → List Mnemonic
rows t = rows_from max_rows t 0

-- a table as it is loaded: its rows, or the refusal
unfoldable pub loaded : Text → Answer (List Mnemonic)
loaded t = and_then (checked t) (λ n. accepted (rows t))

-- "it then stands in place of the built-in eleven names"
unfoldable pub names_with : List Mnemonic → List Mnemonic
names_with rs = other_mnemonics ++ rs

-- ---- calls
-- a call, by the mnemonics in use, that is lent a table: "loading checks it whole before all else"
unfoldable pub under : {A : Type 0} → Text → (List Mnemonic → Answer A) → Answer A
under t call = and_then (loaded t) (λ rs. call (names_with rs))

-- the stations' call: its list, its answer, and the slices after it
abbrev pub assemble_under : Text → ℕ → Text → Answer (List Place)
assemble_under t base s = under t (λ names. assemble_by size (encode_by names) base s)

unfoldable pub assemble_under_answer : Text → ℕ → Text → Slices → Answer ℕ
assemble_under_answer t base s x = and_then (assemble_under t base s) (room x)

unfoldable pub assemble_under_slices : Text → ℕ → Text → Slices → Slices
assemble_under_slices t base s x = write_list (assemble_under t base s) x

-- and the verdicts: on every line that is read, and on the line k
abbrev pub explain_all_under : Text → ℕ → Text → Answer (List Verdict)
explain_all_under t base s = under t (λ names. explain_all_by names base s)

abbrev pub explain_under : Text → ℕ → Text → ℕ → Answer Verdict
explain_under t base s k = under t (λ names. explain_by names base s k)
