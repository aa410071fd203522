-- "A tidy copy": the copy of each line and of a source, its refusals, and the lent slice after a call. Assumes nothing.
use Rattle.std.specs.Prelude.{ℕ, true, false, List, [], ◌∷◌, ◌++◌, length, ltb}
use Rattle.rules.specs.Text.{Text, trim, cut_at, pieces, joined, uncut, around, first_cut}
use Rattle.rules.specs.Line.{Task, skipped, end, org, no_org, label_only, instruction, value, space, line_of, is_data}
use Rattle.rules.specs.Answer.{Answer, accepted, refused, refuse_if}
use Rattle.rules.specs.Assemble.{checks, over}

-- "Outer blanks go and blank runs become one space."
unfoldable pub squeezed : Text → Text
squeezed s = joined (pieces s)

-- "blanks inside the name before the first colon are kept and those around that colon go", on a text without outer blanks; what follows the
-- colon is tidied by f
unfoldable pub around_colon : (Text → Text) → Text → Text
around_colon f s = elim (first_cut 58 s) [ uncut ↦ squeezed s | around l r ↦ trim l ++ (58 ∷ f (trim r)) ]

-- what follows the first colon: "The second colon is treated so only where the rest is data." A third one is text
unfoldable pub tidy_rest : Text → Text
tidy_rest s = elim (is_data s) [ true ↦ around_colon squeezed s | false ↦ squeezed s ]

-- the copy of a line: the END line and ORG lines do not reach step 4, so that their colons are not treated; every later task does
unfoldable pub tidy_as : Task → Text → Text
tidy_as skipped s = []
tidy_as end s = squeezed s
tidy_as (org v) s = squeezed s
tidy_as no_org s = squeezed s
tidy_as label_only s = around_colon tidy_rest (trim s)
tidy_as (instruction i) s = around_colon tidy_rest (trim s)
tidy_as (value n v) s = around_colon tidy_rest (trim s)
tidy_as (space n) s = around_colon tidy_rest (trim s)

unfoldable pub tidy_line : Text → Text
tidy_line s = tidy_as (line_of s).task s

-- "each line that is read, the whole END line too, without skipped lines": the copy t of a line before those of the lines that follow
unfoldable pub before : Task → Text → List Text → List Text
before skipped t ts = ts
before end t ts = t ∷ []
before (org v) t ts = t ∷ ts
before no_org t ts = t ∷ ts
before label_only t ts = t ∷ ts
before (instruction i) t ts = t ∷ ts
before (value n v) t ts = t ∷ ts
before (space n) t ts = t ∷ ts

unfoldable pub tidy_lines : List Text → List Text
tidy_lines [] = []
tidy_lines (l ∷ ls) = before (line_of l).task (tidy_line l) (tidy_lines ls)

-- "parted by one byte 10 and none at the end"
unfoldable pub part_more : List Text → Text
part_more [] = []
part_more (l ∷ ls) = 10 ∷ (l ++ part_more ls)

unfoldable pub parted : List Text → Text
parted [] = []
parted (l ∷ ls) = l ++ part_more ls

-- the tidy copy of a source
unfoldable pub tidy : Text → Text
tidy s = parted (tidy_lines (cut_at 10 s))

-- "18: the lent slice is too short; place the length needed": the length of a copy for which there is room
unfoldable pub room_for : ℕ → Text → Answer ℕ
room_for room t = refuse_if (ltb room (length t)) 18 (length t) (accepted (length t))

-- the answer of a call that is lent so much room: "after 1 to 3, the only others here"
unfoldable pub tidy_answer : ℕ → Text → Answer ℕ
tidy_answer room s = checks s (room_for room (tidy s))

-- the slice after a call: a refusal writes nothing, and bytes after the copy stay
unfoldable pub write_copy : Answer ℕ → Text → Text → Text
write_copy (refused n p) t out = out
write_copy (accepted n) t out = over t out

unfoldable pub tidy_slice : Text → Text → Text
tidy_slice s out = write_copy (tidy_answer (length out) s) (tidy s) out
