-- What `bench` prints: the line of a run, or of one for each value of a threshold, for a list's text. Assumes nothing.
use Rattle.std.specs.Prelude.{ℕ, zero, suc, ◌+◌, ◌-◌, ◌%◌, Bool, cond, eqb, get_or, take, Option, None, Some, Result, Ok, Err}
use mathlib.Core.List.{List, [], ◌∷◌, ◌++◌, map, foldl}
use Rattle.rules.specs.Text.{Text, bytes}
use Rattle.rules.specs.Answer.{Answer, accepted, refused}
use Rattle.rules.specs.Assemble.{Place}
use Rattle.listing.specs.Listing.{digits_of, decimal, refused_text}
use Rattle.listing.specs.Reading.{read_list, places_in}
use Rattle.listing.specs.declared.reading.BadLine.{BadLine}
use Rattle.station.specs.Station.{wrong_line_text, unless_failed}
use Rattle.station.specs.declared.input.Input.{Input}
use Rattle.machine.specs.Machine.{Run}
use Rattle.machine.specs.Bench.{bench_answer, bench_of}
use Rattle.machine.specs.declared.End.{End}
use Rattle.machine.specs.declared.End.TheVariants.{OnHalt, OnWord, OnAccess, OnLimit}
use Rattle.machine.specs.declared.Flags.{Flags}
use Rattle.machine.specs.declared.Ran.{Ran}
use Rattle.benchtext.specs.Arguments.{no_argument, with_argument, whole}
use Rattle.benchtext.specs.declared.arguments.Given.{Given}

-- why a run ended
unfoldable pub end_text : End → Text
end_text OnHalt = bytes "halt"
end_text OnWord = bytes "word"
end_text OnAccess = bytes "access"
end_text OnLimit = bytes "limit"

-- a space and 8 upper-case hexadecimal digits
unfoldable pub long_text : ℕ → Text
long_text n = 32 ∷ digits_of 16 8 n

-- the first k data registers
unfoldable pub registers_text : ℕ → List ℕ → Text
registers_text zero d = []
registers_text (suc k) d = registers_text k d ++ long_text (get_or d k 0)

-- X N Z V C as five digits 0 or 1
unfoldable pub flag_byte : Bool → ℕ
flag_byte b = cond b 49 48

-- with a space in front and byte 10 after them
unfoldable pub flags_text : Flags → Text
flags_text f = 32 ∷ flag_byte f.x ∷ flag_byte f.n ∷ flag_byte f.z ∷ flag_byte f.v ∷ flag_byte f.c ∷ 10 ∷ []

-- a run's line: the end, the steps in decimal, the program counter, D0 to D7 and the flags, one space between
unfoldable pub run_text : End → ℕ → ℕ → List ℕ → Flags → Text
run_text end steps pc d flags =
    ((((end_text end ++ (32 ∷ [])) ++ decimal steps) ++ long_text pc) ++ registers_text 8 d) ++ flags_text flags

-- a threshold's value in front of a run's line
unfoldable pub value_text : Option ℕ → Text
value_text None = []
value_text (Some v) = decimal v ++ (32 ∷ [])

-- the line of what the bench answered, which left the data registers d; a refusal has no value in front
unfoldable pub answered_text : Option ℕ → Answer Ran → List ℕ → Text
answered_text o (accepted r) d = value_text o ++ run_text r.end r.steps r.status.pc d r.status.flags
answered_text o (refused n p) d = refused_text n p

-- the line of the definition's answer
unfoldable pub run_line : Option ℕ → Answer Run → Text
run_line o (accepted r) = value_text o ++ run_text r.end r.steps r.state.pc r.state.d r.state.flags
run_line o (refused n p) = refused_text n p

-- without a value in front, and with one
abbrev pub answer_text : Answer Run → Text
answer_text r = run_line None r

abbrev pub tried_text : ℕ → Answer Run → Text
tried_text v r = run_line (Some v) r

-- the first n words of a list, those at an address replaced by a value
unfoldable pub with_value : ℕ → ℕ → ℕ → List ℕ → List ℕ → List ℕ
with_value zero p v xs ws = ws
with_value (suc n) p v [] ws = ws
with_value (suc n) p v (x ∷ xs) [] = []
with_value (suc n) p v (x ∷ xs) (w ∷ ws) = cond (eqb x p) v w ∷ with_value n p v xs ws

-- ---- a row, from 0: there is one, or one for each value of a threshold

-- ADDRESS, FROM, TO and START, and the address registers
abbrev pub threshold : Given → ℕ
threshold g = get_or g.numbers 1 0

abbrev pub from : Given → ℕ
from g = get_or g.numbers 2 0

abbrev pub to : Given → ℕ
to g = get_or g.numbers 3 0

abbrev pub start_of : Given → ℕ
start_of g = get_or g.numbers 4 0

abbrev pub registers_of : Given → List ℕ
registers_of g =
    get_or g.numbers 6 0 ∷ get_or g.numbers 7 0 ∷ get_or g.numbers 8 0 ∷ get_or g.numbers 9 0
    ∷ get_or g.numbers 10 0 ∷ get_or g.numbers 11 0 ∷ get_or g.numbers 12 0 ∷ get_or g.numbers 13 0 ∷ []

-- the value that a row tries
abbrev pub value_at : Given → ℕ → ℕ
value_at g row = (from g + row) % 65536

-- the words of a row
unfoldable pub words_for : Given → ℕ → ℕ → List ℕ → List ℕ → List ℕ
words_for g row n xs ws = cond g.tries (with_value n (threshold g) (value_at g row) xs ws) ws

-- the value in front of its line
unfoldable pub value_for : Given → ℕ → Option ℕ
value_for g row = cond g.tries (Some (value_at g row)) None

-- its line for the first n words of a list
unfoldable pub row_of : Given → ℕ → ℕ → List ℕ → List ℕ → Text
row_of g row n xs ws = run_line (value_for g row) (bench_of n xs (words_for g row n xs ws) (registers_of g) (start_of g) g.limit)

-- how many rows there are: one for each value; one where the list is refused, whatever the value
abbrev pub tried_rows : Given → Answer ℕ → ℕ
tried_rows g (accepted n) = suc (to g - from g)
tried_rows g (refused k p) = 1

unfoldable pub rows_of : Given → ℕ → List ℕ → List ℕ → ℕ
rows_of g n xs ws = cond g.tries (tried_rows g (bench_answer n xs ws n)) 1

-- ---- a list that is lent, and in which a value is tried: "no refused call changes" it
abbrev pub unless_refused : Answer ℕ → List ℕ → List ℕ → List ℕ
unless_refused (accepted n) new old = new
unless_refused (refused k p) new old = old

unfoldable pub words_tried : ℕ → ℕ → ℕ → List ℕ → List ℕ → List ℕ
words_tried n p v xs ws = unless_refused (bench_answer n xs ws n) (with_value n p v xs ws) ws

-- ---- a text: a list's, as `movelist` reads it, or none
abbrev pub addresses_in : ℕ → Text → List ℕ
addresses_in n t = map (λ (p : Place). p.address) (places_in n t)

abbrev pub words_in : ℕ → Text → List ℕ
words_in n t = map (λ (p : Place). p.word) (places_in n t)

unfoldable pub parsed_row : Given → ℕ → Text → Result ℕ BadLine → Text
parsed_row g row t (Ok n) = row_of g row n (addresses_in n t) (words_in n t)
parsed_row g row t (Err e) = wrong_line_text e.number

unfoldable pub parsed_rows : Given → Text → Result ℕ BadLine → ℕ
parsed_rows g t (Ok n) = rows_of g n (addresses_in n t) (words_in n t)
parsed_rows g t (Err e) = 1

unfoldable pub row_text : Given → ℕ → Text → Text
row_text g row t = parsed_row g row t (read_list 12288 t)

unfoldable pub row_count : Given → Text → ℕ
row_count g t = parsed_rows g t (read_list 12288 t)

-- all rows, one after another: what `bench` prints with its arguments for a text, and nothing where they are not what it takes
unfoldable pub rows_text : ℕ → Given → Text → Text
rows_text zero g t = []
rows_text (suc k) g t = rows_text k g t ++ row_text g k t

unfoldable pub bench_text : List Text → Text → Text
bench_text arguments t = elim (whole (foldl with_argument (Some no_argument) arguments)) [ None ↦ [] | Some g ↦ rows_text (row_count g t) g t ]

-- ---- an input, of which a buffer keeps the front: nothing if it could not be read to its end
unfoldable pub input_row : Given → ℕ → Input → List ℕ → Text
input_row g row i buffer = unless_failed i (row_text g row (take i.total buffer))

unfoldable pub input_rows : Given → Input → List ℕ → ℕ
input_rows g i buffer = cond i.failed 0 (row_count g (take i.total buffer))
