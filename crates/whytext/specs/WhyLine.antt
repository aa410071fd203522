-- What `whyline` prints for a script, and what its arguments ask. Assumes nothing.
use Rattle.std.specs.Prelude.{ℕ, suc, ◌^◌, cond, List, [], ◌∷◌, ◌++◌, map, eqb, leb, Option, None, Some, Result, Ok, Err}
use Rattle.rules.specs.Text.{Text, bytes}
use Rattle.rules.specs.Number.{no_digits, bad_digit, out_of_range, Reading, some_digits, ranged, below}
use Rattle.rules.specs.Answer.{Answer, accepted, refused}
use Rattle.requests.specs.Explain.{not_instruction, unknown_mnemonic, wrong_count, wrong_kinds, bad_number, not_recorded, out_of_reach, Verdict, emitted, because, explain_all, explain}
use Rattle.numeral.specs.Number.{number_of}
use Rattle.numeral.specs.declared.Failure.{Failure}
use Rattle.listing.specs.Listing.{decimal, refused_text}
use Rattle.station.specs.Station.{hexadecimal_in}
use Rattle.whytext.specs.declared.LineAt.{LineAt}
use Rattle.whytext.specs.declared.WrongArguments.{WrongArguments}

-- ---- a line

-- "word emitted", and its seven reasons in few words, "a number and what failed in it" being three of them
abbrev pub phrase : Verdict → Text
phrase emitted = bytes "word emitted"
phrase (because not_instruction) = bytes "not an instruction"
phrase (because unknown_mnemonic) = bytes "unknown mnemonic"
phrase (because wrong_count) = bytes "wrong operand count"
phrase (because wrong_kinds) = bytes "operand kinds"
phrase (because (bad_number no_digits)) = bytes "number: no digits"
phrase (because (bad_number bad_digit)) = bytes "number: bad digit"
phrase (because (bad_number out_of_range)) = bytes "number: out of range"
phrase (because not_recorded) = bytes "label not recorded"
phrase (because out_of_reach) = bytes "displacement out of range"

-- a verdict's line: its phrase, byte 10
unfoldable pub verdict_text : Verdict → Text
verdict_text v = phrase v ++ (10 ∷ [])

-- or the refusal's
unfoldable pub told_text : Answer Verdict → Text
told_text (accepted v) = verdict_text v
told_text (refused n p) = refused_text n p

-- what is printed at a base for a line of a script
unfoldable pub line_text : ℕ → ℕ → Text → Text
line_text base line s = told_text (explain base s line)

-- ---- every line that is read

-- a line's number in decimal, a space, its verdict's line
unfoldable pub row_text : ℕ → Text → Text
row_text line t = decimal line ++ (32 ∷ t)

-- so for the lines from one on, in order
unfoldable pub rows_text : ℕ → List Text → Text
rows_text line [] = []
rows_text line (t ∷ ts) = row_text line t ++ rows_text (suc line) ts

-- lines count from 1; or the refusal's line
unfoldable pub all_text : Answer (List Verdict) → Text
all_text (accepted vs) = rows_text 1 (map verdict_text vs)
all_text (refused n p) = refused_text n p

-- what is printed at a base for every line of a script that is read
unfoldable pub lines_text : ℕ → Text → Text
lines_text base s = all_text (explain_all base s)

-- ---- arguments

-- what is printed for a script: all its lines at base 0, or the one line that is asked for
unfoldable pub why_text : Option LineAt → Text → Text
why_text None s = lines_text 0 s
why_text (Some a) s = line_text a.base a.line s

-- a number of 32 bits in decimal, without a sign
unfoldable pub decimal_in : Text → Reading ℕ
decimal_in t = ranged (below (2 ^ 32)) (some_digits 10 t)

-- a line and a base, if both are read
abbrev pub asked_at : Result ℕ Failure → Result ℕ Failure → Result (Option LineAt) WrongArguments
asked_at (Ok n) (Ok b) = Ok (Some (record { line = n; base = b }))
asked_at (Ok n) (Err x) = Err record {}
asked_at (Err x) b = Err record {}

-- no argument besides the program's name; one, the line, and the base is 0; or two
unfoldable pub asked_by : ℕ → Text → Text → Result (Option LineAt) WrongArguments
asked_by count a b =
    cond (leb count 1) (Ok None)
    (cond (eqb count 2) (asked_at (number_of (decimal_in a)) (Ok 0))
    (cond (eqb count 3) (asked_at (number_of (decimal_in a)) (number_of (hexadecimal_in b))) (Err record {})))
