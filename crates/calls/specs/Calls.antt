-- The calls beside assembling and moving by the numbers that they have in records, each answered as a text. Assumes nothing.
use Rattle.std.specs.Prelude.{ℕ, ◌≡◌, Bool, true, false, ◌&&◌, cond, [], ◌∷◌, ◌++◌, eqb, leb, take, drop, Option, None, Some, Result, Ok, Err}
use Rattle.rules.specs.Text.{Text, bytes}
use Rattle.rules.specs.Answer.{Answer, accepted, refused}
use Rattle.rules.specs.Directive.{line_reading}
use Rattle.requests.specs.Nearest.{Nearest, nearest}
use Rattle.numeral.specs.declared.Failure.{Failure}
use Rattle.numeral.specs.declared.Failure.TheVariants.{NoDigits, BadDigit, OutOfRange}
use Rattle.directive.specs.Directive.{line_number_of}
use Rattle.listing.specs.Listing.{decimal, refused_text}
use Rattle.symtext.specs.Symlist.{symbols_text}
use Rattle.whytext.specs.WhyLine.{line_text}
use Rattle.mantext.specs.Manlist.{manual_text}
use Rattle.branchtext.specs.BranchText.{list_under_text, lines_under_text}
use Rattle.tidytext.specs.Tidy.{tidied_text}
use Rattle.benchtext.specs.BenchText.{row_text}
use Rattle.benchtext.specs.declared.arguments.Given.{Given}
use Rattle.requests.specs.Sheet.{Totals, totals, add_source}
use Rattle.sheettext.specs.Rows.{sheet_text}

-- ---- texts

-- a number in decimal, and the byte after it
unfoldable pub number_text : ℕ → ℕ → Text
number_text n after = decimal n ++ (after ∷ [])

-- the text of what is accepted, or the line of a refusal
unfoldable pub answered_text : {A : Type 0} → (A → Text) → Answer A → Text
answered_text f (accepted x) = f x
answered_text f (refused n p) = refused_text n p

-- ---- the calls: x and y are two numbers whose meaning the call says, s is its source

-- the answer on the nearest label, "start and length in its last record, and the distance"
unfoldable pub nearest_text : Nearest → Text
nearest_text n = (number_text n.start 32 ++ number_text n.length 32) ++ number_text n.distance 10

-- the four answers on a line's number, or that the line reads none
unfoldable pub read_text : ℕ → Text
read_text v = bytes "read " ++ number_text v 10

abbrev pub failure_text : Failure → Text
failure_text NoDigits = bytes "no digits\n"
failure_text BadDigit = bytes "bad digit\n"
failure_text OutOfRange = bytes "out of range\n"

abbrev pub said_text : Option (Result ℕ Failure) → Text
said_text (Some (Ok v)) = read_text v
said_text (Some (Err x)) = failure_text x
said_text None = bytes "no number\n"

-- the arguments of `bench` with START and LIMIT alone: the address registers are 0
abbrev pub run_of : ℕ → ℕ → Given
run_of start limit =
    record {
      place = 6;
      tries = false;
      numbers = 0 ∷ 0 ∷ 0 ∷ 0 ∷ start ∷ 0 ∷ 0 ∷ 0 ∷ 0 ∷ 0 ∷ 0 ∷ 0 ∷ 0 ∷ 0 ∷ [];
      limit = limit;
    }

-- the totals of so many sources that have no lines
abbrev pub empty_sources : ℕ → ℕ → Totals
empty_sources a r = totals 0 0 0 0 0 0 0 0 0 0 a r

-- 2 is the nearest label, x its base and y its address; 3 the labels, x their base, as `symlist` prints them; 4 what a line's number said, s a line; 5 why a line has no word, x its base
-- and y its line, as `whyline` prints it; 6 is the manual's call, x its base, as `manlist` prints it; 7 and 8 are under a table, x the base and y how many bytes of s are a
-- branch table, after which the source stands: the list as `asmlist` prints it, and the verdict on every line as `whyline` does; 9 is the tidy copy, x the room
-- lent, a copy or a refusal; 10 is a run on the bench, s a list, x START and y LIMIT, as `bench` prints it; 11 is the sheet, s a source more after x that were accepted
-- and y that were refused, the totals as `plantsheet` prints them; a call that is not known has no text
unfoldable pub call_text : ℕ → ℕ → ℕ → Text → Text
call_text call x y s =
    cond (eqb call 2) (answered_text nearest_text (nearest x s y))
    (cond (eqb call 3) (symbols_text x s)
    (cond (eqb call 4) (said_text (line_number_of (line_reading s)))
    (cond (eqb call 5) (line_text x y s)
    (cond (eqb call 6) (manual_text x s)
    (cond (eqb call 7) (list_under_text (take y s) x (drop y s))
    (cond (eqb call 8) (lines_under_text (take y s) x (drop y s))
    (cond (eqb call 9) (tidied_text x s)
    (cond (eqb call 10) (row_text (run_of x y) 0 s)
    (cond (eqb call 11) (answered_text sheet_text (add_source (empty_sources x y) s)) [])))))))))

-- the calls' numbers go on from the assembler's, which is 1, to the last one's
abbrev last_call : ℕ
last_call = 11

unfoldable pub is_call : ℕ → Bool
is_call call = leb 2 call && leb call last_call

-- ---- a recorded call

-- it agrees: the call is known, and its text is the recorded one
pub record CallAgrees (call x y : ℕ) (s recorded : Text) : Type 0 where
  pub known : is_call call ≡ true
  pub answer : call_text call x y s ≡ recorded
