-- Files that are read one after another, and what the totals come to. No contract says whose text was read: what a file holds is outside.
-- Assumes nothing.
use Rattle.std.specs.Prelude.{ℕ, ◌≡◌, Bool, true, false, cond, List, [], ◌∷◌, ◌++◌, map, length, take}
use Rattle.rules.specs.Text.{Text, bytes}
use Rattle.requests.specs.Sheet.{add_source}
use Rattle.station.specs.declared.input.Input.{Input}
use Rattle.sheettext.specs.Back.{sheet_in}
use Rattle.sheettext.specs.Steps.{Outcome, summed, stops, no_sheet, unread, outcome_of, unless_unread, script_step, sheet_answer, sheet_step}
use Rattle.sheettext.specs.Names.{names_in, name_kept, NamesRead}

-- ---- one file, a sheet or a script: it is read where it is due and there is going on
unfoldable pub goes_on : Outcome → Bool
goes_on (summed t) = true
goes_on (stops n p) = false
goes_on (no_sheet n) = false
goes_on unread = false

-- by the buffer that keeps its front
unfoldable pub file_step : Bool → Input → List ℕ → Outcome → Outcome
file_step sheet i buffer (summed t) = cond sheet (sheet_step t i buffer) (script_step t i buffer)
file_step sheet i buffer (stops n p) = stops n p
file_step sheet i buffer (no_sheet n) = no_sheet n
file_step sheet i buffer unread = unread

-- by its text: a sheet is judged by its first 32,768 bytes
unfoldable pub with_file : Bool → Input → Text → Outcome → Outcome
with_file sheet i s (summed t) = unless_unread i (cond sheet (sheet_answer t (sheet_in (take 32768 s))) (outcome_of (add_source t s)))
with_file sheet i s (stops n p) = stops n p
with_file sheet i s (no_sheet n) = no_sheet n
with_file sheet i s unread = unread

-- a file that was asked for by a name: how reading it ended, and some text that was read
pub record Asked : Type 0 where
  pub name : Text
  pub input : Input
  pub text : Text

-- from o to p by the file of a name, if it is due
pub record FileAdded (name : Text) (due sheet : Bool) (o p : Outcome) : Type 0 where
  pub file : Asked
  pub named : file.name ≡ name
  pub after : p ≡ cond due (with_file sheet file.input file.text o) o

-- what is said of a file that cannot be read
unfoldable pub unread_text : Text → Input → Text
unread_text name i = cond i.failed ((bytes "plantsheet: cannot read " ++ name_kept name) ++ (10 ∷ [])) []

-- ---- scripts, one after another
unfoldable pub with_scripts : List Asked → Outcome → Outcome
with_scripts [] o = o
with_scripts (f ∷ fs) o = with_scripts fs (with_file false f.input f.text o)

unfoldable pub names_of_all : List Asked → List Text
names_of_all fs = map (λ f. f.name) fs

-- from o to p by a script for each name that byte 10 ended in t, in that order; held is the front of the next one
pub record Adding (o : Outcome) (t : Text) (name : List ℕ) (held : ℕ) (p : Outcome) : Type 0 where
  pub files : List Asked
  pub names : NamesRead t (names_of_all files) name held
  pub after : p ≡ with_scripts files o

-- from o to p by a script for each name in t, in that order
pub record ScriptsAdded (o : Outcome) (t : Text) (p : Outcome) : Type 0 where
  pub files : List Asked
  pub names : names_of_all files ≡ map name_kept (names_in t)
  pub after : p ≡ with_scripts files o

-- and t is all that was read of the names, to their end unless a read failed
pub record NamesAdded (o p : Outcome) (i : Input) : Type 0 where
  pub text : Text
  pub total : i.failed ≡ false → i.total ≡ length text
  pub over : i.more ≡ false
  pub scripts : ScriptsAdded o text p
