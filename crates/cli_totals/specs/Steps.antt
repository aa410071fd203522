-- What each function of the command `sheet` owes: a file more, a chunk of the names, and what is left. Assumes nothing.
use Rattle.std.specs.Prelude.{ℕ, ◌≡◌, min, Bool, true, false, cond, ltb, List, [], ◌∷◌, length, take, Option, Result, Ok, Err}
use Rattle.rules.specs.Text.{Text, cut_at}
use Rattle.requests.specs.Sheet.{Totals}
use Rattle.sheet.specs.Totals.{said}
use Rattle.sheet.specs.declared.Totals.{Totals as Sums}
use Rattle.sheettext.specs.Names.{name_kept}
use Rattle.cli_error.specs.Fault.{Fault}
use Rattle.cli_error.specs.Answered.{Answered, fails, failure_of}
use Rattle.cli_error.specs.Gives.{Fails, Gives}
use Rattle.cli_error.specs.declared.Failure.{Failure}
use Rattle.cli_error.specs.declared.Answer.{Answer}
use Rattle.cli_run.specs.Items.{Item}
use Rattle.cli_io.specs.World.{World}
use Rattle.cli_io.specs.Answers.{Answers}
use Rattle.cli_totals.specs.Series.{Sum, summed, halts}
use Rattle.cli_totals.specs.Names.{whole_names, left_of}
use Rattle.cli_totals.specs.Sheeted.{sum_with, ReadsNamed, Totalled, AddsFiles, AddsNamed, AddsInput}
use Rattle.cli_totals.specs.declared.adding.Kind.{Kind}
use Rattle.cli_totals.specs.declared.adding.Kind.TheVariants.{Script}
use Rattle.cli_totals.specs.declared.names.Fed.{Fed}

-- ---- a sum as the code has it: totals, or why there are none
abbrev pub IsMade : Sum → Result Sums Failure → Type 0
IsMade s (Ok u) = s ≡ summed (said u)
IsMade s (Err e) = (f : Fault) × (s ≡ halts f) × Fails (fails f) e

-- or the answer to a call that ends
abbrev pub IsSum : Sum → Result Sums Answer → Type 0
IsSum s (Ok u) = s ≡ summed (said u)
IsSum s (Err r) = (f : Fault) × (s ≡ halts f) × Gives (failure_of f) r

-- ---- the next name: `rest` was read of it, and its front is held
pub record Holds (rest : Text) (name : List ℕ) (held : ℕ) : Type 0 where
  pub plain : cut_at 10 rest ≡ rest ∷ []
  pub room : length name ≡ 4097
  pub count : held ≡ min 4097 (length rest)
  pub front : take held name ≡ name_kept rest

-- a name, if it has a byte
abbrev pub name_if : Text → List Text
name_if name = cond (ltb 0 (length name)) (name ∷ []) []

module _ {H : Type 0} (w : World H) where
  -- the file of a name was read and added to the totals t
  abbrev pub FileAdded : Kind → Text → Totals → H → H → Result Sums Answer → Type 0
  FileAdded kind name t old new r = (i : Item) × ReadsNamed w name old new i × IsSum (sum_with kind t i) r

  -- a script, if its name is whole
  abbrev pub ScriptAddedIf : Bool → Text → Totals → H → H → Result Sums Answer → Type 0
  ScriptAddedIf true name t old new r = FileAdded Script name t old new r
  ScriptAddedIf false name t old new r = (new ≡ old) × IsSum (summed t) r

  -- ---- what the rest of a call answers, from totals t on: of the last name; of n reads; of those and of r, which was read; of the input
  abbrev pub AnswersLast : Bool → List Text → Totals → H → H → Answered → Type 0
  AnswersLast json names t old new a = AddsFiles w new a Script names (λ u m. Totalled new a json u m) t old

  abbrev pub AnswersNames : Bool → Option Text → ℕ → Text → Totals → H → H → Answered → Type 0
  AnswersNames json file n rest t old new a = AddsNamed w new a json file n rest t old

  abbrev pub AnswersRead : Bool → Option Text → ℕ → Text → Totals → H → H → Answered → Type 0
  AnswersRead json file n r t old new a =
      AddsFiles w new a Script (whole_names r) (λ u m. AddsNamed w new a json file n (left_of r) u m) t old

  abbrev pub AnswersInput : Bool → Option Text → Totals → H → H → Answered → Type 0
  AnswersInput json file t old new a = AddsInput w new a json file t old

  -- the scripts that r names are added to t, which comes to u: whatever follows, it follows all of them
  pub record ReadAdded (r : Text) (t : Totals) (old now : H) (u : Totals) : Type 0 where
    pub so : (json : Bool) (file : Option Text) (n : ℕ) (new : H) (a : Answered)
        → AnswersNames json file n (left_of r) u now new a → AnswersRead json file n r t old new a

  -- or the call ends with one of them
  abbrev pub ReadHalts : Text → Totals → H → H → Answer → Type 0
  ReadHalts r t old now answer = (json : Bool) (file : Option Text) (n : ℕ) → Answers (AnswersRead json file n r t) old now answer

  -- by what the code answers: of what is left of r the front is held
  abbrev pub Feeds : Text → Fed → H → H → List ℕ → Result Fed Answer → Type 0
  Feeds r fed old now name (Ok f) = Holds (left_of r) name f.held × ReadAdded r (said fed.totals) old now (said f.totals)
  Feeds r fed old now name (Err answer) = ReadHalts r (said fed.totals) old now answer
