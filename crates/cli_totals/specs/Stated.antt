-- What is promised of the sums, and of what the command answers, beside their definitions. Assumes nothing.
use Rattle.std.specs.Prelude.{◌≡◌, Bool, List, [], ◌∷◌, ◌++◌, map, Option, Some}
use Rattle.rules.specs.Text.{Text}
use Rattle.rules.specs.Answer.{Answer, accepted, refused}
use Rattle.requests.specs.Sheet.{Totals, plant_sheet}
use Rattle.sheettext.specs.Names.{name_kept, names_in}
use Rattle.cli_error.specs.Fault as Why
use Rattle.cli_error.specs.Answered.{Answered}
use Rattle.cli_run.specs.Input.{Named}
use Rattle.cli_run.specs.Items.{read}
use Rattle.cli_io.specs.World.{World}
use Rattle.cli_totals.specs.Series.{Sum, summed, halts, sum_all, text_of}
use Rattle.cli_totals.specs.Sheeted.{AnswersSheet}

-- ---- sheets and scripts added up

abbrev pub texts_of : List Named → List Text
texts_of bs = map (λ b. b.text) bs

-- the sum of scripts is the answer for a plant; of a refusal, the first of them with which the plant is refused is named
abbrev pub IsPlant : List Named → Answer Totals → Sum → Type 0
IsPlant scripts (accepted t) s = s ≡ summed t
IsPlant scripts (refused n p) s =
    (before : List Named) × (b : Named) × (rest : List Named) × (t : Totals) × (scripts ≡ before ++ (b ∷ rest))
    × (plant_sheet (texts_of before) ≡ accepted t) × (plant_sheet (texts_of (before ++ (b ∷ []))) ≡ refused n p)
    × (s ≡ halts (Why.refused b.name n p []))

-- with no sheets, scripts come to the rules' sheet of a plant
unfoldable pub PlantSheet : Type 0
PlantSheet = (scripts : List Named) → IsPlant scripts (plant_sheet (texts_of scripts)) (sum_all [] scripts)

-- ---- what a call with an output has added

abbrev pub names_of : List Named → List Text
names_of bs = map (λ b. b.name) bs

unfoldable pub joined : List Text → Text
joined [] = []
joined (c ∷ cs) = c ++ joined cs

module _ {H : Type 0} (w : World H) where
  -- these files were read
  unfoldable pub WereRead : List Named → Type 0
  WereRead [] = Unit
  WereRead (b ∷ bs) = ((old : H) × (new : H) × w.reads old new (Some b.name) (read b.text)) × WereRead bs

  -- these bytes of the input were read
  unfoldable pub WereTaken : Option Text → List Text → Type 0
  WereTaken file [] = Unit
  WereTaken file (c ∷ cs) = ((old : H) × (new : H) × w.takes old new file c) × WereTaken file cs

  -- all sheets, and a script for each line of the input
  pub record AllAdded (json : Bool) (sheets : List Text) (file : Option Text) (s : Text) : Type 0 where
    pub sheet_files : List Named
    pub sheets_named : names_of sheet_files ≡ sheets
    pub sheets_read : WereRead sheet_files
    pub chunks : List Text
    pub names_read : WereTaken file chunks
    pub scripts : List Named
    pub scripts_named : names_of scripts ≡ map name_kept (names_in (joined chunks))
    pub scripts_read : WereRead scripts
    pub totals : Totals
    pub sum : sum_all sheet_files scripts ≡ summed totals
    pub text : s ≡ text_of json totals

  -- an output is the text for the totals of all
  unfoldable pub TotalsOfAll : Type 0
  TotalsOfAll =
      (json : Bool) (sheets : List Text) (file : Option Text) (old new : H) (a : Answered) (s : Text)
      → AnswersSheet w json sheets file old new a → a.output ≡ Some s → AllAdded json sheets file s
