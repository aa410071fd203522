-- What is promised of the sums beside their definition. Assumes nothing.
use Rattle.std.specs.Prelude.{◌≡◌, List, []}
use Rattle.rules.specs.Text.{Text}
use Rattle.requests.specs.Sheet.{plant_sheet}
use Rattle.outcome.specs.declared.Which.TheVariants.{Script}
use Rattle.make_sheet.specs.Series.{sum_of, sum_all}

-- with no sheets, scripts come to the rules' sheet of a plant
unfoldable pub PlantSheet : Type 0
PlantSheet = (scripts : List Text) → sum_all [] scripts ≡ sum_of Script (plant_sheet scripts)
