-- What the calls that tell labels make of a script, as text and as JSON. Assumes nothing.
use Rattle.std.specs.Prelude.{ℕ, ◌≡◌, ◌<◌, length}
use mathlib.Core.List.{List, flat_map}
use Rattle.rules.specs.Text.{Text}
use Rattle.rules.specs.Label.{Label}
use Rattle.requests.specs.Symbols.{symbols}
use Rattle.requests.specs.Nearest.{Nearest, nearest}
use Rattle.answer.specs.declared.Refusal.TheVariants.{LongSource}
use Rattle.neartext.specs.NearLabel.{nearest_line}
use Rattle.symtext.specs.Symlist.{symbol_text}
use Rattle.jsontext.specs.Line.{line_text}
use Rattle.jsontext.specs.Labels.{labels_data, nearest_data}
use Rattle.outcome.specs.Made.{Made, told}
use Rattle.outcome.specs.declared.Stop.TheVariants.{Refused}
use Rattle.outcome.specs.declared.Unmade.{Unmade}
use Rattle.outcome.specs.declared.Unmade.TheVariants.{Stopped}
use Rattle.outcome.specs.declared.Which.TheVariants.{Input}

-- the labels at a base: a line for each, or a value
unfoldable pub symbols_made : ℕ → Text → Made
symbols_made base s = told (flat_map symbol_text) (symbols base s)

unfoldable pub symbols_json : ℕ → Text → Made
symbols_json base s = told (λ (ls : List Label). line_text (labels_data ls)) (symbols base s)

-- the label nearest to an address a: its line, or a value
unfoldable pub nearest_made : ℕ → ℕ → Text → Made
nearest_made base a s = told (nearest_line s) (nearest base s a)

unfoldable pub nearest_json : ℕ → ℕ → Text → Made
nearest_json base a s = told (λ (n : Nearest). line_text (nearest_data s n)) (nearest base s a)

-- a script s over the limit, of which only a front is kept, is refused by its length
abbrev pub TooLong : Text → Unmade → Type 0
TooLong s u = (32768 < length s) × (u ≡ Stopped (Refused Input (LongSource (length s))))
