-- What `symbols` and `nearest` make of what is asked. Assumes nothing.
use Rattle.std.specs.Prelude.{ℕ, Bool, true, false}
use Rattle.rules.specs.Text.{Text}
use Rattle.outcome.specs.Made.{Made}
use Rattle.commandline.specs.declared.Asked.{Asked}
use Rattle.make_labels.specs.Labels.{symbols_made, symbols_json, nearest_made, nearest_json}

-- whether JSON is asked for; t, the text of a branch table, which none has, and s, the script
abbrev pub labels_by : Bool → ℕ → Text → Text → Made
labels_by true base = λ t s. symbols_json base s
labels_by false base = λ t s. symbols_made base s

abbrev pub telling_labels : Asked → Text → Text → Made
telling_labels a = labels_by a.json a.base

abbrev pub nearest_by : Bool → ℕ → ℕ → Text → Text → Made
nearest_by true base at = λ t s. nearest_json base at s
nearest_by false base at = λ t s. nearest_made base at s

abbrev pub telling_nearest : Asked → Text → Text → Made
telling_nearest a = nearest_by a.json a.base a.address
