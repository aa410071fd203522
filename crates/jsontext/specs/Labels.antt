-- Labels with their lines, and the label nearest to an address, as values: `{"labels":[{"address":4096,"line":2,"name":"LIM"}]}` and
-- `{"distance":3,"name":"GO"}`. Assumes nothing.
use Rattle.std.specs.Prelude.{ℕ, ◌≡◌, ◌+◌, ◌≤◌, ◌<◌, List, map, length, take, drop, get_or, codes, None}
use Rattle.rules.specs.Text.{Text}
use Rattle.rules.specs.Assemble.{first_high}
use Rattle.rules.specs.Label.{Label}
use Rattle.requests.specs.Symbols.{Rows}
use Rattle.requests.specs.Nearest.{Nearest}
use Rattle.nearest.specs.declared.Nearest.{Nearest as Told}
use Rattle.symtext.specs.Rows.{labels_from}
use Rattle.serde_json.specs.Data.{Data, object, array, string, member, no_members}
use Rattle.serde_json.specs.View.{items_of}
use Rattle.jsontext.specs.Line.{whole}

unfoldable pub label_data : Label → Data
label_data l =
    object (member (codes "address") (whole l.address) (member (codes "line") (whole l.line) (member (codes "name") (string l.name) no_members)))

abbrev pub labels_data : List Label → Data
labels_data ls = object (member (codes "labels") (array (items_of (map label_data ls))) no_members)

abbrev pub near_data : Text → ℕ → Data
near_data name distance = object (member (codes "distance") (whole distance) (member (codes "name") (string name) no_members))

-- the call's answer as the rules have it
abbrev pub ruled : Told → Nearest
ruled n = record { start = n.start; length = n.length; distance = n.distance }

-- the name as its last record in the source has it
abbrev pub nearest_data : Text → Nearest → Data
nearest_data s n = near_data (take n.length (drop n.start s)) n.distance

-- the labels of rows
abbrev pub labels_in : Text → Rows → List Label
labels_in s x = labels_from s x 0 (length x.starts)

-- rows whose names lie in the source, which has no byte above 127
pub record RowsStand (s : Text) (x : Rows) : Type 0 where
  pub lengths : length x.lengths ≡ length x.starts
  pub addresses : length x.addresses ≡ length x.starts
  pub lines : length x.lines ≡ length x.starts
  pub within : (k : ℕ) → k < length x.starts → get_or x.starts k 0 + get_or x.lengths k 0 ≤ length s
  pub ascii : first_high 0 s ≡ None
