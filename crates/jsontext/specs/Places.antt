-- A list of words as a value: `{"list":[{"address":4096,"mark":0,"word":20081}]}`. Assumes nothing.
use Rattle.std.specs.Prelude.{ℕ, ◌≤◌, List, map, length, codes}
use Rattle.rules.specs.Assemble.{Place}
use Rattle.serde_json.specs.Data.{Data, object, array, member, no_members}
use Rattle.serde_json.specs.View.{items_of}
use Rattle.jsontext.specs.Line.{whole}

unfoldable pub place_data : Place → Data
place_data p =
    object (member (codes "address") (whole p.address) (member (codes "mark") (whole p.mark) (member (codes "word") (whole p.word) no_members)))

abbrev pub list_data : List Place → Data
list_data ps = object (member (codes "list") (array (items_of (map place_data ps))) no_members)

-- slices that have n places
pub record HaveRoom (n : ℕ) (xs ws ms : List ℕ) : Type 0 where
  pub addresses : n ≤ length xs
  pub words : n ≤ length ws
  pub marks : n ≤ length ms
