-- The values so far are those of the places so far. Assumes nothing.
use Rattle.std.proofs.Common.{◌≡◌, map}
use Rattle.rules.specs.Assemble.{slices}
use Rattle.rules.specs.Tally.{held}
use Rattle.serde_json.specs.View.{view}
use Rattle.jsontext.specs.Places.{place_data}
use Rattle.jsontext.proofs.places.place_values.Given as goal

abbrev pub invariant-loop-k : goal.invariant-loop-k
invariant-loop-k l = map view l.items.items ≡ map place_data (held l.k (slices l.addresses l.words l.marks))
