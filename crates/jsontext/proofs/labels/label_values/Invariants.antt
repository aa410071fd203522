-- The values so far are those of the rows so far. Assumes nothing.
use Rattle.std.proofs.Common.{◌≡◌, map}
use Rattle.requests.specs.Symbols.{rows}
use Rattle.symtext.specs.Rows.{labels_from}
use Rattle.serde_json.specs.View.{view}
use Rattle.jsontext.specs.Labels.{label_data}
use Rattle.jsontext.proofs.labels.label_values.Given as goal

abbrev pub invariant-loop-k : goal.invariant-loop-k
invariant-loop-k l = map view l.items.items ≡ map label_data (labels_from l.source (rows l.starts l.lengths l.addresses l.lines) 0 l.k)
