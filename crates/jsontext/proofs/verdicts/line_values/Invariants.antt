-- The values so far are those of the verdicts so far. Assumes nothing.
use Rattle.std.proofs.Common.{◌≡◌, map, take}
use Rattle.serde_json.specs.View.{view}
use Rattle.whytext.specs.Verdicts.{said_of}
use Rattle.jsontext.specs.Lines.{lines_data}
use Rattle.jsontext.proofs.verdicts.line_values.Given as goal

abbrev pub invariant-loop-k : goal.invariant-loop-k
invariant-loop-k l = map view l.items.items ≡ lines_data l.first (map said_of (take l.k l.verdicts))
