-- The values so far are those of the registers so far. Assumes nothing.
use Rattle.std.proofs.Common.{◌≡◌, map, take}
use Rattle.serde_json.specs.View.{view}
use Rattle.jsontext.specs.Line.{whole}
use Rattle.jsontext.proofs.runs.RunList.registers_value.Given as goal

abbrev pub invariant-loop-value : goal.invariant-loop-value
invariant-loop-value l = map view l.items.items ≡ map whole (take l.value-index l.d)
