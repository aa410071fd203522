-- The inputs so far are gathered, and nothing is said.
use Rattle.std.proofs.Common.{◌≡◌, map, take, option_map}
use Rattle.rules.specs.Text.{Text}
use Rattle.station.specs.Reads.{Reads}
use Rattle.serving.specs.Gathering.{Gathering}
use Rattle.serving.proofs.gathering.add_inputs.Given as goal

abbrev pub invariant-loop-name : goal.invariant-loop-name
invariant-loop-name g l =
    (l.errors ≡ l.initial.errors)
    × ((a : Text) → Reads a l.table l.branches
    → Gathering (g.F.Opening.holds l.files) (λ s b. g.M.MakeNamed.promised l.work s a b) (λ b. g.M.MakeNamed.accepts l.work a b) l.joining (map (option_map (λ s. s.now)) (take l.name-index l.inputs)) l.gathered)
