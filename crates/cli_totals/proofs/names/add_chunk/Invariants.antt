-- What is left of the chunk is still to be added.
use Rattle.std.proofs.Common.{◌≤◌, ◌-◌, ◌++◌, length, drop}
use Rattle.rules.specs.Text.{Text}
use Rattle.sheet.specs.Totals.{said}
use Rattle.cli_totals.specs.Steps.{Holds}
use Rattle.cli_totals.proofs.Feeding.{Chunked}
use Rattle.cli_totals.proofs.names.add_chunk.Given as goal

abbrev pub invariant-loop-at : goal.invariant-loop-at
invariant-loop-at g l =
    record {
      inside : l.at ≤ length l.chunk;
      so : (rest : Text) → Holds rest l.initial.name l.initial.held
          → Chunked g.H.Host.world (rest ++ l.chunk) (said l.initial.totals) l.initial.host (drop l.at l.chunk) l.name l.held (said l.totals) l.host;
    }

abbrev pub decreases-loop-at : goal.decreases-loop-at
decreases-loop-at g l = length l.chunk - l.at
