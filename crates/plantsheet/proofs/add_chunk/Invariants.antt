-- What is left of the chunk is still to be added.
use Rattle.std.proofs.Common.{length, ◌-◌, ◌++◌, take, ◌≤◌}
use Rattle.rules.specs.Text.{Text}
use Rattle.sheettext.specs.Steps.{Outcome, outcome}
use Rattle.sheettext.specs.Files.{Adding}
use Rattle.plantsheet.proofs.add_chunk.Given as goal

abbrev pub invariant-loop-at : goal.invariant-loop-at
invariant-loop-at l =
    record {
      inside : l.at ≤ length l.chunk;
      adding : (o : Outcome) (t : Text) → Adding o t l.initial.name l.initial.held (outcome l.initial.step)
          → Adding o (t ++ take l.at l.chunk) l.name l.held (outcome l.step);
    }

abbrev pub decreases-loop-at : goal.decreases-loop-at
decreases-loop-at l = length l.chunk - l.at
