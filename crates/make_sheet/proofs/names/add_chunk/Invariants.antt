-- What is left of the chunk is still to be added.
use Rattle.std.proofs.Common.{◌≡◌, ◌≤◌, ◌-◌, ◌++◌, length, take}
use Rattle.rules.specs.Text.{Text}
use Rattle.requests.specs.Sheet.{Totals}
use Rattle.sheet.specs.Totals.{said}
use Rattle.make_sheet.specs.Reading.{Adding}
use Rattle.make_sheet.proofs.names.add_chunk.Given as goal

abbrev pub invariant-loop-at : goal.invariant-loop-at
invariant-loop-at g l =
    record {
      inside : l.at ≤ length l.chunk;
      adding : (t : Totals) (s : Text) → Adding (g.F.Opening.holds l.files) t s l.initial.name l.initial.held (said l.initial.totals)
          → Adding (g.F.Opening.holds l.files) t (s ++ take l.at l.chunk) l.name l.held (said l.totals);
      silent : l.errors ≡ l.initial.errors;
    }

abbrev pub decreases-loop-at : goal.decreases-loop-at
decreases-loop-at g l = length l.chunk - l.at
