-- `push_unread_rows` has before each line the rows of the lines that are left still to write. Assumes nothing.
use Prim.Native.Nat.{◌+◌, ◌-◌}
use mathlib.Core.List.{flat_map}
use lib.ListN.{length}
use Rattle.outline.specs.Lines.{lines_from}
use Rattle.printout.specs.Printout.{unread_row}
use Rattle.printout.proofs.Rowing.{Rowing}
use Rattle.printout.proofs.push_unread_rows.Given as goal

abbrev pub invariant-loop-i : goal.invariant-loop-i
invariant-loop-i l = Rowing l.source l.line l.start (flat_map unread_row (lines_from l.source l.line l.start)) l.initial.text l.k l.i (flat_map unread_row (lines_from l.source l.k l.i)) l.text

abbrev pub decreases-loop-i : goal.decreases-loop-i
decreases-loop-i l = length l.source + 1 - l.i
