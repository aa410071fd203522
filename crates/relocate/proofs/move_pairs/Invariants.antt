use Rattle.std.proofs.Common.{◌+◌, get_or}
use Rattle.rules.specs.Relocate.{moved_word}
use Rattle.relocate.proofs.Sweep.{Swept}
use Rattle.relocate.proofs.move_pairs.Given as goal

abbrev pub invariant-loop-i : goal.invariant-loop-i
invariant-loop-i l = Swept (λ j w. moved_word l.distance (get_or l.marks j 0) w (get_or l.initial.words (j + 1) 0)) l.initial.words l.words l.i
