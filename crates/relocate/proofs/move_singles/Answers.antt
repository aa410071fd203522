use Rattle.std.proofs.Common.{◌∙◌, arith, to_z-of_z}
use Rattle.relocate.proofs.Pairs.{single, none_over}
use Rattle.relocate.proofs.Sweep.{sweep_starts, sweep_steps, sweep_ends, words_swept}
use Rattle.relocate.proofs.move_singles.Goals as goal

pub loop-i-init : goal.loop-i-init
loop-i-init c = sweep_starts _ _

pub loop-i-preserved : goal.loop-i-preserved
loop-i-preserved c = sweep_steps c.loop-i.invariant (omega arith) _ (c.moved_single.ensures ∙ single _ _ _ _ (none_over c.args.marks.now c.loop-i.i c.requires.single))

pub returns : goal.returns
returns c =
    rw (to_z-of_z c.ranges.distance) at
    (sweep_ends c.loop-i.invariant (omega arith) ∙ words_swept _ c.args.marks.now c.args.words.now c.requires.lengths)
