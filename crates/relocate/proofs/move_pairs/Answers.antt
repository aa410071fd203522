use Rattle.std.proofs.Common.{◌+◌, ◌-◌, ap, ◌∙◌, length, arith, to_z-of_z}
use Rattle.rules.specs.Relocate.{moved_word}
use Rattle.relocate.proofs.Sweep.{sweep_starts, sweep_steps, sweep_reads, sweep_last, beyond, no_words, words_swept}
use Rattle.relocate.proofs.move_pairs.Goals as goal

pub loop-i-init : goal.loop-i-init
loop-i-init c = sweep_starts _ _

pub loop-i-preserved : goal.loop-i-preserved
loop-i-preserved c = sweep_steps c.loop-i.invariant (omega arith) _ (c.moved_word.ensures ∙ ap (moved_word _ _ _) (sweep_reads c.loop-i.invariant _ (omega arith)))

pub returns-then-count-eq0 : goal.returns-then-count-eq0
returns-then-count-eq0 c = no_words _ c.args.marks.now _ c.if-count-eq0.true

-- no word stands after the last

pub returns : goal.returns
returns c =
    let none = beyond c.args.words.now (length c.args.words.now - 1 + 1) (omega arith) in
    rw (to_z-of_z c.ranges.distance) at
    (sweep_last c.loop-i.invariant (omega arith) (length c.args.words.now - 1) (omega arith) _ (c.moved_word-2.ensures ∙ ap (moved_word _ _ _) none)
    ∙ words_swept _ c.args.marks.now c.args.words.now c.requires)
