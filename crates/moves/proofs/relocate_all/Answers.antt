use Rattle.std.proofs.Common.{rules, arith, get_or, pos, to_z-of_z, w32, SFits, ◌∙◌}
use Rattle.moves.proofs.Making.{made_steps, made_slices, made_answers}
use Rattle.moves.proofs.Tallied.{follows, pairs_follow}
use Rattle.moves.proofs.relocate_all.Goals as goal

pub loop-i-preserved : goal.loop-i-preserved
loop-i-preserved g c =
    let fits : SFits w32 (get_or c.args.distances.now c.loop-i.i (pos 0)) = search rules in
    made_steps c.loop-i.invariant (omega arith) c.requires _ (rw (to_z-of_z fits) at c.relocate-moved.ensures.slices) c.relocate-moved.auto.addresses c.relocate-moved.auto.words c.from_answer.result (c.from_answer.ensures ∙ rw (to_z-of_z fits) at c.relocate-moved.ensures.answer)

pub returns-clause-slices : goal.returns-clause-slices
returns-clause-slices g c = made_slices c.loop-i.invariant (omega arith)

pub returns-clause-answers : goal.returns-clause-answers
returns-clause-answers g c = made_answers c.loop-i.invariant (omega arith)

pub returns-clause-follows : goal.returns-clause-follows
returns-clause-follows g c = follows _ _ _ _ _ (returns-clause-slices g c) (returns-clause-answers g c)

pub returns-clause-pairs : goal.returns-clause-pairs
returns-clause-pairs g c = pairs_follow _ _ _ _ _ (returns-clause-slices g c) (returns-clause-answers g c)
