use Rattle.rules.specs.Assemble.{slices}
use Rattle.moves.proofs.Making.{Made}
use Rattle.moves.proofs.relocate_all.Given as goal

abbrev pub invariant-loop-i : goal.invariant-loop-i
invariant-loop-i g l = Made g.A.AnswerSign.answer l.count (slices l.initial.addresses l.initial.words l.marks) (slices l.addresses l.words l.marks) l.distances l.initial.answers l.answers l.i
