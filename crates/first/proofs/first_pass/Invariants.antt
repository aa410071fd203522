-- `first_pass` goes from line to line. Assumes nothing.
use Prim.Native.Nat.{suc, ◌-◌}
use lib.ListN.{length}
use Rattle.first.proofs.Underway.{Underway}
use Rattle.first.proofs.first_pass.Given as goal

abbrev pub invariant-loop-next : goal.invariant-loop-next
invariant-loop-next g l = Underway g.S.Sizing.sizes l.initial.labels l.base l.initial.cells l.labels l.cells l.p

abbrev pub decreases-loop-next : goal.decreases-loop-next
decreases-loop-next g l = suc (length l.initial.labels.source) - l.p.at
