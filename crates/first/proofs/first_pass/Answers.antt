-- `first_pass` goes from line to line. Assumes nothing.
use Rattle.first.proofs.Underway.{begins, goes_on, rows_are, lines_are}
use Rattle.first.proofs.first_pass.Goals as goal

pub loop-next-init : goal.loop-next-init
loop-next-init g c = begins _ _ _ _ c.requires.short c.requires.few c.requires.empty c.requires.rows c.requires.lines

pub loop-next-preserved : goal.loop-next-preserved
loop-next-preserved g c = goes_on _ _ _ _ _ _ _ c.loop-next.invariant _ _ _ (rw c.in-Some.is at c.in_ok-next.ensures)

pub returns-in_err-next-clause-rows : goal.returns-in_err-next-clause-rows
returns-in_err-next-clause-rows g c = rows_are _ _ _ _ _ _ _ c.loop-next.invariant c.in_err-next.ensures

pub returns-in_err-next-clause-lines : goal.returns-in_err-next-clause-lines
returns-in_err-next-clause-lines g c = lines_are _ _ _ _ _ _ _ c.loop-next.invariant c.in_err-next.ensures

pub returns-clause-lines : goal.returns-clause-lines
returns-clause-lines g c = let k = rw c.in_default.is at c.in_ok-next.ensures in lines_are _ _ _ _ _ _ _ c.loop-next.invariant k.1
