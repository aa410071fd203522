-- The front is enough. Assumes nothing.
use Rattle.std.proofs.Common.{arith}
use Rattle.make_runs.specs.Runs.{rows_text, runs_told}
use Rattle.make_runs.proofs.Lists.{of_front}
use Rattle.make_runs.proofs.RunningMakeLIST.make.Goals as goal

pub returns : goal.returns
returns c = λ a b p q. rw (← (of_front (runs_told rows_text c.args.self.now) b c.args.front.now c.args.input c.min.result (omega arith) (omega arith) q)) c.lines_of.ensures
