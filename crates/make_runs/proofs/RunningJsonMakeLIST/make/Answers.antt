-- The front is enough. Assumes nothing.
use Rattle.std.proofs.Common.{arith}
use Rattle.make_runs.specs.Runs.{json_text, runs_told, of_json}
use Rattle.make_runs.proofs.Lists.{of_front}
use Rattle.make_runs.proofs.RunningJsonMakeLIST.make.Goals as goal

pub returns : goal.returns
returns c = λ a b p q. rw (← (of_front (runs_told json_text (of_json c.args.self.now)) b c.args.front.now c.args.input c.min.result (omega arith) (omega arith) q)) c.json_of.ensures
