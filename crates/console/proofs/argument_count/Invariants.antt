-- There are at least as many arguments as turns so far.
use Rattle.std.proofs.Common.{◌≤◌, length, IfSome}
use Rattle.console.proofs.argument_count.Given as goal

abbrev pub invariant-loop-k : goal.invariant-loop-k
invariant-loop-k g l = IfSome (g.A.Arguments.known l.arguments) (λ known. l.k ≤ length known)
