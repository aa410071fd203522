-- The words so far, and the arguments that are left.
use Rattle.std.proofs.Common.{map, string_bytes, IfSome}
use Rattle.cli_args.proofs.Behind.{Left}
use Rattle.cli_args.proofs.words.words_of.Given as goal

abbrev pub invariant-loop-k : goal.invariant-loop-k
invariant-loop-k g l = IfSome (g.A.Arguments.known l.arguments) (Left l.k (map (λ t. string_bytes t) l.words.items))
