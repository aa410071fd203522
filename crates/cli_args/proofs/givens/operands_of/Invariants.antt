-- The operands so far, and those that are left.
use Rattle.std.proofs.Common.{map}
use Rattle.cli_args.specs.Asked.{operands_of}
use Rattle.cli_args.specs.Lexed.{given_of}
use Rattle.cli_args.proofs.Gathered.{Gathers}
use Rattle.cli_args.proofs.givens.operands_of.Given as goal

abbrev pub invariant-loop-k : goal.invariant-loop-k
invariant-loop-k l = Gathers operands_of given_of l.givens l.k (map (λ s. s.now) l.operands.items)
