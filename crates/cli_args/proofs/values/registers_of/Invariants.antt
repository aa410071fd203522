-- The registers so far.
use Rattle.cli_args.specs.Lexed.{givens_of}
use Rattle.cli_args.proofs.Registers.{Filled}
use Rattle.cli_args.proofs.values.registers_of.Given as goal

abbrev pub invariant-loop-k : goal.invariant-loop-k
invariant-loop-k l = Filled (givens_of l.givens) l.k l.a
