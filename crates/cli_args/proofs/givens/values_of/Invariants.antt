-- The values so far, and those that are left.
use Rattle.std.proofs.Common.{map}
use Rattle.cli_args.specs.Asked.{values_of}
use Rattle.cli_args.specs.Lexed.{given_of}
use Rattle.cli_args.proofs.Gathered.{Gathers}
use Rattle.cli_args.proofs.givens.values_of.Given as goal

abbrev pub invariant-loop-k : goal.invariant-loop-k
invariant-loop-k l = Gathers (values_of l.setting) given_of l.givens l.k (map (λ s. s.now) l.values.items)
