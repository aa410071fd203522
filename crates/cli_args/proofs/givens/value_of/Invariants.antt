-- The last value so far, and those that are left.
use Rattle.std.specs.Prelude.{option_map}
use Rattle.cli_args.specs.Asked.{value_of}
use Rattle.cli_args.specs.Lexed.{given_of}
use Rattle.cli_args.proofs.Gathered.{Later}
use Rattle.cli_args.proofs.givens.value_of.Given as goal

abbrev pub invariant-loop-k : goal.invariant-loop-k
invariant-loop-k l = Later (value_of l.setting) given_of l.givens l.k (option_map (λ s. s.now) l.value)
