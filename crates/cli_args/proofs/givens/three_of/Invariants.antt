-- The last words of -w so far, and those that are left.
use Rattle.std.specs.Prelude.{option_map}
use Rattle.cli_args.specs.Asked.{last_of, tries_of}
use Rattle.cli_args.specs.Lexed.{given_of}
use Rattle.cli_args.specs.Parsed.{three_of}
use Rattle.cli_args.proofs.Gathered.{Later}
use Rattle.cli_args.proofs.givens.three_of.Given as goal

abbrev pub invariant-loop-k : goal.invariant-loop-k
invariant-loop-k l = Later (λ gs. last_of (tries_of gs)) given_of l.givens l.k (option_map three_of l.three)
