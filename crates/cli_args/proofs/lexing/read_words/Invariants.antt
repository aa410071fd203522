-- The words so far were read.
use Rattle.std.proofs.Common.{map, string_bytes}
use Rattle.cli_args.specs.Given.{given_in}
use Rattle.cli_args.specs.Lexed.{givens_of, mode_of}
use Rattle.cli_args.proofs.Steps.{Left}
use Rattle.cli_args.proofs.lexing.read_words.Given as goal

abbrev pub invariant-loop-k : goal.invariant-loop-k
invariant-loop-k l =
    Left (λ w. string_bytes w) l.command l.words (given_in l.command (map (λ w. string_bytes w) l.words)) l.k (givens_of l.givens.items) (mode_of l.mode)
