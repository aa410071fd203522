-- No option so far is that of the word.
use Rattle.std.proofs.Common.{◌≡◌, drop}
use Rattle.cli_args.specs.Given.{found_in}
use Rattle.cli_args.specs.declared.table.TheConstants.{SETTINGS}
use Rattle.cli_args.proofs.lexing.found_in.Given as goal

abbrev pub invariant-loop-k : goal.invariant-loop-k
invariant-loop-k l = found_in l.command l.word SETTINGS ≡ found_in l.command l.word (drop l.k SETTINGS)
