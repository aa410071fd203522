-- `spaces` has as many spaces as turns so far.
use Rattle.std.proofs.Common.{◌≡◌, string_bytes}
use Rattle.cli_args.specs.Help.{spaces}
use Rattle.cli_args.proofs.help.spaces.Given as goal

abbrev pub invariant-loop-k : goal.invariant-loop-k
invariant-loop-k l = string_bytes l.text ≡ spaces l.k
