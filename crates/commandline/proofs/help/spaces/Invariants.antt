-- `spaces` has as many spaces as turns so far.
use Rattle.std.proofs.Common.{◌≡◌, string_bytes}
use Rattle.commandline.specs.Help.{spaces}
use Rattle.commandline.proofs.help.spaces.Given as goal

abbrev pub invariant-loop-k : goal.invariant-loop-k
invariant-loop-k l = string_bytes l.text ≡ spaces l.k
