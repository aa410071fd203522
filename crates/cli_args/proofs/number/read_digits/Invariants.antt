-- `read_digits` reads the whole as what is left after the value so far.
use Rattle.cli_args.proofs.Reading.{Midway}
use Rattle.cli_args.proofs.number.read_digits.Given as goal

abbrev pub invariant-loop-i : goal.invariant-loop-i
invariant-loop-i l = Midway l.radix l.greatest l.digits l.value l.i
