-- `operation::bare`: NOP, or no form. Assumes nothing.
use mathlib.Core.Path.{refl}
use Rattle.rules.specs.Option.{bind}
use Rattle.requests.specs.ManualCall.{form_of, no_operand}
use Rattle.encode_manual.proofs.Forms.{no_reading, said_word}
use Rattle.encode_manual.proofs.Operations.{no_plain_bare, no_bare}
use Rattle.encode_manual.proofs.Words.{the_words}
use Rattle.encode_manual.proofs.operation.bare.Goals as goal

pub returns-in-Nop : goal.returns-in-Nop
unfolding bind form_of no_operand
returns-in-Nop c = rw (c.in-None.is, c.in-Nop.is) (said_word _ the_words.nop refl)

pub returns-in_default-o : goal.returns-in_default-o
returns-in_default-o c = rw (c.in-None.is, no_plain_bare c.args.o c.in_default-o.not-Nop) no_reading

pub returns-in_default : goal.returns-in_default
returns-in_default c = rw (no_bare c.args.o _ c.in_default.not-None) no_reading
