-- `Encoder` makes the words of a form, or the fault of none. Assumes nothing.
use Rattle.encode_manual.proofs.Instructions.{no_form_read}
use Rattle.encode_manual.proofs.EncoderReader.read_form.Goals as goal

pub returns-in-None : goal.returns-in-None
returns-in-None c = λ g h. no_form_read h _ _ c.in-None.is
