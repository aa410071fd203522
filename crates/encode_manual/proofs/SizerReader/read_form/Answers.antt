-- `Sizer` makes the size of a form, or of none. Assumes nothing.
use Rattle.encode_manual.proofs.Instructions.{form_sized, none_sized}
use Rattle.encode_manual.proofs.SizerReader.read_form.Goals as goal

pub returns-in-Some : goal.returns-in-Some
returns-in-Some c = λ g h. form_sized h c.in-Some.is c.size.ensures

pub returns-in-None : goal.returns-in-None
returns-in-None c = λ g h. none_sized h c.in-None.is
