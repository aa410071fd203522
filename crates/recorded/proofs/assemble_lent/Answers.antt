-- What the assembler was lent stands again before the rest.
use Rattle.std.proofs.Common.{◌∙◌, length-take-le}
use Rattle.recorded.proofs.Lent.{called}
use Rattle.recorded.proofs.assemble_lent.Goals as goal

pub returns : goal.returns
returns c =
    let call = c.assemble in
    let pre = c.requires in
    called _ _ _ _ _ _ _ _ _ _ _ _ call.ensures.answer call.ensures.slices (call.auto.addresses ∙ length-take-le _ _ pre.0) (call.auto.words ∙ length-take-le _ _ pre.1) (call.auto.marks ∙ length-take-le _ _ pre.2)
