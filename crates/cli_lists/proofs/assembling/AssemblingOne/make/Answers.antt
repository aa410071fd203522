-- The text of the list, or its refusal.
use Rattle.std.proofs.Common.{sym, ◌∙◌}
use Rattle.cli_lists.proofs.assembling.AssemblingOne.make.Goals as goal

pub list_output-requires : goal.list_output-requires
list_output-requires c = rw c.in-Ok-Ok.field-0-is at c.in-Ok-Ok.ensures.fits

pub returns-in-Ok-Ok : goal.returns-in-Ok-Ok
returns-in-Ok-Ok c = λ t b h i.
    let q = rw c.in-Ok-Ok.field-0-is at (c.in-Ok-Ok.ensures.answers b.text i.text) in
    rw (sym (c.call_of.ensures t b.text h) ∙ q) c.list_output.ensures

pub returns-in-Ok-Err : goal.returns-in-Ok-Err
returns-in-Ok-Err c = λ t b h i.
    let q = rw c.in-Ok-Err.field-0-is at (c.in-Ok-Err.ensures.answers b.text i.text) in
    rw (sym (c.call_of.ensures t b.text h) ∙ q) (c.failure_of.ensures 32768 t b h i)
