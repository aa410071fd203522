-- The text of the list, or its refusal.
use Rattle.cli_lists.proofs.assembling.AssemblingManualOne.make.Goals as goal

pub list_output-requires : goal.list_output-requires
list_output-requires c = rw c.in-Ok-Ok.field-0-is at c.in-Ok-Ok.ensures.fits

pub returns-in-Ok-Ok : goal.returns-in-Ok-Ok
returns-in-Ok-Ok c = λ t b h i.
    let q = rw c.in-Ok-Ok.field-0-is at (c.in-Ok-Ok.ensures.answers b.text i.text) in
    rw q c.list_output.ensures

pub returns-in-Ok-Err : goal.returns-in-Ok-Err
returns-in-Ok-Err c = λ t b h i.
    let q = rw c.in-Ok-Err.field-0-is at (c.in-Ok-Err.ensures.answers b.text i.text) in
    rw q (c.input_failure.ensures 32768 b i)
