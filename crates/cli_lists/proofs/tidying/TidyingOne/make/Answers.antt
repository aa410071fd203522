-- The copy, or why there is none.
use Rattle.cli_lists.proofs.tidying.TidyingOne.make.Goals as goal

pub returns-in-Ok-Ok : goal.returns-in-Ok-Ok
returns-in-Ok-Ok c = λ t b h i. let q = rw c.in-Ok-Ok.field-0-is at (c.in-Ok-Ok.ensures b.text i.text) in rw q

pub returns-in-Ok-Err : goal.returns-in-Ok-Err
returns-in-Ok-Err c = λ t b h i.
    let q = rw c.in-Ok-Err.field-0-is at (c.in-Ok-Err.ensures b.text i.text) in
    rw q (c.input_failure.ensures 32768 b i)
