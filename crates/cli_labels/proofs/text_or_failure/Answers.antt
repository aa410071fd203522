-- The text, or the input's refusal.
use Rattle.cli_labels.proofs.text_or_failure.Goals as goal

pub returns-in-Ok-Ok : goal.returns-in-Ok-Ok
returns-in-Ok-Ok c = λ a h b i.
    let q = rw (c.in-Ok-Ok.is, c.in-Ok-Ok.field-0-is) at h in
    rw q

pub returns-in-Ok-Err : goal.returns-in-Ok-Err
returns-in-Ok-Err c = λ a h b i.
    let q = rw (c.in-Ok-Err.is, c.in-Ok-Err.field-0-is) at h in
    rw q (c.input_failure.ensures 32768 b i)
