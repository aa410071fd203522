-- The row of the list, or of its refusal.
use Rattle.std.proofs.Common.{sym, ◌∙◌}
use Rattle.cli_lists.proofs.checking.row_of.Goals as goal

pub returns-in-Ok-Ok : goal.returns-in-Ok-Ok
returns-in-Ok-Ok c = λ k t b h i.
    let q = rw c.in-Ok-Ok.field-0-is at (c.in-Ok-Ok.ensures.answers b.text i.text) in
    rw (sym (c.call_of.ensures t b.text h) ∙ q) (rw i.name at (c.make_row.ensures _ k (rw c.as_bytes.ensures.value at c.accepted_row.ensures)))

pub returns-in-Ok-Err : goal.returns-in-Ok-Err
returns-in-Ok-Err c = λ k t b h i.
    let q = rw c.in-Ok-Err.field-0-is at (c.in-Ok-Err.ensures.answers b.text i.text) in
    rw (sym (c.call_of.ensures t b.text h) ∙ q) (rw i.name at (c.row_of_refusal.ensures k t h))
