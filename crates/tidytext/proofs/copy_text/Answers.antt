-- `copy_text` meets its contract: an input not read to its end, over the limit, and one that is all there. Assumes nothing.
use native.Mathlib.Omega.{arith}
use Rattle.tidytext.proofs.Told.{copy_failed, copy_over, copy_read}
use Rattle.tidytext.proofs.copy_text.Goals as goal

pub returns-then-input : goal.returns-then-input
returns-then-input c =
    let both = copy_failed _ _ c.if-input.true _ in
    record { printed = both.0; script_value = both.1 }

pub returns-then-total-gt-MAX_SOURCE : goal.returns-then-total-gt-MAX_SOURCE
returns-then-total-gt-MAX_SOURCE c =
    let both = copy_over _ _ c.if-input.false c.if-total-gt-MAX_SOURCE.true _ in
    record { printed = both.0; script_value = both.1 }

pub returns : goal.returns
returns c =
    let both = copy_read _ _ c.if-input.false c.if-total-gt-MAX_SOURCE.false (omega arith) c.write_copy.ensures in
    record { printed = both.0; script_value = both.1 }
