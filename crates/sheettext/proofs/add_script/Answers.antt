-- `add_script` goes by where the reader stands. Assumes nothing.
use native.Mathlib.Omega.{arith}
use Rattle.sheettext.proofs.Stepping.{script_unread, script_long, script_read}
use Rattle.sheettext.proofs.add_script.Goals as goal

pub returns-then-input : goal.returns-then-input
returns-then-input c =
    let both = script_unread _ _ _ c.if-input.true in
    record { result_value = both.0; script_value = both.1 }

pub returns-then-total-gt-MAX_SOURCE : goal.returns-then-total-gt-MAX_SOURCE
returns-then-total-gt-MAX_SOURCE c =
    let both = script_long _ _ _ c.if-input.false c.if-total-gt-MAX_SOURCE.true c.add_long.ensures in
    record { result_value = both.0; script_value = both.1 }

pub returns : goal.returns
returns c =
    let both = script_read _ _ _ (omega arith) c.if-input.false c.if-total-gt-MAX_SOURCE.false c.add_bytes.ensures in
    record { result_value = both.0; script_value = both.1 }
