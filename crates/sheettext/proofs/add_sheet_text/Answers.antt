-- `add_sheet_text` goes by where the reader stands. Assumes nothing.
use native.Mathlib.Omega.{arith}
use Rattle.sheettext.proofs.Stepping.{sheet_unread, sheet_long, sheet_read}
use Rattle.sheettext.proofs.add_sheet_text.Goals as goal

pub returns-then-input : goal.returns-then-input
returns-then-input c =
    let both = sheet_unread _ _ _ c.if-input.true in
    record { result_value = both.0; script_value = both.1 }

pub returns-then-total-gt-SCRIPT : goal.returns-then-total-gt-SCRIPT
returns-then-total-gt-SCRIPT c =
    let both = sheet_long _ _ _ (omega arith) c.if-input.false c.if-total-gt-SCRIPT.true c.add_text.ensures in
    record { result_value = both.0; script_value = both.1 }

pub returns : goal.returns
returns c =
    let both = sheet_read _ _ _ (omega arith) c.if-input.false c.add_text-2.ensures in
    record { result_value = both.0; script_value = both.1 }
