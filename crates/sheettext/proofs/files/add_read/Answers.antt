-- `add_read` meets its contract: a sheet, or a script. Assumes nothing.
use Rattle.sheettext.proofs.Filing.{owed_sheet, owed_script}
use Rattle.sheettext.proofs.files.add_read.Goals as goal

pub returns-then-sheet : goal.returns-then-sheet
returns-then-sheet c =
    let both = owed_sheet _ _ _ c.if-sheet.true (c.add_sheet_text.ensures.result_value, c.add_sheet_text.ensures.script_value) in
    record { result_value = both.0; result_value_2 = both.1 }

pub returns-else-sheet : goal.returns-else-sheet
returns-else-sheet c =
    let both = owed_script _ _ _ c.if-sheet.false (c.add_script.ensures.result_value, c.add_script.ensures.script_value) in
    record { result_value = both.0; result_value_2 = both.1 }
