-- `add_text` adds the sheet that is read. Assumes nothing.
use Rattle.std.proofs.Common.{rules, ◌≡◌}
use Rattle.sheet.specs.Totals.{said}
use Rattle.sheettext.specs.Back.{is_sheet, sheet_in}
use Rattle.sheettext.specs.Steps.{sheet_answer}
use Rattle.sheettext.proofs.Stepping.{sheet_added}
use Rattle.sheettext.proofs.add_text.Goals as goal

pub returns-in_err-sheet : goal.returns-in_err-sheet
unfolding sheet_answer
returns-in_err-sheet c = search rules

pub returns : goal.returns
returns c =
    let read : is_sheet (said c.in_ok-sheet.sheet) ≡ sheet_in c.args.bytes.now = search rules in
    sheet_added _ _ read c.add_sheet.ensures c.step_of.ensures
