-- What `sheettext` makes of the sheet, as this crate tells it. Assumes nothing.
use Rattle.make_sheet.proofs.Summing.{sheet_told, sheet_read}
use Rattle.make_sheet.proofs.files.with_sheet.Goals as goal

pub unreachable-requires : goal.unreachable-requires
unreachable-requires c = sheet_read _ _ _ c.requires (rw c.in-Err-Unread.field-0-is at c.in-Err-Unread.ensures.result_value)

pub returns-in-Ok : goal.returns-in-Ok
returns-in-Ok c = λ s r. sheet_told _ s _ c.args.input c.requires c.in-Ok.ensures.result_value (c.in-Ok.ensures.script_value s r)

pub returns-in-Err-Refused : goal.returns-in-Err-Refused
returns-in-Err-Refused c = λ s r.
    sheet_told _ s _ c.args.input c.requires (rw c.in-Err-Refused.field-0-is at c.in-Err-Refused.ensures.result_value) (c.in-Err-Refused.ensures.script_value s r)

pub returns-in-Err-Wrong : goal.returns-in-Err-Wrong
returns-in-Err-Wrong c = λ s r.
    sheet_told _ s _ c.args.input c.requires (rw c.in-Err-Wrong.field-0-is at c.in-Err-Wrong.ensures.result_value) (c.in-Err-Wrong.ensures.script_value s r)
