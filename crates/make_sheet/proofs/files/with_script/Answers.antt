-- What `sheettext` makes of the script, as this crate tells it. Assumes nothing.
use Rattle.make_sheet.proofs.Summing.{script_told, script_read, script_is_any}
use Rattle.make_sheet.proofs.files.with_script.Goals as goal

pub unreachable-requires : goal.unreachable-requires
unreachable-requires c = script_is_any _ _ _ c.requires _ (rw c.in-Err-Wrong.field-0-is at c.in-Err-Wrong.ensures.result_value)

pub unreachable-requires-in-Err-Unread : goal.unreachable-requires-in-Err-Unread
unreachable-requires-in-Err-Unread c = script_read _ _ _ c.requires (rw c.in-Err-Unread.field-0-is at c.in-Err-Unread.ensures.result_value)

pub returns-in-Ok : goal.returns-in-Ok
returns-in-Ok c = λ s r. script_told s _ c.args.input c.requires c.in-Ok.ensures.result_value (c.in-Ok.ensures.script_value s r)

pub returns-in-Err-Refused : goal.returns-in-Err-Refused
returns-in-Err-Refused c = λ s r.
    script_told s _ c.args.input c.requires (rw c.in-Err-Refused.field-0-is at c.in-Err-Refused.ensures.result_value) (c.in-Err-Refused.ensures.script_value s r)
