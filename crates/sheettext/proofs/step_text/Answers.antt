-- `step_text` puts the text of each outcome. Assumes nothing.
use Rattle.std.proofs.Common.{rules}
use Rattle.rules.specs.Text.{bytes}
use Rattle.listing.proofs.Adding.{adds_all}
use Rattle.station.proofs.Printed.{printed, printed_none}
use Rattle.sheettext.specs.Steps.{step_text}
use Rattle.sheettext.specs.declared.Stop.TheVariants.{Refused, Wrong, Unread}
use Rattle.sheettext.proofs.Stepping.{stopped_so}
use Rattle.sheettext.proofs.step_text.Goals as goal

pub returns-in-Ok : goal.returns-in-Ok
unfolding step_text
returns-in-Ok g c = rw c.in-Ok.is c.write_sheet.ensures

pub returns-in-Err-Refused : goal.returns-in-Err-Refused
unfolding step_text
returns-in-Err-Refused g c =
    let w = c.write_refused.ensures in
    rw (stopped_so c.in-Err-Refused.is (Refused c.in-Err-Refused.refusal) (rw c.in-Err-Refused.is at c.in-Err-Refused.field-0-is), ← c.number.ensures, ← c.place.ensures) (printed _ _ _ _ w.0 w.2)

pub returns-in-Err-Wrong : goal.returns-in-Err-Wrong
unfolding step_text bytes
returns-in-Err-Wrong g c =
    let h = adds_all c.new-text.ensures c.push_part.ensures.text in
    rw (stopped_so c.in-Err-Wrong.is (Wrong c.in-Err-Wrong.line) (rw c.in-Err-Wrong.is at c.in-Err-Wrong.field-0-is)) (printed _ _ _ _ h.0 (search rules))

pub returns-in-Err-Unread : goal.returns-in-Err-Unread
unfolding step_text
returns-in-Err-Unread g c = rw (stopped_so c.in-Err-Unread.is Unread (rw c.in-Err-Unread.is at c.in-Err-Unread.field-0-is)) (printed_none _)
