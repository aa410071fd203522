-- The totals, or a refusal.
use Rattle.calls.specs.Calls.{answered_text}
use Rattle.calls.proofs.sheet_text.Goals as goal

pub returns-in-Ok : goal.returns-in-Ok
unfolding answered_text
returns-in-Ok c = rw (← c.empty_sources.ensures, ← c.add_source.ensures, c.in-Ok.is) c.write_sheet.ensures

pub returns-in-Err : goal.returns-in-Err
unfolding answered_text
returns-in-Err c = rw (← c.empty_sources.ensures, ← c.add_source.ensures, c.in-Err.is) c.write_refusal.ensures
