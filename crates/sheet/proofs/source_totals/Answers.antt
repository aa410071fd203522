use Rattle.sheet.proofs.Owning.{check_refused}
use Rattle.sheet.proofs.source_totals.Goals as goal

pub returns-in-Err : goal.returns-in-Err
returns-in-Err c = check_refused _ c.in-Err.ensures.answer
