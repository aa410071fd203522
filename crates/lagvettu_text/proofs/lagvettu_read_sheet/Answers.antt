-- What reading answered is passed on.
use Rattle.lagvettu_text.proofs.Called.{reads_sheet, reads_none}
use Rattle.lagvettu_text.proofs.lagvettu_read_sheet.Goals as goal

pub returns-in-Ok : goal.returns-in-Ok
returns-in-Ok c = reads_sheet _ c.min-length.ensures _ c.read_sheet.ensures _ _ c.in-Ok.is c.into.ensures

pub returns-in-Err : goal.returns-in-Err
returns-in-Err c = reads_none _ c.min-length.ensures _ c.read_sheet.ensures _ _ c.in-Err.is
