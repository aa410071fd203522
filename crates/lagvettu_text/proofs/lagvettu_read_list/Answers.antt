-- What reading answered is passed on.
use Rattle.lagvettu_text.proofs.Called.{reads_no_list}
use Rattle.lagvettu_text.proofs.lagvettu_read_list.Goals as goal

pub returns-in-Err : goal.returns-in-Err
returns-in-Err c = reads_no_list _ c.in-Err.ensures.answer c.in-Err.ensures.kept
