-- `write_printout_of` prints what is put, or the line of the refusal. Assumes nothing.
use Rattle.station.proofs.Puts.{put_text, put_line}
use Rattle.printout.proofs.Told.{printout_told}
use Rattle.printout.proofs.write_printout_of.Goals as goal

pub returns-in-Ok : goal.returns-in-Ok
returns-in-Ok c = rw (← (printout_told _)) (put_text c.in-Ok.ensures)

pub returns-in-Err : goal.returns-in-Err
returns-in-Err c = rw (← (printout_told _)) (put_line _ c.in-Err.ensures c.write_refusal.ensures)
