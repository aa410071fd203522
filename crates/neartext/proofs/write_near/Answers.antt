-- `write_near` prints what is put, or the line of the refusal. Assumes nothing.
use Rattle.station.proofs.Puts.{put_text, put_line}
use Rattle.neartext.proofs.Told.{near_told}
use Rattle.neartext.proofs.write_near.Goals as goal

pub returns-in-Ok : goal.returns-in-Ok
returns-in-Ok c = rw (← (near_told c.args.base c.args.address c.args.source.now)) (put_text c.in-Ok.ensures)

pub returns-in-Err : goal.returns-in-Err
returns-in-Err c = rw (← (near_told c.args.base c.args.address c.args.source.now)) (put_line _ c.in-Err.ensures c.write_refusal.ensures)
