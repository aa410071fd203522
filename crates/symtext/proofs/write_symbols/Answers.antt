-- `write_symbols` prints what is put, or the line of the refusal. Assumes nothing.
use Rattle.station.proofs.Puts.{put_text, put_line}
use Rattle.symtext.proofs.Told.{symbols_told}
use Rattle.symtext.proofs.write_symbols.Goals as goal

pub returns-in-Ok : goal.returns-in-Ok
returns-in-Ok c = rw (← (symbols_told c.args.base c.args.source.now)) (put_text c.in-Ok.ensures)

pub returns-in-Err : goal.returns-in-Err
returns-in-Err c = rw (← (symbols_told c.args.base c.args.source.now)) (put_line _ c.in-Err.ensures c.write_refusal.ensures)
