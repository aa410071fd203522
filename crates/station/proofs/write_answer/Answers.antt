-- A list of as many places as there are, or a refusal's line.
use Rattle.std.proofs.Common.{arith}
use Rattle.station.specs.Station.{answer_text}
use Rattle.station.proofs.Printed.{printed, printed_list}
use Rattle.station.proofs.write_answer.Goals as goal

pub returns-in-Ok : goal.returns-in-Ok
returns-in-Ok g c = rw c.in-Ok.is (printed_list _ 12288 _ _ _ (omega arith) (omega arith) (omega arith) _ _ _ _ c.min.ensures c.write_list.ensures.0 c.write_list.ensures.1)

pub returns-in-Err : goal.returns-in-Err
unfolding answer_text
returns-in-Err g c =
    rw (c.in-Err.is, ← c.number.ensures, ← c.place.ensures) (printed _ _ _ _ c.write_refused.ensures.0 c.write_refused.ensures.2)
