-- `add_names` meets its contract: each chunk that is read is added to what was read. Assumes nothing.
use Rattle.std.proofs.Common.{◌∙◌, ◌≤◌, length, rules, take}
use Rattle.std.proofs.Math.Seq.{length-take-le}
use Rattle.station.proofs.ReadOn.{counted}
use Rattle.sheettext.proofs.Filing.{feeding_none, feeding_more, feeding_over}
use Rattle.plantsheet.proofs.add_names.Goals as goal

pub loop-input-init : goal.loop-input-init
loop-input-init c = rw c.start-input.ensures (feeding_none _)

pub loop-input-preserved : goal.loop-input-preserved
loop-input-preserved c =
    let chunk = take c.unwrap_or.result c.read.new.buf in
    let bound : c.unwrap_or.result ≤ length c.read.new.buf = search rules in
    let long = length-take-le c.unwrap_or.result c.read.new.buf bound ∙ c.unwrap_or.ensures in
    rw c.after_read-input.ensures.value (feeding_more c.loop-input.invariant chunk _ (λ t. c.add_chunk-fed.ensures _ t) (counted _ _ _ long))

pub returns : goal.returns
returns c = feeding_over c.loop-input.invariant c.loop-input-test.false c.add_file-step.ensures
