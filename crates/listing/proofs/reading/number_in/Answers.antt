-- A digit more.
use Rattle.std.proofs.Common.{add-one, arith, refl}
use Rattle.listing.specs.Reading.{hex_in}
use Rattle.listing.proofs.Values.{digit_below, digit_more, hex_more, room_left}
use Rattle.listing.proofs.reading.number_in.Goals as goal

pub loop-b-init : goal.loop-b-init
unfolding hex_in
loop-b-init c = record { value = refl; small = omega arith }

pub overflow_add-v : goal.overflow_add-v
overflow_add-v c =
    let d = digit_below 16 _ c.digit_in.ensures (omega arith) in
    omega (arith, room_left _ _ c.loop-b.invariant.small (omega arith))

pub loop-b-preserved : goal.loop-b-preserved
loop-b-preserved c =
    let d = digit_below 16 _ c.digit_in.ensures (omega arith) in
    record {
      value = rw (hex_more c.args.t.now c.loop-b.b-index c.loop-b-test.true, ← c.loop-b.invariant.value, ← c.digit_in.ensures, c.from.ensures) refl;
      small = rw (add-one c.loop-b.b-index, c.from.ensures) (digit_more c.loop-b.v c.digit_in.result c.loop-b.b-index c.loop-b.invariant.small d);
    }
