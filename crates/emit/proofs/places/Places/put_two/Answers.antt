-- `Places::put_two` puts one word after the other. Assumes nothing.
use Rattle.std.proofs.Common.{refl, arith}
use Rattle.emit.proofs.Slices.{puts_both, puts_room, room_less}
use Rattle.emit.proofs.places.Places.put_two.Goals as goal

pub put-requires-2 : goal.put-requires-2
put-requires-2 c = puts_room _ c.put.ensures (room_less _ _ (omega arith) c.requires.1)

pub returns : goal.returns
returns c = puts_both _ refl c.put.ensures c.put-2.ensures
