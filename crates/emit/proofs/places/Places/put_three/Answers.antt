-- `Places::put_three` puts two words, then the third. Assumes nothing.
use Rattle.std.proofs.Common.{refl, arith}
use Rattle.emit.proofs.Slices.{puts_both, puts_room, room_less}
use Rattle.emit.proofs.places.Places.put_three.Goals as goal

pub put-requires : goal.put-requires
put-requires c = puts_room _ c.put_two.ensures (room_less _ _ (omega arith) c.requires.1)

pub returns : goal.returns
returns c = rw (← c.high_word.ensures, ← c.low_word.ensures) (puts_both _ refl c.put_two.ensures c.put.ensures)
