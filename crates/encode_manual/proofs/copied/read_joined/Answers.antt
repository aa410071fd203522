-- `copied::read_joined` reads the tail that it copied. Assumes nothing.
use mathlib.Core.Path.{sym}
use lib.Seq.{length-take-le}
use Rattle.instruction.proofs.Lists.{take_over, over_room}
use Rattle.encode_manual.proofs.copied.read_joined.Goals as goal

pub slice_bounds-read_tail-end : goal.slice_bounds-read_tail-end
slice_bounds-read_tail-end g c = over_room _ _ _ _ c.join_pieces-n.ensures.out_after c.join_pieces-n.ensures.value

pub slice_bounds-read_tail-end-2 : goal.slice_bounds-read_tail-end-2
slice_bounds-read_tail-end-2 g c = sym (length-take-le _ _ (over_room _ _ _ _ c.join_pieces-n.ensures.out_after c.join_pieces-n.ensures.value))

pub returns : goal.returns
returns g c = rw (take_over _ _ _ _ c.join_pieces-n.ensures.out_after c.join_pieces-n.ensures.value) at c.read_tail.ensures
