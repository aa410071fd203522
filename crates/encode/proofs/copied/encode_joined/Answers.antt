-- `copied::encode_joined` encodes the tail that it copied. Assumes nothing.
use mathlib.Core.Path.{sym}
use lib.Seq.{length-take-le}
use Rattle.instruction.proofs.Lists.{take_over, over_room}
use Rattle.encode.proofs.copied.encode_joined.Goals as goal

pub join_pieces-n-requires : goal.join_pieces-n-requires
join_pieces-n-requires c = c.requires.at_in_bounds

pub slice_bounds-encode_tail-end : goal.slice_bounds-encode_tail-end
slice_bounds-encode_tail-end c = over_room _ _ _ _ c.join_pieces-n.ensures.out_after c.join_pieces-n.ensures.value

pub slice_bounds-encode_tail-end-2 : goal.slice_bounds-encode_tail-end-2
slice_bounds-encode_tail-end-2 c = sym (length-take-le _ _ (over_room _ _ _ _ c.join_pieces-n.ensures.out_after c.join_pieces-n.ensures.value))

pub encode_tail-requires : goal.encode_tail-requires
encode_tail-requires c = c.requires.near

pub returns : goal.returns
returns c = let copy = c.join_pieces-n.ensures in rw (take_over _ _ _ _ copy.out_after copy.value) at c.encode_tail.ensures
