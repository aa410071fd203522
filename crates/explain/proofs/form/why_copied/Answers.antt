-- `form::why_copied` cuts the copy where the tail ends. Assumes nothing.
use Rattle.instruction.proofs.Lists.{over_room}
use Rattle.explain.proofs.form.why_copied.Goals as goal

pub slice_bounds-copy-end : goal.slice_bounds-copy-end
slice_bounds-copy-end c = over_room _ _ _ _ c.join_pieces-n.ensures.out_after c.join_pieces-n.ensures.value
