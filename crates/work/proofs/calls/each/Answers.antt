-- The inputs are those that are asked for.
use Rattle.std.proofs.Common.{inl, inr, refl}
use Rattle.work.proofs.calls.each.Goals as goal

pub returns-in-Ok : goal.returns-in-Ok
returns-in-Ok g c = inl (rw (c.as_slice.ensures.value, c.in-Ok.ensures) at c.serve_each.ensures)

pub returns-in-Err : goal.returns-in-Err
returns-in-Err g c = inr (c.no_room.ensures.0, c.no_room.ensures.1, refl)
