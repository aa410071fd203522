-- By whether a name is refused.
use Rattle.std.proofs.Common.{inl, inr, refl}
use Rattle.work.proofs.running.do_work.Goals as goal

pub returns-in-Some : goal.returns-in-Some
returns-in-Some g c = inl (rw c.in-Some.is at c.refuse_names.ensures, refl, refl)

pub returns-in-None : goal.returns-in-None
returns-in-None g c = inr (_, rw c.in-None.is at c.refuse_names.ensures, c.work_at.ensures)
