-- `squeeze` lends the rest of the slice to `join_pieces`. Assumes nothing.
use Rattle.std.proofs.Common.{arith, refl}
use Rattle.requests.specs.Tidy.{squeezed}
use Rattle.tidylaws.proofs.Short.{squeezed_le}
use Rattle.tidied.proofs.Adding.{adds_lent}
use Rattle.tidied.proofs.squeeze.Goals as goal

pub overflow_add-copy : goal.overflow_add-copy
unfolding squeezed
overflow_add-copy c = omega (arith, c.join_pieces-m.ensures.value, squeezed_le c.args.t.now)

pub returns : goal.returns
unfolding squeezed
returns c = adds_lent (squeezed c.args.t.now) (omega (arith, squeezed_le c.args.t.now)) c.join_pieces-m.ensures.value c.join_pieces-m.ensures.out_after refl refl refl
