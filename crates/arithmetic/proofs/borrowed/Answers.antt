-- `arithmetic::borrowed` meets its contract. Assumes nothing.
use Rattle.arithmetic.proofs.Signs.{low_signed, high_signed}
use Rattle.arithmetic.proofs.borrowed.Goals as goal

pub returns-then-n-h-clause-signed : goal.returns-then-n-h-clause-signed
returns-then-n-h-clause-signed c = low_signed _ _ c.if-n-h.true

pub returns-else-n-h-clause-signed : goal.returns-else-n-h-clause-signed
returns-else-n-h-clause-signed c = high_signed _ _ c.if-n-h.false
