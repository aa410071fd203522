-- `arithmetic::extended` meets its contract. Assumes nothing.
use Rattle.arithmetic.proofs.Signs.{byte_low, byte_high}
use Rattle.arithmetic.proofs.extended.Goals as goal

pub returns-then-b-lt128 : goal.returns-then-b-lt128
returns-then-b-lt128 c = byte_low _ c.if-b-lt128.true

pub returns-else-b-lt128 : goal.returns-else-b-lt128
returns-else-b-lt128 c = byte_high _ c.if-b-lt128.false c.requires
