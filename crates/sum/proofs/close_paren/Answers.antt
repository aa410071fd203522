-- `close_paren` meets its contract, by the byte after what was read. Assumes nothing.
use Rattle.std.proofs.Common.{arith}
use Rattle.sum.proofs.Readers.{unclosed, other_byte}
use Rattle.sum.proofs.close_paren.Goals as goal

pub returns-in_default : goal.returns-in_default
returns-in_default c = λ at x says. unclosed _ _ at x says (omega arith)

pub returns-in_default-2 : goal.returns-in_default-2
returns-in_default-2 c = λ at x says. other_byte _ _ at x says (λ e. omega arith)
