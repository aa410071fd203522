-- `arithmetic::difference` meets its contract. Assumes nothing.
use native.Mathlib.Omega.{arith}
use mathlib.Core.Path.{sym}
use Rattle.arithmetic.proofs.Signs.{modulo_below, modulo_above}
use Rattle.arithmetic.proofs.difference.Goals as goal

pub returns-then-d-s : goal.returns-then-d-s
returns-then-d-s c = (sym (modulo_below _ _ _ c.if-d-s.true c.requires.1), omega arith)

pub returns-else-d-s : goal.returns-else-d-s
returns-else-d-s c = (sym (modulo_above _ _ _ c.if-d-s.false c.requires.0), omega arith)
