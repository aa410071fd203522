-- `arithmetic::multiplied` meets its contract. Assumes nothing.
use Rattle.arithmetic.proofs.Signs.{times_both, times_right, times_left, times_neither}
use Rattle.arithmetic.proofs.multiplied.Goals as goal

pub returns-in-true-true : goal.returns-in-true-true
returns-in-true-true c = let i = c.in-true-true in times_both _ _ _ i.is-0 i.is-1 c.times.ensures.0 c.times.ensures.1

pub returns-in-true-false : goal.returns-in-true-false
returns-in-true-false c = let i = c.in-true-false in let t = c.times-in-true-false in times_right _ _ _ i.is-0 i.is-1 c.requires.1 t.ensures.0 t.ensures.1

pub returns-in-false-true : goal.returns-in-false-true
returns-in-false-true c = let i = c.in-false-true in let t = c.times-in-false-true in times_left _ _ _ i.is-0 c.requires.0 i.is-1 t.ensures.0 t.ensures.1

pub returns-in-false-false : goal.returns-in-false-false
returns-in-false-false c = let i = c.in-false-false in let t = c.times-in-false-false in times_neither _ _ _ i.is-0 c.requires.0 i.is-1 c.requires.1 t.ensures.0 t.ensures.1
