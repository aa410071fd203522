-- The parts of the line are put one after the other.
use lib.ListN.{length-set}
use native.Mathlib.Omega.{arith}
use Rattle.listing.proofs.Lines.{line_put}
use Rattle.rules.specs.Assemble.{place}
use Rattle.listing.proofs.writing.write_place.Goals as goal

pub write_digits-requires-2 : goal.write_digits-requires-2
write_digits-requires-2 c = simp length-set (omega arith)

pub bounds-out-at-2 : goal.bounds-out-at-2
bounds-out-at-2 c = omega (arith, simp length-set at c.write_digits-2.auto.out)

pub bounds-out-at-3 : goal.bounds-out-at-3
bounds-out-at-3 c = simp length-set (omega (arith, simp length-set at c.write_digits-2.auto.out))

pub bounds-out-at-4 : goal.bounds-out-at-4
bounds-out-at-4 c = simp length-set (omega (arith, simp length-set at c.write_digits-2.auto.out))

pub shape_of-out : goal.shape_of-out
shape_of-out c = simp length-set (omega (arith, simp length-set at c.write_digits-2.auto.out))

pub returns : goal.returns
returns c =
    let a = c.args in
    let address = rw c.from.ensures at c.write_digits.ensures in
    let word = rw c.from-2.ensures at c.write_digits-2.ensures in
    line_put a.at (place a.address a.word a.mark) _ _ _ _ (omega arith) address word c.mark_byte.ensures
