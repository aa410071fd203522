-- `push_rows` has before each kept line the rows of the lines before it written. Assumes nothing.
use native.Mathlib.Omega.{arith}
use Rattle.first.proofs.Callers.{bounded}
use Rattle.printout.proofs.Coding.{line_within}
use Rattle.printout.proofs.Keeping.{keeping_start, keeping_inside, keeping_task, keeping_fits, keeping_line, keeping_more, keeping_done, keeping_end, keeping_left, keeping_rest}
use Rattle.printout.proofs.push_rows.Goals as goal

pub loop-k-init : goal.loop-k-init
loop-k-init c = keeping_start _ _ _ _ c.requires.1

pub outline_line-end-requires : goal.outline_line-end-requires
outline_line-end-requires c = rw c.source-source.ensures (keeping_inside c.loop-k.invariant c.requires.0 c.requires.1 c.loop-k-test.true)

pub push_read-requires : goal.push_read-requires
push_read-requires c = (keeping_task c.loop-k.invariant c.requires.0 c.requires.1 c.loop-k-test.true c.kept_line-kept.ensures, keeping_line c.loop-k.invariant c.requires.0 c.requires.1 c.loop-k-test.true c.kept_line-kept.ensures (rw c.source-source.ensures at c.outline_line-end.ensures.ends))

pub overflow_cast-address : goal.overflow_cast-address
overflow_cast-address c = record { fits = rw c.address_after-address.ensures (keeping_fits c.loop-k.invariant c.requires.0 c.requires.1 c.loop-k-test.true c.kept_line-kept.ensures) }

pub overflow_add-i : goal.overflow_add-i
overflow_add-i c = omega (arith, (bounded c.requires.0).short, line_within (keeping_line c.loop-k.invariant c.requires.0 c.requires.1 c.loop-k-test.true c.kept_line-kept.ensures (rw c.source-source.ensures at c.outline_line-end.ensures.ends)))

pub loop-k-preserved : goal.loop-k-preserved
loop-k-preserved c = keeping_more c.loop-k.invariant c.requires.0 c.requires.1 c.loop-k-test.true c.kept_line-kept.ensures (rw c.source-source.ensures at c.outline_line-end.ensures.ends) c.address_after-address.ensures c.push_read.ensures.text c.push_read.ensures.start_bound

pub push_rest-requires : goal.push_rest-requires
push_rest-requires c =
    let w = keeping_done c.loop-k.invariant c.requires.0 c.requires.1 c.loop-k-test.false in
    (keeping_end w c.requires.0 c.requires.1, keeping_left w c.requires.0 c.requires.1)

pub returns : goal.returns
returns c =
    let w = keeping_done c.loop-k.invariant c.requires.0 c.requires.1 c.loop-k-test.false in
    keeping_rest w c.requires.0 c.requires.1 (omega arith) (c.push_rest.ensures _)
