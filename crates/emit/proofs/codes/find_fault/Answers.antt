-- `find_fault` keeps the codes of the first k lines. Assumes nothing.
use Rattle.std.proofs.Common.{arith}
use Rattle.std.proofs.lemmas.Result.{err_from_is_err_and}
use Rattle.emit.proofs.Finding.{finding_start, line_needs, address_fits, count_fits, faulty, finding_next, all_sound}
use Rattle.emit.proofs.codes.find_fault.Goals as goal

pub loop-k-init : goal.loop-k-init
loop-k-init c = finding_start _ _ _ _

pub code_line-requires : goal.code_line-requires
code_line-requires c = line_needs c.requires c.loop-k.invariant c.loop-k-test.true c.kept_line-kept.ensures

pub returns-in_err-code-clause-answer : goal.returns-in_err-code-clause-answer
returns-in_err-code-clause-answer c =
    let p = err_from_is_err_and c.from_residual.result c.from_residual.ensures.1 in
    rw (p.1, p.2) (faulty c.requires c.loop-k.invariant c.loop-k-test.true c.kept_line-kept.ensures _ c.in_err-code.ensures)

pub overflow_add-count : goal.overflow_add-count
overflow_add-count c =
    record { fits = count_fits c.requires c.loop-k.invariant c.loop-k-test.true c.kept_line-kept.ensures _ c.in_ok-code.ensures c.cells_of-head.ensures (omega arith) }

pub overflow_cast-address : goal.overflow_cast-address
overflow_cast-address c = record { fits = rw c.address_after-address.ensures (address_fits c.requires c.loop-k.invariant c.loop-k-test.true c.kept_line-kept.ensures) }

pub loop-k-preserved : goal.loop-k-preserved
loop-k-preserved c =
    finding_next c.requires c.loop-k.invariant c.loop-k-test.true c.kept_line-kept.ensures _ c.in_ok-code.ensures c.cells_of-head.ensures c.put_cells.ensures c.address_after-address.ensures

pub returns-clause-answer : goal.returns-clause-answer
returns-clause-answer c = all_sound c.requires c.loop-k.invariant c.loop-k-test.false
