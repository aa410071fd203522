-- `put_symbols` meets its contract: the rows of the call are put as lines, or it refuses. Assumes nothing.
use native.Mathlib.Omega.{arith}
use lib.ListN.{replicate, length-take}
use Rattle.std.proofs.Common.{rules, refl}
use Rattle.std.proofs.lemmas.Result.{err_from_is_err_and}
use Rattle.requests.specs.Symbols.{rows}
use Rattle.listing.proofs.Adding.{adds_all}
use Rattle.station.proofs.Printed.{printed}
use Rattle.symtext.proofs.Told.{few, rows_fit, rows_told, refusal_told}
use Rattle.symtext.proofs.put_symbols.Goals as goal

pub returns-in_err-count : goal.returns-in_err-count
returns-in_err-count c =
    let p = err_from_is_err_and c.from_residual.result c.from_residual.ensures.1 in
    let zeros = rows (replicate 256 0) (replicate 256 0) (replicate 256 0) (replicate 256 0) in
    rw (p.1, p.2) (refusal_told _ _ zeros c.in_err-count.ensures.answer (omega arith) (omega arith) (omega arith) (omega arith), refl)

pub slice_bounds-starts-end : goal.slice_bounds-starts-end
slice_bounds-starts-end c = omega (arith, few _ _ _ c.in_ok-count.ensures.answer c.in_ok-count.ensures.rows)

pub slice_bounds-lengths-end : goal.slice_bounds-lengths-end
slice_bounds-lengths-end c = omega (arith, few _ _ _ c.in_ok-count.ensures.answer c.in_ok-count.ensures.rows)

pub slice_bounds-addresses-end : goal.slice_bounds-addresses-end
slice_bounds-addresses-end c = omega (arith, few _ _ _ c.in_ok-count.ensures.answer c.in_ok-count.ensures.rows)

pub slice_bounds-lines-end : goal.slice_bounds-lines-end
slice_bounds-lines-end c = omega (arith, few _ _ _ c.in_ok-count.ensures.answer c.in_ok-count.ensures.rows)

pub slice_bounds-push_lines-end : goal.slice_bounds-push_lines-end
slice_bounds-push_lines-end c = simp length-take (omega (arith, few _ _ _ c.in_ok-count.ensures.answer c.in_ok-count.ensures.rows))

pub slice_bounds-push_lines-end-2 : goal.slice_bounds-push_lines-end-2
slice_bounds-push_lines-end-2 c = simp length-take (omega (arith, few _ _ _ c.in_ok-count.ensures.answer c.in_ok-count.ensures.rows))

pub slice_bounds-push_lines-end-3 : goal.slice_bounds-push_lines-end-3
slice_bounds-push_lines-end-3 c = simp length-take (omega (arith, few _ _ _ c.in_ok-count.ensures.answer c.in_ok-count.ensures.rows))

pub slice_bounds-push_lines-end-4 : goal.slice_bounds-push_lines-end-4
slice_bounds-push_lines-end-4 c = simp length-take (omega (arith, few _ _ _ c.in_ok-count.ensures.answer c.in_ok-count.ensures.rows))

pub push_lines-requires-clause-fits : goal.push_lines-requires-clause-fits
push_lines-requires-clause-fits c = rows_fit _ _ _ c.in_ok-count.ensures.answer c.in_ok-count.ensures.rows

pub returns : goal.returns
returns c =
    let h = adds_all c.new-text.ensures c.push_lines.ensures in
    (_, rows_told _ _ _ c.in_ok-count.ensures.answer c.in_ok-count.ensures.rows, printed _ _ _ _ h.0 (search rules))
