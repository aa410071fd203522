-- `put_nearest` meets its contract: the label that the call names lies in the script, and its line is put. Assumes nothing.
use native.Mathlib.Omega.{arith}
use Rattle.std.proofs.Common.{rules, refl}
use Rattle.std.proofs.lemmas.Result.{err_from_is_err_and}
use Rattle.listing.proofs.Adding.{adds_all}
use Rattle.station.proofs.Printed.{printed}
use Rattle.neartext.proofs.Told.{label_within, label_told, refusal_told}
use Rattle.neartext.proofs.put_nearest.Goals as goal

pub returns-in_err-label : goal.returns-in_err-label
returns-in_err-label c =
    let p = err_from_is_err_and c.from_residual.result c.from_residual.ensures.1 in
    rw (p.1, p.2) (refusal_told c.args.base c.args.address _ c.in_err-label.ensures, refl)

pub overflow_add-end : goal.overflow_add-end
overflow_add-end c = omega (arith, label_within c.args.base c.args.address _ c.in_ok-label.ensures)

pub slice_bounds-name-end : goal.slice_bounds-name-end
slice_bounds-name-end c = omega (arith, label_within c.args.base c.args.address _ c.in_ok-label.ensures)

pub returns : goal.returns
returns c =
    let h = adds_all c.new-text.ensures c.push_label.ensures in
    (_, label_told c.args.base c.args.address _ c.in_ok-label.ensures, printed _ _ _ _ h.0 (search rules))
