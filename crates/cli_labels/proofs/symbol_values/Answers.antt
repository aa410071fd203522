-- The value of the rows of the call, which hold the labels, or the refusal.
use native.Mathlib.Omega.{arith}
use lib.ListN.{replicate, length-take}
use Rattle.requests.specs.Symbols.{rows}
use Rattle.symtext.proofs.Told.{few, rows_fit}
use Rattle.jsontext.proofs.Accepted.{symbols_ascii, rows_stand}
use Rattle.cli_labels.proofs.Told.{labels_made, labels_refused}
use Rattle.cli_labels.proofs.symbol_values.Goals as goal

pub slice_bounds-starts-end : goal.slice_bounds-starts-end
slice_bounds-starts-end c = omega (arith, few _ _ _ c.in-Ok.ensures.answer c.list_symbols.ensures.rows)

pub slice_bounds-lengths-end : goal.slice_bounds-lengths-end
slice_bounds-lengths-end c = omega (arith, few _ _ _ c.in-Ok.ensures.answer c.list_symbols.ensures.rows)

pub slice_bounds-addresses-end : goal.slice_bounds-addresses-end
slice_bounds-addresses-end c = omega (arith, few _ _ _ c.in-Ok.ensures.answer c.list_symbols.ensures.rows)

pub slice_bounds-lines-end : goal.slice_bounds-lines-end
slice_bounds-lines-end c = omega (arith, few _ _ _ c.in-Ok.ensures.answer c.list_symbols.ensures.rows)

pub slice_bounds-labels_text-end : goal.slice_bounds-labels_text-end
slice_bounds-labels_text-end c = simp length-take (omega (arith, few _ _ _ c.in-Ok.ensures.answer c.list_symbols.ensures.rows))

pub slice_bounds-labels_text-end-in-Ok : goal.slice_bounds-labels_text-end-in-Ok
slice_bounds-labels_text-end-in-Ok c = simp length-take (omega (arith, few _ _ _ c.in-Ok.ensures.answer c.list_symbols.ensures.rows))

pub slice_bounds-labels_text-end-in-Ok-2 : goal.slice_bounds-labels_text-end-in-Ok-2
slice_bounds-labels_text-end-in-Ok-2 c = simp length-take (omega (arith, few _ _ _ c.in-Ok.ensures.answer c.list_symbols.ensures.rows))

pub slice_bounds-labels_text-end-in-Ok-3 : goal.slice_bounds-labels_text-end-in-Ok-3
slice_bounds-labels_text-end-in-Ok-3 c = simp length-take (omega (arith, few _ _ _ c.in-Ok.ensures.answer c.list_symbols.ensures.rows))

pub labels_text-requires : goal.labels_text-requires
labels_text-requires c =
    let fit = rows_fit _ _ _ c.in-Ok.ensures.answer c.list_symbols.ensures.rows in
    rows_stand _ _ fit (symbols_ascii _ _ _ c.in-Ok.ensures.answer)

pub returns-in-Ok-labels_text : goal.returns-in-Ok-labels_text
returns-in-Ok-labels_text c = labels_made _ _ _ c.in-Ok.ensures.answer c.list_symbols.ensures.rows c.in-Ok-labels_text.ensures

pub returns-in-Err : goal.returns-in-Err
returns-in-Err c =
    let zeros = rows (replicate 256 0) (replicate 256 0) (replicate 256 0) (replicate 256 0) in
    labels_refused _ _ zeros c.in-Err.ensures.answer (omega arith) (omega arith) (omega arith) (omega arith)
