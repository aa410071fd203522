-- `push_labels` writes nothing, or byte 10 and the labels' text. Assumes nothing.
use native.Mathlib.Omega.{arith}
use Rattle.listing.proofs.Adding.{adds_none}
use Rattle.printout.proofs.Told.{none_under, labels_add}
use Rattle.printout.proofs.push_labels.Goals as goal

pub returns-then-len-eq0 : goal.returns-then-len-eq0
returns-then-len-eq0 c = rw (none_under c.args.labels.now.table _ (omega (arith, c.len.ensures.count, c.if-len-eq0.true))) (adds_none _ (omega arith))

pub returns : goal.returns
returns c =
    let front = rw c.source.ensures at c.write_symbols-n.ensures in
    labels_add c.args.labels.now.table (λ e. c.if-len-eq0.false (omega (arith, c.len.ensures.count, e))) front c.push.ensures c.push_bytes.ensures
