-- A label more. Assumes nothing.
use Rattle.std.proofs.Common.{refl, get_or}
use Rattle.requests.specs.Symbols.{rows}
use Rattle.symtext.specs.Rows.{labels_from}
use Rattle.jsontext.proofs.Growing.{more_labels}
use Rattle.jsontext.proofs.labels.label_values.Goals as goal

pub loop-k-init : goal.loop-k-init
unfolding labels_from
loop-k-init c = rw c.new-items.ensures.items refl

pub loop-k-preserved : goal.loop-k-preserved
loop-k-preserved c =
    more_labels c.args.source.now (rows c.args.starts.now c.args.lengths.now c.args.addresses.now c.args.lines.now) c.loop-k.k c.loop-k.items.items c.push.new.self.items c.in_ok-item.item
    c.loop-k.invariant c.in_ok-push.ensures.items
    (rw c.name_at-name.ensures at (c.in_ok-item.ensures (get_or c.args.starts.now c.loop-k.k 0)))
