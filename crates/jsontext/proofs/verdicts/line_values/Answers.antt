-- A verdict more. Assumes nothing.
use Rattle.std.proofs.Common.{refl, arith}
use Rattle.jsontext.specs.Lines.{lines_data}
use Rattle.jsontext.proofs.Growing.{more_verdicts}
use Rattle.jsontext.proofs.verdicts.line_values.Goals as goal

pub loop-k-init : goal.loop-k-init
unfolding lines_data
loop-k-init c = rw c.new-items.ensures.items refl

pub loop-k-preserved : goal.loop-k-preserved
loop-k-preserved c =
    more_verdicts c.args.first c.loop-k.k c.args.verdicts.now c.loop-k.items.items c.push.new.self.items c.in_ok-item.item c.loop-k.invariant c.in_ok-push.ensures.items
    (omega arith) c.in_ok-item.ensures
