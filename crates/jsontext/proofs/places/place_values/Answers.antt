-- A place more. Assumes nothing.
use Rattle.std.proofs.Common.{arith, refl}
use Rattle.rules.specs.Tally.{held, list_in}
use Rattle.jsontext.proofs.Growing.{more_places}
use Rattle.jsontext.proofs.places.place_values.Goals as goal

pub loop-k-init : goal.loop-k-init
unfolding held list_in
loop-k-init c = rw c.new-items.ensures.items refl

pub loop-k-preserved : goal.loop-k-preserved
loop-k-preserved c =
    more_places c.loop-k.k c.args.addresses.now c.args.words.now c.args.marks.now c.loop-k.items.items c.push.new.self.items c.in_ok-item.item c.loop-k.invariant
    c.in_ok-push.ensures.items c.in_ok-item.ensures (omega (arith, c.requires.addresses)) (omega (arith, c.requires.words)) (omega (arith, c.requires.marks))
