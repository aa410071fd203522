use Rattle.rules.specs.Relocate.{moved_address}
use Rattle.relocate.proofs.Sweep.{Swept}
use Rattle.relocate.proofs.move_addresses.Given as goal

abbrev pub invariant-loop-address : goal.invariant-loop-address
invariant-loop-address l = Swept (λ i a. moved_address l.distance a) l.initial.addresses l.addresses l.address-index
