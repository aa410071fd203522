use Rattle.std.proofs.Common.{◌∙◌, arith, to_z-of_z}
use Rattle.relocate.proofs.Sweep.{sweep_starts, sweep_steps, sweep_reads, sweep_ends, all_swept}
use Rattle.relocate.proofs.move_addresses.Goals as goal

pub loop-address-init : goal.loop-address-init
loop-address-init c = sweep_starts _ _

pub moved_address-requires : goal.moved_address-requires
moved_address-requires c = rw (to_z-of_z c.ranges.distance, sweep_reads c.loop-address.invariant c.loop-address.address-index (omega arith)) (c.requires _ 0 c.loop-address-test.true)

pub loop-address-preserved : goal.loop-address-preserved
loop-address-preserved c = sweep_steps c.loop-address.invariant (omega arith) _ c.moved_address.ensures

pub returns : goal.returns
returns c = rw (to_z-of_z c.ranges.distance) at (sweep_ends c.loop-address.invariant (omega arith) ∙ all_swept _ _)
