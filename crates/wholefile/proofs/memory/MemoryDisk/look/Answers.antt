use Rattle.wholefile.proofs.InSlots.{sees_as, found_new, found_device, found_out, found_link, found_none}
use Rattle.wholefile.proofs.memory.MemoryDisk.look.Goals as goal

pub returns-in-New-clause-seen : goal.returns-in-New-clause-seen
returns-in-New-clause-seen c = sees_as _ _ c.args.name.now _ c.seen.result c.fails.ensures.same (found_new c.fails.new.self c.args.name.now c.in-New.ensures) c.seen.ensures

pub returns-in-Out-clause-seen : goal.returns-in-Out-clause-seen
returns-in-Out-clause-seen c = sees_as _ _ c.args.name.now _ c.seen-in-Out.result c.fails.ensures.same (found_out c.fails.new.self c.args.name.now c.in-Out.ensures) c.seen-in-Out.ensures

pub returns-in-Link-clause-seen : goal.returns-in-Link-clause-seen
returns-in-Link-clause-seen c = sees_as _ _ c.args.name.now _ c.seen-in-Link.result c.fails.ensures.same (found_link c.fails.new.self c.args.name.now c.in-Link.ensures) c.seen-in-Link.ensures

pub returns-in-Device-clause-seen : goal.returns-in-Device-clause-seen
returns-in-Device-clause-seen c = sees_as _ _ c.args.name.now _ _ c.fails.ensures.same (found_device c.fails.new.self c.args.name.now c.in-Device.ensures) tt

pub returns-in-Nothing-clause-seen : goal.returns-in-Nothing-clause-seen
returns-in-Nothing-clause-seen c = let k = c.in-Nothing.ensures in
    sees_as _ _ c.args.name.now _ _ c.fails.ensures.same (found_none c.fails.new.self c.args.name.now k.0 k.1 k.2 k.3) tt
