use Rattle.rules.specs.Text.{bytes}
use Rattle.wholefile.proofs.InSlots.{leads_to, link_leads}
use Rattle.wholefile.proofs.memory.MemoryDisk.real.Goals as goal

pub returns-in_ok-from_str-in-Out-clause-leads : goal.returns-in_ok-from_str-in-Out-clause-leads
unfolding bytes
returns-in_ok-from_str-in-Out-clause-leads c = leads_to c.args.self.now c.args.name.now _ c.in-Out.ensures c.in_ok-from_str-in-Out.ensures.ok

pub returns-in_ok-from_str-in-Link-clause-leads : goal.returns-in_ok-from_str-in-Link-clause-leads
unfolding bytes
returns-in_ok-from_str-in-Link-clause-leads c = link_leads c.args.self.now c.args.name.now _ c.in-Link.ensures c.in_ok-from_str-in-Link.ensures.ok
