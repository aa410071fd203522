use Rattle.std.proofs.Common.{Some, sym, ap, ◌∙◌, refl}
use Rattle.wholefile.specs.Shelf.{with_rights}
use Rattle.wholefile.specs.Slots.{new_name, stored}
use Rattle.wholefile.proofs.Steps.{as_before}
use Rattle.wholefile.proofs.InSlots.{changed, as_it_stood}
use Rattle.wholefile.proofs.memory.Memory.allow.Goals as goal

pub returns-in-Some : goal.returns-in-Some
returns-in-Some c = ap Some (changed c.args.self.now c.in-Some.file (with_rights c.args.rights (stored c.in-Some.file)) (with_rights c.args.rights) (sym c.in-Some.ensures.value) refl)

pub returns-in-None : goal.returns-in-None
returns-in-None c = (λ f. f, as_before new_name _ _ (ap Some (as_it_stood c.args.self.now _ (c.in-None.ensures.after ∙ c.in-None.ensures.value))))
