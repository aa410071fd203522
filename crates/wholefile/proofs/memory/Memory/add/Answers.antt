use Rattle.std.proofs.Common.{[], Some, sym, ap, ◌∙◌}
use Rattle.wholefile.specs.Shelf.{added}
use Rattle.wholefile.specs.Slots.{new_name}
use Rattle.wholefile.proofs.Steps.{as_before}
use Rattle.wholefile.proofs.InSlots.{changed, text_added, none_added, as_it_stood}
use Rattle.wholefile.proofs.memory.Memory.add.Goals as goal

pub returns-in-Ok : goal.returns-in-Ok
returns-in-Ok c =
    ap Some (changed c.args.self.now c.in-Some.file _ (added c.args.text.now) (sym c.in-Some.ensures.value) (text_added c.in-Some.file _ c.args.text.now c.in-Ok.ensures.items))

pub returns-in-Err : goal.returns-in-Err
returns-in-Err c =
    (added [], ap Some (changed c.args.self.now c.in-Some.file _ (added []) (sym c.in-Some.ensures.value) (text_added c.in-Some.file _ [] (none_added _ _ c.in-Err.ensures.items))))

pub returns-in-None : goal.returns-in-None
returns-in-None c = (λ f. f, as_before new_name _ _ (ap Some (as_it_stood c.args.self.now _ (c.in-None.ensures.after ∙ c.in-None.ensures.value))))
