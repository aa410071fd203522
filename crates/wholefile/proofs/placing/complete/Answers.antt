use Rattle.wholefile.specs.Put.{owned}
use Rattle.wholefile.specs.Shelf.{added, sure}
use Rattle.wholefile.proofs.Steps.{ends_then, then_altered}
use Rattle.wholefile.proofs.placing.complete.Goals as goal

pub returns-in-Ok-own : goal.returns-in-Ok-own
returns-in-Ok-own g c = let k = c.in-Ok-own.ensures in
    ends_then _ (λ kept f. owned c.args.old kept (added c.args.text.now f)) sure _ _ _ c.sync.result k.0 (then_altered _ (owned c.args.old k.0) (added c.args.text.now) _ _ _ c.in-Ok.ensures k.1) c.sync.ensures

pub returns-in-Err-own : goal.returns-in-Err-own
returns-in-Err-own g c = let k = c.in-Err-own.ensures in (λ f. k.0 (added c.args.text.now f), then_altered _ k.0 (added c.args.text.now) _ _ _ c.in-Ok.ensures k.1)
