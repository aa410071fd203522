-- The text stands at the front.
use Rattle.std.proofs.Common.{◌∙◌, sym, ap}
use Rattle.rules.specs.Answer.{accepted}
use Rattle.cli_labels.proofs.text_in.Goals as goal

pub returns-in-Ok : goal.returns-in-Ok
returns-in-Ok c = λ a x p.
    let q = rw c.in-Ok.is at p in
    q.1 ∙ ap accepted (sym (c.truncate.ensures.items ∙ q.2.front))

pub returns-in-Err : goal.returns-in-Err
returns-in-Err c = λ a x p. (rw c.in-Err.is at p).0
