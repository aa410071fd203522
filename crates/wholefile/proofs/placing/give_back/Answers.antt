use Rattle.std.proofs.Common.{◌∙◌}
use Rattle.wholefile.proofs.Steps.{as_before}
use Rattle.wholefile.proofs.placing.give_back.Goals as goal

pub returns-in-Err-give : goal.returns-in-Err-give
returns-in-Err-give g c = (λ f. f, as_before _ _ _ (c.in-Err-give.ensures.same ∙ c.in-Err.ensures.same))
