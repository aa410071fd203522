-- The label of the script, or its refusal.
use Rattle.requests.specs.Nearest.{nearest}
use Rattle.cli_labels.specs.Labels.{nearest_text_by}
use Rattle.cli_labels.proofs.Told.{texts_told}
use Rattle.cli_labels.proofs.NearestLabelOne.make.Goals as goal

pub returns : goal.returns
returns c = λ t b h i.
    let w = c.args.self.now in
    rw (texts_told (nearest_text_by w.json b.text) b (nearest w.base b.text w.address)) at (c.text_or_failure.ensures _ (c.nearest_of.ensures b.text i.text) b i)
