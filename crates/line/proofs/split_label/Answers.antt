-- `split_label` ends a label at the colon, and the trimmed rest goes on; without one the text does. Assumes nothing.
-- the colon stands in the line, and the label before it
use Rattle.line.proofs.Answers.{Labelled, split_label}
use Rattle.line.proofs.split_label.Goals as goal
use Rattle.line.proofs.split_label.Goals.{After-kept_length-length}

labelled : (c : After-kept_length-length) → Labelled c.args.source.now c.args.start c.args.end c.args.colon c.kept_length-length.result
labelled c = record { whole = c.requires; colon = c.if-end-colon.false; size = c.kept_length-length.ensures }

pub returns : goal.returns
returns c = split_label (labelled (goal.at.returns c).After-kept_length-length) c.trimmed_span.ensures
