-- `label_line` is done after a label, or its rest goes on. Assumes nothing.
use Rattle.line.proofs.Answers.{rest_told}
use Rattle.line.proofs.label_line.Goals as goal

pub rest_line-requires : goal.rest_line-requires
rest_line-requires c = (c.split_label-split.ensures.rest_in, c.split_label-split.ensures.label_in, rest_told c.split_label-split.ensures c.requires.1)
