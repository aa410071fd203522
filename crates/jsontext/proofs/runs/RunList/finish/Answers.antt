-- The line is whole. Assumes nothing.
use Rattle.jsontext.proofs.Writing.{finished}
use Rattle.jsontext.proofs.runs.RunList.finish.Goals as goal

pub returns : goal.returns
returns c = λ ts h. finished ts c.args.self _ h c.in_ok-extend_from_slice.ensures.items
