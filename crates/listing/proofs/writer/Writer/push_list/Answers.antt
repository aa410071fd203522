-- As many lines are put after what is written as there are places.
use Rattle.std.proofs.Common.{refl, arith}
use Rattle.listing.proofs.Places.{length_lines}
use Rattle.listing.proofs.Adding.{adds_put}
use Rattle.listing.proofs.writer.Writer.push_list.Goals as goal

pub returns-clause-text : goal.returns-clause-text
returns-clause-text c =
    let a = c.args in
    let k = length_lines a.count a.addresses.now a.words.now a.marks.now (omega arith) (omega arith) (omega arith) in
    adds_put (omega arith) refl (omega arith) c.write_places.ensures
