-- A line is put after what is written.
use Rattle.std.proofs.Common.{refl, arith}
use Rattle.rules.specs.Assemble.{place}
use Rattle.listing.proofs.Lines.{length_place}
use Rattle.listing.proofs.Adding.{adds_put}
use Rattle.listing.proofs.writer.Writer.push_place.Goals as goal

pub returns-clause-text : goal.returns-clause-text
returns-clause-text c =
    let a = c.args in
    let k = length_place (place a.address a.word a.mark) in
    adds_put (omega arith) refl (omega arith) c.write_place.ensures
