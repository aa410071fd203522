-- What the writer wrote is all of the line.
use Rattle.std.proofs.Common.{rules}
use Rattle.listing.specs.Shown.{place_of}
use Rattle.listing.proofs.Adding.{adds_all}
use Rattle.listing.proofs.Lines.{line_written}
use Rattle.listing.proofs.reading.line_of.Goals as goal

pub returns : goal.returns
returns c = let h = (adds_all c.new-written.ensures c.push_place.ensures.text).1 in line_written (place_of c.args.shown) (search rules)
