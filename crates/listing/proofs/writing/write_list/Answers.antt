-- What the writer wrote stands in the slice.
use Rattle.std.proofs.Common.{rules}
use Rattle.listing.proofs.Adding.{adds_all}
use Rattle.listing.proofs.writing.write_list.Goals as goal

pub returns : goal.returns
returns c = let h = adds_all c.new-text.ensures c.push_list.ensures.text in search rules
