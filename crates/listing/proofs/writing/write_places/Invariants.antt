-- The lines of the places so far are put.
use Rattle.std.proofs.Common.{◌≡◌}
use Rattle.rules.specs.Tally.{list_in}
use Rattle.listing.specs.Listing.{list_text}
use Rattle.text.specs.Spans.{over_from}
use Rattle.listing.proofs.writing.write_places.Given as goal

abbrev pub invariant-loop-i : goal.invariant-loop-i
invariant-loop-i l = l.out ≡ over_from l.at (list_text (list_in l.i l.addresses l.words l.marks)) l.initial.out
