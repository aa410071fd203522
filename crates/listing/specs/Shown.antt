-- The place that a line shows, by what the reader has of it. Assumes nothing.
use Rattle.rules.specs.Assemble.{Place, place}
use Rattle.listing.specs.declared.reading.Shown.{Shown}

abbrev pub place_of : Shown → Place
place_of s = place s.address s.word s.mark
