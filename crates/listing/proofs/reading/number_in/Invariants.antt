-- The value so far is that of the digits so far.
use Rattle.std.proofs.Common.{◌≡◌, ◌<◌, ◌^◌, take}
use Rattle.listing.specs.Reading.{hex_in}
use Rattle.listing.proofs.reading.number_in.Given as goal

abbrev pub invariant-loop-b : goal.invariant-loop-b
invariant-loop-b l = record { value : l.v ≡ hex_in 0 (take l.b-index l.t); small : l.v < 16 ^ l.b-index }
