-- A reading that failed is no distance.
use Rattle.std.proofs.Common.{◌≡◌, ◌^◌, ℤ, refl, ap, ◌∙◌}
use Rattle.std.specs.Result.{result_ok}
use Rattle.rules.specs.Number.{Reading, read, failed, signed_reading, value_of, signed}
use Rattle.numeral.specs.Number.{signed_of}
use Rattle.listing.proofs.distance.parse_distance.Goals as goal

value_is : (r : Reading ℤ) → result_ok (signed_of r) ≡ value_of r
unfolding value_of
value_is (read z) = refl
value_is (failed f) = refl

pub returns : goal.returns
unfolding signed
returns c = c.ok.ensures.value ∙ ap result_ok c.read_signed.ensures ∙ value_is (signed_reading 10 (2 ^ 31) c.args.t.now)
