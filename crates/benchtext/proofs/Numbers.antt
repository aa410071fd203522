-- A number that is read, without what failed in it. Assumes nothing.
use Rattle.std.proofs.Common.{◌≡◌, ℕ, refl}
use Rattle.std.specs.Result.{result_ok}
use Rattle.rules.specs.Number.{Reading, read, failed, value_of}
use Rattle.numeral.specs.Number.{number_of}

pub ok_value : (r : Reading ℕ) → result_ok (number_of r) ≡ value_of r
unfolding value_of
ok_value (read v) = refl
ok_value (failed x) = refl
