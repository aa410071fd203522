-- What the mover looks for among addresses. Assumes nothing.
use Rattle.std.specs.Prelude.{ℕ, Bool, ℤ, pos, ◌+ℤ◌}
use Rattle.rules.specs.Relocate.{outside}

-- "11 a moved address .. below 0 or above 2^30 + 1"
abbrev pub leaving : ℤ → ℕ → Bool
leaving d a = outside (pos a +ℤ d)
