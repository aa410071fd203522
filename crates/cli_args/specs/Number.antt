-- Numbers as words give them, over the readings of a script's numbers. Assumes nothing.
use Rattle.std.specs.Prelude.{ℕ, ◌+◌, ◌-◌, ◌^◌, Option, None, Some, ℤ, pos, neg_ℤ, [], ◌∷◌}
use Rattle.std.specs.Option.{option_map}
use Rattle.rules.specs.Text.{Text, after}
use Rattle.rules.specs.Number.{some_digits, ranged, below, without, hex_tail, value_of, unsigned_reading}

-- the value of one or more digits of the radix, of at most `greatest`
unfoldable pub digits_number : ℕ → ℕ → Text → Option ℕ
digits_number radix greatest t = value_of (ranged (below (greatest + 1)) (some_digits radix t))

-- decimal, or hexadecimal after `$` or `0x`
unfoldable pub decimal : ℕ → Text → Option ℕ
decimal greatest w = elim (hex_tail w) [ None ↦ digits_number 10 greatest w | Some t ↦ digits_number 16 greatest t ]

-- hexadecimal of 32 bits, with or without `$` or `0x`, and then with or without a plus sign
unfoldable pub address : Text → Option ℕ
address w = elim (hex_tail w) [ None ↦ value_of (unsigned_reading 16 (2 ^ 32) w) | Some t ↦ value_of (unsigned_reading 16 (2 ^ 32) t) ]

-- decimal of 32 bits with a sign or without, or hexadecimal after `$` or `0x`, which follow the sign
unfoldable pub distance : Text → Option ℤ
distance w =
    elim (after (45 ∷ []) w) [
      | Some t ↦ option_map (λ v. neg_ℤ (pos v)) (decimal (2 ^ 31) t)
      | None ↦ option_map (λ v. pos v) (decimal (2 ^ 31 - 1) (without 43 w))
    ]
