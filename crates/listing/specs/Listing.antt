-- The text of a list, as the rules' examples have it: a line for each word, or the line of a refusal. Assumes nothing.
use Rattle.std.specs.Prelude.{ℕ, zero, suc, ◌+◌, ◌/◌, ◌%◌, true, false, cond, ltb}
use mathlib.Core.List.{List, [], ◌∷◌, ◌++◌, flat_map}
use Rattle.rules.specs.Text.{Text, bytes}
use Rattle.rules.specs.Assemble.{Place}

-- the byte of a digit below 16: `0` to `9`, then `A` to `F`
unfoldable pub digit_byte : ℕ → ℕ
digit_byte d = cond (ltb d 10) (48 + d) (55 + d)

-- the last k digits of n in a base, the most significant first
unfoldable pub digits_of : ℕ → ℕ → ℕ → Text
digits_of base zero n = []
digits_of base (suc k) n = digits_of base k (n / base) ++ (digit_byte (n % base) ∷ [])

-- how many decimal digits n has, counted in at most so many steps
unfoldable pub decimal_places_by : ℕ → ℕ → ℕ
decimal_places_by zero n = 1
decimal_places_by (suc steps) n = elim (ltb n 10) [ true ↦ 1 | false ↦ suc (decimal_places_by steps (n / 10)) ]

-- n steps are enough for n
abbrev pub decimal_places : ℕ → ℕ
decimal_places n = decimal_places_by n n

-- a number in decimal, with no zeros in front
unfoldable pub decimal : ℕ → Text
decimal n = digits_of 10 (decimal_places n) n

-- a mark is one digit; one that is not below 10 is written `?`
unfoldable pub mark_byte : ℕ → ℕ
mark_byte m = cond (ltb m 10) (48 + m) 63

-- "address in 8 upper-case hexadecimal digits, word in 4, mark": always 16 bytes
unfoldable pub place_text : Place → Text
place_text p =
    digits_of 16 8 p.address ++ (32 ∷ (digits_of 16 4 p.word ++ (32 ∷ mark_byte p.mark ∷ 10 ∷ [])))

-- "a line per word"; "an empty list prints nothing"
unfoldable pub list_text : List Place → Text
list_text l = flat_map place_text l

-- "the one line `refused`, number, place, both in decimal"
unfoldable pub refused_text : ℕ → ℕ → Text
refused_text number place = bytes "refused " ++ (decimal number ++ (32 ∷ (decimal place ++ (10 ∷ []))))
