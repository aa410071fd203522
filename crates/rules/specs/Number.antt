-- Numbers in text: one reader over the radix and the bound with four answers, and the rules' numbers, what it reads. Assumes nothing.
use Rattle.std.specs.Prelude.{ℕ, suc, ◌+◌, ◌-◌, ◌*◌, ◌^◌, ◌%◌, true, false, ◌&&◌, cond, [], ◌∷◌, leb, ltb, eqb, ℤ, pos, negsuc, neg_ℤ, Option, None, Some}
use Rattle.rules.specs.Option.{bind}
use Rattle.rules.specs.Text.{Text, bytes, after}

-- "each byte's digit value, 255 for none"
unfoldable pub digit_value : ℕ → ℕ
digit_value b =
    cond (leb 48 b && leb b 57) (b - 48)
    (cond (leb 65 b && leb b 70) (b - 55)
    (cond (leb 97 b && leb b 102) (b - 87) 255))

-- ---- reading
-- what failed: "no digits, a bad digit, too large or too small"
pub data Failure : Type 0 where
  no_digits bad_digit out_of_range : Failure

-- "The number reader now tells four things apart": read, or what failed
pub data Reading (A : Type 0) : Type 0 where
  read : A → Reading A
  failed : Failure → Reading A

-- the value of the digits, each below the radix, after the value so far; one that is not, however late, is "a bad digit"
unfoldable pub digits : ℕ → ℕ → Text → Reading ℕ
digits radix v [] = read v
digits radix v (b ∷ s) = elim (ltb (digit_value b) radix) [ true ↦ digits radix (v * radix + digit_value b) s | false ↦ failed bad_digit ]

-- "one or more digits of its radix"; "No digits means nothing after the prefix and an allowed sign"
unfoldable pub some_digits : ℕ → Text → Reading ℕ
some_digits radix [] = failed no_digits
some_digits radix (b ∷ s) = digits radix 0 (b ∷ s)

-- a type, as what it makes of a value: "a bad digit before a value out of range"
unfoldable pub ranged : {A : Type 0} → (ℕ → Option A) → Reading ℕ → Reading A
ranged f (failed x) = failed x
ranged f (read v) = elim (f v) [ None ↦ failed out_of_range | Some a ↦ read a ]

-- 0 to bound - 1
unfoldable pub below : ℕ → ℕ → Option ℕ
below bound v = cond (ltb v bound) (Some v) None

-- -bound to bound - 1
unfoldable pub within : ℕ → ℤ → Option ℤ
within bound (pos n) = cond (ltb n bound) (Some (pos n)) None
within bound (negsuc n) = cond (ltb n bound) (Some (negsuc n)) None

-- the text without one byte c in front
unfoldable pub without : ℕ → Text → Text
without c [] = []
without c (b ∷ s) = cond (eqb b c) s (b ∷ s)

-- "A number is an optional +, then one or more digits of its radix", below the bound
unfoldable pub unsigned_reading : ℕ → ℕ → Text → Reading ℕ
unsigned_reading radix bound s = ranged (below bound) (some_digits radix (without 43 s))

-- "Signed 8-bit also takes −": a signed number, -bound to bound - 1
unfoldable pub signed_reading : ℕ → ℕ → Text → Reading ℤ
signed_reading radix bound [] = failed no_digits
signed_reading radix bound (b ∷ s) =
    elim (eqb b 45) [
      | true ↦ ranged (λ v. within bound (neg_ℤ (pos v))) (some_digits radix s)
      | false ↦ ranged (λ v. within bound (pos v)) (some_digits radix (without 43 (b ∷ s)))
    ]

-- what follows the "prefix `$` or `0x`"
unfoldable pub hex_tail : Text → Option Text
hex_tail s = elim (after (bytes "$") s) [ None ↦ after (bytes "0x") s | Some t ↦ Some t ]

-- a reader used with radix 16 after a prefix, "else decimal"
unfoldable pub by_prefix : {A : Type 0} → (ℕ → Text → A) → Text → A
by_prefix f s = elim (hex_tail s) [ None ↦ f 10 s | Some t ↦ f 16 t ]

-- "ORG and DC: 32 bits"
unfoldable pub reading32 : Text → Reading ℕ
reading32 s = by_prefix (λ r t. unsigned_reading r (2 ^ 32) t) s

-- 16 bits, for JMP and immediates
unfoldable pub reading16 : Text → Reading ℕ
reading16 s = by_prefix (λ r t. unsigned_reading r (2 ^ 16) t) s

-- 8 bits signed, for immediates
unfoldable pub reading8 : Text → Reading ℤ
reading8 s = by_prefix (λ r t. signed_reading r 128 t) s

-- "Immediates: `#`, then the same prefixes": what follows `#`, read; without `#` it is no immediate
unfoldable pub immediate : {A : Type 0} → (Text → Reading A) → Text → Option (Reading A)
immediate f s = elim (after (bytes "#") s) [ None ↦ None | Some t ↦ Some (f t) ]

-- ---- the numbers: what is read
-- the value of a reading, if it has one
unfoldable pub value_of : {A : Type 0} → Reading A → Option A
value_of (read a) = Some a
value_of (failed x) = None

-- JMP's number
unfoldable pub number16 : Text → Option ℕ
number16 s = value_of (reading16 s)

-- a signed number
unfoldable pub signed : ℕ → ℕ → Text → Option ℤ
signed radix bound s = value_of (signed_reading radix bound s)

-- immediates, "8 bits signed or 16 unsigned"
unfoldable pub imm8 : Text → Option ℤ
imm8 s = bind (immediate reading8 s) value_of

unfoldable pub imm16 : Text → Option ℕ
imm16 s = bind (immediate reading16 s) value_of

-- z modulo m, from 0 on
unfoldable pub modulo : ℕ → ℤ → ℕ
modulo m (pos n) = n % m
modulo m (negsuc n) = m - suc (n % m)
