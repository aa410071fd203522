-- "Sums in DC": which texts are sums, by a grammar; what a sum is worth, by arithmetic in whole numbers; and that a text's reading
-- is what these two say, apart from the reader and its steps; and examples. Assumes nothing.
use Rattle.std.specs.Prelude.{ℕ, suc, ◌^◌, ◌<◌, ◌≤◌, max, ◌≡◌, ◌≢◌, true, false, List, [], ◌∷◌, ◌++◌, ℤ, pos, ◌+ℤ◌, ◌-ℤ◌, ◌*ℤ◌, Option, None, Some}
use Rattle.rules.specs.Text.{Text, bytes, starts}
use Rattle.rules.specs.Number.{no_digits, bad_digit, out_of_range, Reading, read, failed}
use Rattle.rules.specs.Sum.{Expression, numeral, group, sum, difference, product, sum_reading}
use Rattle.rules.specs.Line.{value_reading, value_reading_in}
use Rattle.rules.specs.Directive.{line_reading}
use Rattle.promises.specs.Readings.{Prefix, BadDigit, worth, Means32, MeansPiece, Exactly, Sample, ◌reads◌, SamplesHold}

-- ---- which texts are sums
-- a text derives an expression: a sum of products, from the left; a product of atoms, from the left; a number "as in DC, without a
-- sign", which is one or more digits after its prefix, or a sum in parentheses
mutual
  pub data Sum : Text → Expression → Type 0 where
    one_product : {t : Text} {a : Expression} → Product t a → Sum t a
    adding : {t s p : Text} {a b c : Expression} → Sum s a → Product p b → t ≡ s ++ (bytes "+" ++ p) → c ≡ sum a b → Sum t c
    subtracting : {t s p : Text} {a b c : Expression} → Sum s a → Product p b → t ≡ s ++ (bytes "-" ++ p) → c ≡ difference a b → Sum t c

  pub data Product : Text → Expression → Type 0 where
    one_atom : {t : Text} {a : Expression} → Atom t a → Product t a
    multiplying : {t s p : Text} {a b c : Expression} → Product s a → Atom p b → t ≡ s ++ (bytes "*" ++ p) → c ≡ product a b → Product t c

  pub data Atom : Text → Expression → Type 0 where
    plain_digits : {t d : Text} {radix : ℕ} {a : Expression} → Prefix t radix d → d ≢ [] → ¬ BadDigit radix d → a ≡ numeral (worth radix d) → Atom t a
    parenthesised : {t s : Text} {a b : Expression} → Sum s a → t ≡ bytes "(" ++ (s ++ bytes ")") → b ≡ group a → Atom t b

-- "a sum in square brackets without blanks"
pub record Derives (t : Text) (a : Expression) : Type 0 where
  pub inner : Text
  pub brackets : t ≡ bytes "[" ++ (inner ++ bytes "]")
  pub derived : Sum inner a

-- how deep its parentheses nest
unfoldable pub depth : Expression → ℕ
depth (numeral v) = 0
depth (group a) = suc (depth a)
depth (sum a b) = max (depth a) (depth b)
depth (difference a b) = max (depth a) (depth b)
depth (product a b) = max (depth a) (depth b)

-- ---- what a sum is worth
-- in whole numbers, whatever their size and sign
unfoldable pub whole_value : Expression → ℤ
whole_value (numeral v) = pos v
whole_value (group a) = whole_value a
whole_value (sum a b) = whole_value a +ℤ whole_value b
whole_value (difference a b) = whole_value a -ℤ whole_value b
whole_value (product a b) = whole_value a *ℤ whole_value b

-- a whole number that is not "below 0 or above 2^32 − 1"
pub record Fits (z : ℤ) : Type 0 where
  pub amount : ℕ
  pub is : z ≡ pos amount
  pub low : amount < 2 ^ 32

-- every number and "any step"
unfoldable pub InRange : Expression → Type 0
InRange (numeral v) = Fits (whole_value (numeral v))
InRange (group a) = InRange a
InRange (sum a b) = InRange a × InRange b × Fits (whole_value (sum a b))
InRange (difference a b) = InRange a × InRange b × Fits (whole_value (difference a b))
InRange (product a b) = InRange a × InRange b × Fits (whole_value (product a b))

-- ---- a text's reading: "A malformed or deeper sum, or any step below 0 or above 2^32 − 1, yields no value; among the answers of a reading the
-- first two are a bad digit, which comes before the last, too large or too small."
pub data MeansSum (t : Text) : Reading ℕ → Type 0 where
  has_value : {a : Expression} {v : ℕ} → Derives t a → depth a ≤ 16 → InRange a → whole_value a ≡ pos v → MeansSum t (read v)
  leaves_range : {a : Expression} → Derives t a → depth a ≤ 16 → ¬ InRange a → MeansSum t (failed out_of_range)
  no_sum : ((a : Expression) → Derives t a → ¬ (depth a ≤ 16)) → MeansSum t (failed bad_digit)

-- ---- DC's value: "may be a sum in square brackets", and is one if its first byte is `[`; else it is a number
pub data MeansValue (t : Text) (r : Reading ℕ) : Type 0 where
  bracket_first : starts (bytes "[") t ≡ true → MeansSum t r → MeansValue t r
  no_bracket_first : starts (bytes "[") t ≡ false → Means32 t r → MeansValue t r

-- a sum, DC's value and DC's piece read exactly so; and the grammar is unambiguous: a text derives one expression at most, and so it has one value
pub record SumsMean : Type 0 where
  pub of_a_sum : Exactly sum_reading MeansSum
  pub of_a_value : Exactly value_reading MeansValue
  pub of_a_piece : Exactly value_reading_in (MeansPiece MeansValue)
  pub one_expression : (t : Text) (a b : Expression) → Derives t a → Derives t b → a ≡ b

-- ---- examples: texts, and what they read as
abbrev bad : Reading ℕ
bad = failed bad_digit

abbrev far : Reading ℕ
far = failed out_of_range

unfoldable pub samples_of_sums : List (Sample (Reading ℕ))
samples_of_sums =
    bytes "[2+3*4]" reads read 14 ∷ bytes "[(2+3)*4]" reads read 20 ∷ bytes "[7-2-1]" reads read 4 ∷ bytes "[1-2+3]" reads far
    ∷ bytes "[0x10*$2]" reads read 32 ∷ bytes "[(1)]" reads read 1 ∷ bytes "[4294967295]" reads read 4294967295 ∷ bytes "[65536*65536-1]" reads far
    ∷ bytes "[4294967296-1]" reads far ∷ bytes "[0*(1-2)]" reads far ∷ bytes "[1-2+x]" reads bad ∷ bytes "[1-2]x" reads bad
    ∷ bytes "[" reads bad ∷ bytes "[]" reads bad ∷ bytes "[$]" reads bad ∷ bytes "[+1]" reads bad ∷ bytes "[$+1]" reads bad ∷ bytes "[10x1]" reads bad
    ∷ bytes "[[1]]" reads bad ∷ bytes "[1],2" reads bad ∷ bytes "[2(3)]" reads bad ∷ bytes "[(1]" reads bad ∷ bytes "[1)]" reads bad
    ∷ bytes "[((((((((((((((((1))))))))))))))))]" reads read 1 ∷ bytes "[(((((((((((((((((1)))))))))))))))))]" reads bad
    ∷ bytes "[(1)+(1)+(1)+(1)+(1)+(1)+(1)+(1)+(1)+(1)+(1)+(1)+(1)+(1)+(1)+(1)+(1)]" reads read 17 ∷ []

-- "in DC" alone, one piece: a blank cuts it, and a colon the line
unfoldable pub samples_of_sum_lines : List (Sample (Option (Reading ℕ)))
samples_of_sum_lines =
    bytes "DC.L [2+3*4]" reads Some (read 14) ∷ bytes "x: dc.b [(2+3)*4] ; note" reads Some (read 20) ∷ bytes "LIM DC.W [1-2+3]" reads Some far
    ∷ bytes "DC.L [1 +2]" reads Some bad ∷ bytes "X: DC.L [1:2]" reads Some (failed no_digits) ∷ bytes "ORG [2]" reads Some bad ∷ bytes "DS.L [5]" reads None ∷ []

pub record SumExamples : Type 0 where
  pub of_sums : SamplesHold sum_reading samples_of_sums
  pub lines_agree : SamplesHold line_reading samples_of_sum_lines
