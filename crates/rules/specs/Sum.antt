-- Sums in DC: the expression that a text in square brackets is, and its value by exact steps, with the answers of a reading. Assumes nothing.
use Rattle.std.specs.Prelude.{ℕ, zero, suc, ◌+◌, ◌-◌, ◌*◌, ◌^◌, Bool, true, false, ◌||◌, cond, [], ◌∷◌, leb, eqb, length, drop, Option, None, Some}
use Rattle.rules.specs.Limits.{max_nesting}
use Rattle.rules.specs.Text.{Text, cut_where, first_text}
use Rattle.rules.specs.Number.{Reading, read, failed, bad_digit, out_of_range, below, some_digits, by_prefix}

-- ---- what is written
-- "a bracketed sum may hold products, and a product a parenthesised sum"
pub data Expression : Type 0 where
  numeral : ℕ → Expression
  group : Expression → Expression
  sum difference product : Expression → Expression → Expression

-- what stands in front of a text: nothing well-formed, or an expression and the text after it
pub data Parse : Type 0 where
  malformed : Parse
  parsed : Expression → Text → Parse

unfoldable pub and_parse : Parse → (Expression → Text → Parse) → Parse
and_parse malformed f = malformed
and_parse (parsed e r) f = f e r

-- two expressions with the operator c between them
unfoldable pub applied : ℕ → Expression → Expression → Expression
applied c a b = cond (eqb c 43) (sum a b) (cond (eqb c 45) (difference a b) (product a b))

-- "equal rank goes from the left": each operator that passes f, with the item after it, after the expression so far; k is at least as many as there are
unfoldable pub chain_by : (ℕ → Bool) → (Text → Parse) → ℕ → Expression → Text → Parse
chain_by f item zero a s = parsed a s
chain_by f item (suc k) a [] = parsed a []
chain_by f item (suc k) a (c ∷ s) =
    elim (f c) [ true ↦ and_parse (item s) (λ b r. chain_by f item k (applied c a b) r) | false ↦ parsed a (c ∷ s) ]

unfoldable pub chain : (ℕ → Bool) → (Text → Parse) → Expression → Text → Parse
chain f item a s = chain_by f item (length s) a s

-- an item, and the chain after it
unfoldable pub series : (ℕ → Bool) → (Text → Parse) → Text → Parse
series f item s = and_parse (item s) (λ a r. chain f item a r)

-- `*`
unfoldable pub is_times : ℕ → Bool
is_times c = eqb c 42

-- `+` and `-`
unfoldable pub is_sign : ℕ → Bool
is_sign c = eqb c 43 || eqb c 45

-- a byte that ends a number: an operator, a parenthesis, the closing bracket
unfoldable pub is_operator : ℕ → Bool
is_operator c = is_times c || is_sign c || eqb c 40 || eqb c 41 || eqb c 93

-- "Numbers are as in DC, without a sign", of any size
unfoldable pub plain_number : Text → Reading ℕ
plain_number s = by_prefix (λ r t. some_digits r t) s

unfoldable pub as_number : Reading ℕ → Text → Parse
as_number (read v) r = parsed (numeral v) r
as_number (failed x) r = malformed

-- a number in front: the text before the first operator
unfoldable pub number_first : Text → Parse
number_first s = let n = first_text (cut_where is_operator s) in as_number (plain_number n) (drop (length n) s)

-- the parenthesis after a sum
unfoldable pub paren_closed : Parse → Parse
paren_closed malformed = malformed
paren_closed (parsed a []) = malformed
paren_closed (parsed a (c ∷ r)) = cond (eqb c 41) (parsed (group a) r) malformed

-- a number, or a sum in parentheses, of which so many more may be opened: "Parentheses nest at most 16 deep"
unfoldable pub atom_of : ℕ → Text → Parse
atom_of zero [] = malformed
atom_of zero (b ∷ s) = cond (eqb b 40) malformed (number_first (b ∷ s))
atom_of (suc d) [] = malformed
atom_of (suc d) (b ∷ s) = cond (eqb b 40) (paren_closed (series is_sign (series is_times (atom_of d)) s)) (number_first (b ∷ s))

-- "`*` goes before `+` and `-`": a product of atoms, a sum of products
abbrev pub product_of : ℕ → Text → Parse
product_of d s = series is_times (atom_of d) s

abbrev pub sum_of : ℕ → Text → Parse
sum_of d s = series is_sign (series is_times (atom_of d)) s

-- the closing bracket, with which the text ends
unfoldable pub ended : Parse → Option Expression
ended malformed = None
ended (parsed a []) = None
ended (parsed a (c ∷ [])) = cond (eqb c 93) (Some a) None
ended (parsed a (c ∷ b ∷ r)) = None

-- "a sum in square brackets": the whole text
unfoldable pub bracketed : Text → Option Expression
bracketed [] = None
bracketed (b ∷ s) = cond (eqb b 91) (ended (sum_of max_nesting s)) None

-- ---- what it is worth
-- a step between two values, where there are both
unfoldable pub stepped : (ℕ → ℕ → Option ℕ) → Option ℕ → Option ℕ → Option ℕ
stepped f None w = None
stepped f (Some a) None = None
stepped f (Some a) (Some b) = f a b

-- "any step below 0 or above 2^32 − 1, yields no value"
unfoldable pub sum_step : ℕ → ℕ → Option ℕ
sum_step a b = below (2 ^ 32) (a + b)

unfoldable pub difference_step : ℕ → ℕ → Option ℕ
difference_step a b = cond (leb b a) (Some (a - b)) None

unfoldable pub product_step : ℕ → ℕ → Option ℕ
product_step a b = below (2 ^ 32) (a * b)

-- the value of an expression, if every number and every step is in range
unfoldable pub exact_value : Expression → Option ℕ
exact_value (numeral v) = below (2 ^ 32) v
exact_value (group a) = exact_value a
exact_value (sum a b) = stepped sum_step (exact_value a) (exact_value b)
exact_value (difference a b) = stepped difference_step (exact_value a) (exact_value b)
exact_value (product a b) = stepped product_step (exact_value a) (exact_value b)

-- ---- as a reading
unfoldable pub ranging : Option ℕ → Reading ℕ
ranging None = failed out_of_range
ranging (Some v) = read v

-- "A malformed or deeper sum .. a bad digit, which comes before the last, too large or too small"
unfoldable pub evaluated : Option Expression → Reading ℕ
evaluated None = failed bad_digit
evaluated (Some a) = ranging (exact_value a)

-- what a text says that starts with `[`
unfoldable pub sum_reading : Text → Reading ℕ
sum_reading t = evaluated (bracketed t)
