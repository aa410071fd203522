-- What the readers of sums answer, against the definitions: from a place on, an expression's worth and where it ends. Assumes nothing.
use Rattle.std.specs.Prelude.{ℕ, ◌≤◌, ◌≡◌, cond, eqb, length, drop, Option, None, Some, Result, Ok, Err}
use Rattle.rules.specs.Text.{Text}
use Rattle.rules.specs.Sum.{Expression, Parse, malformed, parsed, sum_step, difference_step, product_step, exact_value}
use Rattle.numeral.specs.declared.Failure.{Failure}
use Rattle.numeral.specs.declared.Failure.TheVariants.{NoDigits, BadDigit, OutOfRange}
use Rattle.sum.specs.declared.Front.{Front}

-- the step of the operator c
abbrev pub step_of : ℕ → ℕ → ℕ → Option ℕ
step_of c = cond (eqb c 43) sum_step (cond (eqb c 45) difference_step product_step)

abbrev pub front : Option ℕ → ℕ → Front
front w n = record { worth = w; end = n }

-- a number that ends at n
abbrev pub number_front : Result ℕ Failure → ℕ → Option Front
number_front (Ok v) n = Some (front (Some v) n)
number_front (Err NoDigits) n = None
number_front (Err BadDigit) n = None
number_front (Err OutOfRange) n = Some (front None n)

-- x is an expression, read from `at` on, with f's worth and end
pub record ReadTo (t : Text) (at : ℕ) (x : Parse) (f : Front) : Type 0 where
  pub expression : Expression
  pub reads : x ≡ parsed expression (drop f.end t)
  pub is_worth : f.worth ≡ exact_value expression
  pub reached : at ≤ f.end
  pub inside : f.end ≤ length t

abbrev pub Told : Text → ℕ → Parse → Option Front → Type 0
Told t at x None = x ≡ malformed
Told t at x (Some f) = ReadTo t at x f

-- the answer r, from `at` on, is x
pub record Says (t : Text) (at : ℕ) (x : Parse) (r : Option Front) : Type 0 where
  pub told : Told t at x r
