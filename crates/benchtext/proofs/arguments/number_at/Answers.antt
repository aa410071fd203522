-- `arguments::number_at` meets its contract. Assumes nothing.
use mathlib.Core.Path.{sym, ◌∙◌, ap}
use Rattle.std.specs.Result.{result_ok}
use Rattle.benchtext.specs.Arguments.{number_at}
use Rattle.benchtext.proofs.Numbers.{ok_value}
use Rattle.benchtext.proofs.arguments.number_at.Goals as goal

pub returns-then-is_decimal : goal.returns-then-is_decimal
unfolding number_at
returns-then-is_decimal c = rw (sym c.is_decimal.ensures ∙ c.if-is_decimal.true) (c.ok.ensures.value ∙ ap result_ok c.read_digits.ensures ∙ ok_value _)

pub returns-else-is_decimal : goal.returns-else-is_decimal
unfolding number_at
returns-else-is_decimal c = rw (sym c.is_decimal.ensures ∙ c.if-is_decimal.false) (c.ok-else-is_decimal.ensures.value ∙ ap result_ok c.hexadecimal.ensures ∙ ok_value _)
