-- `Places::put_value` puts a value's two halves. Assumes nothing.
use Rattle.std.proofs.Common.{refl}
use Rattle.emit.proofs.Slices.{taken_none, taken_as}
use Rattle.emit.proofs.LineCode.{no_value, value_places}
use Rattle.emit.proofs.places.Places.put_value.Goals as goal

pub returns-in_default : goal.returns-in_default
returns-in_default c = λ source. taken_none _ _ _ (no_value source _ c.args.task c.in_default.not-Value)

pub returns-in-Value : goal.returns-in-Value
returns-in-Value c = λ source. taken_as (value_places source _ c.args.task c.in-Value.is c.high_word-high.ensures c.low_word.ensures) (record { count = refl; puts = c.put_two.ensures })
