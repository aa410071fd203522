-- `data_number` reads the directive's second piece where `DC.` stands. Assumes nothing.
use Rattle.rules.specs.Text.{bytes}
use Rattle.directive.proofs.Steps.{no_number, data_number}
use Rattle.directive.proofs.data_number.Goals as goal

pub returns-then-not-contains_upper : goal.returns-then-not-contains_upper
unfolding bytes
returns-then-not-contains_upper c = no_number _ c.contains_upper.ensures c.if-not-contains_upper.true

pub returns : goal.returns
unfolding bytes
returns c = data_number _ c.contains_upper.ensures c.if-not-contains_upper.false c.data_head-head.ensures c.second_value.ensures
