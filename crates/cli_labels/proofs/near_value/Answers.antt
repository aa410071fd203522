-- The value of the label that the call names, which lies in the script, or the refusal.
use Rattle.neartext.proofs.Told.{label_within}
use Rattle.jsontext.proofs.Accepted.{nearest_ascii}
use Rattle.cli_labels.proofs.Told.{near_made, near_refused}
use Rattle.cli_labels.proofs.near_value.Goals as goal

pub nearest_text-requires-clause-within : goal.nearest_text-requires-clause-within
nearest_text-requires-clause-within c = label_within c.args.base c.args.address _ c.in-Ok.ensures

pub nearest_text-requires-clause-ascii : goal.nearest_text-requires-clause-ascii
nearest_text-requires-clause-ascii c = nearest_ascii c.args.base c.args.address _ c.in-Ok.ensures

pub returns-in-Ok-nearest_text : goal.returns-in-Ok-nearest_text
returns-in-Ok-nearest_text c = near_made _ _ _ c.in-Ok.ensures c.in-Ok-nearest_text.ensures

pub returns-in-Err : goal.returns-in-Err
returns-in-Err c = near_refused _ _ _ c.in-Err.ensures
