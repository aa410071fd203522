-- What follows the name.
use Rattle.cli_args.proofs.Options.{is_given}
use Rattle.cli_args.proofs.lexing.given_as.Goals as goal

pub returns-in-Some : goal.returns-in-Some
returns-in-Some c =
    let k = c.in-Some.ensures.cases in
    is_given c.args.setting c.name.result.now c.args.word.now c.in-Some.rest.now k.0 c.is_long.result _ c.name.ensures k.1.1 k.2 c.is_long.ensures c.attached.ensures
