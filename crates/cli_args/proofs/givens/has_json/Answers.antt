-- One of them is --json.
use Rattle.std.proofs.Common.{◌∙◌}
use Rattle.cli_args.specs.Asked.{is_json}
use Rattle.cli_args.specs.Lexed.{given_of}
use Rattle.cli_args.proofs.Gathered.{any_of_map}
use Rattle.cli_args.proofs.givens.has_json.Goals as goal

pub returns : goal.returns
returns c = c.any_json.ensures ∙ any_of_map is_json given_of c.args.givens.now
