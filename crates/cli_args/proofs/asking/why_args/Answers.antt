-- The base, the line, and what is given besides.
use Rattle.std.proofs.Common.{map}
use Rattle.cli_run.specs.From.{from_of}
use Rattle.cli_args.specs.Lexed.{givens_of}
use Rattle.cli_args.specs.Parsed.{work_of_args}
use Rattle.cli_args.proofs.Works.{handed_on, why_base_wrong, why_is, line_wrong}
use Rattle.cli_args.proofs.asking.why_args.Goals as goal

pub returns-in_err-base : goal.returns-in_err-base
returns-in_err-base c =
    handed_on work_of_args c.from_residual.result _ _ c.from_residual.ensures.1 (why_base_wrong (givens_of c.args.givens.now) _ c.in_err-base.ensures)

pub returns-in_err-line : goal.returns-in_err-line
returns-in_err-line c =
    handed_on work_of_args c.from_residual-in_err-line.result _ _ c.from_residual-in_err-line.ensures.1
    (line_wrong (givens_of c.args.givens.now) (map from_of c.args.files.items) _ c.in_ok-base.ensures _ c.in_err-line.ensures)

pub returns : goal.returns
returns c = why_is (givens_of c.args.givens.now) (map from_of c.args.files.items) _ c.in_ok-base.ensures _ c.value_of.ensures c.requires _ _ c.has_json.ensures c.in_ok-line.ensures
