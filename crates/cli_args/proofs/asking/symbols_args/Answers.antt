-- The base, and what is given besides.
use Rattle.std.proofs.Common.{map}
use Rattle.cli_args.specs.Lexed.{givens_of}
use Rattle.cli_args.specs.Parsed.{work_of_args}
use Rattle.cli_args.proofs.Works.{handed_on, symbols_wrong, symbols_is}
use Rattle.cli_args.proofs.asking.symbols_args.Goals as goal

pub returns-in_err-base : goal.returns-in_err-base
returns-in_err-base c =
    handed_on work_of_args c.from_residual.result _ _ c.from_residual.ensures.1 (symbols_wrong (givens_of c.args.givens.now) _ c.in_err-base.ensures)

pub returns : goal.returns
returns c = symbols_is (givens_of c.args.givens.now) (map (λ s. s.now) c.args.operands.now) c.requires _ c.in_ok-base.ensures _ _ c.has_json.ensures c.file_at.ensures
