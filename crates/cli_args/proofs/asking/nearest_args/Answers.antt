-- The base, the address, and what is given besides.
use Rattle.std.proofs.Common.{map}
use Rattle.cli_args.specs.Lexed.{givens_of}
use Rattle.cli_args.specs.Parsed.{work_of_args}
use Rattle.cli_args.proofs.Works.{handed_on, nearest_base_wrong, nearest_is, nearest_wrong}
use Rattle.cli_args.proofs.asking.nearest_args.Goals as goal

pub returns-in_err-base : goal.returns-in_err-base
returns-in_err-base c =
    handed_on work_of_args c.from_residual.result _ _ c.from_residual.ensures.1 (nearest_base_wrong (givens_of c.args.givens.now) _ c.in_err-base.ensures)

pub returns-in_err-address : goal.returns-in_err-address
returns-in_err-address c =
    handed_on work_of_args c.from_residual-in_err-address.result _ _ c.from_residual-in_err-address.ensures.1
    (nearest_wrong (givens_of c.args.givens.now) (map (λ s. s.now) c.args.operands.now) c.requires _ c.in_ok-base.ensures _ c.in_err-address.ensures)

pub returns : goal.returns
returns c = nearest_is (givens_of c.args.givens.now) (map (λ s. s.now) c.args.operands.now) c.requires _ c.in_ok-base.ensures _ _ _ c.has_json.ensures c.in_ok-address.ensures c.file_at.ensures
