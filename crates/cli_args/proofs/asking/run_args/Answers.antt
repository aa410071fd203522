-- The registers, the values of -w, START and LIMIT, and what is given besides.
use Rattle.std.proofs.Common.{map}
use Rattle.cli_args.specs.Lexed.{givens_of}
use Rattle.cli_args.specs.Parsed.{work_of_args}
use Rattle.cli_args.proofs.Works.{handed_on, registers_wrong, sweep_wrong, start_wrong, limit_wrong, run_is}
use Rattle.cli_args.proofs.asking.run_args.Goals as goal

pub returns-in_err-a : goal.returns-in_err-a
returns-in_err-a c =
    handed_on work_of_args c.from_residual.result _ _ c.from_residual.ensures.1 (registers_wrong (givens_of c.args.givens.now) (map (λ s. s.now) c.args.operands.now) c.requires _ c.in_err-a.ensures)

pub returns-in_err-sweep : goal.returns-in_err-sweep
returns-in_err-sweep c =
    handed_on work_of_args c.from_residual-in_err-sweep.result _ _ c.from_residual-in_err-sweep.ensures.1
    (sweep_wrong (givens_of c.args.givens.now) (map (λ s. s.now) c.args.operands.now) c.requires _ c.in_ok-a.ensures _ c.in_err-sweep.ensures)

pub returns-in_err-start : goal.returns-in_err-start
returns-in_err-start c =
    handed_on work_of_args c.from_residual-in_err-start.result _ _ c.from_residual-in_err-start.ensures.1
    (start_wrong (givens_of c.args.givens.now) (map (λ s. s.now) c.args.operands.now) c.requires _ c.in_ok-a.ensures _ c.in_ok-sweep.ensures _ c.in_err-start.ensures)

pub returns-in_err-limit : goal.returns-in_err-limit
returns-in_err-limit c =
    handed_on work_of_args c.from_residual-in_err-limit.result _ _ c.from_residual-in_err-limit.ensures.1
    (limit_wrong (givens_of c.args.givens.now) (map (λ s. s.now) c.args.operands.now) c.requires _ c.in_ok-a.ensures _ c.in_ok-sweep.ensures _ c.in_ok-start.ensures _ c.in_err-limit.ensures)

pub returns : goal.returns
returns c =
    run_is (givens_of c.args.givens.now) (map (λ s. s.now) c.args.operands.now) c.requires _ c.in_ok-a.ensures _ c.in_ok-sweep.ensures _ c.in_ok-start.ensures _ _ _ c.in_ok-limit.ensures c.has_json.ensures c.file_at.ensures
