-- The distance, and FILE.
use Rattle.std.proofs.Common.{arith, map, to_z-of_z, w32, SFits}
use Rattle.cli_args.specs.Lexed.{givens_of}
use Rattle.cli_args.specs.Parsed.{work_of_args}
use Rattle.cli_args.proofs.Works.{handed_on, move_wrong, move_is}
use Rattle.cli_args.proofs.asking.move_args.Goals as goal

pub returns-in_err-distance : goal.returns-in_err-distance
returns-in_err-distance c =
    handed_on work_of_args c.from_residual.result _ _ c.from_residual.ensures.1 (move_wrong (givens_of c.args.givens.now) (map (λ s. s.now) c.args.operands.now) c.requires _ c.in_err-distance.ensures)

pub returns : goal.returns
returns c =
    let fit : SFits w32 c.in_ok-distance.distance = record { sfits = omega arith } in
    rw (to_z-of_z fit)
    (move_is (givens_of c.args.givens.now) (map (λ s. s.now) c.args.operands.now) c.requires _ _ c.in_ok-distance.ensures c.file_at.ensures)
