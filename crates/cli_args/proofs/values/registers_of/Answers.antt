-- Each register has its number.
use Rattle.std.proofs.Common.{arith, refl}
use Rattle.cli_args.specs.Lexed.{givens_of}
use Rattle.cli_args.proofs.Registers.{filled_first, filled_next, filled_wrong, filled_last}
use Rattle.cli_args.proofs.values.registers_of.Goals as goal

pub loop-k-init : goal.loop-k-init
loop-k-init c = filled_first (givens_of c.args.givens.now) _ refl

pub loop-k-preserved : goal.loop-k-preserved
loop-k-preserved c = filled_next (givens_of c.args.givens.now) c.loop-k.k _ c.loop-k.invariant _ c.loop-k-test.true _ c.in-Ok.ensures

pub returns-in-Err : goal.returns-in-Err
returns-in-Err c = filled_wrong (givens_of c.args.givens.now) c.loop-k.k _ c.loop-k.invariant _ c.loop-k-test.true _ c.in-Err.ensures

pub returns : goal.returns
returns c = filled_last (givens_of c.args.givens.now) c.loop-k.k _ c.loop-k.invariant (omega (arith, c.loop-k-test.false))
