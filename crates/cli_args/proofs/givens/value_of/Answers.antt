-- The last value counts.
use Rattle.std.proofs.Common.{arith}
use Rattle.cli_args.specs.Asked.{value_in, value_of}
use Rattle.cli_args.specs.Lexed.{given_of}
use Rattle.cli_args.proofs.Gathered.{later_first, later_next, later_last, value_cons, no_value}
use Rattle.cli_args.proofs.givens.value_of.Goals as goal

pub loop-k-init : goal.loop-k-init
loop-k-init c = later_first (value_of c.args.setting) (value_in c.args.setting) given_of c.args.givens.now

pub loop-k-preserved : goal.loop-k-preserved
loop-k-preserved c =
    later_next (value_of c.args.setting) (value_in c.args.setting) given_of c.args.givens.now (value_cons c.args.setting) c.loop-k.k _ c.loop-k.invariant _ c.loop-k-test.true _ c.later_value-value.ensures

pub returns : goal.returns
returns c =
    later_last (value_of c.args.setting) (value_in c.args.setting) given_of c.args.givens.now c.loop-k.k _ c.loop-k.invariant (no_value c.args.setting) (omega (arith, c.loop-k-test.false))
