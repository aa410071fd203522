-- Each value is added.
use Rattle.std.proofs.Common.{arith, map, ap}
use Rattle.cli_args.specs.Asked.{values_of}
use Rattle.cli_args.specs.Lexed.{given_of}
use Rattle.cli_args.proofs.Gathered.{gathers_first, gathers_next, gathers_last, values_listed, no_values}
use Rattle.cli_args.proofs.givens.values_of.Goals as goal

pub loop-k-init : goal.loop-k-init
loop-k-init c = gathers_first (values_of c.args.setting) given_of c.args.givens.now _ (ap (map (λ s. s.now)) c.new-values.ensures.items)

pub loop-k-preserved : goal.loop-k-preserved
loop-k-preserved c =
    gathers_next (values_of c.args.setting) given_of c.args.givens.now c.loop-k.k _ c.loop-k.invariant _ c.loop-k-test.true _ _
    (values_listed c.args.setting _) (rw c.value_in.ensures at c.in_ok-add.ensures)

pub returns : goal.returns
returns c =
    gathers_last (values_of c.args.setting) given_of c.args.givens.now c.loop-k.k _ c.loop-k.invariant (no_values c.args.setting) (omega (arith, c.loop-k-test.false))
