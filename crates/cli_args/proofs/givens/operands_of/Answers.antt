-- Each operand is added.
use Rattle.std.proofs.Common.{arith, map, ap}
use Rattle.cli_args.specs.Asked.{operands_of}
use Rattle.cli_args.specs.Lexed.{given_of}
use Rattle.cli_args.proofs.Gathered.{gathers_first, gathers_next, gathers_last, operands_listed, no_operands}
use Rattle.cli_args.proofs.givens.operands_of.Goals as goal

pub loop-k-init : goal.loop-k-init
loop-k-init c = gathers_first operands_of given_of c.args.givens.now _ (ap (map (λ s. s.now)) c.new-operands.ensures.items)

pub loop-k-preserved : goal.loop-k-preserved
loop-k-preserved c =
    gathers_next operands_of given_of c.args.givens.now c.loop-k.k _ c.loop-k.invariant _ c.loop-k-test.true _ _
    (operands_listed _) (rw c.operand_in.ensures at c.in_ok-add.ensures)

pub returns : goal.returns
returns c = gathers_last operands_of given_of c.args.givens.now c.loop-k.k _ c.loop-k.invariant no_operands (omega (arith, c.loop-k-test.false))
