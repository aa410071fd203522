-- The last words of -w count.
use Rattle.std.proofs.Common.{arith}
use Rattle.cli_args.specs.Asked.{last_of, tries_of}
use Rattle.cli_args.specs.Lexed.{given_of}
use Rattle.cli_args.specs.Parsed.{three_in}
use Rattle.cli_args.proofs.Gathered.{later_first, later_next, later_last, three_cons, no_three}
use Rattle.cli_args.proofs.givens.three_of.Goals as goal

pub loop-k-init : goal.loop-k-init
loop-k-init c = later_first (λ gs. last_of (tries_of gs)) three_in given_of c.args.givens.now

pub loop-k-preserved : goal.loop-k-preserved
loop-k-preserved c =
    later_next (λ gs. last_of (tries_of gs)) three_in given_of c.args.givens.now three_cons c.loop-k.k _ c.loop-k.invariant _ c.loop-k-test.true _ c.later_three-three.ensures

pub returns : goal.returns
returns c =
    later_last (λ gs. last_of (tries_of gs)) three_in given_of c.args.givens.now c.loop-k.k _ c.loop-k.invariant no_three (omega (arith, c.loop-k-test.false))
