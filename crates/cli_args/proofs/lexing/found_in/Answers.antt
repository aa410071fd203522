-- The first option that the word is.
use Rattle.std.proofs.Common.{refl, sym, arith}
use Rattle.std.specs.Prelude.{option_map}
use Rattle.cli_args.specs.declared.table.TheConstants.{SETTINGS}
use Rattle.cli_args.proofs.Options.{is_this, is_another, is_none}
use Rattle.cli_args.proofs.lexing.found_in.Goals as goal

pub loop-k-init : goal.loop-k-init
loop-k-init c = refl

pub loop-k-preserved : goal.loop-k-preserved
loop-k-preserved c = is_another c.args.command c.args.word.now SETTINGS c.loop-k.k c.loop-k.invariant _ c.loop-k-test.true (sym c.in-None.ensures)

pub returns-in-Some : goal.returns-in-Some
returns-in-Some c =
    sym (is_this c.args.command c.args.word.now SETTINGS c.loop-k.k c.loop-k.invariant _ c.loop-k-test.true (option_map (λ s. s.now) c.in-Some.with) (sym c.in-Some.ensures))

pub returns : goal.returns
returns c = sym (is_none c.args.command c.args.word.now SETTINGS c.loop-k.k c.loop-k.invariant (omega (arith, c.loop-k-test.false)))
