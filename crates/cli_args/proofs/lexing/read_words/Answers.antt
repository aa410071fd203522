-- Each word is read.
use Rattle.std.proofs.Common.{refl, arith, string_bytes, map}
use Rattle.cli_args.specs.Given.{given_in}
use Rattle.cli_args.specs.Lexed.{givens_of, mode_of}
use Rattle.cli_args.proofs.Steps.{goes_on, ends_at, at_end}
use Rattle.cli_args.proofs.lexing.read_words.Goals as goal

pub loop-k-init : goal.loop-k-init
loop-k-init c = record { same = rw c.new-givens.ensures.items refl }

pub loop-k-preserved : goal.loop-k-preserved
loop-k-preserved c =
    goes_on (λ w. string_bytes w) c.args.command c.args.words.now (given_in c.args.command (map (λ w. string_bytes w) c.args.words.now)) c.loop-k.k (givens_of c.loop-k.givens.items) (mode_of c.loop-k.mode) c.loop-k.invariant _ c.loop-k-test.true _ _
    (rw (c.as_str.ensures.value, c.index-words-k.is) at c.in-Ok.ensures)

pub returns-in-Err : goal.returns-in-Err
returns-in-Err c =
    ends_at (λ w. string_bytes w) c.args.command c.args.words.now (given_in c.args.command (map (λ w. string_bytes w) c.args.words.now)) c.loop-k.k (givens_of c.loop-k.givens.items) (mode_of c.loop-k.mode) c.loop-k.invariant _ c.loop-k-test.true c.in-Err.stop
    (rw (c.as_str.ensures.value, c.index-words-k.is) at c.in-Err.ensures)

pub returns : goal.returns
returns c =
    rw (at_end (λ w. string_bytes w) c.args.command c.args.words.now (given_in c.args.command (map (λ w. string_bytes w) c.args.words.now)) c.loop-k.k (givens_of c.loop-k.givens.items) (mode_of c.loop-k.mode) c.loop-k.invariant (omega (arith, c.loop-k-test.false)))
    c.read_end.ensures
