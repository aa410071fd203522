-- The longest list: by a lawful pair at most so many places for each line, by the stations' call two. Assumes nothing.
use native.Mathlib.Omega.{arith}
use borrow.Author.Tests.{ltb-false}
use lib.ListN.{length}
use Rattle.rules.specs.Limits.{max_lines}
use Rattle.rules.specs.Text.{cut_at}
use Rattle.rules.specs.Line.{size}
use Rattle.rules.specs.Encode.{encode, mnemonics}
use Rattle.promises.specs.Lawful.{RulesAreLawful}
use Rattle.promises.specs.Longest.{AtMostALine, AtMostTwoALine}
use Rattle.promises.proofs.Accepted.{accepts}
use Rattle.promises.proofs.Fit.{listed}
use Rattle.promises.proofs.Lawful.{rules_are_lawful}

pub at_most_a_line : AtMostALine
unfolding AtMostALine
at_most_a_line z e most law s b l f =
    ((listed law b s l f).count, ltb-false max_lines (length (cut_at 10 s)) (accepts z e b s l f).through.lines)

pub at_most_two_a_line : AtMostTwoALine
unfolding AtMostALine AtMostTwoALine RulesAreLawful
at_most_two_a_line s b l f =
    let h = at_most_a_line size encode 2 (rules_are_lawful mnemonics) s b l f in
    (h.0, omega (arith, h.0, h.1))
