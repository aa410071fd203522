-- `is_joined` tests one byte after the other. Assumes nothing.
use Rattle.std.proofs.Common.{◌≡◌, ◌-◌, true, false, arith, rules, length, drop}
use borrow.Author.Tests.{tests}
use Rattle.std.proofs.lemmas.Iterator.{cases_from_all, YieldsList-from_range}
use Rattle.instruction.specs.Joined.{is_single}
use Rattle.instruction.proofs.Joined.{joined_by}
use Rattle.instruction.proofs.is_joined.Goals as goal

pub returns : goal.returns
returns c =
    joined_by _ _ _ c.requires
    (cases_from_all _ _ _ (λ i. is_single (drop i c.args.t.now) ≡ true) (λ i. is_single (drop i c.args.t.now) ≡ false) c.all.ensures.ran
    (YieldsList-from_range c.args.at (length c.args.t.now) (length c.args.t.now - c.args.at) (cc) (omega arith)) (λ x q k. search (rules, tests)) (λ x q k. search (rules, tests)))
