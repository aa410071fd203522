-- `contains_upper` looks at each place where the text has room. Assumes nothing.
use Rattle.std.proofs.Common.{◌≡◌, ◌+◌, ◌-◌, true, false, arith, rules, length, drop}
use borrow.Author.Tests.{tests}
use Rattle.std.proofs.lemmas.Iterator.{cases_from_any, YieldsList-from_range}
use Rattle.rules.specs.Text.{starts, uppers}
use Rattle.text.proofs.Contains.{contains_empty, contains_none, contains_by}
use Rattle.text.proofs.contains_upper.Goals as goal

pub returns-then-p-eq0 : goal.returns-then-p-eq0
returns-then-p-eq0 c = contains_empty _ _ c.if-p-eq0.true

pub returns-then-t-p : goal.returns-then-t-p
returns-then-t-p c = search contains_none

pub returns : goal.returns
returns c =
    contains_by _ _ _ c.if-p-eq0.false c.if-t-p.false
    (cases_from_any _ _ _ (λ i. starts c.args.p.now (uppers (drop i c.args.t.now)) ≡ true) (λ i. starts c.args.p.now (uppers (drop i c.args.t.now)) ≡ false) c.any.ensures.ran
    (YieldsList-from_range 0 (length c.args.t.now - length c.args.p.now + 1) (length c.args.t.now - length c.args.p.now + 1) (cc) (omega arith)) (λ x q k. search (rules, tests)) (λ x q k. search (rules, tests)))
