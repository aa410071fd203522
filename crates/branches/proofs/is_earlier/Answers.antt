-- `is_earlier`: none of the rows before. Assumes nothing.
use Rattle.std.proofs.Common.{◌≡◌, true, false, arith, rules}
use borrow.Author.Tests.{tests}
use Rattle.std.proofs.lemmas.Iterator.{cases_from_any, YieldsList-from_range}
use Rattle.rules.specs.Text.{same}
use Rattle.requests.specs.Branches.{four_of}
use Rattle.branches.proofs.Laws.{same_pointwise, earlier_by}
use Rattle.branches.proofs.is_earlier.Goals as goal

pub returns : goal.returns
returns c =
    rw (c.name_of-name.ensures) at
    (earlier_by _ _ _ _
    (cases_from_any _ _ _ (λ i. same (four_of c.args.bytes.now i) c.name_of-name.result.now ≡ true) (λ i. same (four_of c.args.bytes.now i) c.name_of-name.result.now ≡ false) c.any.ensures.ran
    (YieldsList-from_range 0 c.args.k c.args.k (cc) (omega arith)) (λ x q k. search (same_pointwise, rules, tests)) (λ x q k. search (same_pointwise, rules, tests))))
