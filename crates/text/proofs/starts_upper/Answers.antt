-- `starts_upper` compares byte by byte, in upper case, once the text is long enough. Assumes nothing.
use Rattle.std.proofs.Common.{◌≡◌, ◌∙◌, sym, arith, rules, length}
use borrow.Author.Tests.{tests, lt-leb}
use lib.ListN.{get_or}
use Rattle.std.proofs.lemmas.Iterator.{cases_from_all, YieldsList-from_range}
use Rattle.rules.specs.Text.{upper}
use Rattle.text.proofs.Compare.{uppers_short, starts_upper_by}
use Rattle.text.proofs.starts_upper.Goals as goal

pub returns-then-p-t : goal.returns-then-p-t
returns-then-p-t c =
    starts_upper_by _ _ _ c.if-p-t.true
    (cases_from_all _ _ _ (λ i. upper (get_or c.args.t.now i 0) ≡ get_or c.args.p.now i 0) (λ i. upper (get_or c.args.t.now i 0) ≡ get_or c.args.p.now i 0 → ⊥) c.all.ensures.ran
    (YieldsList-from_range 0 (length c.args.p.now) (length c.args.p.now) (cc) (omega arith)) (λ x q k. search (rules, tests)) (λ x q k. search (rules, tests)))

pub returns-else-p-t : goal.returns-else-p-t
returns-else-p-t c = lt-leb _ _ c.if-p-t.false ∙ sym (uppers_short _ _ c.if-p-t.false)
