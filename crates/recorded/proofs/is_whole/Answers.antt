-- `is_whole` meets its contract: each return is one part that is not whole, and past all of them the call is. Assumes nothing.
use Rattle.std.proofs.Common.{sym, ◌∙◌, arith, le-leb, leb-true}
use Rattle.calls.proofs.Compared.{refuses}
use Rattle.recorded.proofs.Parts.{whole_within, whole_source, within_whole}
use Rattle.recorded.proofs.is_whole.Goals as goal

pub returns-then-source-size_at : goal.returns-then-source-size_at
returns-then-source-size_at c = refuses (λ w. c.if-source-size_at.true (whole_source w ∙ sym c.size_at.ensures.value))

pub returns-then-size_at-gt-PLACES : goal.returns-then-size_at-gt-PLACES
returns-then-size_at-gt-PLACES c = refuses (λ w. omega (arith, (whole_within w).addresses, c.size_at-2.ensures.value))

pub returns-then-size_at-gt-PLACES-2 : goal.returns-then-size_at-gt-PLACES-2
returns-then-size_at-gt-PLACES-2 c = refuses (λ w. omega (arith, (whole_within w).words, c.size_at-3.ensures.value))

pub returns : goal.returns
returns c =
    let n = c.count-count.ensures in
    let a = c.args in (
      (λ e.
          within_whole
          a.source.now
          a.terms.now
          a.rows.now
          c.if-terms-ne-TERMS.false
          (c.if-source-size_at.false ∙ c.size_at.ensures.value)
          (omega arith)
          (omega arith)
          (record {
            addresses = omega arith;
            words = omega arith;
            marks = omega (arith, leb-true c.size_at-4.result 9000 e, c.size_at-4.ensures.value);
          })),
      (λ w. le-leb c.size_at-4.result 9000 (omega (arith, (whole_within w).marks, c.size_at-4.ensures.value))),
    )
