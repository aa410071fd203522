-- `line_number` tries the steps in their order. Assumes nothing.
use Rattle.std.proofs.Common.{sym, eqb-true}
use borrow.Author.Tests.{eqb-false}
use Rattle.rules.specs.Text.{bytes}
use Rattle.directive.proofs.Steps.{trimmed_leading, says_empty, says_note, says_end, says_org, says_rest}
use Rattle.directive.proofs.line_number.Goals as goal
use Rattle.directive.proofs.line_number.Goals.{then-is_empty-via-then-is_empty, then-is_empty-via-else-is_empty+then-t-eq59, then-is_empty-via-else-is_empty+else-t-eq59+then-starts_upper}

pub returns-then-is_empty : goal.returns-then-is_empty
unfolding bytes
returns-then-is_empty c =
    elim c.then-is_empty.branch [
      | then-is_empty-via-then-is_empty w ↦ says_empty _ c.trimmed-t.ensures (eqb-true _ 0 (sym w.if-is_empty.ensures))
      | then-is_empty-via-else-is_empty+then-t-eq59 w ↦ says_note _ c.trimmed-t.ensures w.if-t-eq59.true
      | then-is_empty-via-else-is_empty+else-t-eq59+then-starts_upper w ↦
          says_end _ c.trimmed-t.ensures (eqb-false _ 0 (sym w.if-is_empty.ensures)) w.if-t-eq59.false w.starts_upper.ensures w.if-starts_upper.true
    ]

pub returns-then-starts_upper-2 : goal.returns-then-starts_upper-2
unfolding bytes
returns-then-starts_upper-2 c =
    says_org _ c.trimmed-t.ensures (eqb-false _ 0 (sym c.if-is_empty.ensures)) c.if-t-eq59.false
    c.starts_upper.ensures c.if-starts_upper.false
    c.starts_upper-2.ensures c.if-starts_upper-2.true c.second_number.ensures

pub data_number-requires : goal.data_number-requires
data_number-requires c = rw c.after_label.ensures (trimmed_leading _ c.trimmed-t.ensures)

pub returns : goal.returns
unfolding bytes
returns c =
    says_rest _ c.trimmed-t.ensures (eqb-false _ 0 (sym c.if-is_empty.ensures)) c.if-t-eq59.false
    c.starts_upper.ensures c.if-starts_upper.false
    c.starts_upper-2.ensures c.if-starts_upper-2.false c.after_label.ensures c.data_number.ensures
