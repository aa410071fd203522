-- `read_line` does steps 1 to 3 on the line between its outer blanks, then the others. Assumes nothing.
-- the line's outline, and how much is left of its text
use native.Mathlib.Omega.{arith}
use Rattle.rules.specs.Text.{bytes}
use Rattle.line.proofs.Answers.{text_in, Outlined, inner_trimmed, line_told, line_whole, says_org}
use Rattle.line.proofs.read_line.Goals as goal
use Rattle.line.proofs.read_line.Goals.{After-kept_length}

read : (c : After-kept_length) → Outlined c.args.source.now c.args.at c.args.o c.kept_length.result
read c = record { outline = c.requires.0; within = c.requires.1; size = c.kept_length.ensures }

pub slice_bounds-kept_length-count : goal.slice_bounds-kept_length-count
slice_bounds-kept_length-count c = (text_in c.requires.0 c.requires.1).ordered

pub slice_bounds-kept_length-start : goal.slice_bounds-kept_length-start
slice_bounds-kept_length-start c = (text_in c.requires.0 c.requires.1).ordered

pub slice_bounds-kept_length-end : goal.slice_bounds-kept_length-end
slice_bounds-kept_length-end c = (text_in c.requires.0 c.requires.1).inside

pub overflow_add-end : goal.overflow_add-end
overflow_add-end c = omega (arith, inner_trimmed (read c))

pub slice_bounds-t-end : goal.slice_bounds-t-end
slice_bounds-t-end c = (inner_trimmed (read c)).placed.inside

pub returns-then-starts_upper-2 : goal.returns-then-starts_upper-2
unfolding bytes
returns-then-starts_upper-2 c = says_org (read (goal.at.returns-then-starts_upper-2 c).After-kept_length) c.if-t-eq0.false c.if-t-eq59.false c.starts_upper.ensures c.if-starts_upper.false c.starts_upper-2.ensures c.if-starts_upper-2.true c.second_number.ensures c.org_task.ensures c.line_with-then-starts_upper-2.ensures

pub label_line-requires : goal.label_line-requires
label_line-requires c = (line_whole (read (goal.at.label_line-requires c).After-kept_length) c.if-t-eq0.false, line_told (read (goal.at.label_line-requires c).After-kept_length))
