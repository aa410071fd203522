-- `reading::read_instruction`: by the head, and by the tail in place or a copy of it. Assumes nothing.
use native.Mathlib.Omega.{arith}
use mathlib.Core.Path.{sym, ◌∙◌}
use Rattle.instruction.proofs.FirstPiece.{head_of_lem}
use Rattle.instruction.proofs.Joined.{start_within}
use Rattle.encode_manual.proofs.HeadsFound.{conditioned}
use Rattle.encode_manual.proofs.Instructions.{encoded, encoded_there, unnamed}
use Rattle.encode_manual.proofs.reading.read_instruction.Goals as goal

pub slice_bounds-find_operation-count : goal.slice_bounds-find_operation-count
slice_bounds-find_operation-count g c = (head_of_lem _ _ c.read_head-head.ensures).ordered

pub slice_bounds-find_operation-start : goal.slice_bounds-find_operation-start
slice_bounds-find_operation-start g c = omega (arith, head_of_lem _ _ c.read_head-head.ensures)

pub slice_bounds-find_operation-end : goal.slice_bounds-find_operation-end
slice_bounds-find_operation-end g c = omega (arith, head_of_lem _ _ c.read_head-head.ensures)

pub read_form-requires : goal.read_form-requires
read_form-requires g c = (_, unnamed _ _ c.read_head-head.ensures (sym c.find_operation.ensures ∙ c.in_default.is))

pub returns-in_default : goal.returns-in_default
returns-in_default g c = c.read_form.ensures _ (unnamed _ _ c.read_head-head.ensures (sym c.find_operation.ensures ∙ c.in_default.is))

pub skip_blanks-start-requires : goal.skip_blanks-start-requires
skip_blanks-start-requires g c = (head_of_lem _ _ c.read_head-head.ensures).within

pub is_joined-requires : goal.is_joined-requires
is_joined-requires g c = omega (arith, start_within _ _ _ c.skip_blanks-start.ensures (head_of_lem _ _ c.read_head-head.ensures).within)

pub slice_bounds-read_tail-count : goal.slice_bounds-read_tail-count
slice_bounds-read_tail-count g c = start_within _ _ _ c.skip_blanks-start.ensures (head_of_lem _ _ c.read_head-head.ensures).within

pub slice_bounds-read_tail-start : goal.slice_bounds-read_tail-start
slice_bounds-read_tail-start g c = omega (arith, start_within _ _ _ c.skip_blanks-start.ensures (head_of_lem _ _ c.read_head-head.ensures).within)

pub read_tail-requires : goal.read_tail-requires
read_tail-requires g c = conditioned _ (sym c.find_operation.ensures ∙ c.in-Some.is)

pub returns-then-is_joined : goal.returns-then-is_joined
returns-then-is_joined g c = rw (encoded_there _ _ c.read_head-head.ensures c.suffix_of-x.ensures (sym c.find_operation.ensures ∙ c.in-Some.is) c.skip_blanks-start.ensures c.is_joined.ensures c.if-is_joined.true) at c.read_tail.ensures

pub read_copied-requires : goal.read_copied-requires
read_copied-requires g c = record { conditioned = conditioned _ (sym c.find_operation.ensures ∙ c.in-Some.is); at = (head_of_lem _ _ c.read_head-head.ensures).within; short = c.requires }

pub returns-else-is_joined : goal.returns-else-is_joined
returns-else-is_joined g c = rw (encoded _ _ c.read_head-head.ensures c.suffix_of-x.ensures (sym c.find_operation.ensures ∙ c.in-Some.is)) at c.read_copied.ensures
