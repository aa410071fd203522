-- `judge` meets its contract: each return is a test that fails, and past all of them the call agrees. Assumes nothing.
use Rattle.std.proofs.Common.{arith}
use borrow.Author.Tests.{not-true, not-false}
use Rattle.recorded.proofs.Judged.{judge_short, judge_call, judge_no_terms, judge_terms, assembly_cut, assembly_differs, assembly_agrees}
use Rattle.std.proofs.Common.{ap, not}
use Rattle.recorded.proofs.judge.Goals as goal

pub returns-then-bytes-lt-CALL_FRONT : goal.returns-then-bytes-lt-CALL_FRONT
returns-then-bytes-lt-CALL_FRONT c = judge_short _ c.if-bytes-lt-CALL_FRONT.true

pub returns-then-bytes-ne-ASSEMBLE : goal.returns-then-bytes-ne-ASSEMBLE
returns-then-bytes-ne-ASSEMBLE c = judge_call c.args.bytes.now c.if-bytes-lt-CALL_FRONT.false (λ e. omega arith) c.judge_call.ensures

pub returns-then-bytes-lt-FRONT : goal.returns-then-bytes-lt-FRONT
returns-then-bytes-lt-FRONT c = judge_no_terms c.args.bytes.now c.if-bytes-lt-CALL_FRONT.false (omega arith) c.if-bytes-lt-FRONT.true

pub returns-then-bytes-end : goal.returns-then-bytes-end
returns-then-bytes-end c = judge_terms c.args.bytes.now c.if-bytes-lt-CALL_FRONT.false (omega arith) c.if-bytes-lt-FRONT.false _ c.size_at-end.ensures.value (assembly_cut _ _ c.if-bytes-end.true)

pub returns-then-not-agrees : goal.returns-then-not-agrees
returns-then-not-agrees c = judge_terms c.args.bytes.now c.if-bytes-lt-CALL_FRONT.false (omega arith) c.if-bytes-lt-FRONT.false _ c.size_at-end.ensures.value (assembly_differs _ _ c.if-bytes-end.false _ c.agrees.ensures (not-true _ (ap not c.if-not-agrees.true)))

pub returns : goal.returns
returns c = judge_terms c.args.bytes.now c.if-bytes-lt-CALL_FRONT.false (omega arith) c.if-bytes-lt-FRONT.false _ c.size_at-end.ensures.value (assembly_agrees _ _ c.if-bytes-end.false _ c.agrees.ensures (not-false _ (ap not c.if-not-agrees.false)) _ c.count.ensures)
