-- `judge_call` meets its contract: each return is a test that fails, and past both of them the call agrees. Assumes nothing.
use Rattle.std.proofs.Common.{arith}
use borrow.Author.Tests.{not-true, not-false}
use Rattle.recorded.proofs.Bytes.{one_byte}
use Rattle.recorded.proofs.Judged.{call_cut, call_differs, call_agrees}
use Rattle.std.proofs.Common.{ap, not}
use Rattle.recorded.proofs.judge_call.Goals as goal

pub returns-then-bytes-end : goal.returns-then-bytes-end
returns-then-bytes-end c = call_cut _ _ c.size_at-end.ensures.value c.if-bytes-end.true

pub returns-then-not-call_agrees : goal.returns-then-not-call_agrees
returns-then-not-call_agrees c = call_differs _ _ c.size_at-end.ensures.value c.if-bytes-end.false _ _ _ (one_byte _ 0 (omega arith)) c.number_at-x.ensures c.number_at-y.ensures _ c.call_agrees.ensures (not-true _ (ap not c.if-not-call_agrees.true))

pub returns : goal.returns
returns c = call_agrees _ _ c.size_at-end.ensures.value c.if-bytes-end.false _ _ _ (one_byte _ 0 (omega arith)) c.number_at-x.ensures c.number_at-y.ensures _ c.call_agrees.ensures (not-false _ (ap not c.if-not-call_agrees.false))
