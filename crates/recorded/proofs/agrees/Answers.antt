-- `agrees` meets its contract: a call that is not whole, an answer that is another, and then the places. Assumes nothing.
use Rattle.std.proofs.Common.{arith}
use borrow.Author.Tests.{not-true, not-false}
use Rattle.rules.specs.Assemble.{Slices, slices}
use Rattle.answer.specs.Refusal.{answer_of}
use Rattle.recorded.specs.Recorded.{WholeRecord}
use Rattle.recorded.proofs.Bytes.{one_byte}
use Rattle.recorded.proofs.Parts.{whole_within}
use Rattle.recorded.proofs.Agree.{Made, made, differs, compared}
use Rattle.std.proofs.Common.{ap, not}
use Rattle.recorded.proofs.agrees.Goals as goal
use Rattle.recorded.proofs.agrees.Goals.{After-assemble_lent-answer, After-read_list, Else-not-is_whole}

whole : (c : Else-not-is_whole) → WholeRecord c.args.source.now c.args.terms.now c.args.rows.now
whole c = c.is_whole.ensures.0 (not-false _ (ap not c.if-not-is_whole.false))

-- the slices after the call, and those with the recorded list
abbrev after : After-assemble_lent-answer → Slices
after c = slices c.assemble_lent-answer.new.a c.assemble_lent-answer.new.w c.assemble_lent-answer.new.m

abbrev recorded : After-read_list → Slices
recorded c = slices c.read_list.new.a c.read_list.new.w c.read_list.new.m

call : (c : After-assemble_lent-answer) → Made c.args.source.now c.args.terms.now (answer_of c.assemble_lent-answer.result) (after c)
call c = made _ _ _ _ _ _ _ _ c.number_at-base.ensures c.size_at-la.ensures.value c.size_at-lw.ensures.value c.size_at-lm.ensures.value c.assemble_lent-answer.ensures

pub assemble_lent-answer-requires : goal.assemble_lent-answer-requires
assemble_lent-answer-requires c =
    let w = whole_within (whole (goal.at.assemble_lent-answer-requires c).Else-not-is_whole) in
    (omega (arith, w.addresses, c.size_at-la.ensures.value), omega (arith, w.words, c.size_at-lw.ensures.value), omega (arith, w.marks, c.size_at-lm.ensures.value))

pub returns-then-not-same_answer : goal.returns-then-not-same_answer
returns-then-not-same_answer c =
    let w = whole (goal.at.returns-then-not-same_answer c).Else-not-is_whole in
    differs _ _ _ _ _ (call (goal.at.returns-then-not-same_answer c).After-assemble_lent-answer) _ _ (one_byte _ 20 (omega (arith, w.terms))) c.number_at.ensures _ c.same_answer.ensures (not-true _ (ap not c.if-not-same_answer.true))

pub returns : goal.returns
returns c =
    let w = whole (goal.at.returns c).Else-not-is_whole in
    compared _ _ _ _ _ (call (goal.at.returns c).After-assemble_lent-answer) _ _ (one_byte _ 20 (omega (arith, w.terms))) c.number_at.ensures _ c.same_answer.ensures w (not-false _ (ap not c.if-not-same_answer.false)) _ c.count.ensures (recorded (goal.at.returns c).After-read_list) c.read_list.ensures _ c.same_list.ensures
