use Rattle.std.proofs.Common.{rules, sym, ◌∙◌}
use Rattle.std.proofs.lemmas.Result.{err_from_is_err_and}
use Rattle.assemble.proofs.Lists.{refusal, refusal_keeps, has_room, short_7, short_keeps, listed, listed_slices}
use Rattle.assemble.proofs.Faults.{counted_refused, sound}
use Rattle.assemble.proofs.manual_call.coded_pass.Goals as goal

pub returns-in_err-count-clause-answer : goal.returns-in_err-count-clause-answer
returns-in_err-count-clause-answer g c = let p = err_from_is_err_and c.from_residual.result c.from_residual.ensures.1 in rw (p.1, p.2) (refusal _ _ _ _ (counted_refused _ _ _ c.in_err-count.ensures.answer))

pub returns-in_err-count-clause-slices : goal.returns-in_err-count-clause-slices
returns-in_err-count-clause-slices g c = refusal_keeps _ _ _ _ (counted_refused _ _ _ c.in_err-count.ensures.answer)

pub returns-then-is_short-clause-answer : goal.returns-then-is_short-clause-answer
returns-then-is_short-clause-answer g c = let s = sound _ _ c.in_ok-count.ensures.answer in rw s.list (short_7 _ _ _ s.count (sym c.is_short.ensures.short ∙ c.if-is_short.true))

pub returns-then-is_short-clause-slices : goal.returns-then-is_short-clause-slices
returns-then-is_short-clause-slices g c = let s = sound _ _ c.in_ok-count.ensures.answer in rw s.list (short_keeps _ _ _ s.count (sym c.is_short.ensures.short ∙ c.if-is_short.true))

pub emit_words-count-requires : goal.emit_words-count-requires
emit_words-count-requires g c =
    let s = sound _ _ c.in_ok-count.ensures.answer in
    record { holds = c.requires.holds; room = rw (c.new-places.ensures.now, ← s.count) (has_room _ _ (sym c.is_short.ensures.short ∙ c.if-is_short.false)); kept = c.in_ok-count.ensures.codes }

pub returns-clause-answer : goal.returns-clause-answer
returns-clause-answer g c =
    let s = sound _ _ c.in_ok-count.ensures.answer in
    rw s.list (listed _ _ _ c.emit_words-count.ensures.value (rw (← s.count) (sym c.is_short.ensures.short ∙ c.if-is_short.false)))

pub returns-clause-slices : goal.returns-clause-slices
returns-clause-slices g c =
    let s = sound _ _ c.in_ok-count.ensures.answer in
    let n = c.new-places.ensures in
    let h = c.emit_words-count.ensures.list in
    let a = h.same.addresses ∙ n.same_addresses in
    let w = h.same.words ∙ n.same_words in
    let m = h.same.marks ∙ n.same_marks in
    rw s.list (listed_slices _ _ (rw (← s.count) (sym c.is_short.ensures.short ∙ c.if-is_short.false)) c.emit_words-count.new.places (rw n.now at h.holds) (search rules) (search rules) (search rules))
