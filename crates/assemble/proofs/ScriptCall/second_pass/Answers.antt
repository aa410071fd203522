use Rattle.std.proofs.Common.{rules, ◌∙◌}
use Rattle.std.proofs.lemmas.Result.{err_from_is_err_and}
use Rattle.assemble.proofs.Lists.{has_room, no_room, no_room_keeps, listed, listed_slices}
use Rattle.assemble.proofs.ScriptCall.second_pass.Goals as goal

pub returns-in_err-fit_list-clause-answer : goal.returns-in_err-fit_list-clause-answer
returns-in_err-fit_list-clause-answer c = let p = err_from_is_err_and c.from_residual.result c.from_residual.ensures.1 in rw (p.1, p.2) (no_room _ _ _ _ c.in_err-fit_list.ensures.answer)

pub returns-in_err-fit_list-clause-slices : goal.returns-in_err-fit_list-clause-slices
returns-in_err-fit_list-clause-slices c = no_room_keeps _ _ _ _ c.in_err-fit_list.ensures.answer

pub emit_words-count-requires : goal.emit_words-count-requires
emit_words-count-requires c = record { holds = c.requires.holds; room = rw c.new-places.ensures.now (has_room _ _ c.in_ok-fit_list.ensures.room); kept = tt }

pub returns-clause-answer : goal.returns-clause-answer
returns-clause-answer c = listed _ _ _ c.emit_words-count.ensures.value c.in_ok-fit_list.ensures.room

pub returns-clause-slices : goal.returns-clause-slices
returns-clause-slices c =
    let n = c.new-places.ensures in
    let h = c.emit_words-count.ensures.list in
    let a = h.same.addresses ∙ n.same_addresses in
    let w = h.same.words ∙ n.same_words in
    let m = h.same.marks ∙ n.same_marks in
    listed_slices _ _ c.in_ok-fit_list.ensures.room c.emit_words-count.new.places (rw n.now at h.holds) (search rules) (search rules) (search rules)
