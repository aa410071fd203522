-- `benchtext::try_value` meets its contract. Assumes nothing.
use Rattle.benchtext.proofs.Tried.{words_put, words_stay, line_refused}
use Rattle.benchtext.proofs.try_value.Goals as goal

pub returns-in-Ok-clause-words_after : goal.returns-in-Ok-clause-words_after
returns-in-Ok-clause-words_after c = words_put _ _ _ _ _ _ c.in-Ok.ensures.answer c.set_value.ensures

pub returns-in-Err-clause-words_after : goal.returns-in-Err-clause-words_after
returns-in-Err-clause-words_after c = words_stay _ _ _ _ _ _ _ c.in-Err.ensures.answer

pub returns-in-Err-clause-printed : goal.returns-in-Err-clause-printed
returns-in-Err-clause-printed c =
    let a = c.args in
    rw (← (line_refused a.count a.threshold a.value a.addresses.now a.words.now _ _ c.in-Err.ensures.answer a.a.now a.start a.limit)) c.write_refusal.ensures
