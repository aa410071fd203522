-- `push_code` writes two parts of five columns, by the code. Assumes nothing.
use Rattle.listing.proofs.Adding.{adds_both}
use Rattle.rules.specs.Text.{bytes}
use Rattle.printout.specs.Printout.{words_text}
use Rattle.printout.proofs.push_code.Goals as goal

pub returns-in-Some-Word-clause-text : goal.returns-in-Some-Word-clause-text
unfolding words_text bytes
returns-in-Some-Word-clause-text c = λ a. rw (c.in-Some-Word.is, (rw c.in-Some-Word.is at c.in-Some-Word.field-0-is)) (adds_both c.push_word.ensures.text c.push_bytes-in-Some-Word.ensures)

pub returns-in-Some-Value-clause-text : goal.returns-in-Some-Value-clause-text
unfolding words_text
returns-in-Some-Value-clause-text c = λ a. rw (c.in-Some-Value.is, (rw c.in-Some-Value.is at c.in-Some-Value.field-0-is)) (adds_both c.push_word-in-Some-Value.ensures.text c.push_word-in-Some-Value-2.ensures.text)

pub returns-in-Some-Label-clause-text : goal.returns-in-Some-Label-clause-text
unfolding words_text
returns-in-Some-Label-clause-text c = λ a. rw (c.in-Some-Label.is, (rw c.in-Some-Label.is at c.in-Some-Label.field-0-is)) (adds_both c.push_word-in-Some-Label.ensures.text c.push_word-in-Some-Label-2.ensures.text)
