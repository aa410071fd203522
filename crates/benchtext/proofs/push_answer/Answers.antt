-- `benchtext::push_answer` meets its contract. Assumes nothing.
use Rattle.listing.proofs.Adding.{adds_both}
use Rattle.benchtext.specs.BenchText.{answered_text}
use Rattle.benchtext.proofs.push_answer.Goals as goal

pub returns-in-Ok : goal.returns-in-Ok
unfolding answered_text
returns-in-Ok c = rw c.in-Ok.is (adds_both c.push_value.ensures.text c.push_run.ensures)

pub returns-in-Err : goal.returns-in-Err
unfolding answered_text
returns-in-Err c = rw (c.in-Err.is, ← c.number.ensures, ← c.place.ensures) c.push_refused.ensures.text
