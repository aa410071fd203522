-- `push_end` goes by the code: the reason where there is no word. Assumes nothing.
use Rattle.rules.specs.Text.{bytes}
use Rattle.listing.proofs.Adding.{adds_both}
use Rattle.whytext.specs.Verdicts.{line_of}
use Rattle.printout.specs.Printout.{end_text}
use Rattle.printout.proofs.push_end.Goals as goal

pub returns-in-None : goal.returns-in-None
unfolding end_text bytes line_of
returns-in-None c = λ a. rw c.in-None.is (adds_both c.push_bytes.ensures c.push_verdict.ensures)
