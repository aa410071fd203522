-- There is no text.
use Rattle.cli_error.proofs.Answer.of.Goals as goal

pub returns-in-Err : goal.returns-in-Err
returns-in-Err c = λ m e. c.failed.ensures m (rw c.in-Err.is at e)
