-- There is no text.
use Rattle.serving.proofs.one.make_text.Goals as goal

pub returns-in-Err : goal.returns-in-Err
returns-in-Err g c = λ a b p q. c.finish-in-Err.ensures _ (c.in-Err.ensures a b p q)
