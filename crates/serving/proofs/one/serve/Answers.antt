-- Both were read, and are named as the call is told.
use Rattle.serving.proofs.one.serve.Goals as goal

pub returns-in-Ok : goal.returns-in-Ok
returns-in-Ok g c = rw c.names_of-names.ensures at (c.serve_read.ensures _ _ c.in-Ok.ensures.table c.in-Ok.ensures.input)
