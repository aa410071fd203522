-- The file is the one that is asked for.
use Rattle.work.proofs.calls.one.Goals as goal

pub returns : goal.returns
returns g c = rw c.file_of-file.ensures at c.serve.ensures
