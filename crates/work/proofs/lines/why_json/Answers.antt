-- The work is the one that is asked for.
use Rattle.work.proofs.lines.why_json.Goals as goal

pub returns : goal.returns
returns g c = (c.files_joining-joining.result, c.files_joining-joining.ensures, rw c.explaining_json_of-work.ensures at c.each.ensures)
