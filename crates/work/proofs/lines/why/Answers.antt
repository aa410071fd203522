-- By whether JSON is asked for.
use Rattle.work.proofs.lines.why.Goals as goal

pub returns-then-asked : goal.returns-then-asked
returns-then-asked g c = rw c.if-asked.true c.why_json.ensures

pub returns-else-asked : goal.returns-else-asked
returns-else-asked g c = rw c.if-asked.false c.why_text.ensures
