-- `stands_at` compares where the first byte is the sought one's. Assumes nothing.
use Rattle.text.proofs.Contains.{stands, stands_not}
use Rattle.text.proofs.stands_at.Goals as goal

pub returns-then-upper_case-p : goal.returns-then-upper_case-p
returns-then-upper_case-p c = stands _ _ _ c.requires.1 c.starts_upper.ensures

pub returns-else-upper_case-p : goal.returns-else-upper_case-p
returns-else-upper_case-p c = stands_not _ _ _ c.requires.1 c.requires.0 c.upper_case.ensures c.if-upper_case-p.false
