-- `add_line` writes the break and the line's copy after it. Assumes nothing.
use Rattle.std.proofs.Common.{arith}
use Rattle.listing.proofs.Adding.{adds_none, adds_both}
use Rattle.tidied.proofs.add_line.Goals as goal

pub returns-in-Squeezed : goal.returns-in-Squeezed
returns-in-Squeezed c = rw (c.in-Some.is, c.in-Squeezed.is) (adds_both c.put_break.ensures c.squeeze.ensures)

pub returns-in-Parted : goal.returns-in-Parted
returns-in-Parted c = rw (c.in-Some.is, c.in-Parted.is) (adds_both c.put_break.ensures c.write_parts.ensures)

pub returns-in_default : goal.returns-in_default
returns-in_default c = rw c.in_default.is (adds_none _ (omega arith))
