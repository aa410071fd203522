-- `write_bytes` meets its contract: the bytes that are left are still to be put. Assumes nothing.
use mathlib.Core.Path.{refl}
use native.Mathlib.Omega.{arith}
use lib.ListN.{drop_of_length-le}
use Rattle.text.proofs.Over.{putting_start, putting_one, putting_end, drop_more}
use Rattle.listing.proofs.writing.write_bytes.Goals as goal

pub loop-i-init : goal.loop-i-init
loop-i-init c = putting_start _ _ _ _ _ (omega arith) refl

pub loop-i-preserved : goal.loop-i-preserved
loop-i-preserved c = putting_one c.loop-i.invariant _ _ _ (drop_more _ c.loop-i.i (omega arith)) (omega arith) (omega arith)

pub returns : goal.returns
returns c = putting_end c.loop-i.invariant (drop_of_length-le _ {i = c.loop-i.i} (omega arith))
