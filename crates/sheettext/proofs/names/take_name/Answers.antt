-- `take_name` meets its contract: the line's end is found, and the bytes before it are kept. Assumes nothing.
use mathlib.Core.Path.{sym}
use native.Mathlib.Omega.{arith}
use lib.Dec.{eqb}
use lib.Seq.{length-take-le}
use Rattle.text.proofs.Until.{until_le}
use Rattle.sheettext.proofs.Lines.{taken_so, kept_so}
use Rattle.sheettext.proofs.names.take_name.Goals as goal

pub slice_bounds-keep-end-2 : goal.slice_bounds-keep-end-2
slice_bounds-keep-end-2 c = sym (length-take-le _ _ (omega (arith, until_le (eqb 10) c.args.chunk.now, c.line_end-end.ensures)))

pub returns : goal.returns
returns c = record { value = taken_so _ _ c.line_end-end.ensures c.used_by.ensures c.held_after.ensures; name_after = kept_so _ _ _ c.line_end-end.ensures c.keep.ensures }
