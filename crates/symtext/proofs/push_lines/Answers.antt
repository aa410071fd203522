-- The line of a row more is written: there is room for it. Assumes nothing.
use mathlib.Core.Path.{sym}
use native.Mathlib.Omega.{arith}
use Rattle.requests.specs.Symbols.{rows}
use Rattle.listing.proofs.Adding.{adds_none, adds_as, adds_both}
use Rattle.symtext.proofs.Lines.{lines_none, lines_more, lines_room}
use Rattle.symtext.proofs.push_lines.Goals as goal

pub loop-k-init : goal.loop-k-init
loop-k-init c = adds_as (adds_none _ (omega arith)) (sym (lines_none _ _))

pub push_line-requires : goal.push_line-requires
push_line-requires c =
    let a = c.args in
    let room = lines_room a.source.now (rows a.starts.now a.lengths.now a.addresses.now a.lines.now) c.loop-k.k c.requires.fits c.loop-k-test.true in
    omega (arith, c.loop-k.invariant, room)

pub loop-k-preserved : goal.loop-k-preserved
loop-k-preserved c = adds_as (adds_both c.loop-k.invariant c.push_line.ensures) (sym (lines_more _ _ _))
