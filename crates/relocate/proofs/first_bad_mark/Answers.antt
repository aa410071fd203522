use Rattle.std.proofs.Common.{sym, refl, ◌∙◌, arith}
use Rattle.relocate.proofs.Pairs.{none_bad}
use Rattle.relocate.proofs.Scan.{scan_ends, scan_finds, scan_passes}
use Rattle.relocate.proofs.first_bad_mark.Goals as goal

pub returns-then-not-pairs : goal.returns-then-not-pairs
returns-then-not-pairs c = sym (none_bad 0 0 c.args.marks.now (sym c.requires ∙ c.if-not-pairs.true))

pub returns-then-is_bad : goal.returns-then-is_bad
returns-then-is_bad c = scan_finds c.loop-i.invariant (omega arith) _ refl (sym c.is_bad.ensures ∙ c.if-is_bad.true)

pub loop-i-preserved : goal.loop-i-preserved
loop-i-preserved c = scan_passes c.loop-i.invariant (omega arith) _ refl (sym c.is_bad.ensures ∙ c.if-is_bad.false)

pub returns : goal.returns
returns c = scan_ends c.loop-i.invariant (omega arith)
