-- `same_front` compares byte by byte. Assumes nothing.
use native.Mathlib.Omega.{arith}
use Rattle.sheettext.proofs.ReadBack.{fronted_more, fronted_differ, fronted_short, fronted_all}
use Rattle.sheettext.proofs.back.same_front.Goals as goal

pub returns-then-t-i : goal.returns-then-t-i
returns-then-t-i c = fronted_short c.loop-i.invariant (omega arith) c.if-t-i.true

pub returns-then-s-i : goal.returns-then-s-i
returns-then-s-i c = fronted_differ c.loop-i.invariant (omega arith) c.if-t-i.false c.if-s-i.true

pub loop-i-preserved : goal.loop-i-preserved
loop-i-preserved c = fronted_more c.loop-i.invariant (omega arith) c.if-t-i.false c.if-s-i.false

pub returns : goal.returns
returns c = fronted_all c.loop-i.invariant (omega arith)
