-- `write_manual` meets its contract: what the assembler answers is printed. Assumes nothing.
use native.Mathlib.Omega.{arith}
use lib.ListN.{replicate}
use Rattle.rules.specs.Assemble.{slices}
use Rattle.station.proofs.Refusing.{answer_by_refusal}
use Rattle.mantext.proofs.Listed.{assembled}
use Rattle.mantext.proofs.write_manual.Goals as goal

pub returns : goal.returns
returns c =
    let call = c.assemble_manual-answer in
    let zeros = slices (replicate 12288 0) (replicate 12288 0) (replicate 12288 0) in
    let a = c.args in
    rw (← (assembled a.base a.source.now zeros (omega arith) (omega arith) (omega arith) _ _ call.ensures.answer call.ensures.slices)) (rw (answer_by_refusal call.result) at c.write_answer.ensures)
