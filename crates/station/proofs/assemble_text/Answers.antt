-- What the assembler answers is printed.
use Rattle.std.proofs.Common.{arith, replicate}
use Rattle.rules.specs.Assemble.{slices}
use Rattle.station.proofs.Refusing.{answer_by_refusal}
use Rattle.station.proofs.Script.{assembled}
use Rattle.station.proofs.assemble_text.Goals as goal

pub returns : goal.returns
returns c =
    let zeros = slices (replicate 12288 0) (replicate 12288 0) (replicate 12288 0) in
    let call = c.assemble-answer in
    rw (← (assembled c.args.script.now zeros (omega arith) (omega arith) (omega arith) _ _ call.ensures.answer call.ensures.slices)) (rw (answer_by_refusal call.result) at c.write_answer.ensures)
