-- `write_list_under` meets its contract: what the assembler answers is printed. Assumes nothing.
use Rattle.std.proofs.Common.{arith, replicate}
use Rattle.rules.specs.Assemble.{slices}
use Rattle.station.proofs.Refusing.{answer_by_refusal}
use Rattle.branchtext.proofs.Under.{assembled}
use Rattle.branchtext.proofs.write_list_under.Goals as goal

pub returns : goal.returns
returns c =
    let zeros = slices (replicate 12288 0) (replicate 12288 0) (replicate 12288 0) in
    let call = c.assemble_branches-answer in
    rw (← (assembled c.args.names.now c.args.base c.args.source.now zeros (omega arith) (omega arith) (omega arith) _ _ call.ensures.answer call.ensures.slices)) (rw (answer_by_refusal call.result) at c.write_answer.ensures)
