-- `code_line` looks for an instruction's fault. Assumes nothing.
use Rattle.std.proofs.Common.{refl}
use Rattle.answer.specs.declared.Refusal.TheVariants.{NoEncoding, OutOfReach}
use Rattle.emit.proofs.Coding.{no_code, said_code, said_fault}
use Rattle.emit.proofs.codes.code_line.Goals as goal

pub returns-in_default : goal.returns-in_default
returns-in_default c = no_code _ _ _ c.args.line c.args.task c.in_default.not-Instruction

pub returns-in-Ok : goal.returns-in-Ok
returns-in-Ok c =
    let f = rw c.source-source.ensures at c.encode_manual.ensures.fault in
    let w = rw c.source-source.ensures at c.encode_manual.ensures.words in
    said_code _ _ _ c.args.line c.in-Instruction.is f w c.in-Ok.is

pub returns-in-Err-NoEncoding : goal.returns-in-Err-NoEncoding
returns-in-Err-NoEncoding c =
    let f = rw c.source-source.ensures at c.encode_manual.ensures.fault in
    let w = rw c.source-source.ensures at c.encode_manual.ensures.words in
    said_fault _ _ _ c.args.line c.in-Instruction.is f w c.in-Err-NoEncoding.is (NoEncoding c.args.line) (rw c.in-Err-NoEncoding.field-0-is) refl

pub returns-in-Err-OutOfReach : goal.returns-in-Err-OutOfReach
returns-in-Err-OutOfReach c =
    let f = rw c.source-source.ensures at c.encode_manual.ensures.fault in
    let w = rw c.source-source.ensures at c.encode_manual.ensures.words in
    said_fault _ _ _ c.args.line c.in-Instruction.is f w c.in-Err-OutOfReach.is (OutOfReach c.args.line) (rw c.in-Err-OutOfReach.field-0-is) refl
