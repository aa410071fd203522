-- The list that the vectors hold. Assumes nothing.
use Rattle.std.proofs.Common.{arith}
use Rattle.rules.specs.Assemble.{slices}
use Rattle.make_runs.proofs.Lists.{read_into, not_read, back}
use Rattle.make_runs.proofs.listed.read.Goals as goal

pub returns-in-Ok-read_list-clause-list : goal.returns-in-Ok-read_list-clause-list
returns-in-Ok-read_list-clause-list c = λ f.
    let x = slices c.deref_mut.result.now c.deref_mut-2.result.now c.deref_mut-3.result.now in
    let y = slices c.read_list.new.addresses c.read_list.new.words c.read_list.new.marks in
    rw (back c.in-Ok.room.addresses.len c.read_list.new.addresses c.in-Ok.room.addresses.items (omega arith), back c.in-Ok.room.words.len c.read_list.new.words c.in-Ok.room.words.items (omega arith))
    (read_into c.args.text.now x y c.requires (omega arith) (omega arith) (omega arith) f _ c.in-Ok-read_list.ensures.answer c.in-Ok-read_list.ensures.filled)

pub returns-in-Err-clause-list : goal.returns-in-Err-clause-list
returns-in-Err-clause-list c = λ f.
    let x = slices c.deref_mut.result.now c.deref_mut-2.result.now c.deref_mut-3.result.now in
    not_read c.args.text.now x x c.requires (omega arith) (omega arith) (omega arith) f c.in-Err.line c.in-Err.ensures.answer
