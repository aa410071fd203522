-- `add_chunk` meets its contract: what is left of the chunk is still to be added. Assumes nothing.
use Rattle.std.proofs.Common.{arith}
use Rattle.std.proofs.Math.Seq.{take_all}
use Rattle.sheettext.proofs.Filing.{used_within, adding_on}
use Rattle.plantsheet.proofs.add_chunk.Goals as goal

pub overflow_add-at : goal.overflow_add-at
overflow_add-at c =
    let within = used_within c.args.chunk.now c.loop-at.at c.loop-at.held c.take_name-taken.ensures.value c.loop-at-test.true in
    omega (arith, within)

pub loop-at-smaller : goal.loop-at-smaller
loop-at-smaller c =
    let within = used_within c.args.chunk.now c.loop-at.at c.loop-at.held c.take_name-taken.ensures.value c.loop-at-test.true in
    omega (arith, within)

pub loop-at-preserved : goal.loop-at-preserved
loop-at-preserved c =
    let within = used_within c.args.chunk.now c.loop-at.at c.loop-at.held c.take_name-taken.ensures.value c.loop-at-test.true in
    record {
      inside = within.1;
      adding = λ o t a. adding_on c.args.chunk.now c.loop-at.at t (c.loop-at.invariant.adding o t a) c.take_name-taken.ensures.value c.take_name-taken.ensures.name_after c.add_file-step.ensures c.held_on-held.ensures;
    }

pub returns : goal.returns
returns c = λ o t a. rw (take_all _ _ c.loop-at-test.false) at (c.loop-at.invariant.adding o t a)
