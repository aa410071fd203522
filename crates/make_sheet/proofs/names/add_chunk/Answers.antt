-- A name more, or one whose script cannot be added. Assumes nothing.
use Rattle.std.proofs.Common.{◌∙◌, arith}
use Rattle.std.proofs.Math.Seq.{take_all}
use Rattle.std.proofs.lemmas.Result.{err_from_is_err_and}
use Rattle.make_sheet.proofs.Feeding.{used_within, held_within, adding_on, halting_on}
use Rattle.make_sheet.proofs.names.add_chunk.Goals as goal

pub shared_ref_as_front-whole : goal.shared_ref_as_front-whole
shared_ref_as_front-whole g c = held_within c.args.chunk.now c.loop-at.at c.loop-at.held c.take_name-taken.ensures.value

pub overflow_add-at : goal.overflow_add-at
overflow_add-at g c =
    let within = used_within c.args.chunk.now c.loop-at.at c.loop-at.held c.take_name-taken.ensures.value c.loop-at-test.true in
    omega (arith, within)

pub loop-at-smaller : goal.loop-at-smaller
loop-at-smaller g c =
    let within = used_within c.args.chunk.now c.loop-at.at c.loop-at.held c.take_name-taken.ensures.value c.loop-at-test.true in
    omega (arith, within)

pub loop-at-preserved : goal.loop-at-preserved
loop-at-preserved g c =
    let within = used_within c.args.chunk.now c.loop-at.at c.loop-at.held c.take_name-taken.ensures.value c.loop-at-test.true in
    record {
      inside = within.1;
      adding = λ t s a.
          adding_on c.args.chunk.now c.loop-at.at _ s (c.loop-at.invariant.adding t s a) c.take_name-taken.ensures.value c.take_name-taken.ensures.name_after c.in_ok-totals.ensures.sum
          c.held_on-held.ensures;
      silent = c.in_ok-totals.ensures.silent ∙ c.loop-at.invariant.silent;
    }

pub returns-in_err-totals-clause-sum : goal.returns-in_err-totals-clause-sum
returns-in_err-totals-clause-sum g c = λ t s a.
    let p = err_from_is_err_and c.from_residual.result c.from_residual.ensures.1 in
    rw (p.1, p.2)
    (halting_on c.args.chunk.now c.loop-at.at _ s (c.loop-at.invariant.adding t s a) c.take_name-taken.ensures.value c.take_name-taken.ensures.name_after c.in_err-totals.ensures.sum
    (rw c.loop-at.invariant.silent at c.in_err-totals.ensures.said))

pub returns-clause-sum : goal.returns-clause-sum
returns-clause-sum g c = λ t s a. rw (take_all _ _ c.loop-at-test.false) at (c.loop-at.invariant.adding t s a)
