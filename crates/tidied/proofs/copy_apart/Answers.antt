-- `copy_apart` writes the copy into an array first, where it always fits. Assumes nothing.
use Rattle.tidied.proofs.Answers.{apart_short, front_within, front_length, apart_answer}
use Rattle.tidied.proofs.copy_apart.Goals as goal

pub returns-then-out-n-clause-value : goal.returns-then-out-n-clause-value
returns-then-out-n-clause-value c = (apart_short _ _ c.write_source-n.ensures.value c.write_source-n.ensures.out_after c.args.out.now c.if-out-n.true).0

pub returns-then-out-n-clause-out_after : goal.returns-then-out-n-clause-out_after
returns-then-out-n-clause-out_after c = (apart_short _ _ c.write_source-n.ensures.value c.write_source-n.ensures.out_after c.args.out.now c.if-out-n.true).1

pub slice_bounds-copy-end : goal.slice_bounds-copy-end
slice_bounds-copy-end c = front_within _ _ c.write_source-n.ensures.value c.write_source-n.ensures.out_after

pub slice_bounds-write_bytes-end : goal.slice_bounds-write_bytes-end
slice_bounds-write_bytes-end c = front_length _ _ c.write_source-n.ensures.value c.write_source-n.ensures.out_after

pub returns-clause-value : goal.returns-clause-value
returns-clause-value c = (apart_answer _ _ c.write_source-n.ensures.value c.write_source-n.ensures.out_after c.args.out.now c.if-out-n.false c.write_bytes.ensures).0

pub returns-clause-out_after : goal.returns-clause-out_after
returns-clause-out_after c = (apart_answer _ _ c.write_source-n.ensures.value c.write_source-n.ensures.out_after c.args.out.now c.if-out-n.false c.write_bytes.ensures).1
