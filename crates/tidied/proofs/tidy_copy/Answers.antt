-- `tidy_copy` checks the source, and writes in place where there is room for the source itself. Assumes nothing.
use Rattle.std.proofs.lemmas.Result.{err_from_is_err_and}
use Rattle.tidied.proofs.Answers.{stopped_answer, cleared_answer, in_place}
use Rattle.tidied.proofs.tidy_copy.Goals as goal

pub returns-in_err-check_source-clause-value : goal.returns-in_err-check_source-clause-value
returns-in_err-check_source-clause-value c =
    let p = err_from_is_err_and c.from_residual.result c.from_residual.ensures.1 in
    rw (p.1, p.2) (stopped_answer c.args.source.now c.args.out.now _ _ c.in_err-check_source.ensures.answer).0

pub returns-in_err-check_source-clause-out_after : goal.returns-in_err-check_source-clause-out_after
returns-in_err-check_source-clause-out_after c = (stopped_answer c.args.source.now c.args.out.now _ _ c.in_err-check_source.ensures.answer).1

pub returns-then-source-out-clause-value : goal.returns-then-source-out-clause-value
returns-then-source-out-clause-value c =
    let b = in_place c.args.source.now c.args.out.now c.if-source-out.true c.write_source.ensures.value c.write_source.ensures.out_after in
    (cleared_answer c.args.source.now c.args.out.now c.in_ok-check_source.ensures.clear b).0

pub returns-then-source-out-clause-out_after : goal.returns-then-source-out-clause-out_after
returns-then-source-out-clause-out_after c =
    let b = in_place c.args.source.now c.args.out.now c.if-source-out.true c.write_source.ensures.value c.write_source.ensures.out_after in
    (cleared_answer c.args.source.now c.args.out.now c.in_ok-check_source.ensures.clear b).1

pub returns-clause-value : goal.returns-clause-value
returns-clause-value c = (cleared_answer c.args.source.now c.args.out.now c.in_ok-check_source.ensures.clear (c.copy_apart.ensures.value, c.copy_apart.ensures.out_after)).0

pub returns-clause-out_after : goal.returns-clause-out_after
returns-clause-out_after c = (cleared_answer c.args.source.now c.args.out.now c.in_ok-check_source.ensures.clear (c.copy_apart.ensures.value, c.copy_apart.ensures.out_after)).1
