-- `enter` checks the source and the base, and goes on to the first pass. Assumes nothing.
use Rattle.std.proofs.Common.{arith, ap, sym, ◌∙◌, ◌<◌}
use Rattle.std.proofs.lemmas.Result.{err_from_is_err_and}
use Rattle.rules.specs.Limits.{address_limit}
use Rattle.rules.specs.Line.{size}
use Rattle.answer.specs.Refusal.{number_of, place_of}
use Rattle.label.specs.Labelled.{Labelled}
use Rattle.first.proofs.Callers.{all_hold}
use Rattle.first.proofs.Entering.{Untouched, checked, high, pass_enters, stop_enters}
use Rattle.first.proofs.enter.Goals as goal
use Rattle.first.proofs.enter.Goals.{After-from_residual, Then-base-ge-ADDRESS_LIMIT, Else-base-ge-ADDRESS_LIMIT}

unchecked : (c : After-from_residual) → Untouched size c.args.labels.now c.args.base c.args.cells.now (number_of c.in_err-check_source.field-0.0) (place_of c.in_err-check_source.field-0.0)
unchecked c = checked size c.args.labels.now c.args.base c.args.cells.now c.requires.empty c.source.ensures _ _ c.in_err-check_source.ensures.answer

pub returns-in_err-check_source-clause-answer : goal.returns-in_err-check_source-clause-answer
returns-in_err-check_source-clause-answer c = let p = err_from_is_err_and c.from_residual.result c.from_residual.ensures.1 in rw (p.1, p.2) (unchecked c).answer

pub returns-in_err-check_source-clause-labels : goal.returns-in_err-check_source-clause-labels
returns-in_err-check_source-clause-labels c = (unchecked c).labels_now

pub returns-in_err-check_source-clause-lines : goal.returns-in_err-check_source-clause-lines
returns-in_err-check_source-clause-lines c = (unchecked c).lines

too_high : (c : Then-base-ge-ADDRESS_LIMIT) → Untouched size c.args.labels.now c.args.base c.args.cells.now 4 0
too_high c = high size c.args.labels.now c.args.base c.args.cells.now c.requires.empty c.source.ensures c.in_ok-check_source.ensures.clear c.if-base-ge-ADDRESS_LIMIT.true

pub returns-then-base-ge-ADDRESS_LIMIT-clause-answer : goal.returns-then-base-ge-ADDRESS_LIMIT-clause-answer
returns-then-base-ge-ADDRESS_LIMIT-clause-answer c = (too_high c).answer

pub returns-then-base-ge-ADDRESS_LIMIT-clause-labels : goal.returns-then-base-ge-ADDRESS_LIMIT-clause-labels
returns-then-base-ge-ADDRESS_LIMIT-clause-labels c = (too_high c).labels_now

pub returns-then-base-ge-ADDRESS_LIMIT-clause-lines : goal.returns-then-base-ge-ADDRESS_LIMIT-clause-lines
returns-then-base-ge-ADDRESS_LIMIT-clause-lines c = (too_high c).lines

low : (c : Else-base-ge-ADDRESS_LIMIT) → c.args.base < address_limit
low c = let h = c.if-base-ge-ADDRESS_LIMIT.false in omega arith

pub returns-clause-answer : goal.returns-clause-answer
returns-clause-answer c = c.first_pass.ensures.answer ∙ sym (pass_enters size c.source.ensures c.in_ok-check_source.ensures.clear (low (goal.at.returns-clause-answer c).Else-base-ge-ADDRESS_LIMIT))

pub returns-clause-holds : goal.returns-clause-holds
returns-clause-holds c =
    all_hold size c.args.labels.now _ _ _ c.first_pass.result
    (c.first_pass.ensures.answer ∙ sym (pass_enters size c.source.ensures c.in_ok-check_source.ensures.clear (low (goal.at.returns-clause-holds c).Else-base-ge-ADDRESS_LIMIT)))
    (ap (λ (x : Labelled). x.source) c.first_pass.ensures.labels) c.first_pass.ensures.done

pub returns-clause-labels : goal.returns-clause-labels
returns-clause-labels c =
    rw (stop_enters size c.source.ensures c.in_ok-check_source.ensures.clear (low (goal.at.returns-clause-labels c).Else-base-ge-ADDRESS_LIMIT)) c.first_pass.ensures.labels

pub returns-clause-lines : goal.returns-clause-lines
returns-clause-lines c =
    rw (stop_enters size c.source.ensures c.in_ok-check_source.ensures.clear (low (goal.at.returns-clause-lines c).Else-base-ge-ADDRESS_LIMIT)) c.first_pass.ensures.lines
