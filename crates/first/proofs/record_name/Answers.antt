-- `record_name` records the label that is there. Assumes nothing.
use Rattle.std.proofs.Common.{arith, refl, ap, length}
use Rattle.std.proofs.lemmas.Result.{err_from_is_err_and}
use Rattle.rules.specs.Label.{record_all}
use Rattle.label.specs.Record.{span_label}
use Rattle.label.specs.Labelled.{Labelled}
use Rattle.first.specs.Stopped.{record_some}
use Rattle.first.proofs.Naming.{grown_by, recorded_most, one_recorded, one_now, one_full, one_kept}
use Rattle.first.proofs.record_name.Goals as goal

pub returns-in_default-clause-recorded : goal.returns-in_default-clause-recorded
unfolding record_all
returns-in_default-clause-recorded c = λ k on. rw c.in_default.is refl

pub returns-in_default-clause-some : goal.returns-in_default-clause-some
unfolding record_some
returns-in_default-clause-some c = λ k on. rw c.in_default.is refl

pub returns-in_err-record-clause-full : goal.returns-in_err-record-clause-full
returns-in_err-record-clause-full c =
    let p = err_from_is_err_and c.from_residual.result c.from_residual.ensures.1 in
    rw p.1 (λ k on. rw c.in-Some.is (one_full c.args.labels.now.source c.in-Some.span k _ _ (rw c.in-Some.is at on) c.in_err-record.ensures.full))

pub returns-in_err-record-clause-some : goal.returns-in_err-record-clause-some
returns-in_err-record-clause-some c = λ k on.
    rw c.in-Some.is (one_kept c.args.labels.now.source c.in-Some.span k _ _ (rw c.in-Some.is at on) c.in_err-record.ensures.full (ap (λ (x : Labelled). x.table) c.in_err-record.ensures.kept))

pub returns-clause-most : goal.returns-clause-most
returns-clause-most c =
    omega (arith, ap length c.in_ok-record.ensures.recorded, recorded_most (span_label c.args.labels.now.source c.in-Some.span.start c.in-Some.span.end c.args.address) c.args.labels.now.table)

pub returns-clause-grown : goal.returns-clause-grown
returns-clause-grown c = grown_by _ _ _ _ _ c.in_ok-record.ensures.recorded c.in_ok-record.ensures.written

pub returns-clause-recorded : goal.returns-clause-recorded
returns-clause-recorded c = λ k on.
    rw c.in-Some.is (one_recorded c.args.labels.now.source c.in-Some.span k _ _ (rw c.in-Some.is at on) c.in_ok-record.ensures.room_for c.in_ok-record.ensures.recorded)

pub returns-clause-some : goal.returns-clause-some
returns-clause-some c = λ k on.
    rw c.in-Some.is (one_now c.args.labels.now.source c.in-Some.span k _ _ (rw c.in-Some.is at on) c.in_ok-record.ensures.room_for c.in_ok-record.ensures.recorded)
