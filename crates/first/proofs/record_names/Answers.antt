-- `record_names` records the labels one after another. Assumes nothing.
use Rattle.std.proofs.lemmas.Result.{err_from_is_err_and}
use Rattle.line.specs.Line.{names_of}
use Rattle.first.proofs.Naming.{grown_then, none_first, some_first, all_then, some_then}
use Rattle.first.proofs.record_names.Goals as goal

pub returns-in_err-record_name-clause-full : goal.returns-in_err-record_name-clause-full
returns-in_err-record_name-clause-full c =
    let p = err_from_is_err_and c.from_residual.result c.from_residual.ensures.1 in
    rw p.1 (λ k on. none_first (names_of c.args.labels.now.source c.args.names.first) _ _ _ on c.in_err-record_name.ensures.full)

pub returns-in_err-record_name-clause-some : goal.returns-in_err-record_name-clause-some
returns-in_err-record_name-clause-some c = λ k on.
    some_first (names_of c.args.labels.now.source c.args.names.first) _ _ _ on c.in_err-record_name.ensures.full c.in_err-record_name.ensures.some

pub returns-in_err-record_name-2-clause-grown : goal.returns-in_err-record_name-2-clause-grown
returns-in_err-record_name-2-clause-grown c = grown_then c.in_ok-record_name.ensures.grown c.in_err-record_name-2.ensures.grown

pub returns-in_err-record_name-2-clause-full : goal.returns-in_err-record_name-2-clause-full
returns-in_err-record_name-2-clause-full c =
    let p = err_from_is_err_and c.from_residual-in_err-record_name-2.result c.from_residual-in_err-record_name-2.ensures.1 in
    rw p.1
    (λ k on. all_then (names_of c.args.labels.now.source c.args.names.first) (names_of c.args.labels.now.source c.args.names.second) _ _ on c.in_ok-record_name.ensures.recorded
    (rw c.in_ok-record_name.ensures.source at c.in_err-record_name-2.ensures.full))

pub returns-in_err-record_name-2-clause-some : goal.returns-in_err-record_name-2-clause-some
returns-in_err-record_name-2-clause-some c = λ k on.
    some_then (names_of c.args.labels.now.source c.args.names.first) (names_of c.args.labels.now.source c.args.names.second) _ _ on c.in_ok-record_name.ensures.recorded
    (rw c.in_ok-record_name.ensures.source at c.in_err-record_name-2.ensures.some)

pub returns-clause-grown : goal.returns-clause-grown
returns-clause-grown c = grown_then c.in_ok-record_name.ensures.grown c.in_ok-record_name-2.ensures.grown

pub returns-clause-recorded : goal.returns-clause-recorded
returns-clause-recorded c = λ k on.
    all_then (names_of c.args.labels.now.source c.args.names.first) (names_of c.args.labels.now.source c.args.names.second) _ _ on c.in_ok-record_name.ensures.recorded
    (rw c.in_ok-record_name.ensures.source at c.in_ok-record_name-2.ensures.recorded)

pub returns-clause-some : goal.returns-clause-some
returns-clause-some c = λ k on.
    some_then (names_of c.args.labels.now.source c.args.names.first) (names_of c.args.labels.now.source c.args.names.second) _ _ on c.in_ok-record_name.ensures.recorded
    (rw c.in_ok-record_name.ensures.source at c.in_ok-record_name-2.ensures.some)
