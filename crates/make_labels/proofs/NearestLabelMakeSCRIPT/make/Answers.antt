-- A script over the limit is refused. Assumes nothing.
use Rattle.std.proofs.lemmas.Result.{err_from_is_err_and}
use Rattle.make_labels.proofs.Told.{nearest_refused}
use Rattle.make_labels.proofs.NearestLabelMakeSCRIPT.make.Goals as goal

pub returns-in_err-script_in : goal.returns-in_err-script_in
returns-in_err-script_in c = λ a s p r.
    let e = err_from_is_err_and c.from_residual.result c.from_residual.ensures.1 in
    rw (e.1, e.2) (nearest_refused s _ (c.in_err-script_in.ensures s r) c.args.self.now.base c.args.self.now.address)
