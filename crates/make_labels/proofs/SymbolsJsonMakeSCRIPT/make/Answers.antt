-- A script over the limit is refused. Assumes nothing.
use Rattle.std.proofs.lemmas.Result.{err_from_is_err_and}
use Rattle.make_labels.proofs.Told.{symbols_json_refused}
use Rattle.make_labels.proofs.SymbolsJsonMakeSCRIPT.make.Goals as goal

pub returns-in_err-script_in : goal.returns-in_err-script_in
returns-in_err-script_in c = λ a s p r.
    let e = err_from_is_err_and c.from_residual.result c.from_residual.ensures.1 in
    rw (e.1, e.2) (symbols_json_refused s _ (c.in_err-script_in.ensures s r) c.args.self.now.base)
