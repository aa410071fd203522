-- `put_printout` refuses a wrong table, and goes by the source after it. Assumes nothing.
use mathlib.Core.Path.{refl, ap}
use Rattle.std.specs.Option.{option_copied}
use Rattle.std.proofs.lemmas.Result.{err_from_is_err_and}
use Rattle.printout.proofs.Told.{none_lent, table_refused, table_lent}
use Rattle.printout.proofs.put_printout.Goals as goal
use Rattle.printout.proofs.put_printout.Goals.{in-Some+in_ok-load_branches, in_default}

pub returns-in_err-load_branches : goal.returns-in_err-load_branches
returns-in_err-load_branches c =
    let p = err_from_is_err_and c.from_residual.result c.from_residual.ensures.1 in
    rw (p.1, p.2) (table_refused _ _ (ap option_copied c.in-Some.is) c.load_branches.ensures _ c.in_err-load_branches.was, refl)

pub returns : goal.returns
returns c =
    elim c.match-names.branch [
      | in-Some+in_ok-load_branches w ↦ rw (table_lent _ _ (ap option_copied w.in-Some.is) w.load_branches.ensures _ w.in_ok-load_branches.was) c.put_printout_by.ensures
      | in_default w ↦ rw (none_lent _ _ c.args.names w.in_default.not-Some) c.put_printout_by.ensures
    ]
