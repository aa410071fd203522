-- There is room for every copy.
use Rattle.std.proofs.Common.{arith}
use Rattle.std.proofs.lemmas.List.{with_items_is}
use Rattle.std.proofs.lemmas.Result.{err_from_is_err_and}
use Rattle.make_lists.proofs.Copies.{copy_refused, copied}
use Rattle.make_lists.proofs.tidying.tidy_script.Goals as goal

pub returns-in_err-length : goal.returns-in_err-length
returns-in_err-length c =
    let p = err_from_is_err_and c.from_residual-in_err-length.result c.from_residual-in_err-length.ensures.1 in
    rw (p.1, p.2) (copy_refused c.args.source.now c.deref_mut.result.now (omega (arith, c.in_ok-copy.ensures.len)) c.in_err-length.ensures.value)

pub returns : goal.returns
returns c =
    let h = copied c.args.source.now c.deref_mut.result.now (omega (arith, c.in_ok-copy.ensures.len)) c.in_ok-length.ensures.value in
    let a = with_items_is c.in_ok-copy.copy c.tidy_copy.new.out (omega arith) in
    rw (c.truncate.ensures.items, a, c.in_ok-length.ensures.out_after) h
