-- There is room for every copy.
use Rattle.std.proofs.Common.{arith}
use Rattle.std.proofs.lemmas.List.{with_items_is}
use Rattle.cli_lists.proofs.Copies.{copy_refused, copied}
use Rattle.cli_lists.proofs.tidying.tidy_script.Goals as goal

pub returns-in-Err : goal.returns-in-Err
returns-in-Err c = copy_refused c.args.source.now c.deref_mut.result.now (omega (arith, c.in_ok-copy.ensures.len)) c.in-Err.ensures.value

pub returns-in-Ok : goal.returns-in-Ok
returns-in-Ok c =
    let h = copied c.args.source.now c.deref_mut.result.now (omega (arith, c.in_ok-copy.ensures.len)) c.in-Ok.ensures.value in
    let a = with_items_is c.in_ok-copy.copy c.tidy_copy.new.out (omega arith) in
    rw (c.truncate.ensures.items, a, c.in-Ok.ensures.out_after) h
