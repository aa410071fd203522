-- The copy is made in as much of the array as is lent.
use Rattle.std.proofs.Common.{arith, refl}
use Rattle.tidytext.proofs.Told.{tidied_refused, tidied_printed}
use Rattle.tidytext.proofs.write_tidied.Goals as goal

pub returns-in-Ok : goal.returns-in-Ok
returns-in-Ok c = tidied_printed c.args.room c.min-size.result c.args.source.now _ _ c.in-Ok.ensures.value c.in-Ok.ensures.out_after c.min-size.ensures (omega arith) _ refl

pub returns-in-Err : goal.returns-in-Err
returns-in-Err c = tidied_refused c.args.room c.min-size.result c.args.source.now _ _ c.in-Err.ensures.value c.in-Err.ensures.out_after c.min-size.ensures (omega arith) _ _ refl c.write_refusal.ensures
