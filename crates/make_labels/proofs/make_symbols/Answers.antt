-- The lines that are put, or the refusal. Assumes nothing.
use mathlib.Core.Path.{◌≡◌}
use native.Mathlib.Omega.{arith}
use lib.ListN.{length}
use Rattle.make_labels.proofs.Told.{lent_whole, symbols_put}
use Rattle.make_labels.proofs.make_symbols.Goals as goal

pub put_text-requires : goal.put_text-requires
put_text-requires c =
    let same : length c.put_symbols-answer.new.out ≡ c.in_ok-room.room.len = omega (arith, c.put_symbols-answer.auto.out, c.as_mut_slice.ensures.len) in
    (_, _, lent_whole _ _ _ _ _ _ same c.put_symbols-answer.ensures)

pub returns : goal.returns
returns c =
    let same : length c.put_symbols-answer.new.out ≡ c.in_ok-room.room.len = omega (arith, c.put_symbols-answer.auto.out, c.as_mut_slice.ensures.len) in
    rw (symbols_put c.args.base c.args.script.now) at (c.put_text.ensures _ _ (lent_whole _ _ _ _ _ _ same c.put_symbols-answer.ensures))
