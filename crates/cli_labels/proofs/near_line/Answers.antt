-- The line that is written, or the refusal.
use mathlib.Core.Path.{◌≡◌}
use native.Mathlib.Omega.{arith}
use lib.ListN.{length}
use Rattle.cli_labels.proofs.Told.{lent_whole}
use Rattle.cli_labels.proofs.near_line.Goals as goal

pub returns : goal.returns
returns c =
    let same : length c.put_near-answer.new.out ≡ c.in_ok-buffer.buffer.len = omega (arith, c.put_near-answer.auto.out, c.as_mut_slice.ensures.len) in
    c.text_in.ensures _ _ (lent_whole _ _ _ _ _ _ same c.put_near-answer.ensures)
