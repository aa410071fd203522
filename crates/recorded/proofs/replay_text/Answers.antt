-- Nothing, the counts, or these and the first that differs.
use Rattle.std.proofs.Common.{rules}
use Rattle.rules.specs.Text.{bytes}
use Rattle.listing.proofs.Adding.{adds_both, adds_all}
use Rattle.station.proofs.Printed.{printed}
use Rattle.recorded.proofs.Counts.{text_failed, text_agrees, text_differs}
use Rattle.recorded.proofs.replay_text.Goals.{in-Some, in_default}
use Rattle.recorded.proofs.replay_text.Goals as goal

pub returns-then-input : goal.returns-then-input
returns-then-input c = text_failed _ _ c.if-input.true _

pub returns : goal.returns
unfolding bytes
returns c =
    elim c.match-tally.branch [
      | in-Some w ↦
          let h = adds_all c.new-text.ensures (adds_both c.push_counts.ensures.text (adds_both w.push_bytes.ensures (adds_both w.push_decimal.ensures.text w.push.ensures))) in
          rw w.text-is (text_differs _ _ c.if-input.false _ w.in-Some.is (printed _ _ _ _ h.0 (search rules)))
      | in_default w ↦
          let h = adds_all c.new-text.ensures c.push_counts.ensures.text in
          rw w.text-is (text_agrees _ _ c.if-input.false w.in_default.is (printed _ _ _ _ h.0 (search rules)))
    ]
