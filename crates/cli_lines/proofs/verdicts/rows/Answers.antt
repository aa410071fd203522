-- A row more. Assumes nothing.
use Rattle.std.proofs.Common.{◌++◌, ◌∙◌, sym, ap, arith}
use Rattle.rules.specs.Text.{Text}
use Rattle.whytext.proofs.Rows.{rows_none, rows_more}
use Rattle.cli_lines.proofs.verdicts.rows.Goals as goal

pub loop-k-init : goal.loop-k-init
loop-k-init c = c.new-rows.ensures.items ∙ sym (rows_none c.args.verdicts.now)

pub loop-k-preserved : goal.loop-k-preserved
loop-k-preserved c =
    rw (rows_more c.loop-k.k c.args.verdicts.now (omega arith), ← c.loop-k.invariant)
    (c.in_ok-extend_from_slice.ensures.items ∙ ap (λ (t : Text). c.loop-k.rows.items ++ t) c.put_row-n.ensures.front)
