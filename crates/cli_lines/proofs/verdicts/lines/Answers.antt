-- A line more. Assumes nothing.
use Rattle.std.proofs.Common.{◌++◌, ◌∙◌, sym, ap, arith}
use Rattle.rules.specs.Text.{Text}
use Rattle.explain.specs.declared.Verdict.TheVariants.{Emitted}
use Rattle.cli_lines.proofs.Backs.{lines_more}
use Rattle.cli_lines.proofs.verdicts.lines.Goals as goal

pub loop-verdict-preserved : goal.loop-verdict-preserved
loop-verdict-preserved c =
    rw (lines_more c.loop-verdict.verdict-index c.args.verdicts.now Emitted (omega arith), ← c.loop-verdict.invariant)
    (c.in_ok-extend_from_slice.ensures.items ∙ ap (λ (t : Text). c.loop-verdict.lines.items ++ t) c.put_line-n.ensures.front)
