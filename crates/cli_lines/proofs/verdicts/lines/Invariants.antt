-- The lines so far. Assumes nothing.
use Rattle.std.proofs.Common.{◌≡◌, take, flat_map}
use Rattle.whytext.specs.Verdicts.{line_of}
use Rattle.cli_lines.proofs.verdicts.lines.Given as goal

abbrev pub invariant-loop-verdict : goal.invariant-loop-verdict
invariant-loop-verdict l = l.lines.items ≡ flat_map line_of (take l.verdict-index l.verdicts)
