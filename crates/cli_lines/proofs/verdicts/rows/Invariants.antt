-- The rows so far. Assumes nothing.
use Rattle.std.proofs.Common.{◌≡◌, take}
use Rattle.whytext.specs.Verdicts.{rows_of}
use Rattle.cli_lines.proofs.verdicts.rows.Given as goal

abbrev pub invariant-loop-k : goal.invariant-loop-k
invariant-loop-k l = l.rows.items ≡ rows_of (take l.k l.verdicts)
