-- The rows of the verdicts so far are written. Assumes nothing.
use Rattle.std.proofs.Common.{◌+◌, ◌*◌, ◌≤◌, take}
use Rattle.listing.specs.Writer.{Adds}
use Rattle.whytext.specs.Verdicts.{rows_by}
use Rattle.whytext.proofs.push_rows.Given as goal

abbrev pub invariant-loop-k : goal.invariant-loop-k
invariant-loop-k g l = record { text : Adds (rows_by g.V.VerdictSign.verdict (take l.k l.verdicts)) l.initial.text l.text; short : l.text.len ≤ l.initial.text.len + 31 * l.k }
