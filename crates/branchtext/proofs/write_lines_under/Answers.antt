-- `write_lines_under` prints what the call answers and writes. Assumes nothing.
use Rattle.std.proofs.Common.{replicate}
use Rattle.explain.specs.declared.Verdict.TheVariants.{Emitted}
use Rattle.whytext.proofs.Told.{counted_by_call, rows_fit}
use Rattle.branchtext.specs.BranchText.{lines_under_text}
use Rattle.branchtext.proofs.write_lines_under.Goals as goal

pub write_counted-requires : goal.write_counted-requires
write_counted-requires c = let call = c.explain_lines_branches-answer.ensures in rows_fit _ _ call.value call.count _ call.verdicts_after

pub returns : goal.returns
unfolding lines_under_text
returns c =
    let call = c.explain_lines_branches-answer.ensures in
    rw (← (counted_by_call _ (replicate 4096 Emitted) _ call.value call.verdicts_after)) c.write_counted.ensures
