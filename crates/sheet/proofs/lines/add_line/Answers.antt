-- `add_line` adds to the totals by the kind of the line. Assumes nothing.
use Rattle.sheet.specs.Totals.{said}
use Rattle.sheet.proofs.Tallies.{with_line, with_line_lem}
use Rattle.sheet.proofs.Reading.{code_added, code_more}
use mathlib.Core.Logic.{inl, inr}
use mathlib.Core.Path.{sym, ap, ◌∙◌}
use Rattle.branches.specs.Branch.{names_in}
use Rattle.sheet.proofs.lines.add_line.Goals as goal

pub returns-in-Instruction : goal.returns-in-Instruction
unfolding names_in
returns-in-Instruction c = code_more _ c.args.labels.now.source _ c.args.task c.in-Instruction.span c.in-Instruction.is (said c.args.t) c.encode_instruction.result (code_added _ c.args.labels.now.source _ c.in-Instruction.span (rw c.source.ensures at c.encode_instruction.ensures)) c.add_code.ensures

pub returns-in-Skipped : goal.returns-in-Skipped
returns-in-Skipped c = ap (with_line _ _) (sym c.in-Skipped.is) ∙ with_line_lem _ _ _ _ _

pub returns-in-End : goal.returns-in-End
returns-in-End c = ap (with_line _ _) (sym c.in-End.is) ∙ with_line_lem _ _ _ _ _

pub returns-in-LabelOnly : goal.returns-in-LabelOnly
returns-in-LabelOnly c = ap (with_line _ _) (sym c.in-LabelOnly.is) ∙ with_line_lem _ _ _ _ _

pub returns-in-Value : goal.returns-in-Value
returns-in-Value c = ap (with_line _ _) (sym c.in-Value.is) ∙ with_line_lem _ _ _ _ _

pub returns-in-Space : goal.returns-in-Space
returns-in-Space c = ap (with_line _ _) (sym c.in-Space.is) ∙ with_line_lem _ _ _ _ _

pub returns-in-Org : goal.returns-in-Org
returns-in-Org c =
    elim c.in-Org.is [
      | inl p ↦ ap (with_line _ _) (sym p.1) ∙ with_line_lem _ _ _ _ _
      | inr q ↦ ap (with_line _ _) (sym q) ∙ with_line_lem _ _ _ _ _
    ]
