-- `explain_lines_by` goes by what the first pass answered. Assumes nothing.
use Rattle.std.proofs.Common.{ap, ◌∙◌}
use Rattle.label.specs.Labelled.{Labelled}
use Rattle.explain.proofs.Writing.{all_counted, all_written}
use Rattle.explain.proofs.explain_lines_by.Goals as goal

pub returns-clause-value : goal.returns-clause-value
returns-clause-value g c = all_counted _ c.write_verdicts.ensures c.in_ok-pass.ensures.base (ap (λ (l : Labelled). l.source) c.in_ok-pass.ensures.labels ∙ c.new-labels.ensures.source) c.in_ok-pass.ensures.holds

pub returns-clause-verdicts_after : goal.returns-clause-verdicts_after
returns-clause-verdicts_after g c = all_written _ c.write_verdicts.ensures c.in_ok-pass.ensures.base (ap (λ (l : Labelled). l.source) c.in_ok-pass.ensures.labels ∙ c.new-labels.ensures.source) c.in_ok-pass.ensures.holds
