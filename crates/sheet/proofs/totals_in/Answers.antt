-- `totals_in` goes by what the first pass answered. Assumes nothing.
use Rattle.std.proofs.Common.{ap, ◌∙◌}
use Rattle.std.proofs.lemmas.List.{take-replicate}
use Rattle.label.specs.Table.{hashes}
use Rattle.label.specs.Labelled.{Labelled}
use Rattle.sheet.proofs.Owning.{pass_refused, pass_needs, pass_counted}
use Rattle.sheet.proofs.totals_in.Goals as goal

pub new-labels-requires : goal.new-labels-requires
new-labels-requires g c = take-replicate hashes _ 0 c.requires.heads

pub returns-in-Err : goal.returns-in-Err
returns-in-Err g c = pass_refused c.requires.starting (rw c.new-labels.ensures.source at c.in-Err.ensures.answer)

pub pass_totals-requires : goal.pass_totals-requires
pass_totals-requires g c = pass_needs c.requires.starting (ap (λ (l : Labelled). l.source) c.in-Ok.ensures.labels ∙ c.new-labels.ensures.source) (rw c.new-labels.ensures.source at c.in-Ok.ensures.answer) c.in-Ok.ensures.done

pub returns-in-Ok : goal.returns-in-Ok
returns-in-Ok g c = pass_counted c.requires.starting (ap (λ (l : Labelled). l.source) c.in-Ok.ensures.labels ∙ c.new-labels.ensures.source) (rw c.new-labels.ensures.source at c.in-Ok.ensures.answer) c.in-Ok.ensures.done c.pass_totals.ensures
