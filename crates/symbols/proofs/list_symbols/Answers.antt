-- `list_symbols` goes by what the first pass answered. Assumes nothing.
use Rattle.std.proofs.Common.{ap, ◌≡◌}
use Rattle.std.proofs.lemmas.Result.{err_from_is_err_and}
use Rattle.label.specs.Labelled.{Labelled}
use Rattle.symbols.proofs.Call.{refused_answer, refused_rows, short_answer, short_rows_kept, write_needs, written_answer, written_rows}
use Rattle.symbols.proofs.list_symbols.Goals as goal
use Rattle.symbols.proofs.list_symbols.Goals.{In_ok-enter}

source : (c : In_ok-enter) → c.enter.new.labels.source ≡ c.new-labels.result.source
source c = ap (λ (x : Labelled). x.source) c.in_ok-enter.ensures.labels

pub returns-in_err-enter-clause-answer : goal.returns-in_err-enter-clause-answer
returns-in_err-enter-clause-answer c =
    let p = err_from_is_err_and c.from_residual.result c.from_residual.ensures.1 in
    rw (p.1, p.2) (refused_answer _ c.new-labels.ensures.source _ _ _ c.in_err-enter.ensures.answer)

pub returns-in_err-enter-clause-rows : goal.returns-in_err-enter-clause-rows
returns-in_err-enter-clause-rows c = refused_rows _ c.new-labels.ensures.source _ _ _ c.in_err-enter.ensures.answer

pub returns-then-is_short-clause-answer : goal.returns-then-is_short-clause-answer
returns-then-is_short-clause-answer c =
    short_answer _ c.new-labels.ensures.source _ c.enter.new.labels _ c.in_ok-enter.field-0 (source (goal.at.returns-then-is_short-clause-answer c).In_ok-enter) c.len-count.ensures.lines c.in_ok-enter.ensures.answer c.len-count.ensures.count c.is_short.ensures
    c.if-is_short.true

pub returns-then-is_short-clause-rows : goal.returns-then-is_short-clause-rows
returns-then-is_short-clause-rows c =
    short_rows_kept _ c.new-labels.ensures.source _ c.enter.new.labels _ c.in_ok-enter.field-0 (source (goal.at.returns-then-is_short-clause-rows c).In_ok-enter) c.len-count.ensures.lines c.in_ok-enter.ensures.answer c.len-count.ensures.count c.is_short.ensures
    c.if-is_short.true

pub write_rows-requires : goal.write_rows-requires
write_rows-requires c =
    write_needs _ c.new-labels.ensures.source _ c.enter.new.labels _ c.in_ok-enter.field-0 (source (goal.at.write_rows-requires c).In_ok-enter) c.len-count.ensures.lines c.in_ok-enter.ensures.answer c.len-count.ensures.count c.is_short.ensures
    c.if-is_short.false

pub returns-clause-answer : goal.returns-clause-answer
returns-clause-answer c =
    written_answer _ c.new-labels.ensures.source _ c.enter.new.labels _ c.in_ok-enter.field-0 (source (goal.at.returns-clause-answer c).In_ok-enter) c.len-count.ensures.lines c.in_ok-enter.ensures.answer c.len-count.ensures.count c.is_short.ensures
    c.if-is_short.false

pub returns-clause-rows : goal.returns-clause-rows
returns-clause-rows c =
    written_rows _ c.new-labels.ensures.source _ c.enter.new.labels _ c.in_ok-enter.field-0 (source (goal.at.returns-clause-rows c).In_ok-enter) c.len-count.ensures.lines c.in_ok-enter.ensures.answer c.len-count.ensures.count c.is_short.ensures
    c.if-is_short.false c.write_rows.ensures
