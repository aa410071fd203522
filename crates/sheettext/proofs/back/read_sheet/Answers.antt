-- `read_sheet` writes what it reads, and compares. Assumes nothing.
use mathlib.Core.Path.{ap, ◌∙◌}
use Rattle.sheettext.specs.Back.{same_front}
use Rattle.sheettext.proofs.ReadBack.{read_wrong, read_whole, common_long}
use Rattle.sheettext.proofs.back.read_sheet.Goals as goal
use Rattle.sheettext.proofs.back.read_sheet.Goals.{then-common-size-via-then-common-size, then-common-size-via-else-common-size+then-common-t}

pub slice_bounds-count_lines-end : goal.slice_bounds-count_lines-end
slice_bounds-count_lines-end c = common_long _ _ c.same_front-common.ensures

pub returns-then-common-size : goal.returns-then-common-size
returns-then-common-size c =
    let e = c.same_front-common.ensures ∙ ap (λ s. same_front s c.args.t.now) c.write_sheet-size.ensures.front in
    elim c.then-common-size.branch [
      | then-common-size-via-then-common-size w ↦ read_wrong c.args.t.now c.read_totals-totals.ensures c.write_sheet-size.ensures.answer e (λ p q. w.if-common-size.true p) c.count_lines.ensures
      | then-common-size-via-else-common-size+then-common-t w ↦ read_wrong c.args.t.now c.read_totals-totals.ensures c.write_sheet-size.ensures.answer e (λ p q. w.if-common-t.true q) c.count_lines.ensures
    ]

pub returns : goal.returns
returns c = read_whole c.args.t.now c.read_totals-totals.ensures c.write_sheet-size.ensures.answer (c.same_front-common.ensures ∙ ap (λ s. same_front s c.args.t.now) c.write_sheet-size.ensures.front) c.if-common-size.false c.if-common-t.false
