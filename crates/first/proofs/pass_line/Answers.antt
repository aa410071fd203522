-- `pass_line` reads the line, and takes it if it does not end the pass. Assumes nothing.
use Rattle.std.proofs.Common.{arith, refl, sym, ap, ◌∙◌, length}
use Rattle.outline.proofs.Lines.{line_end_le}
use Rattle.first.specs.Progress.{Ahead}
use Rattle.first.proofs.Passing.{ends_last, ends_here}
use Rattle.first.proofs.pass_line.Goals as goal

pub returns-then-source-p : goal.returns-then-source-p
returns-then-source-p g c = (refl, ends_last _ _ _ _ _ (omega (arith, ap length c.source-source.ensures)))

pub returns-then-is_end : goal.returns-then-is_end
returns-then-is_end g c =
    let ahead : Ahead g.S.Sizing.sizes c.args.labels.now c.args.base c.args.cells.now c.args.p = record { stands = c.requires; inside = omega (arith, ap length c.source-source.ensures) } in
    (refl, ends_here _ _ _ _ _ ahead _ (rw c.source-source.ensures at c.read_line-line.ensures) (sym (c.is_end.ensures _) ∙ c.if-is_end.true))

pub overflow_add-outline : goal.overflow_add-outline
overflow_add-outline g c =
    let e = rw c.source-source.ensures at c.outline_line-outline.ensures.ends in
    omega (arith, e, line_end_le c.args.labels.now.source c.args.p.at (omega (arith, ap length c.source-source.ensures)), c.requires.short)
