-- `outline_line` looks once at each byte of the line. Assumes nothing.
use mathlib.Core.Path.{◌∙◌}
use native.Mathlib.Omega.{arith}
use Rattle.outline.proofs.Looking.{colon_found, colon_kept, defines_found, defines_kept, looked_byte, looked_letter}
use borrow.Author.Rules.{rules}
use Rattle.outline.proofs.outline_line.Goals as goal
use Rattle.outline.proofs.outline_line.Goals.{then-b-le58+else-b-eq10+then-b-eq46, then-b-eq58, else-b-eq58, then-b-le58+else-b-eq10+else-b-eq46, else-b-le58}

pub loop-i-preserved : goal.loop-i-preserved
loop-i-preserved c =
    let inv = c.loop-i.invariant in
    elim c.if-b-le58.branch [
      | then-b-le58+else-b-eq10+then-b-eq46 w ↦
          looked_byte inv (search rules) w.if-b-eq10.false
          (elim w.if-b-eq58.branch [
            | then-b-eq58 u ↦ colon_found inv (search rules) w.if-b-eq10.false u.if-b-eq58.true (w.colon-is ∙ u.colon-is ∙ u.next_colon-colon.ensures)
            | else-b-eq58 u ↦ colon_kept inv (search rules) w.if-b-eq10.false u.if-b-eq58.false (w.colon-is ∙ u.colon-is)
          ])
          (defines_found inv (search rules) w.if-b-eq10.false w.if-b-eq46.true (w.defines-is ∙ w.next_define-defines.ensures))
      | then-b-le58+else-b-eq10+else-b-eq46 w ↦
          looked_byte inv (search rules) w.if-b-eq10.false
          (elim w.if-b-eq58.branch [
            | then-b-eq58 u ↦ colon_found inv (search rules) w.if-b-eq10.false u.if-b-eq58.true (w.colon-is ∙ u.colon-is ∙ u.next_colon-colon.ensures)
            | else-b-eq58 u ↦ colon_kept inv (search rules) w.if-b-eq10.false u.if-b-eq58.false (w.colon-is ∙ u.colon-is)
          ])
          (defines_kept inv (search rules) w.if-b-eq10.false w.if-b-eq46.false w.defines-is)
      | else-b-le58 w ↦ let g = w.if-b-le58.false in looked_letter inv (search rules) (λ z. absurd (omega arith)) g w.colon-is w.defines-is
    ]
