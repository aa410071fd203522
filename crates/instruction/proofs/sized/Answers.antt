-- `sized` tries the mnemonics one after the other. Assumes nothing.
use mathlib.Core.Path.{sym, ◌∙◌}
use Rattle.rules.specs.Text.{bytes}
use Rattle.instruction.proofs.Size.{sized_move, sized_rest}
use Rattle.instruction.proofs.sized.Goals.{then-same_upper-3-via-then-same_upper-3, then-same_upper-3-via-else-same_upper-3+then-same_upper-4}
use Rattle.instruction.proofs.sized.Goals as goal

pub returns-then-same_upper-3 : goal.returns-then-same_upper-3
unfolding bytes
returns-then-same_upper-3 c =
    let m = sym c.same_upper.ensures ∙ c.if-same_upper.false in
    let d = sym c.same_upper-2.ensures ∙ c.if-same_upper-2.false in
    elim c.then-same_upper-3.branch [
      | then-same_upper-3-via-then-same_upper-3 w ↦ sized_move _ _ m c.in-Long.is d (sym c.same_upper-3.ensures ∙ w.if-same_upper-3.true)
      | then-same_upper-3-via-else-same_upper-3+then-same_upper-4 w ↦
          sized_rest _ _ m c.in-Long.is d (sym c.same_upper-3.ensures ∙ w.if-same_upper-3.false) (sym w.same_upper-else-same_upper-3.ensures ∙ w.if-same_upper-4.true)
    ]

pub returns : goal.returns
unfolding bytes
returns c = sized_rest _ _ (sym c.same_upper.ensures ∙ c.if-same_upper.false) c.in-Long.is (sym c.same_upper-2.ensures ∙ c.if-same_upper-2.false) (sym c.same_upper-3.ensures ∙ c.if-same_upper-3.false) (sym c.same_upper-else-same_upper-3.ensures ∙ c.if-same_upper-4.false)
