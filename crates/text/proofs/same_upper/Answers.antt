-- `same_upper` compares texts of one length, the first in upper case. Assumes nothing.
use borrow.Author.Tests.{ne_eqb}
use Rattle.std.proofs.Common.{sym, ◌∙◌}
use Rattle.text.proofs.Compare.{length_uppers, same_starts, same_longer}
use Rattle.text.proofs.same_upper.Goals as goal

pub returns-then-piece-name : goal.returns-then-piece-name
returns-then-piece-name c = c.starts_upper.ensures ∙ sym (same_starts _ _ (length_uppers _ ∙ c.if-piece-name.true))

pub returns-else-piece-name : goal.returns-else-piece-name
returns-else-piece-name c = ne_eqb _ _ c.if-piece-name.false ∙ sym (same_longer _ _ (λ e. c.if-piece-name.false (sym (length_uppers _) ∙ e)))
