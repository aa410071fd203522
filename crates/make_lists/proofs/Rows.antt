-- The rows of `check`, by what a refusal speaks of. Assumes nothing.
use Rattle.std.proofs.Common.{◌≡◌, ◌||◌, ℕ, Bool, true, false, eqb, cond, sym, ap, ◌∙◌}
use Rattle.rules.specs.Text.{Text}
use Rattle.diagnostic.specs.Said.{refused_row}
use Rattle.outcome.specs.Made.{made, refuses, of_which}
use Rattle.outcome.specs.declared.Which.{Which}
use Rattle.outcome.specs.declared.Which.TheVariants.{Input, Table}
use Rattle.promises.proofs.Compared.{clash}
use Rattle.make_lists.specs.Checked.{refused_by}

module _ (name : Text) (n p : ℕ) (w : Which) where
  pub table_row : w ≡ of_which n → w ≡ Table → refused_by name n p ≡ refuses w n p
  unfolding refused_by of_which
  table_row e f = go (eqb n 16 || eqb n 17) e
    where
      go : (y : Bool) → w ≡ cond y Table Input → cond y (refuses Table n p) (made (refused_row name n p)) ≡ refuses w n p
      go true g = rw g
      go false g = let h : ◌≡◌ {A = Which} Table Input = sym f ∙ g in clash cc

  pub other_row : w ≡ of_which n → (w ≡ Table → ⊥) → {text : Text} → text ≡ refused_row name n p → refused_by name n p ≡ made text
  unfolding refused_by of_which
  other_row e f {text} r = go (eqb n 16 || eqb n 17) e
    where
      go : (y : Bool) → w ≡ cond y Table Input → cond y (refuses Table n p) (made (refused_row name n p)) ≡ made text
      go true g = absurd (f g)
      go false g = ap made (sym r)
