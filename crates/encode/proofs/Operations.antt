-- An operation's words by its operands, as the code counts them. Assumes nothing.
use Rattle.std.specs.Prelude.{None}
use Prim.Native.Nat.{ℕ, ◌≤◌}
use mathlib.Core.Path.{◌≡◌, refl, ◌∙◌}
use mathlib.Core.List.{List, [], ◌∷◌}
use native.Mathlib.Omega.{arith}
use lib.ListN.{length}
use Rattle.rules.specs.Text.{Text, cut_at}
use Rattle.rules.specs.Label.{Table}
use Rattle.rules.specs.Encode.{two, tst_row, jump_row, branch_row, encode_operation}
use Rattle.opcode.specs.Operation.{ruled}
use Rattle.opcode.specs.declared.mnemonic.Operation.{Operation}
use Rattle.opcode.specs.declared.mnemonic.Operation.TheVariants.{Moveq, Move, Movea, Muls, Tst, Subq, Asl, Dbra, Nop, Simhalt, Add, Sub, Cmp, Jmp, Branch}
use Rattle.text.specs.declared.Span.{Span}
use Rattle.text.specs.Spans.{span_text}
use Rattle.instruction.specs.Split.{spans, summary, operands_in, operands_at}
use Rattle.instruction.specs.declared.Operands.{Operands}
use Rattle.instruction.proofs.Places.{operands_of_lem, two_operands, not_two, one_operand, not_one, some_operand, no_operand_lem}
use Rattle.encode.specs.Operations.{two_rows}

-- where the first operand stands lies in the text, also where there is none
pub first_lies : (t : Text) (o : Operands) → o ≡ operands_at t → (o.first.start ≤ o.first.end) × (o.first.end ≤ length t)
unfolding operands_at summary
first_lies t o e = go (spans 0 (cut_at 44 t)) e
  where
    go : (ss : List Span) → o ≡ summary ss → (o.first.start ≤ o.first.end) × (o.first.end ≤ length t)
    go [] p = rw p (omega arith, omega arith)
    go (s ∷ []) p = let x = (operands_of_lem t o e).first (rw p (omega arith)) in (omega arith, omega arith)
    go (s ∷ u ∷ ss) p = let x = (operands_of_lem t o e).first (rw p (omega arith)) in (omega arith, omega arith)

-- ---- the operations that are not asked for by name: those of two operands
pub record Paired (o : Operation) : Type 0 where
  pub not_nop : o ≡ Nop → ⊥
  pub not_simhalt : o ≡ Simhalt → ⊥
  pub not_branch : (c : ℕ) → o ≡ Branch c → ⊥
  pub not_tst : o ≡ Tst → ⊥
  pub not_jmp : o ≡ Jmp → ⊥

pairs : (ls : Table) (a : ℕ) (ps : List Text) (o : Operation) → Paired o → encode_operation ls a (ruled o) ps ≡ two (two_rows ls a o) ps
unfolding encode_operation two_rows
pairs ls a ps Moveq h = refl
pairs ls a ps Move h = refl
pairs ls a ps Movea h = refl
pairs ls a ps Muls h = refl
pairs ls a ps Subq h = refl
pairs ls a ps Asl h = refl
pairs ls a ps Dbra h = refl
pairs ls a ps Add h = refl
pairs ls a ps Sub h = refl
pairs ls a ps Cmp h = refl
pairs ls a ps Nop h = absurd (h.not_nop refl)
pairs ls a ps Simhalt h = absurd (h.not_simhalt refl)
pairs ls a ps (Branch c) h = absurd (h.not_branch c refl)
pairs ls a ps Tst h = absurd (h.not_tst refl)
pairs ls a ps Jmp h = absurd (h.not_jmp refl)

module _ (ls : Table) (a : ℕ) (t : Text) (ops : Operands) (x : ops ≡ operands_at t) where
  pub branch_none : (c : ℕ) → ops.count ≡ 0 → encode_operation ls a (ruled (Branch c)) (operands_in t) ≡ None
  unfolding encode_operation
  branch_none c n = no_operand_lem _ (operands_of_lem t ops x) (branch_row ls a c) n

  pub branch_some : (c : ℕ) → (ops.count ≡ 0 → ⊥) → encode_operation ls a (ruled (Branch c)) (operands_in t) ≡ branch_row ls a c (span_text t ops.first)
  unfolding encode_operation
  branch_some c n = some_operand _ (operands_of_lem t ops x) (branch_row ls a c) (omega arith)

  pub tst_none : (ops.count ≡ 1 → ⊥) → encode_operation ls a (ruled Tst) (operands_in t) ≡ None
  unfolding encode_operation
  tst_none n = not_one _ (operands_of_lem t ops x) tst_row n

  pub tst_one : ops.count ≡ 1 → encode_operation ls a (ruled Tst) (operands_in t) ≡ tst_row (span_text t ops.first)
  unfolding encode_operation
  tst_one n = one_operand _ (operands_of_lem t ops x) tst_row n

  pub jmp_none : (ops.count ≡ 1 → ⊥) → encode_operation ls a (ruled Jmp) (operands_in t) ≡ None
  unfolding encode_operation
  jmp_none n = not_one _ (operands_of_lem t ops x) (jump_row ls) n

  pub jmp_one : ops.count ≡ 1 → encode_operation ls a (ruled Jmp) (operands_in t) ≡ jump_row ls (span_text t ops.first)
  unfolding encode_operation
  jmp_one n = one_operand _ (operands_of_lem t ops x) (jump_row ls) n

  module _ (o : Operation) (p : Paired o) where
    pub no_pair : (ops.count ≡ 2 → ⊥) → encode_operation ls a (ruled o) (operands_in t) ≡ None
    no_pair n = pairs ls a (operands_in t) o p ∙ not_two _ (operands_of_lem t ops x) (two_rows ls a o) n

    pub pair : ops.count ≡ 2 → encode_operation ls a (ruled o) (operands_in t) ≡ two_rows ls a o (span_text t ops.first) (span_text t ops.second)
    pair n = pairs ls a (operands_in t) o p ∙ two_operands _ (operands_of_lem t ops x) (two_rows ls a o) n
