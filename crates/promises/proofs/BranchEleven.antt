-- Branch tables: mnemonics that mean the same give the same lists and verdicts, and the eleven in any order mean what the built-in ones do. Assumes nothing.
use Rattle.std.specs.Prelude.{Option, None, Some}
use Rattle.rules.specs.Option.{bind, or_else}
use Prim.Native.Nat.{ℕ}
use mathlib.Core.Path.{◌≡◌, refl, sym, ap, ◌∙◌}
use mathlib.Core.Bool.{true, cond}
use mathlib.Core.List.{List, [], ◌∷◌, ◌++◌, map}
use lib.Dec.{ltb}
use lib.ListN.{length}
use Rattle.rules.specs.Text.{Text, bytes, same, cut_at}
use Rattle.rules.specs.Line.{Instruction, Task, skipped, end, org, no_org, label_only, instruction, value, space, size}
use Rattle.rules.specs.Label.{Table}
use Rattle.rules.specs.Encode.{Operation, Mnemonic, mnemonic, branches, other_mnemonics, mnemonics, operation_in, is_some, encode_operation, encode_by}
use Rattle.rules.specs.Answer.{Answer, accepted, and_then}
use Rattle.rules.specs.Assemble.{Put, Pass, pass_at, assemble_by}
use Rattle.requests.specs.Explain.{not_instruction, unknown_mnemonic, Verdict, because, why_operation, why, why_task, verdicts, verdict_at, told_line, explain_all_by, explain_by}
use Rattle.requests.proofs.Mnemonics.{in_both}
use Rattle.promises.specs.Nearest.{In, head, tail}
use Rattle.promises.specs.BranchCalls.{TheEleven}
use Rattle.promises.proofs.Compared.{clash}
use Rattle.promises.proofs.BranchNames.{found, is_found}

-- ---- names that mean the same
module _ (ms ns : List Mnemonic) (e : (m : Text) → operation_in ms m ≡ operation_in ns m) where
  words_same : (ls : Table) (a : ℕ) (i : Instruction) → encode_by ms ls a i ≡ encode_by ns ls a i
  unfolding encode_by
  words_same ls a i = ap (λ (x : Option Operation). bind x (λ o. encode_operation ls a o i.operands)) (e i.mnemonic)

  pub lists_same : (base : ℕ) (s : Text) → assemble_by size (encode_by ms) base s ≡ assemble_by size (encode_by ns) base s
  lists_same base s = λ k. assemble_by size (λ ls a i. words_same ls a i k) base s

  task_same : (ls : Table) (a : ℕ) (k : Task) → why_task ms ls a k ≡ why_task ns ls a k
  unfolding why_task why
  task_same ls a skipped = refl
  task_same ls a end = refl
  task_same ls a (org v) = refl
  task_same ls a no_org = refl
  task_same ls a label_only = refl
  task_same ls a (instruction i) =
      λ k. elim (e i.mnemonic k) [ None ↦ because unknown_mnemonic | Some o ↦ why_operation ls a o i.operands ]
  task_same ls a (value n v) = refl
  task_same ls a (space n) = refl

  verdicts_same : (s : Text) (p : Pass) → verdicts ms s p ≡ verdicts ns s p
  unfolding verdicts
  verdicts_same s p =
      λ k. map (λ (q : Put). task_same p.labels q.address q.task k) p.puts
      ++ cond (ltb (length p.puts) (length (cut_at 10 s))) (because not_instruction ∷ []) []

  pub explains_same : (base : ℕ) (s : Text) → explain_all_by ms base s ≡ explain_all_by ns base s
  unfolding explain_all_by
  explains_same base s = λ k. and_then (pass_at base s) (λ p. accepted (verdicts_same s p k))

  pub explain_same : (base : ℕ) (s : Text) (n : ℕ) → explain_by ms base s n ≡ explain_by ns base s n
  unfolding explain_by
  explain_same base s n = ap (λ (x : Answer (List Verdict)). and_then x (λ vs. told_line n (verdict_at n vs))) (explains_same base s)

-- ---- the eleven
-- what holds of each
data All (P : Mnemonic → Type 0) : List Mnemonic → Type 0 where
  done : All P []
  also : {n : Mnemonic} {ns : List Mnemonic} → P n → All P ns → All P (n ∷ ns)

pick : {P : Mnemonic → Type 0} {n : Mnemonic} {ns : List Mnemonic} → In n ns → All P ns → P n
pick (head e) (also p ps) = rw e p
pick (tail i) (also p ps) = pick i ps

-- they differ in their names
abbrev Found : Mnemonic → Type 0
Found n = operation_in branches n.name ≡ Some n.operation

all_found : All Found branches
unfolding branches bytes operation_in same
all_found = also refl (also refl (also refl (also refl (also refl (also refl (also refl (also refl (also refl (also refl (also refl done))))))))))

module _ (ns : List Mnemonic) (e : TheEleven ns) (m : Text) where
  same_rows : operation_in ns m ≡ operation_in branches m
  unfolding is_some
  same_rows = go (operation_in ns m) refl (operation_in branches m) refl
    where
      go : (x : Option Operation) → operation_in ns m ≡ x → (y : Option Operation) → operation_in branches m ≡ y → x ≡ y
      go (Some o) f y g = sym (pick {P = Found} (e.no_other (mnemonic m o) (found ns m o f)) all_found) ∙ g
      go None f None g = refl
      go None f (Some o) g =
          let u : is_some (operation_in ns m) ≡ true = is_found (e.each (mnemonic m o) (found branches m o g)) in
          let v : is_some {A = Operation} None ≡ true = rw f at u in
          clash cc

  pub eleven_mean : operation_in (other_mnemonics ++ ns) m ≡ operation_in mnemonics m
  unfolding mnemonics
  eleven_mean = in_both other_mnemonics ns m ∙ ap (λ (x : Option Operation). or_else (operation_in other_mnemonics m) x) same_rows ∙ sym (in_both other_mnemonics branches m)
