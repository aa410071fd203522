-- The verdict on what a line asks: the verdict on it is right, and no other is. Assumes nothing.
use Rattle.std.specs.Prelude.{Option, None, Some}
use Rattle.rules.specs.Option.{bind}
use Prim.Native.Nat.{ℕ, ◌<◌, ◌≤◌}
use mathlib.Core.Path.{◌≡◌, refl, ◌∙◌}
use mathlib.Core.Logic.{◌≢◌}
use mathlib.Core.Bool.{Bool, true, false}
use mathlib.Core.List.{List, [], ◌∷◌, ◌++◌}
use native.Mathlib.Omega.{arith}
use Rattle.rules.specs.Text.{Text, same}
use Rattle.rules.specs.Line.{Instruction, Task, skipped, end, org, no_org, label_only, instruction, value, space}
use Rattle.rules.specs.Label.{Table, find}
use Rattle.rules.specs.Encode.{Content, Operation, Mnemonic, operation_in, is_some, encode_operation, encode_by}
use Rattle.rules.specs.Assemble.{data_contents, code_contents_by}
use Rattle.requests.specs.Explain.{Reason, not_instruction, unknown_mnemonic, wrong_count, wrong_kinds, bad_number, not_recorded, out_of_reach, Verdict, emitted, because, why_operation, why, why_task}
use Rattle.promises.specs.Nearest.{In, head, tail}
use Rattle.promises.specs.Explain.{rank, Faulty, Holds, other, unknown, operands}
use Rattle.promises.proofs.Compared.{clash}
use Rattle.promises.proofs.Same.{same_eq}
use Rattle.promises.proofs.Kept.{not_same}
use Rattle.promises.proofs.Words.{some_words}
use Rattle.promises.proofs.Decided.{there, none_there}
use Rattle.promises.proofs.Verdicts.{Judged, makes, lacks, judged, first_told}

-- ---- mnemonics in use
known : (ns : List Mnemonic) (m : Text) (o : Operation) → operation_in ns m ≡ Some o → ((n : Mnemonic) → In n ns → m ≢ n.name) → ⊥
unfolding operation_in
known [] m o e k = clash cc
known (n ∷ ns) m o e k = go (same m n.name) refl e (known ns m o)
  where
    go : (x : Bool) → same m n.name ≡ x → elim x [ true ↦ Some n.operation | false ↦ operation_in ns m ] ≡ Some o
        → (operation_in ns m ≡ Some o → ((l : Mnemonic) → In l ns → m ≢ l.name) → ⊥) → ⊥
    go true f e ih = k n (head refl) (same_eq m n.name f)
    go false f e ih = ih e (λ l i. k l (tail i))

unknown_all : (ns : List Mnemonic) (m : Text) → operation_in ns m ≡ None → (n : Mnemonic) → In n ns → m ≢ n.name
unfolding operation_in
unknown_all [] m e = λ n. elim [ ]
unknown_all (n ∷ ns) m e = go (same m n.name) refl e (unknown_all ns m)
  where
    go : (x : Bool) → same m n.name ≡ x → ◌≡◌ {A = Option Operation} (elim x [ true ↦ Some n.operation | false ↦ operation_in ns m ]) None
        → (operation_in ns m ≡ None → (l : Mnemonic) → In l ns → m ≢ l.name) → (l : Mnemonic) → In l (n ∷ ns) → m ≢ l.name
    go true f e ih = clash cc
    go false f e ih = on
      where
        on : (l : Mnemonic) → In l (n ∷ ns) → m ≢ l.name
        on l (head g) = rw g (not_same m n.name f)
        on l (tail i) = ih e l i

holds_rank : (q : Reason) → 1 ≤ rank q
unfolding rank
holds_rank not_instruction = omega arith
holds_rank unknown_mnemonic = omega arith
holds_rank wrong_count = omega arith
holds_rank wrong_kinds = omega arith
holds_rank (bad_number f) = omega arith
holds_rank not_recorded = omega arith
holds_rank out_of_reach = omega arith

-- ---- the verdict on what a line asks
-- the words that it puts at address a
unfoldable pub contents : List Mnemonic → Table → ℕ → Task → List Content
contents names ls a k = data_contents k ++ code_contents_by (encode_by names) ls a k

-- a right one, where At says at which address a label is recorded
pub data Told (names : List Mnemonic) (ls : Table) (At : Text → ℕ → Type 0) (a : ℕ) (k : Task) : Verdict → Type 0 where
  worded : {c : Content} {cs : List Content} → contents names ls a k ≡ c ∷ cs → Told names ls At a k emitted
  reasoned : {r : Reason} → contents names ls a k ≡ [] → Holds names At a k r → ((q : Reason) → rank q < rank r → ¬ Holds names At a k q)
      → Told names ls At a k (because r)

module _ (names : List Mnemonic) (ls : Table) (a : ℕ) (At : Text → ℕ → Type 0) (at : (l : Text) (x : ℕ) → find l ls ≡ Some x → At l x)
    (is_at : (l : Text) (x : ℕ) → At l x → find l ls ≡ Some x) where
  -- what is no instruction and has no words
  silent : (k : Task) → contents names ls a k ≡ [] → ((i : Instruction) → k ≢ instruction i) → Told names ls At a k (because not_instruction)
  unfolding rank
  silent k e n = reasoned e (other n) (λ q l h. let u = holds_rank q in omega arith)

  encode_as : (i : Instruction) (o : Operation) → operation_in names i.mnemonic ≡ Some o → encode_by names ls a i ≡ encode_operation ls a o i.operands
  unfolding encode_by bind
  encode_as i o e = rw e

  why_as : (i : Instruction) (o : Operation) → operation_in names i.mnemonic ≡ Some o → why names ls a i ≡ why_operation ls a o i.operands
  unfolding why
  why_as i o e = rw (why, e)

  -- an instruction by its operation's words
  of_operation : (i : Instruction) (o : Operation) → operation_in names i.mnemonic ≡ Some o → (v : Verdict) → Judged ls a At o i.operands v
      → Told names ls At a (instruction i) v
  unfolding contents data_contents code_contents_by
  of_operation i o e v (makes w) = let h = there (encode_by names ls a i) (rw (encode_as i o e) w) in filled h.0 h.1 (some_words names ls a i h.0 h.1)
    where
      filled : (cs : List Content) → encode_by names ls a i ≡ Some cs → cs ≢ [] → Told names ls At a (instruction i) emitted
      filled [] f n = absurd (n refl)
      filled (c ∷ cs) f n = worded {c = c} {cs = cs} (rw f)
  of_operation i o e v (lacks {r} w f k) = reasoned (rw (encode_as i o e, none_there (encode_operation ls a o i.operands) w)) (operands refl e f) before
    where
      before : (q : Reason) → rank q < rank r → ¬ Holds names At a (instruction i) q
      before q l (other n) = n i refl
      before q l (unknown {i = j} g n) = let u : j ≡ i = cc in known names i.mnemonic o e (rw u at n)
      before q l (operands {i = j} {o = p} g d h) =
          let u : j ≡ i = cc in
          let d' = rw u at d in
          let v : p ≡ o = cc in
          k q l (rw (u, v) at h)

  of_unknown : (i : Instruction) → operation_in names i.mnemonic ≡ None → Told names ls At a (instruction i) (because unknown_mnemonic)
  unfolding contents data_contents code_contents_by encode_by bind rank
  of_unknown i e = reasoned (rw e) (unknown refl (unknown_all names i.mnemonic e)) before
    where
      before : (q : Reason) → rank q < 2 → ¬ Holds names At a (instruction i) q
      before _ l (other n) = n i refl
      before _ l (unknown g n) = omega arith
      before q l (operands {i = j} g d h) = let u : j ≡ i = cc in let d' = rw u at d in clash cc

  pub task_told : (k : Task) → Told names ls At a k (why_task names ls a k)
  unfolding why_task why contents data_contents code_contents_by
  task_told skipped = silent skipped refl (λ i e. clash cc)
  task_told end = silent end refl (λ i e. clash cc)
  task_told (org v) = silent (org v) refl (λ i e. clash cc)
  task_told no_org = silent no_org refl (λ i e. clash cc)
  task_told label_only = silent label_only refl (λ i e. clash cc)
  task_told (instruction i) = go (operation_in names i.mnemonic) refl
    where
      go : (x : Option Operation) → operation_in names i.mnemonic ≡ x
          → Told names ls At a (instruction i) (elim x [ None ↦ because unknown_mnemonic | Some o ↦ why_operation ls a o i.operands ])
      go None e = of_unknown i e
      go (Some o) e = of_operation i o e _ (judged ls a At at is_at o i.operands)
  task_told (value n v) = worded refl
  task_told (space n) = silent (space n) refl (λ i e. clash cc)

  -- a right verdict is the one given
  other_told : (k : Task) → contents names ls a k ≡ [] → ((i : Instruction) → k ≢ instruction i) → why_task names ls a k ≡ because not_instruction
  unfolding why_task contents data_contents
  other_told skipped e n = refl
  other_told end e n = refl
  other_told (org v) e n = refl
  other_told no_org e n = refl
  other_told label_only e n = refl
  other_told (instruction i) e n = absurd (n i refl)
  other_told (value m v) e n = clash cc
  other_told (space m) e n = refl

  operands_told : (i : Instruction) (o : Operation) (r : Reason) → operation_in names i.mnemonic ≡ Some o → contents names ls a (instruction i) ≡ []
      → Faulty At a o i.operands r → ((q : Reason) → rank q < rank r → ¬ Faulty At a o i.operands q) → why_operation ls a o i.operands ≡ because r
  unfolding contents data_contents code_contents_by is_some
  operands_told i o r e c f k = first_told ls a At at is_at o i.operands (go (encode_operation ls a o i.operands) refl) f k
    where
      go : (y : Option (List Content)) → encode_operation ls a o i.operands ≡ y → is_some y ≡ false
      go None g = refl
      go (Some cs) g = let h = encode_as i o e ∙ g in absurd (some_words names ls a i cs h (rw h at c))

  pub told_task : (k : Task) (v : Verdict) → Told names ls At a k v → why_task names ls a k ≡ v
  unfolding why_task why
  told_task k _ (worded e) = go (why_task names ls a k) (task_told k)
    where
      go : (v : Verdict) → Told names ls At a k v → v ≡ emitted
      go _ (worded f) = refl
      go _ (reasoned f h n) = clash cc
  told_task k _ (reasoned e (other n) m) = other_told k e n
  told_task k _ (reasoned e (unknown {i} g n) m) = rw g (go (operation_in names i.mnemonic) refl)
    where
      go : (x : Option Operation) → operation_in names i.mnemonic ≡ x
          → elim x [ None ↦ because unknown_mnemonic | Some o ↦ why_operation ls a o i.operands ] ≡ because unknown_mnemonic
      go None f = refl
      go (Some o) f = absurd (known names i.mnemonic o f n)
  told_task k _ (reasoned {r} e (operands {i} {o} g d f) m) = rw g (why_as i o d ∙ operands_told i o r d (rw g at e) f (λ q l h. m q l (operands g d h)))
