-- The forms of the manual's call: what has a form is written as one, and what is written as one has its words. Assumes nothing.
use Rattle.std.specs.Prelude.{Option, None, Some}
use Rattle.rules.specs.Option.{bind, or_else}
use Prim.Native.Nat.{ℕ, ◌<◌}
use mathlib.Core.Path.{◌≡◌, refl, ap}
use mathlib.Core.Bool.{Bool, true, false, cond, ◌&&◌}
use mathlib.Core.List.{List, [], ◌∷◌, map}
use lib.IntN.{pos}
use Rattle.rules.specs.Text.{Text, bytes, same, after}
use Rattle.rules.specs.Number.{Reading, read, failed, value_of, reading32, imm8, imm16}
use Rattle.rules.specs.Line.{Instruction as Said}
use Rattle.rules.specs.Label.{Table, find}
use Rattle.rules.specs.Encode.{data_register, address_register, indirect as indirect_register, two, one}
use Rattle.rules.specs.Forms.{text}
use Rattle.rules.proofs.Readings.{All}
use Rattle.manual.specs.Manual.{Condition, Instruction, NOP, JMP, absolute, extension, halves, extensions, manual_words}
use Rattle.requests.specs.ManualCall.{jump, addressed, Branching, branch as branches, loop, Form, said, labelled, displaced, Head, moveq as moveq_h, nop as nop_h, jmp as jmp_h, dbra as dbra_h, branch_on, move_w, add_w, sub_w, cmp_w, muls_w, move_l, movea_l, cmp_l, tst_l, subq_l, asl_l, HeadRow, heads, same_suffix, head_in, other_text, number32, imm32, quickly, no_operand, registers, jump_to, move_long, form_of, form}
use Rattle.promises.specs.Readings.{Means32, Means16, Means8}
use Rattle.promises.specs.Explain.{behind_hash, IsKind, Numeric}
use Rattle.promises.specs.ListedForms.{D, at_a, L, W}
use Rattle.promises.specs.ManualWritten.{A, branch_named, Jump, as_jmp, as_jump, WrittenHere, moveq, move_data, load, store, copy, load_label, store_label, movea, muls_data, muls, add, sub, cmp, cmp_data, tst, subq, asl, nop, jump_number, jump_label}
use Rattle.promises.proofs.Compared.{clash}
use Rattle.promises.proofs.Same.{same_eq}
use Rattle.promises.proofs.Stages.{and_both}
use Rattle.promises.proofs.Decided.{Decided, yes, no}
use Rattle.promises.proofs.Readings.{readings_mean}
use Rattle.promises.proofs.OperandTests.{behind_hash_lem, numeric}
use Rattle.promises.proofs.ManualOperands.{Numbered, is_d, is_a, is_at_a, Hash, is_imm8, is_imm16, is_imm32, Quick, is_quick, is_other}

-- ---- what a form is written as
-- a branch, or DBRA, with its operand
pub data Leads : Text → Option Text → List Text → Branching → Text → Type 0 where
  branch_to : (c : Condition) {s : Text} → IsKind s text → Leads (branch_named c) None (s ∷ []) (branches c) s
  loop_to : {n : ℕ} {s : Text} → n < 8 → IsKind s text → Leads (bytes "DBRA") None (D n ∷ s ∷ []) (loop n) s

-- mark 0 on each word
abbrev pub zeros : Instruction → List ℕ
zeros i = map (λ w. 0) (manual_words i)

abbrev pub Written : Text → Option Text → List Text → Form → Type 0
Written m f ps (said i) = (ls : Table) (a : ℕ) → WrittenHere ls a m f ps i (zeros i)
Written m f ps (labelled g l) = (ls : Table) (a x : ℕ) → find l ls ≡ Some x → WrittenHere ls a m f ps (addressed g x) (0 ∷ 2 ∷ 3 ∷ [])
Written m f ps (displaced g s) = Leads m f ps g s

-- a head's mnemonic and suffix
abbrev Named : Head → Text → Option Text → Type 0
Named moveq_h m f = (m ≡ bytes "MOVEQ") × (f ≡ None)
Named nop_h m f = (m ≡ bytes "NOP") × (f ≡ None)
Named jmp_h m f = Jump m × (f ≡ None)
Named dbra_h m f = (m ≡ bytes "DBRA") × (f ≡ None)
Named (branch_on c) m f = (m ≡ branch_named c) × (f ≡ None)
Named move_w m f = (m ≡ bytes "MOVE") × (f ≡ W)
Named add_w m f = (m ≡ bytes "ADD") × (f ≡ W)
Named sub_w m f = (m ≡ bytes "SUB") × (f ≡ W)
Named cmp_w m f = (m ≡ bytes "CMP") × (f ≡ W)
Named muls_w m f = (m ≡ bytes "MULS") × (f ≡ W)
Named move_l m f = (m ≡ bytes "MOVE") × (f ≡ L)
Named movea_l m f = (m ≡ bytes "MOVEA") × (f ≡ L)
Named cmp_l m f = (m ≡ bytes "CMP") × (f ≡ L)
Named tst_l m f = (m ≡ bytes "TST") × (f ≡ L)
Named subq_l m f = (m ≡ bytes "SUBQ") × (f ≡ L)
Named asl_l m f = (m ≡ bytes "ASL") × (f ≡ L)

-- each row of the table is named so, and so is what is found in it
abbrev Rows : List HeadRow → Type 0
Rows [] = Unit {0}
Rows (r ∷ rs) = Named r.head r.name r.suffix × Rows rs

same_suffix_lem : (f g : Option Text) → same_suffix f g ≡ true → f ≡ g
unfolding same_suffix
same_suffix_lem None None e = refl
same_suffix_lem None (Some t) e = clash cc
same_suffix_lem (Some s) None e = clash cc
same_suffix_lem (Some s) (Some t) e = ap Some (same_eq s t e)

found_named : (rs : List HeadRow) → Rows rs → (m : Text) (f : Option Text) → All (λ h. Named h m f) (head_in rs m f)
unfolding head_in
found_named [] k m f = tt
found_named (r ∷ rs) k m f = go (same m r.name && same_suffix f r.suffix) refl (found_named rs k.1 m f)
  where
    go : (x : Bool) → same m r.name && same_suffix f r.suffix ≡ x → All (λ h. Named h m f) (head_in rs m f)
        → All (λ h. Named h m f) (elim x [ true ↦ Some r.head | false ↦ head_in rs m f ])
    go true e ih =
        let b = and_both (same m r.name) (same_suffix f r.suffix) e in
        rw (same_eq m r.name b.0, same_suffix_lem f r.suffix b.1) k.0
    go false e ih = ih

rows : Rows heads
unfolding heads branch_named
rows =
    ((refl, refl), ((refl, refl), ((as_jmp, refl), ((as_jump, refl), ((refl, refl), ((refl, refl), ((refl, refl), ((refl, refl), ((refl, refl), ((refl, refl), ((refl, refl), ((refl, refl), ((refl, refl), ((refl, refl), ((refl, refl), ((refl, refl), ((refl, refl), ((refl, refl), ((refl, refl), ((refl, refl), ((refl, refl), ((refl, refl), ((refl, refl), ((refl, refl), ((refl, refl), ((refl, refl), ((refl, refl), tt)))))))))))))))))))))))))))

-- ---- what the readers let through is written so
module _ (P : List Text → Form → Type 0) where
  two_all : (f : Text → Text → Option Form) → ((s t : Text) → All (P (s ∷ t ∷ [])) (f s t)) → (ps : List Text) → All (P ps) (two f ps)
  unfolding two
  two_all f h [] = tt
  two_all f h (s ∷ []) = tt
  two_all f h (s ∷ t ∷ []) = h s t
  two_all f h (s ∷ t ∷ u ∷ ps) = tt

  one_all : (f : Text → Option Form) → ((s : Text) → All (P (s ∷ [])) (f s)) → (ps : List Text) → All (P ps) (one f ps)
  unfolding one
  one_all f h [] = tt
  one_all f h (s ∷ []) = h s
  one_all f h (s ∷ t ∷ ps) = tt

module _ (P : Form → Type 0) where
  else_all : (x y : Option Form) → All P x → All P y → All P (or_else x y)
  unfolding or_else
  else_all None y h k = k
  else_all (Some a) y h k = h

  -- a reader of what is Q, then what follows it
  reads : {X : Type 0} (Q : X → Type 0) (o : Option X) (f : X → Option Form) → All Q o → ((x : X) → Q x → All P (f x)) → All P (bind o f)
  unfolding bind
  reads Q None f q h = tt
  reads Q (Some x) f q h = h x q

is_number : (s : Text) → All (λ v. Means32 s (read v)) (number32 s)
unfolding number32 value_of
is_number s = go (reading32 s) refl
  where
    go : (r : Reading ℕ) → reading32 s ≡ r → All (λ v. Means32 s (read v)) (value_of r)
    go (read v) e = (readings_mean.of_32_bits s (read v)).0 e
    go (failed x) e = tt

is_hash : (s : Text) → All (λ l. s ≡ behind_hash l) (after (bytes "#") s)
is_hash s = go (after (bytes "#") s) refl
  where
    go : (o : Option Text) → after (bytes "#") s ≡ o → All (λ l. s ≡ behind_hash l) o
    go None e = tt
    go (Some l) e = behind_hash_lem s l e

module _ (m : Text) (f : Option Text) where
  abbrev One : Text → Form → Type 0
  One s = Written m f (s ∷ [])

  abbrev Two : Text → Text → Form → Type 0
  Two s t = Written m f (s ∷ t ∷ [])

  -- two data registers
  registers_written : (F : ℕ → ℕ → Instruction) → ((n k : ℕ) → n < 8 → k < 8 → Written m f (D n ∷ D k ∷ []) (said (F n k))) → (s t : Text) → All (Two s t) (registers F s t)
  unfolding registers
  registers_written F h s t =
      reads (Two s t) (Numbered D s) (data_register s) _ (is_d s) λ n hn.
      reads (Two s t) (Numbered D t) (data_register t) _ (is_d t) λ k hk.
      rw (hn.0, hk.0) (h n k hn.1 hk.1)

  jump_written : Jump m → f ≡ None → (s : Text) → IsKind s text → All (One s) (jump_to s)
  unfolding jump_to manual_words extensions extension halves addressed
  jump_written j e s k = go (numeric s)
    where
      go : {x : Bool} → Decided (Numeric s) x → All (One s) (cond x (bind (number32 s) λ v. Some (said (JMP (absolute v)))) (Some (labelled jump s)))
      go (yes n) = reads (One s) (λ v. Means32 s (read v)) (number32 s) _ (is_number s) (λ v h. rw e (λ ls a. jump_number j n h))
      go (no n) = rw e (λ ls a x h. jump_label j k n h)

  move_written : m ≡ bytes "MOVE" → f ≡ L → (s t : Text) → All (Two s t) (move_long s t)
  unfolding move_long manual_words extensions extension halves addressed
  move_written e g s t =
      else_all (Two s t) _ _ (
      reads (Two s t) (Hash (λ u v. Means32 u (read v)) s) (imm32 s) _ (is_imm32 s) λ v hv. reads (Two s t) (Numbered D t) (data_register t) _ (is_d t) λ n hn.
      rw (e, g, hv.1, hn.0) (λ ls a. move_data hv.2 hn.1))
      (else_all (Two s t) _ _ (
      reads (Two s t) (Numbered at_a s) (indirect_register s) _ (is_at_a s) λ n hn. reads (Two s t) (Numbered D t) (data_register t) _ (is_d t) λ k hk.
      rw (e, g, hn.0, hk.0) (λ ls a. load hn.1 hk.1))
      (else_all (Two s t) _ _ (
      reads (Two s t) (Numbered D s) (data_register s) _ (is_d s) λ n hn. reads (Two s t) (Numbered at_a t) (indirect_register t) _ (is_at_a t) λ k hk.
      rw (e, g, hn.0, hk.0) (λ ls a. store hn.1 hk.1))
      (else_all (Two s t) _ _ (
      reads (Two s t) (λ l. (l ≡ s) × IsKind s text) (other_text s) _ (is_other s) λ l hl. reads (Two s t) (Numbered D t) (data_register t) _ (is_d t) λ n hn.
      rw (e, g, hl.0, hn.0) (λ ls a x h. load_label hl.1 h hn.1))
      (
      reads (Two s t) (Numbered D s) (data_register s) _ (is_d s) λ n hn. reads (Two s t) (λ l. (l ≡ t) × IsKind t text) (other_text t) _ (is_other t) λ l hl.
      rw (e, g, hl.0, hn.0) (λ ls a x h. store_label hl.1 h hn.1)))))

  form_of_written : (h : Head) → Named h m f → (ps : List Text) → All (Written m f ps) (form_of h ps)
  unfolding form_of no_operand manual_words extensions extension halves addressed
  form_of_written moveq_h e =
      two_all (Written m f) _ λ s t.
      reads (Two s t) (Hash (λ u v. Means8 u (read v)) s) (imm8 s) _ (is_imm8 s) λ v hv. reads (Two s t) (Numbered D t) (data_register t) _ (is_d t) λ n hn.
      rw (e.0, e.1, hv.1, hn.0) (λ ls a. moveq hv.2 hn.1)
  form_of_written nop_h e = nothing_else
    where
      nothing_else : (ps : List Text) → All (Written m f ps) (no_operand (said NOP) ps)
      nothing_else [] = rw (e.0, e.1) (λ ls a. nop)
      nothing_else (s ∷ ps) = tt
  form_of_written jmp_h e =
      one_all (Written m f) _ λ s. reads (One s) (λ l. (l ≡ s) × IsKind s text) (other_text s) _ (is_other s) λ l hl. rw hl.0 (jump_written e.0 e.1 s hl.1)
  form_of_written dbra_h e =
      two_all (Written m f) _ λ s t.
      reads (Two s t) (Numbered D s) (data_register s) _ (is_d s) λ n hn. reads (Two s t) (λ l. (l ≡ t) × IsKind t text) (other_text t) _ (is_other t) λ l hl.
      rw (e.0, e.1, hl.0, hn.0) (loop_to hn.1 hl.1)
  form_of_written (branch_on c) e =
      one_all (Written m f) _ λ s. reads (One s) (λ l. (l ≡ s) × IsKind s text) (other_text s) _ (is_other s) λ l hl. rw (e.0, e.1, hl.0) (branch_to c hl.1)
  form_of_written move_w e = two_all (Written m f) _ (registers_written _ (λ n k hn hk. rw (e.0, e.1) (λ ls a. copy hn hk)))
  form_of_written add_w e = two_all (Written m f) _ (registers_written _ (λ n k hn hk. rw (e.0, e.1) (λ ls a. add hn hk)))
  form_of_written sub_w e = two_all (Written m f) _ (registers_written _ (λ n k hn hk. rw (e.0, e.1) (λ ls a. sub hn hk)))
  form_of_written cmp_w e = two_all (Written m f) _ (registers_written _ (λ n k hn hk. rw (e.0, e.1) (λ ls a. cmp hn hk)))
  form_of_written muls_w e =
      two_all (Written m f) _ λ s t.
      else_all (Two s t) _ _ (
      reads (Two s t) (Hash (λ u v. Means16 u (read v)) s) (imm16 s) _ (is_imm16 s) λ v hv. reads (Two s t) (Numbered D t) (data_register t) _ (is_d t) λ n hn.
      rw (e.0, e.1, hv.1, hn.0) (λ ls a. muls_data hv.2 hn.1))
      (registers_written _ (λ n k hn hk. rw (e.0, e.1) (λ ls a. muls hn hk)) s t)
  form_of_written move_l e = two_all (Written m f) _ (move_written e.0 e.1)
  form_of_written movea_l e =
      two_all (Written m f) _ λ s t.
      reads (Two s t) (λ l. s ≡ behind_hash l) (after (bytes "#") s) _ (is_hash s) λ l hl. reads (Two s t) (Numbered A t) (address_register t) _ (is_a t) λ n hn.
      rw (e.0, e.1, hl, hn.0) (λ ls a x h. movea h hn.1)
  form_of_written cmp_l e =
      two_all (Written m f) _ λ s t.
      reads (Two s t) (Hash (λ u v. Means32 u (read v)) s) (imm32 s) _ (is_imm32 s) λ v hv. reads (Two s t) (Numbered D t) (data_register t) _ (is_d t) λ n hn.
      rw (e.0, e.1, hv.1, hn.0) (λ ls a. cmp_data hv.2 hn.1)
  form_of_written tst_l e = one_all (Written m f) _ λ s. reads (One s) (Numbered D s) (data_register s) _ (is_d s) λ n hn. rw (e.0, e.1, hn.0) (λ ls a. tst hn.1)
  form_of_written subq_l e =
      two_all (Written m f) _ λ s t.
      reads (Two s t) (λ k. Hash (λ u v. Means8 u (read v)) s (pos k) × Quick k) (quickly s) _ (is_quick s) λ k hk. reads (Two s t) (Numbered D t) (data_register t) _ (is_d t) λ n hn.
      rw (e.0, e.1, hk.0.1, hn.0) (λ ls a. subq hk.0.2 hk.1.0 hk.1.1 hn.1)
  form_of_written asl_l e =
      two_all (Written m f) _ λ s t.
      reads (Two s t) (λ k. Hash (λ u v. Means8 u (read v)) s (pos k) × Quick k) (quickly s) _ (is_quick s) λ k hk. reads (Two s t) (Numbered D t) (data_register t) _ (is_d t) λ n hn.
      rw (e.0, e.1, hk.0.1, hn.0) (λ ls a. asl hk.0.2 hk.1.0 hk.1.1 hn.1)

pub form_written : (i : Said) → All (Written i.mnemonic i.suffix i.operands) (form i)
unfolding form
form_written i =
    reads (Written i.mnemonic i.suffix i.operands) (λ h. Named h i.mnemonic i.suffix) (head_in heads i.mnemonic i.suffix) (λ h. form_of h i.operands) (found_named heads rows i.mnemonic i.suffix)
    (λ h e. form_of_written i.mnemonic i.suffix h e i.operands)
