-- The words of the manual's call: what is written as a form has its words, what has words is written as a form, fields hold, and there are at
-- most three. Assumes nothing.
use Rattle.std.specs.Prelude.{Option, None, Some}
use Rattle.std.proofs.lemmas.Option.{same_Some}
use Rattle.rules.specs.Option.{bind, or_else}
use Prim.Native.Nat.{ℕ, ◌+◌, ◌/◌, ◌%◌, ◌^◌, ◌≤◌, ◌<◌}
use mathlib.Core.Path.{◌≡◌, refl, ap}
use mathlib.Core.List.{List, [], ◌∷◌, map}
use native.Mathlib.Omega.{arith}
use lib.ListN.{length, length-map}
use lib.IntN.{ℤ, pos, negsuc}
use Rattle.rules.specs.Text.{Text, bytes, same, after}
use Rattle.rules.specs.Number.{read, value_of}
use Rattle.rules.specs.Line.{Instruction as Said}
use Rattle.rules.specs.Label.{Table, find}
use Rattle.rules.specs.Encode.{Content, literal, two, one}
use Rattle.rules.specs.Forms.{text}
use Rattle.rules.specs.Assemble.{places_at}
use Rattle.rules.proofs.Operands.{numeric_text}
use Rattle.rules.proofs.Readings.{All, all_some, imm16_all, reading32_all}
use Rattle.manual.specs.Manual.{InByte, InWord, sixteen_bits, widths, Layout, move_size, size_field, opmode, mode, register, Condition, T, CC, CS, NE, EQ, PL, MI, GE, LT, GT, LE, Instruction, JMP, absolute, layout, extension, halves, displacement_word, extensions, operation_word, manual_words}
use Rattle.requests.specs.ManualCall.{Addressing, load as loads, store as stores, point, jump, addressed, Branching, branch as branches, loop, branched, Form, said, labelled, displaced, branch_on, heads, same_suffix, head_in, number32, no_operand, registers, jump_to, move_long, form_of, form, as_if_there, form_size, displacements, fits, first_that, with_address, form_contents, manual_size, manual_encode}
use Rattle.promises.specs.Readings.{Means32, Means8}
use Rattle.promises.specs.Explain.{behind_hash, IsKind, Numeric}
use Rattle.promises.specs.ListedForms.{Words}
use Rattle.promises.specs.ManualCall.{ThreeWords}
use Rattle.promises.specs.ManualWritten.{InBranch, Takes, label, number, branch_named, Jump, as_jmp, as_jump, WrittenHere, moveq, move_data, load, store, copy, load_label, store_label, movea, muls_data, muls, add, sub, cmp, cmp_data, tst, subq, asl, nop, jump_number, jump_label, dbra, branch_to, Addresses32, HasWords, Encoded, NoFormLeftOut, IsManual, WordsAreTheManuals, FieldsHoldHere}
use Rattle.promises.proofs.Compared.{clash}
use Rattle.promises.proofs.Decided.{decided_true, decided_false}
use Rattle.promises.proofs.Readings.{readings_mean}
use Rattle.promises.proofs.OperandKinds.{of_kind}
use Rattle.promises.proofs.OperandTests.{numeric}
use Rattle.promises.proofs.ManualLaws.{data_register_lem, d_not_indirect, operand, imm8_byte, quick_reads_back}
use Rattle.promises.proofs.ManualFields.{condition_fits, byte_fits}
use Rattle.promises.proofs.ManualOperands.{address_register_lem, imm8_read, imm16_read, imm32_read, quick_read, other_read, other_not_data, other_not_indirect, other_not_long, d_not_long, at_a_not_long, d_not_other, Range, no_word_after, takes, taken}
use Rattle.promises.proofs.ManualWritten.{Leads, branch_to, loop_to, zeros, Written, form_written}

-- ---- words and marks
-- numbers as they stand, with mark 0
literal_words : (a : ℕ) (ws : List ℕ) → map (λ p. p.word) (places_at a (map literal ws)) ≡ ws
unfolding places_at
literal_words a [] = refl
literal_words a (w ∷ ws) = rw (literal_words (a + 2) ws)

literal_marks : (a : ℕ) (ws : List ℕ) → map (λ p. p.mark) (places_at a (map literal ws)) ≡ map (λ w. 0) ws
unfolding places_at
literal_marks a [] = refl
literal_marks a (w ∷ ws) = rw (literal_marks (a + 2) ws)

whole_words : (a : ℕ) (i : Instruction) → HasWords a (map literal (manual_words i)) i (zeros i)
whole_words a i = record { words = literal_words a (manual_words i); marks = literal_marks a (manual_words i) }

-- an address stands in the two words after the operation word
addressed_words : (g : Addressing) (x : ℕ) → manual_words (addressed g x) ≡ operation_word (addressed g x) ∷ halves x
unfolding manual_words extensions addressed extension halves
addressed_words (loads n) x = refl
addressed_words (stores n) x = refl
addressed_words (point n) x = refl
addressed_words jump x = refl

address_words : (a : ℕ) (g : Addressing) (x : ℕ) → x < 2 ^ 32 → HasWords a (with_address g x) (addressed g x) (0 ∷ 2 ∷ 3 ∷ [])
unfolding places_at with_address halves
address_words a g x h =
    let e : x / 65536 % 65536 ≡ x / 65536 = omega arith in
    record { words = rw (addressed_words g x, e); marks = refl }

-- a branch in range has one word, DBRA two
branch_zeros : (c : Condition) (d : ℤ) → InBranch d → zeros (branched (branches c) d) ≡ 0 ∷ []
unfolding branched manual_words extensions
branch_zeros c d r = rw (no_word_after d r)

takes_in : {ls : Table} {a : ℕ} {R : ℤ → Type 0} {s : Text} {d : ℤ} → Takes ls a R s d → R d
takes_in (label r k) = k
takes_in (number away n k) = k

-- ---- no form is left out
-- a branch's head
pub branch_head : (c : Condition) → head_in heads (branch_named c) None ≡ Some (branch_on c)
unfolding head_in heads same same_suffix bytes branch_named
branch_head T = refl
branch_head CC = refl
branch_head CS = refl
branch_head NE = refl
branch_head EQ = refl
branch_head PL = refl
branch_head MI = refl
branch_head GE = refl
branch_head LT = refl
branch_head GT = refl
branch_head LE = refl

ruleset reading = (operand, d_not_long, at_a_not_long)

abbrev pub line : Text → Option Text → List Text → Said
line m f ps = record { mnemonic = m; suffix = f; operands = ps }

jump_number_lem : {m : Text} → Jump m → (s : Text) (v : ℕ) → Numeric s → Means32 s (read v) → form (line m None (s ∷ [])) ≡ Some (said (JMP (absolute v)))
unfolding form head_in heads same same_suffix bytes bind form_of one jump_to number32 value_of
jump_number_lem as_jmp s v n e =
    let test = decided_true (numeric s) n in
    rw (other_read s (of_kind s (numeric_text s test)), test, (readings_mean.of_32_bits s (read v)).1 e)
jump_number_lem as_jump s v n e =
    let test = decided_true (numeric s) n in
    rw (other_read s (of_kind s (numeric_text s test)), test, (readings_mean.of_32_bits s (read v)).1 e)

jump_label_lem : {m : Text} → Jump m → (l : Text) → IsKind l text → ¬ Numeric l → form (line m None (l ∷ [])) ≡ Some (labelled jump l)
unfolding form head_in heads same same_suffix bytes bind form_of one jump_to
jump_label_lem as_jmp l o n = rw (other_read l o, decided_false (numeric l) n)
jump_label_lem as_jump l o n = rw (other_read l o, decided_false (numeric l) n)

-- the form of an instruction that is written so
pub data Formed (ls : Table) (a : ℕ) (i : Said) : Instruction → List ℕ → Type 0 where
  as_said : {ins : Instruction} {ms : List ℕ} → form i ≡ Some (said ins) → zeros ins ≡ ms → Formed ls a i ins ms
  as_label : {g : Addressing} {l : Text} {x : ℕ} → form i ≡ Some (labelled g l) → find l ls ≡ Some x → Formed ls a i (addressed g x) (0 ∷ 2 ∷ 3 ∷ [])
  as_taken : {g : Branching} {s : Text} {d : ℤ} {ms : List ℕ} → form i ≡ Some (displaced g s) → Takes ls a (Range g) s d → zeros (branched g d) ≡ ms
      → Formed ls a i (branched g d) ms

-- the same with what it is of written out
module _ (ls : Table) (a : ℕ) (i : Said) where
  said_so : (ins : Instruction) (ms : List ℕ) → form i ≡ Some (said ins) → zeros ins ≡ ms → Formed ls a i ins ms
  said_so ins ms e k = as_said e k

  at_label : (g : Addressing) (l : Text) (x : ℕ) → form i ≡ Some (labelled g l) → find l ls ≡ Some x → Formed ls a i (addressed g x) (0 ∷ 2 ∷ 3 ∷ [])
  at_label g l x e k = as_label e k

  by_taken : (g : Branching) (s : Text) (d : ℤ) (ms : List ℕ) → form i ≡ Some (displaced g s) → Takes ls a (Range g) s d → zeros (branched g d) ≡ ms
      → Formed ls a i (branched g d) ms
  by_taken g s d ms e k w = as_taken e k w

pub formed : {ls : Table} {a : ℕ} {m : Text} {f : Option Text} {ps : List Text} {ins : Instruction} {ms : List ℕ} → WrittenHere ls a m f ps ins ms
    → Formed ls a (line m f ps) ins ms
unfolding form head_in heads same same_suffix bytes bind or_else form_of two one no_operand registers move_long manual_words extensions extension halves addressed branched after
formed (moveq {s} {z} {n} e h) = said_so _ _ _ _ _ (rw (imm8_read s z e, data_register_lem n h)) refl
formed (move_data {s} {v} {n} e h) = said_so _ _ _ _ _ (rw (imm32_read s v e, data_register_lem n h)) refl
formed (load {n} {m} h k) = said_so _ _ _ _ _ (simp reading) refl
formed (store {n} {m} h k) = said_so _ _ _ _ _ (simp reading) refl
formed (copy {n} {m} h k) = said_so _ _ _ _ _ (simp reading) refl
formed (load_label {l} {x} {n} o e h) =
    at_label _ _ _ (loads n) l _ (rw (other_not_long l o, other_not_indirect l o, other_not_data l o, other_read l o, data_register_lem n h)) e
formed (store_label {l} {x} {n} o e h) =
    at_label _ _ _ (stores n) l _ (rw (d_not_long n, d_not_indirect n, data_register_lem n h, other_not_indirect l o, d_not_other n h, other_read l o)) e
formed (movea {l} {x} {n} e h) = at_label _ _ _ (point n) l _ (rw (address_register_lem n h)) e
formed (muls_data {s} {v} {n} e h) = said_so _ _ _ _ _ (rw (imm16_read s v e, data_register_lem n h)) refl
formed (muls {n} {m} h k) = said_so _ _ _ _ _ (simp reading) refl
formed (add {n} {m} h k) = said_so _ _ _ _ _ (simp reading) refl
formed (sub {n} {m} h k) = said_so _ _ _ _ _ (simp reading) refl
formed (cmp {n} {m} h k) = said_so _ _ _ _ _ (simp reading) refl
formed (cmp_data {s} {v} {n} e h) = said_so _ _ _ _ _ (rw (imm32_read s v e, data_register_lem n h)) refl
formed (tst {n} h) = said_so _ _ _ _ _ (simp reading) refl
formed (subq {s} {k} {n} e l u h) = said_so _ _ _ _ _ (rw (quick_read s k e (l, u), data_register_lem n h)) refl
formed (asl {s} {k} {n} e l u h) = said_so _ _ _ _ _ (rw (quick_read s k e (l, u), data_register_lem n h)) refl
formed nop = said_so _ _ _ _ _ refl refl
formed (jump_number {m} {s} {v} j n e) = said_so _ _ _ _ _ (jump_number_lem j s v n e) refl
formed (jump_label {m} {l} {x} j o n e) = at_label _ _ _ jump l _ (jump_label_lem j l o n) e
formed (dbra {s} {n} {d} h o k) = by_taken _ _ _ (loop n) s d _ (rw (data_register_lem n h, other_read s o)) k refl
formed (branch_to c {s} {d} o k) = by_taken _ _ _ (branches c) s d _ (rw (branch_head c, other_read s o)) k (branch_zeros c d (takes_in k))

-- and its words
encoded : {ls : Table} {a : ℕ} {i : Said} {ins : Instruction} {ms : List ℕ} → Addresses32 ls → Formed ls a i ins ms → Encoded ls a i ins ms
unfolding manual_encode form_contents bind
encoded {a = a} low (as_said {ins} e k) = record { contents = map literal (manual_words ins); emits = rw e; manual = rw k at (whole_words a ins) }
encoded {a = a} low (as_label {g} {l} {x} e k) = record { contents = with_address g x; emits = rw (e, form_contents, k); manual = address_words a g x (low l x k) }
encoded {ls} {a} low (as_taken {g} {s} {d} e k w) =
    record { contents = map literal (manual_words (branched g d)); emits = rw (e, form_contents, taken ls a g s d k); manual = rw w at (whole_words a (branched g d)) }

pub no_form_left_out : NoFormLeftOut
unfolding NoFormLeftOut
no_form_left_out ls a i ins ms low w = encoded low (formed w)

-- ---- and nothing else has words
pub leads_written : {m : Text} {f : Option Text} {ps : List Text} {g : Branching} {s : Text} → Leads m f ps g s
    → (ls : Table) (a : ℕ) (d : ℤ) → Takes ls a (Range g) s d → WrittenHere ls a m f ps (branched g d) (zeros (branched g d))
unfolding branched manual_words extensions
leads_written (branch_to c o) ls a d k = rw (no_word_after d (takes_in k)) (branch_to c o k)
leads_written (loop_to h o) ls a d k = dbra h o k

module _ (ls : Table) (a : ℕ) (low : Addresses32 ls) (i : Said) (cs : List Content) where
  is_manual : (g : Form) → Written i.mnemonic i.suffix i.operands g → form_contents ls a g ≡ Some cs → IsManual ls a i cs
  unfolding form_contents bind
  is_manual (said ins) w h =
      rw (← same_Some (map literal (manual_words ins)) cs h) (record { instruction = ins; marks = zeros ins; written = w ls a; manual = whole_words a ins })
  is_manual (labelled g l) w h = go (find l ls) refl h
    where
      go : (o : Option ℕ) → find l ls ≡ o → bind o (λ x. Some (with_address g x)) ≡ Some cs → IsManual ls a i cs
      go None e k = clash cc
      go (Some x) e k =
          rw (← same_Some (with_address g x) cs k)
          (record { instruction = addressed g x; marks = 0 ∷ 2 ∷ 3 ∷ []; written = w ls a x e; manual = address_words a g x (low l x e) })
  is_manual (displaced g s) w h = go (first_that (fits g) (displacements ls a s)) refl h
    where
      go : (o : Option ℤ) → first_that (fits g) (displacements ls a s) ≡ o → bind o (λ d. Some (map literal (manual_words (branched g d)))) ≡ Some cs → IsManual ls a i cs
      go None e k = clash cc
      go (Some d) e k =
          rw (← same_Some (map literal (manual_words (branched g d))) cs k)
          (record { instruction = branched g d; marks = zeros (branched g d); written = leads_written w ls a d (takes ls a g s d e); manual = whole_words a (branched g d) })

pub words_are_the_manuals : WordsAreTheManuals
unfolding WordsAreTheManuals manual_encode bind
words_are_the_manuals ls a i cs low h = go (form i) (form_written i) h
  where
    go : (o : Option Form) → All (Written i.mnemonic i.suffix i.operands) o → bind o (form_contents ls a) ≡ Some cs → IsManual ls a i cs
    go None w k = clash cc
    go (Some g) w k = is_manual ls a low i cs g w k

-- ---- fields hold, form by form
word_fits : (d : ℤ) → InWord d → sixteen_bits d < 65536
unfolding sixteen_bits
word_fits (pos n) h = omega arith
word_fits (negsuc n) h = omega arith

-- what is read lies in its range
read_8 : (s : Text) (z : ℤ) → Means8 s (read z) → InByte z
read_8 s z m = all_some InByte (imm8_byte (behind_hash s)) (imm8_read s z m)

read_32 : (s : Text) (v : ℕ) → Means32 s (read v) → v < 2 ^ 32
unfolding value_of
read_32 s v m = all_some (λ w. w < 2 ^ 32) (reading32_all s) (ap value_of ((readings_mean.of_32_bits s (read v)).1 m))

held : {ls : Table} {a : ℕ} {m : Text} {f : Option Text} {ps : List Text} {ins : Instruction} {ms : List ℕ} → Addresses32 ls → WrittenHere ls a m f ps ins ms
    → Layout (layout ins) × Words (extensions ins)
unfolding layout widths mode register move_size size_field opmode extensions extension halves
held low (moveq {s} {z} e h) = omega (arith, byte_fits z (read_8 s z e))
held low (move_data {s} {v} e h) = omega (arith, read_32 s v e)
held low (load h k) = omega arith
held low (store h k) = omega arith
held low (copy h k) = omega arith
held low (load_label {l} {x} o e h) = omega (arith, low l x e)
held low (store_label {l} {x} o e h) = omega (arith, low l x e)
held low (movea {l} {x} e h) = omega (arith, low l x e)
held low (muls_data {s} {v} e h) = omega (arith, all_some (λ w. w < 2 ^ 16) (imm16_all (behind_hash s)) (imm16_read s v e))
held low (muls h k) = omega arith
held low (add h k) = omega arith
held low (sub h k) = omega arith
held low (cmp h k) = omega arith
held low (cmp_data {s} {v} e h) = omega (arith, read_32 s v e)
held low (tst h) = omega arith
held low (subq {k = k} e l u h) = omega (arith, (quick_reads_back k l u).0)
held low (asl {k = k} e l u h) = omega (arith, (quick_reads_back k l u).0)
held low nop = omega arith
held low (jump_number {s = s} {v = v} j n e) = omega (arith, read_32 s v e)
held low (jump_label {l = l} {x = x} j o n e) = omega (arith, low l x e)
held low (dbra {d = d} h o k) = omega (arith, word_fits d (takes_in k))
held low (branch_to c {d = d} o k) = rw (no_word_after d (takes_in k)) (omega (arith, byte_fits d (takes_in k).0, condition_fits c))

pub fields_hold_here : FieldsHoldHere
unfolding FieldsHoldHere
fields_hold_here ls a m f ps ins ms low w = held low w

-- ---- at most three words
written_three : {ls : Table} {a : ℕ} {m : Text} {f : Option Text} {ps : List Text} {ins : Instruction} {ms : List ℕ} → WrittenHere ls a m f ps ins ms → length ms ≤ 3
written_three (moveq e h) = omega arith
written_three (move_data e h) = omega arith
written_three (load h k) = omega arith
written_three (store h k) = omega arith
written_three (copy h k) = omega arith
written_three (load_label o e h) = omega arith
written_three (store_label o e h) = omega arith
written_three (movea e h) = omega arith
written_three (muls_data e h) = omega arith
written_three (muls h k) = omega arith
written_three (add h k) = omega arith
written_three (sub h k) = omega arith
written_three (cmp h k) = omega arith
written_three (cmp_data e h) = omega arith
written_three (tst h) = omega arith
written_three (subq e l u h) = omega arith
written_three (asl e l u h) = omega arith
written_three nop = omega arith
written_three (jump_number j n e) = omega arith
written_three (jump_label j o n e) = omega arith
written_three (dbra h o k) = omega arith
written_three (branch_to c o k) = omega arith

three : (i : Said) (o : Option Form) → All (Written i.mnemonic i.suffix i.operands) o → form_size o ≤ 6
unfolding form_size as_if_there manual_words extensions addressed branched extension halves displacement_word
three i None w = omega arith
three i (Some (said ins)) w =
    let e : length (zeros ins) ≡ length (manual_words ins) = length-map (manual_words ins) (λ n. 0) in
    omega (arith, written_three (w [] 0))
three i (Some (labelled (loads n) l)) w = omega arith
three i (Some (labelled (stores n) l)) w = omega arith
three i (Some (labelled (point n) l)) w = omega arith
three i (Some (labelled jump l)) w = omega arith
three i (Some (displaced (branches c) s)) w = omega arith
three i (Some (displaced (loop r) s)) w = omega arith

pub three_words : ThreeWords
unfolding ThreeWords manual_size
three_words i = three i (form i) (form_written i)
