-- The cells that an encoder gives: none, a word, a word and a value, or a word and a label's address. Assumes nothing.
use Rattle.std.specs.Prelude.{Option, None, Some}
use Rattle.std.specs.Option.{option_or}
use Rattle.rules.specs.Option.{bind, or_else}
use mathlib.Core.Path.{◌≡◌, refl}
use mathlib.Core.Bool.{Bool, true, false, cond}
use mathlib.Core.List.{List, [], ◌∷◌}
use Prim.Native.Nat.{ℕ}
use Rattle.rules.specs.Text.{Text}
use Rattle.rules.specs.Line.{Instruction}
use Rattle.rules.specs.Label.{Table}
use Rattle.rules.specs.Encode.{Content, literal, address, Operation, moveq, move, movea, muls, tst, subq, asl, dbra, nop, simhalt, add, sub, cmp, jmp, branch}
use Rattle.rules.specs.Encode.{two, one, one_or_more, jumps, word, with_label, registers_row, high_row, low_row, from_indirect, to_indirect, from_label, to_label, move_rows, movea_row, muls_rows, cmp_rows, moveq_row, quick_row, tst_row, jump_row, dbra_row, branch_row, encode_operation, Mnemonic, encode_by}
use Rattle.encode.specs.Code.{code_of}
use Rattle.encode.specs.declared.Code.{Code}

pub data Shaped : Option (List Content) → Type 0 where
  no_word : Shaped None
  one_word : (w : ℕ) → Shaped (Some (literal w ∷ []))
  with_value : (w v : ℕ) → Shaped (Some (literal w ∷ literal v ∷ []))
  with_address : (w x : ℕ) → Shaped (Some (literal w ∷ address x ∷ []))

shaped_bind : {A : Type 0} (o : Option A) (f : A → Option (List Content)) → ((x : A) → Shaped (f x)) → Shaped (bind o f)
unfolding bind
shaped_bind None f h = no_word
shaped_bind (Some x) f h = h x

shaped_else : (o p : Option (List Content)) → Shaped o → Shaped p → Shaped (or_else o p)
unfolding or_else
shaped_else None p h k = k
shaped_else (Some x) p h k = h

-- rows tried in order, as the code tries them: no code, no cells
pub tried : {o : Option (List Content)} (p : Option (List Content)) → Shaped o → code_of (or_else o p) ≡ option_or (code_of o) (code_of p)
unfolding or_else
tried p no_word = refl
tried p (one_word w) = refl
tried p (with_value w v) = refl
tried p (with_address w x) = refl

-- ---- the rows
shaped_label : (ls : Table) (w : ℕ) (l : Text) → Shaped (with_label ls w l)
unfolding with_label
shaped_label ls w l = shaped_bind _ _ (λ x. with_address _ _)

module _ (w : ℕ) (s t : Text) where
  pub shaped_registers : Shaped (registers_row w s t)
  unfolding registers_row
  shaped_registers = shaped_bind _ _ (λ n. shaped_bind _ _ (λ m. one_word _))

  pub shaped_high : Shaped (high_row w s t)
  unfolding high_row
  shaped_high = shaped_bind _ _ (λ v. shaped_bind _ _ (λ n. with_value _ _))

  pub shaped_low : Shaped (low_row w s t)
  unfolding low_row
  shaped_low = shaped_bind _ _ (λ v. shaped_bind _ _ (λ n. with_value _ _))

  shaped_quick : Shaped (quick_row w s t)
  unfolding quick_row
  shaped_quick = shaped_bind _ _ (λ v. shaped_bind _ _ (λ n. one_word _))

module _ (s t : Text) where
  pub shaped_from_indirect : Shaped (from_indirect s t)
  unfolding from_indirect
  shaped_from_indirect = shaped_bind _ _ (λ n. shaped_bind _ _ (λ m. one_word _))

  pub shaped_to_indirect : Shaped (to_indirect s t)
  unfolding to_indirect
  shaped_to_indirect = shaped_bind _ _ (λ n. shaped_bind _ _ (λ m. one_word _))

  shaped_moveq : Shaped (moveq_row s t)
  unfolding moveq_row
  shaped_moveq = shaped_bind _ _ (λ v. shaped_bind _ _ (λ n. one_word _))

  shaped_muls : Shaped (muls_rows s t)
  unfolding muls_rows
  shaped_muls = shaped_else _ _ (shaped_high _ _ _) (shaped_registers _ _ _)

  shaped_cmp : Shaped (cmp_rows s t)
  unfolding cmp_rows
  shaped_cmp = shaped_else _ _ (shaped_low _ _ _) (shaped_registers _ _ _)

module _ (ls : Table) (s t : Text) where
  pub shaped_from_label : Shaped (from_label ls s t)
  unfolding from_label
  shaped_from_label = shaped_bind _ _ (λ n. shaped_label _ _ _)

  shaped_to_label : Shaped (to_label ls s t)
  unfolding to_label
  shaped_to_label = shaped_bind _ _ (λ n. shaped_label _ _ _)

  shaped_movea : Shaped (movea_row ls s t)
  unfolding movea_row
  shaped_movea = shaped_bind _ _ (λ l. shaped_bind _ _ (λ n. shaped_label _ _ _))

  shaped_move : Shaped (move_rows ls s t)
  unfolding move_rows
  shaped_move =
      shaped_else _ _ (shaped_high _ _ _) (shaped_else _ _ (shaped_from_indirect _ _) (shaped_else _ _ (shaped_to_indirect _ _)
      (shaped_else _ _ (shaped_registers _ _ _) (shaped_else _ _ shaped_from_label shaped_to_label))))

shaped_tst : (s : Text) → Shaped (tst_row s)
unfolding tst_row
shaped_tst s = shaped_bind _ _ (λ n. one_word _)

shaped_jump : (ls : Table) (s : Text) → Shaped (jump_row ls s)
unfolding jump_row
shaped_jump ls s = go (jumps ls s)
  where
    go : (b : Bool) → Shaped (cond b (word 0x4EF8) None)
    go true = one_word _
    go false = no_word

module _ (ls : Table) (a : ℕ) where
  shaped_dbra : (s t : Text) → Shaped (dbra_row ls a s t)
  unfolding dbra_row
  shaped_dbra s t = shaped_bind _ _ (λ n. shaped_bind _ _ (λ d. one_word _))

  shaped_branch : (c : ℕ) (s : Text) → Shaped (branch_row ls a c s)
  unfolding branch_row
  shaped_branch c s = shaped_bind _ _ (λ d. one_word _)

-- ---- by the number of operands
shaped_two : {f : Text → Text → Option (List Content)} → ((s t : Text) → Shaped (f s t)) → (ps : List Text) → Shaped (two f ps)
unfolding two
shaped_two h [] = no_word
shaped_two h (s ∷ []) = no_word
shaped_two h (s ∷ t ∷ []) = h s t
shaped_two h (s ∷ t ∷ u ∷ ps) = no_word

module _ {f : Text → Option (List Content)} (h : (s : Text) → Shaped (f s)) where
  shaped_one : (ps : List Text) → Shaped (one f ps)
  unfolding one
  shaped_one [] = no_word
  shaped_one (s ∷ []) = h s
  shaped_one (s ∷ t ∷ ps) = no_word

  shaped_more : (ps : List Text) → Shaped (one_or_more f ps)
  unfolding one_or_more
  shaped_more [] = no_word
  shaped_more (s ∷ ps) = h s

module _ (ls : Table) (a : ℕ) where
  shaped_operation : (o : Operation) (ps : List Text) → Shaped (encode_operation ls a o ps)
  unfolding encode_operation
  shaped_operation move = shaped_two (shaped_move ls)
  shaped_operation movea = shaped_two (shaped_movea ls)
  shaped_operation muls = shaped_two shaped_muls
  shaped_operation add = shaped_two (shaped_registers 0xD040)
  shaped_operation sub = shaped_two (shaped_registers 0x9040)
  shaped_operation cmp = shaped_two shaped_cmp
  shaped_operation moveq = shaped_two shaped_moveq
  shaped_operation subq = shaped_two (shaped_quick 0x5180)
  shaped_operation asl = shaped_two (shaped_quick 0xE180)
  shaped_operation tst = shaped_one shaped_tst
  shaped_operation nop = λ ps. one_word _
  shaped_operation simhalt = λ ps. one_word _
  shaped_operation jmp = shaped_one (shaped_jump ls)
  shaped_operation dbra = shaped_two (shaped_dbra ls a)
  shaped_operation (branch c) = shaped_more (shaped_branch ls a c)

  pub shaped_encode : (ns : List Mnemonic) (i : Instruction) → Shaped (encode_by ns ls a i)
  unfolding encode_by
  shaped_encode ns i = shaped_bind _ _ (λ o. shaped_operation o i.operands)

-- MOVE's rows, as the code tries them
pub moved : (ls : Table) (s t : Text)
    → code_of (move_rows ls s t)
    ≡ option_or (option_or (option_or (option_or (option_or (code_of (high_row 0x21FC s t)) (code_of (from_indirect s t))) (code_of (to_indirect s t))) (code_of (registers_row 0x3000 s t)))
    (code_of (from_label ls s t)))
    (code_of (to_label ls s t))
unfolding move_rows
moved ls s t =
    rw (tried _ (shaped_high 0x21FC s t), tried _ (shaped_from_indirect s t), tried _ (shaped_to_indirect s t), tried _ (shaped_registers 0x3000 s t), tried _ (shaped_from_label ls s t))
    (left (code_of (high_row 0x21FC s t)) (code_of (from_indirect s t)) (code_of (to_indirect s t)) (code_of (registers_row 0x3000 s t)) _ _)
  where
    left : (a b c d e f : Option Code) → option_or a (option_or b (option_or c (option_or d (option_or e f)))) ≡ option_or (option_or (option_or (option_or (option_or a b) c) d) e) f
    left (Some x) b c d e f = refl
    left None (Some x) c d e f = refl
    left None None (Some x) d e f = refl
    left None None None (Some x) e f = refl
    left None None None None e f = refl
