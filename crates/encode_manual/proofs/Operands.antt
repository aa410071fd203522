-- Operands as they are read: 1 to 8, other text, JMP's; MOVEQ's byte; and MOVE.L by whether it goes to Dn. Assumes nothing.
use Rattle.std.specs.Prelude.{Option, None, Some, Result, Ok, Err, option_map}
use Rattle.std.specs.Result.{result_ok}
use Rattle.opcode.specs.Kind.{operand_kind}
use Rattle.opcode.specs.declared.register.OperandKind.{OperandKind}
use Rattle.opcode.specs.declared.register.OperandKind.TheVariants.{Text as Other}
use Rattle.numeral.specs.Number.{result_of, failure_of}
use Rattle.numeral.specs.declared.Failure.{Failure}
use Rattle.rules.specs.Option.{bind, or_else}
use Prim.Native.Nat.{ℕ, ◌%◌, ◌<◌, ◌≤◌}
use mathlib.Core.Path.{◌≡◌, refl, sym, ◌∙◌}
use mathlib.Core.Bool.{Bool, true, false, false≢true, cond, ◌||◌, ◌&&◌}
use mathlib.Core.List.{[], ◌∷◌}
use native.Mathlib.Omega.{arith}
use lib.Dec.{eqb, leb}
use lib.IntN.{ℤ, pos, negsuc, nat_abs}
use lib.Signed.{mag, lt_z}
use borrow.Author.Tests.{leb-true, eqb-true, eqb-false, ltb-true, ltb-false, le-leb, lt-leb}
use Rattle.rules.specs.Text.{Text, bytes, starts, after}
use Rattle.rules.specs.Number.{Reading, read, failed, value_of, hex_tail, imm8, imm16, modulo}
use Rattle.rules.specs.Encode.{data_register, indirect as indirect_register, register_digit, closed, is_some, all_digits, two}
use Rattle.rules.proofs.Readings.{all_some, imm8_all}
use Rattle.rules.specs.Forms.{Kind, hash, dn, an, at_an, text as other_kind, kind_of, kind_number, same_kind}
use Rattle.manual.specs.Manual.{long, direct, indirect, immediate, absolute, quick, byte, MOVE, JMP}
use Rattle.requests.specs.ManualCall.{Form, said, labelled, load, store, jump, muls_w, registers, form_of, other_text, number32, imm32, one_to_eight, quickly, jump_to, move_long}

-- ---- a number after `#`
module _ {A : Type 0} (o : Option (Reading A)) {x : Option (Result A Failure)} (e : x ≡ option_map result_of o) where
  pub not_there : {r : Option A} → x ≡ None → r ≡ None → r ≡ bind o value_of
  unfolding bind
  not_there h k = k ∙ go o (sym e ∙ h)
    where
      go : (p : Option (Reading A)) → option_map result_of p ≡ None → None ≡ bind p value_of
      go None q = refl
      go (Some y) q = cc

  pub there : {y : Result A Failure} → x ≡ Some y → result_ok y ≡ bind o value_of
  unfolding bind value_of
  there {y} h = go o (sym e ∙ h)
    where
      go : (p : Option (Reading A)) → option_map result_of p ≡ Some y → result_ok y ≡ bind p value_of
      go None q = cc
      go (Some (read v)) q = let k : Ok v ≡ y = cc in rw (← k)
      go (Some (failed f)) q = let k : Err (failure_of f) ≡ y = cc in rw (← k)

pub value_read : {A : Type 0} (r : Reading A) → result_ok (result_of r) ≡ value_of r
unfolding value_of
value_read (read v) = refl
value_read (failed f) = refl

-- ---- 1 to 8
module _ (s : Text) {x : Option ℤ} (e : x ≡ imm8 s) where
  pub no_quick : x ≡ None → None ≡ quickly s
  unfolding quickly bind
  no_quick h = rw (sym e ∙ h)

  module _ {z : ℤ} (h : x ≡ Some z) where
    pub quick_by : quickly s ≡ one_to_eight z
    unfolding quickly bind
    quick_by = rw (sym e ∙ h)

    pub too_small : lt_z z (pos 1) ≡ true → None ≡ quickly s
    unfolding one_to_eight
    too_small k = sym (quick_by ∙ go z k)
      where
        go : (y : ℤ) → lt_z y (pos 1) ≡ true → one_to_eight y ≡ None
        go (pos n) q = rw (lt-leb 1 n (ltb-true n 1 q))
        go (negsuc n) q = refl

    pub too_large : lt_z (pos 8) z ≡ true → None ≡ quickly s
    unfolding one_to_eight
    too_large k = sym (quick_by ∙ go z k)
      where
        go : (y : ℤ) → lt_z (pos 8) y ≡ true → one_to_eight y ≡ None
        go (pos n) q = let l = ltb-true 8 n q in rw (le-leb 1 n (omega arith), lt-leb n 8 l)
        go (negsuc n) q = refl

    pub small_enough : lt_z z (pos 1) ≡ false → lt_z (pos 8) z ≡ false → Some (nat_abs z) ≡ quickly s
    unfolding one_to_eight
    small_enough k l = sym (quick_by ∙ go z k l)
      where
        go : (y : ℤ) → lt_z y (pos 1) ≡ false → lt_z (pos 8) y ≡ false → one_to_eight y ≡ Some (nat_abs y)
        go (pos n) q r = let a : 1 ≤ n = ltb-false n 1 q in let b : n ≤ 8 = ltb-false 8 n r in rw (le-leb 1 n a, le-leb n 8 b)
        go (negsuc n) q r = absurd (false≢true (sym q))

pub low_three : (k : ℕ) → 1 ≤ k → k ≤ 8 → k % 8 ≡ quick k
unfolding quick
low_three k p q = go (eqb k 8) refl
  where
    go : (y : Bool) → eqb k 8 ≡ y → k % 8 ≡ cond y 0 k
    go true r = let l = eqb-true k 8 r in omega arith
    go false r = let d = eqb-false k 8 r in let l : k < 8 = omega arith in omega arith

pub within_eight : (s : Text) {k : ℕ} → quickly s ≡ Some k → (1 ≤ k) × (k ≤ 8)
unfolding quickly bind one_to_eight
within_eight s {k} e = go (imm8 s) e
  where
    by : (n : ℕ) (a b : Bool) → leb 1 n ≡ a → leb n 8 ≡ b → cond (a && b) (Some n) None ≡ Some k → (1 ≤ k) × (k ≤ 8)
    by n true true p q r = let j : n ≡ k = cc in (omega (arith, leb-true 1 n p), omega (arith, leb-true n 8 q))
    by n true false p q r = cc
    by n false b p q r = cc

    go : (o : Option ℤ) → bind o one_to_eight ≡ Some k → (1 ≤ k) × (k ≤ 8)
    go None q = cc
    go (Some (pos n)) q = by n (leb 1 n) (leb n 8) refl refl q
    go (Some (negsuc n)) q = cc

-- ---- other text
module _ (s : Text) {y : Bool} (e : y ≡ same_kind (kind_of s) other_kind) where
  pub other : y ≡ true → Some s ≡ other_text s
  unfolding other_text
  other h = rw (sym e ∙ h)

  pub not_other : y ≡ false → None ≡ other_text s
  unfolding other_text
  not_other h = rw (sym e ∙ h)

-- by its kind, as the code has it
module _ (q : Kind) {k : OperandKind} (e : k ≡ operand_kind q) where
  pub is_text : k ≡ Other → true ≡ same_kind q other_kind
  unfolding same_kind kind_number
  is_text h = go q (sym e ∙ h)
    where
      go : (p : Kind) → operand_kind p ≡ Other → true ≡ eqb (kind_number p) (kind_number other_kind)
      go hash d = cc
      go dn d = cc
      go an d = cc
      go at_an d = cc
      go other_kind d = refl

  pub no_text : (k ≡ Other → ⊥) → false ≡ same_kind q other_kind
  unfolding same_kind kind_number
  no_text h = go q (λ d. h (e ∙ d))
    where
      go : (p : Kind) → (operand_kind p ≡ Other → ⊥) → false ≡ eqb (kind_number p) (kind_number other_kind)
      go hash d = refl
      go dn d = refl
      go an d = refl
      go at_an d = refl
      go other_kind d = absurd (d refl)

-- JMP's operand
module _ (s : Text) {y : Bool} (e : y ≡ (is_some (hex_tail s) || all_digits s)) where
  pub numeric : y ≡ true → jump_to s ≡ bind (number32 s) (λ v. Some (said (JMP (absolute v))))
  unfolding jump_to
  numeric h = rw (sym e ∙ h)

  pub named : y ≡ false → jump_to s ≡ Some (labelled jump s)
  unfolding jump_to
  named h = rw (sym e ∙ h)

-- ---- MOVE.L
nothing_after : {A B : Type 0} (o : Option A) → bind {B = B} o (λ x. None) ≡ None
unfolding bind
nothing_after None = refl
nothing_after (Some x) = refl

nothing_else : {A : Type 0} (o : Option A) → or_else o None ≡ o
unfolding or_else
nothing_else None = refl
nothing_else (Some x) = refl

-- a data register is none of the other kinds
module _ (t : Text) {n : ℕ} (e : data_register t ≡ Some n) where
  not_indirect : indirect_register t ≡ None
  unfolding data_register indirect_register after bytes register_digit closed
  not_indirect = go t e
    where
      go : (u : Text) → data_register u ≡ Some n → indirect_register u ≡ None
      go [] q = refl
      go (b ∷ u) q = each (eqb 68 b) refl (eqb 40 b) refl
        where
          each : (x : Bool) → eqb 68 b ≡ x → (y : Bool) → eqb 40 b ≡ y → indirect_register (b ∷ u) ≡ None
          each true p true r = let l = eqb-true 68 b p in let m = eqb-true 40 b r in absurd (omega arith)
          each true p false r = rw (r, after)
          each false p y r = let c = rw (p, after) at q in cc

  not_text : other_text t ≡ None
  unfolding other_text same_kind kind_of kind_number is_some
  not_text = rw e (go (starts (bytes "#") t))
    where
      go : (y : Bool) → cond (eqb (kind_number (cond y hash dn)) 4) (Some t) None ≡ None
      go true = refl
      go false = refl

module _ (s t : Text) where
  -- to Dn: an immediate, (An), a label
  pub to_register : (n : ℕ) → data_register t ≡ Some n
      → move_long s t ≡ or_else (bind (imm32 s) (λ v. Some (said (MOVE long (immediate v) (direct n)))))
      (or_else (bind (indirect_register s) (λ m. Some (said (MOVE long (indirect m) (direct n)))))
      (bind (other_text s) (λ l. Some (labelled (load n) l))))
  unfolding move_long bind or_else
  to_register n e =
      rw (e, not_indirect t e, not_text t e, nothing_after {B = Form} (data_register s), nothing_else (bind (other_text s) (λ l. Some (labelled (load n) l))), or_else)

  -- of Dn: to (An), to a label
  pub of_register : data_register t ≡ None
      → move_long s t ≡ bind (data_register s) (λ n. or_else (bind (indirect_register t) (λ m. Some (said (MOVE long (direct n) (indirect m)))))
      (bind (other_text t) (λ l. Some (labelled (store n) l))))
  unfolding move_long bind or_else
  of_register e = rw (e, nothing_after {B = Form} (imm32 s), nothing_after {B = Form} (indirect_register s), nothing_after {B = Form} (other_text s)) (go (data_register s))
    where
      go : (o : Option ℕ) →
          or_else (bind o (λ n. bind (indirect_register t) (λ m. Some (said (MOVE long (direct n) (indirect m)))))) (bind o (λ n. bind (other_text t) (λ l. Some (labelled (store n) l))))
          ≡ bind o (λ n. or_else (bind (indirect_register t) (λ m. Some (said (MOVE long (direct n) (indirect m))))) (bind (other_text t) (λ l. Some (labelled (store n) l))))
      go None = refl
      go (Some n) = refl

-- MULS without a data register to go to
pub no_product : (s t : Text) → data_register t ≡ None → form_of muls_w (s ∷ t ∷ []) ≡ None
unfolding form_of two registers bind or_else
no_product s t e = rw (e, nothing_after {B = Form} (imm16 s), nothing_after {B = Form} (data_register s))

-- MOVEQ's byte
pub moveq_byte : (s : Text) (z : ℤ) {w : ℕ} → imm8 s ≡ Some z → w ≡ modulo 256 z → w ≡ byte z
unfolding modulo byte
moveq_byte s (pos n) e h = let l : n < 128 = all_some (λ y. mag y < 128) (imm8_all (λ y. mag y < 128) (λ y k. k) s) e in omega arith
moveq_byte s (negsuc n) e h = let l : n < 128 = all_some (λ y. mag y < 128) (imm8_all (λ y. mag y < 128) (λ y k. k) s) e in omega arith
