-- Registers as texts, immediates and displacements in their ranges, and signed bytes: what the manual's lines rest on. Assumes nothing.
use Rattle.std.specs.Prelude.{Option, None, Some}
use Rattle.rules.specs.Option.{bind, or_else}
use Prim.Native.Nat.{ℕ, ◌%◌, zero, suc, ◌+◌, ◌-◌, ◌≤◌, ◌<◌}
use mathlib.Core.Path.{◌≡◌, refl, ap}
use mathlib.Core.Logic.{◌≢◌}
use mathlib.Core.Bool.{Bool, true, false, cond}
use mathlib.Core.List.{[]}
use native.Mathlib.Omega.{arith}
use lib.Dec.{ltb, eqb}
use lib.IntN.{ℤ, pos, negsuc, sub_ℕ, ◌+ℤ◌}
use lib.Signed.{mag}
use borrow.Author.Tests.{lt-ltb, le-ltb, le-leb, ltb-true, ltb-false, eqb-true, eqb-false, ne_eqb}
use Rattle.rules.specs.Text.{Text, bytes, after}
use Rattle.rules.specs.Number.{digit_value, within, immediate, imm8, imm16, modulo}
use Rattle.rules.specs.Label.{Table, find}
use Rattle.rules.specs.Encode.{register_digit, data_register, closed, indirect, reach, displacement, written_signed}
use Rattle.rules.proofs.Readings.{All, all_some, within_all, written_all, imm8_all}
use Rattle.manual.specs.Manual.{InByte, byte, sign_by, sign_of, quick, quick_of, displacement_word}
use Rattle.promises.specs.ListedForms.{D, at_a, InReach, Displaced, label, signed_number, BytesReadBack, QuickReadsBack}

-- a digit byte reads as its digit
pub digit : (n : ℕ) → n < 8 → digit_value (48 + n) ≡ n
unfolding digit_value
digit n h = rw (le-leb 48 (48 + n) (omega arith), le-leb (48 + n) 57 (omega arith)) (omega arith)

pub data_register_lem : (n : ℕ) → n < 8 → data_register (D n) ≡ Some n
unfolding data_register register_digit after bytes
data_register_lem n h = rw (digit n h, lt-ltb n 8 h)

pub indirect_register : (n : ℕ) → n < 8 → indirect (at_a n) ≡ Some n
unfolding indirect closed register_digit after bytes
indirect_register n h = rw (digit n h, lt-ltb n 8 h)

-- what a register is not
pub d_not_immediate : (n : ℕ) → imm16 (D n) ≡ None
unfolding imm16 immediate after bytes bind
d_not_immediate n = refl

pub at_a_not_immediate : (n : ℕ) → imm16 (at_a n) ≡ None
unfolding imm16 immediate after bytes bind
at_a_not_immediate n = refl

pub d_not_indirect : (n : ℕ) → indirect (D n) ≡ None
unfolding indirect closed after bytes
d_not_indirect n = refl

pub ruleset operand = (data_register_lem, indirect_register, d_not_immediate, at_a_not_immediate, d_not_indirect)

-- the ranges of immediates and of a branch's signed number
in_byte : (z : ℤ) → mag z < 128 → InByte z
in_byte (pos n) h = h
in_byte (negsuc n) h = h

pub imm8_byte : (s : Text) → All InByte (imm8 s)
imm8_byte = imm8_all InByte in_byte

-- the byte of a signed number, as the rules have it
pub byte_modulo : (z : ℤ) → InByte z → byte z ≡ modulo 256 z
unfolding byte modulo
byte_modulo (pos n) h = omega arith
byte_modulo (negsuc n) h = omega arith

pub bytes_read_back : BytesReadBack
unfolding byte sign_of sign_by
bytes_read_back (pos n) h = (omega arith, rw (lt-ltb n 128 h))
bytes_read_back (negsuc n) h = (omega arith, rw (le-ltb (255 - n) 128 (omega arith), lt-ltb (255 - n) 256 (omega arith)) (ap negsuc (omega arith)))

-- three bits, as the rules have them, and as they read
pub quick_modulo : (k : ℕ) → k ≤ 8 → modulo 8 (pos k) ≡ quick k
unfolding modulo quick
quick_modulo k u = go (eqb k 8) refl
  where
    go : (t : Bool) → eqb k 8 ≡ t → k % 8 ≡ cond t 0 k
    go true e = let h : k ≡ 8 = eqb-true k 8 e in omega arith
    go false e = let h : (k ≡ 8 → ⊥) = eqb-false k 8 e in omega arith

pub quick_reads_back : QuickReadsBack
unfolding quick quick_of
quick_reads_back k l u = go (eqb k 8) refl
  where
    go : (t : Bool) → eqb k 8 ≡ t → (cond t 0 k < 8) × (cond (eqb (cond t 0 k) 0) 8 (cond t 0 k) ≡ k)
    go true e = let h : k ≡ 8 = eqb-true k 8 e in (omega arith, omega arith)
    go false e =
        let h : (k ≡ 8 → ⊥) = eqb-false k 8 e in
        (omega arith, rw (ne_eqb k 0 (λ z. omega arith)))

-- a signed number z leads from a to t exactly if it is t less a
pub leads_back : (a t : ℕ) (z : ℤ) → pos a +ℤ z ≡ pos t → sub_ℕ t a ≡ z
leads_back a t (pos n) e = let h : a + n ≡ t = cc in rw (le-ltb t a (omega arith)) (ap pos (omega arith))
leads_back a t (negsuc n) e = go (ltb a (suc n)) refl e
  where
    go : (x : Bool) → ltb a (suc n) ≡ x → cond x (negsuc (suc n - suc a)) (pos (a - suc n)) ≡ pos t → sub_ℕ t a ≡ negsuc n
    go true p q = let h : ◌≡◌ {A = ℕ} 0 1 = cc in absurd (omega arith)
    go false p q =
        let h : a - suc n ≡ t = cc in
        let k : suc n ≤ a = ltb-false a (suc n) p in
        rw (lt-ltb t a (omega arith)) (ap negsuc (omega arith))

pub leads_there : (a t : ℕ) → pos a +ℤ sub_ℕ t a ≡ pos t
leads_there a t = go (ltb t a) refl
  where
    go : (x : Bool) → ltb t a ≡ x → pos a +ℤ cond x (negsuc (a - suc t)) (pos (t - a)) ≡ pos t
    go true p =
        let h : t < a = ltb-true t a p in
        rw (le-ltb a (suc (a - suc t)) (omega arith)) (ap pos (omega arith))
    go false p = let h : a ≤ t = ltb-false t a p in ap pos (omega arith)

-- a signed byte is within its bound
within_itself : (z : ℤ) → InByte z → within 128 z ≡ Some z
unfolding within
within_itself (pos n) h = rw (lt-ltb n 128 h)
within_itself (negsuc n) h = rw (lt-ltb n 128 h)

-- the stations' displacement of a branch's operand, and its range
pub displaced : {ls : Table} {a : ℕ} {s : Text} {z : ℤ} → Displaced ls a s z → displacement ls a s ≡ Some z
unfolding displacement reach bind or_else
displaced {ls} {a} {s} {z} (label r) =
    rw (r.found, leads_back (a + 2) r.target z r.leads, within_itself z r.near)
displaced {ls} {a} {s} {z} (signed_number away e) = go (find s ls) refl
  where
    go : (x : Option ℕ) → find s ls ≡ x → or_else (bind x λ t. reach t a) (written_signed s) ≡ Some z
    go None p = e
    go (Some t) p =
        unreached (reach t a)
        (within_all 128 (InReach ls a s) (sub_ℕ t (a + 2)) (λ h. record { target = t; found = p; leads = leads_there (a + 2) t; near = in_byte (sub_ℕ t (a + 2)) h }))
      where
        unreached : (x : Option ℤ) → All (InReach ls a s) x → or_else x (written_signed s) ≡ Some z
        unreached None h = e
        unreached (Some y) h = absurd (away y h)

pub displaced_byte : {ls : Table} {a : ℕ} {s : Text} {z : ℤ} → Displaced ls a s z → InByte z
displaced_byte (label r) = r.near
displaced_byte {s = s} (signed_number away e) = all_some InByte (written_all InByte in_byte s) e

-- a branch of another displacement than 0 and -1 has no word after
pub no_word : (z : ℤ) → z ≢ pos 0 → z ≢ negsuc 0 → displacement_word z ≡ []
unfolding displacement_word
no_word (pos zero) h k = absurd (h refl)
no_word (pos (suc n)) h k = refl
no_word (negsuc zero) h k = absurd (k refl)
no_word (negsuc (suc n)) h k = refl
