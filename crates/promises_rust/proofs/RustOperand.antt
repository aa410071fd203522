-- Operands: registers, displacements and jump addresses of the Rust are those of the rules. Assumes nothing.
use Rattle.std.specs.Prelude.{Option, None, Some}
use Rattle.rules.specs.Option.{bind, or_else}
use Prim.Native.Nat.{ℕ, suc, ◌+◌, ◌-◌, ◌^◌, ◌≤◌, ◌<◌}
use mathlib.Core.Path.{◌≡◌, refl, sym, ◌∙◌}
use mathlib.Core.Bool.{Bool, true, false, ◌&&◌, ◌||◌, cond, and-true, false≢true}
use mathlib.Core.List.{[], ◌∷◌}
use native.Mathlib.Omega.{arith}
use native.Mathlib.Nat.{mod-eq_of_lt}
use lib.ListN.{length, drop, take, length-drop, length-take}
use lib.Dec.{leb, ltb, eqb, leb-suc-suc}
use lib.IntN.{ℤ, pos, negsuc, sub_ℕ}
use borrow.Author.Tests.{ltb-true, ltb-false, leb-true, lt-ltb, le-ltb, ne_eqb}
use Rattle.rules.specs.Text.{Text, bytes, after}
use Rattle.rules.specs.Number.{digit_value, unsigned_reading, within, hex_tail, reading16, value_of, number16}
use Rattle.rules.specs.Label.{Table, find}
use Rattle.rules.specs.Encode.{register_digit, data_register, address_register, closed, indirect, reach, written_signed, displacement, all_digits, is_some, jumps}
use Rattle.rules.proofs.Readings.{All, prefix_map, written_is, written_all}
use Rattle.promises_rust.specs.RustStr.{when, rust_is_some, get, all, is_ascii_digit, to_digit, starts_with, ends_with, slice, range_contains, as_u8, as_u16, as_i8, as_signed, sub_i32, HashMap, look_up}
use Rattle.promises_rust.specs.RustAssembler.{parse_data_register, parse_address_register, parse_indirect_register, parse_immediate_address, parse_branch_displacement}
use Rattle.promises_rust.proofs.RustText.{eqb_comm, after_is, starts_is}
use Rattle.promises_rust.proofs.RustNumber.{digit_is, number_is, prefix_is, signed_is, Small, displaced_is, distance_is, within_small}

-- a decimal digit
ten : (b : ℕ) → ltb (digit_value b) 10 ≡ is_ascii_digit b
unfolding digit_value is_ascii_digit
ten b = first (leb 48 b) refl (leb b 57) refl
  where
    letter : (x : Bool) (lo hi off y : ℕ) → (leb lo b && leb b hi) ≡ x → off + 10 ≤ lo → 10 ≤ y → 10 ≤ cond (leb lo b && leb b hi) (b - off) y
    letter true lo hi off y e h k = rw e (above (leb lo b) refl)
      where
        above : (z : Bool) → leb lo b ≡ z → 10 ≤ b - off
        above true f = let g : lo ≤ b = leb-true lo b f in omega arith
        above false f = absurd (false≢true (rw f at e))
    letter false lo hi off y e h k = rw e k

    far : 10 ≤ cond (leb 65 b && leb b 70) (b - 55) (cond (leb 97 b && leb b 102) (b - 87) 255)
    far = letter (leb 65 b && leb b 70) 65 70 55 _ refl (omega arith) (letter (leb 97 b && leb b 102) 97 102 87 255 refl (omega arith) (omega arith))

    first : (x : Bool) → leb 48 b ≡ x → (y : Bool) → leb b 57 ≡ y
        → ltb (cond (leb 48 b && leb b 57) (b - 48) (cond (leb 65 b && leb b 70) (b - 55) (cond (leb 97 b && leb b 102) (b - 87) 255))) 10
        ≡ (leb 48 b && leb b 57)
    first true e true f = let h : b ≤ 57 = leb-true b 57 f in rw (e, f) (lt-ltb (b - 48) 10 (omega arith))
    first true e false f = rw (e, f) (le-ltb _ 10 far)
    first false e y f = rw e (le-ltb _ 10 far)

-- the second byte of Dn or An
digit_of : ℕ → Option ℕ
digit_of b = when (is_ascii_digit b) (bind (to_digit b 10) (λ d. when (leb (as_u8 d) 7) (Some (as_u8 d))))

digit_of_is : (b : ℕ) → digit_of b ≡ cond (ltb (digit_value b) 8) (Some (digit_value b)) None
unfolding digit_of bind
digit_of_is b = rw (← ten b, digit_is b 10 (omega arith)) (go (ltb (digit_value b) 10) refl)
  where
    v : ℕ
    v = digit_value b

    go : (x : Bool) → ltb v 10 ≡ x
        → when (ltb v 10) (bind (cond (ltb v 10) (Some v) None) (λ d. when (leb (as_u8 d) 7) (Some (as_u8 d)))) ≡ cond (ltb v 8) (Some v) None
    go true e = let h : v < 10 = ltb-true v 10 e in rw (e, mod-eq_of_lt {n = v} {m = 2 ^ 8} (omega arith), ← leb-suc-suc v 7)
    go false e = let h : 10 ≤ v = ltb-false v 10 e in rw (e, le-ltb v 8 (omega arith))

module _ (c : ℕ) where
  register_of : Text → Option ℕ
  register_of s = when (eqb (length s) 2 && starts_with s (c ∷ [])) (bind (get s 1) digit_of)

  register_of_is : (s : Text) → register_of s ≡ register_digit (after (c ∷ []) s)
  unfolding register_of register_digit starts_with get bind after
  register_of_is [] = refl
  register_of_is (a ∷ []) = go (eqb c a) refl
    where
      go : (x : Bool) → eqb c a ≡ x → register_of (a ∷ []) ≡ register_digit (after (c ∷ []) (a ∷ []))
      go true e = rw (after_is (c ∷ []) (a ∷ []), e)
      go false e = rw (after_is (c ∷ []) (a ∷ []), e)
  register_of_is (a ∷ b ∷ []) = go (eqb c a) refl
    where
      go : (x : Bool) → eqb c a ≡ x → register_of (a ∷ b ∷ []) ≡ register_digit (after (c ∷ []) (a ∷ b ∷ []))
      go true e = rw (after_is (c ∷ []) (a ∷ b ∷ []), e) (digit_of_is b)
      go false e = rw (after_is (c ∷ []) (a ∷ b ∷ []), e)
  register_of_is (a ∷ b ∷ d ∷ s) = rw (ne_eqb (suc (suc (suc (length s)))) 2 (λ h. omega arith)) (go (eqb c a) refl)
    where
      go : (x : Bool) → eqb c a ≡ x → None ≡ register_digit (after (c ∷ []) (a ∷ b ∷ d ∷ s))
      go true e = rw (after_is (c ∷ []) (a ∷ b ∷ d ∷ s), e)
      go false e = rw (after_is (c ∷ []) (a ∷ b ∷ d ∷ s), e)

pub data_is : (s : Text) → parse_data_register s ≡ data_register s
unfolding parse_data_register data_register register_of digit_of bytes
data_is s = register_of_is 68 s

pub address_is : (s : Text) → parse_address_register s ≡ address_register s
unfolding parse_address_register address_register register_of digit_of bytes
address_is s = register_of_is 65 s

-- (An): what stands between the brackets is a register of two bytes
when_none : (x : Bool) → ◌≡◌ {A = Option ℕ} (when x None) None
when_none true = refl
when_none false = refl

long_none : (s : Text) → (length s ≡ 2 → ⊥) → parse_address_register s ≡ None
unfolding parse_address_register
long_none s h = rw (ne_eqb (length s) 2 h)

closed_none : (x : Bool) (t : Text) → closed (Some t) ≡ None → closed (cond x (Some t) None) ≡ None
unfolding closed
closed_none true t e = e
closed_none false t e = refl

inner_length : (s : Text) → length (slice s 1 (length s - 1)) ≡ length s - 2
unfolding slice
inner_length s = rw (length-drop 1 (take (length s - 1) s), length-take (length s - 1) s) (omega arith)

-- a text that is not of four bytes is no (An)
not_four : (s : Text) → (length s ≡ 4 → ⊥) → closed (Some (drop 2 s)) ≡ None → parse_indirect_register s ≡ indirect s
unfolding parse_indirect_register indirect bytes
not_four s h c =
    rw (
      long_none (slice s 1 (length s - 1)) (λ e. h (let k : length s - 2 ≡ 2 = sym (inner_length s) ∙ e in omega arith)),
      when_none,
      after_is (40 ∷ 65 ∷ []) s,
    )
    (sym (closed_none (starts_with s (40 ∷ 65 ∷ [])) (drop 2 s) c))

pub indirect_is : (s : Text) → parse_indirect_register s ≡ indirect s
unfolding parse_indirect_register indirect closed bytes starts_with ends_with slice address_register register_digit
indirect_is [] = not_four [] (λ h. omega arith) refl
indirect_is (a ∷ []) = not_four (a ∷ []) (λ h. omega arith) refl
indirect_is (a ∷ b ∷ []) = not_four (a ∷ b ∷ []) (λ h. omega arith) refl
indirect_is (a ∷ b ∷ c ∷ []) = not_four (a ∷ b ∷ c ∷ []) (λ h. omega arith) refl
indirect_is (a ∷ b ∷ c ∷ d ∷ e ∷ s) = not_four (a ∷ b ∷ c ∷ d ∷ e ∷ s) (λ h. omega arith) refl
indirect_is (a ∷ b ∷ c ∷ d ∷ []) = rw (address_is (b ∷ c ∷ []), after_is (40 ∷ 65 ∷ []) (a ∷ b ∷ c ∷ d ∷ [])) (go (eqb 40 a) refl (eqb 65 b) refl)
  where
    go : (x : Bool) → eqb 40 a ≡ x → (y : Bool) → eqb 65 b ≡ y
        → when (eqb 40 a && true && (eqb 41 d && true)) (address_register (b ∷ c ∷ [])) ≡ closed (cond (eqb 40 a && (eqb 65 b && true)) (Some (c ∷ d ∷ [])) None)
    go true e true f = rw (e, f, and-true (eqb 41 d), eqb_comm 41 d, address_register, after_is (65 ∷ []) (b ∷ c ∷ []), f)
    go true e false f = rw (e, f, address_register, after_is (65 ∷ []) (b ∷ c ∷ []), f) (when_none (eqb 41 d && true))
    go false e y f = rw e

-- registers are below 8
abbrev pub Register : ℕ → Type 0
Register n = n < 8

digit_below : (o : Option Text) → All Register (register_digit o)
unfolding register_digit
digit_below None = tt
digit_below (Some []) = tt
digit_below (Some (b ∷ [])) = go (ltb (digit_value b) 8) refl
  where
    go : (x : Bool) → ltb (digit_value b) 8 ≡ x → All Register (cond x (Some (digit_value b)) None)
    go true e = ltb-true (digit_value b) 8 e
    go false e = tt
digit_below (Some (b ∷ c ∷ s)) = tt

pub data_below : (s : Text) → All Register (data_register s)
unfolding data_register
data_below s = digit_below (after (bytes "D") s)

pub address_below : (s : Text) → All Register (address_register s)
unfolding address_register
address_below s = digit_below (after (bytes "A") s)

pub indirect_below : (s : Text) → All Register (indirect s)
unfolding indirect closed
indirect_below s = go (after (bytes "(A") s)
  where
    go : (o : Option Text) → All Register (closed o)
    go None = tt
    go (Some []) = tt
    go (Some (b ∷ [])) = tt
    go (Some (b ∷ c ∷ [])) = on (eqb c 41)
      where
        on : (x : Bool) → All Register (cond x (register_digit (Some (b ∷ []))) None)
        on true = digit_below (Some (b ∷ []))
        on false = tt
    go (Some (b ∷ c ∷ d ∷ s)) = tt

-- a jump's operand: by a prefix, of digits only, or a label
hex_tail_is : (s : Text) → hex_tail s ≡ cond (starts_with s (bytes "$")) (Some (drop 1 s)) (cond (starts_with s (bytes "0x")) (Some (drop 2 s)) None)
unfolding hex_tail bytes
hex_tail_is s = go (starts_with s (36 ∷ [])) refl
  where
    go : (x : Bool) → starts_with s (36 ∷ []) ≡ x
        → hex_tail s ≡ cond (starts_with s (36 ∷ [])) (Some (drop 1 s)) (cond (starts_with s (48 ∷ 120 ∷ [])) (Some (drop 2 s)) None)
    go true e = rw (hex_tail, after_is (36 ∷ []) s, e)
    go false e = rw (hex_tail, after_is (36 ∷ []) s, e) (after_is (48 ∷ 120 ∷ []) s)

digits_all : (s : Text) → all is_ascii_digit s ≡ all_digits s
unfolding all all_digits
digits_all [] = refl
digits_all (b ∷ s) = rw (ten b, digits_all s)

some_is : {A : Type 0} (o : Option A) → rust_is_some o ≡ is_some o
unfolding rust_is_some is_some
some_is None = refl
some_is (Some a) = refl

-- the map of the Rust and the table of the rules have the same labels, and these lie in reach of signed 32 bits
pub record Agrees (m : HashMap) (t : Table) : Type 0 where
  pub finds : (n : Text) → look_up m n ≡ find n t
  pub low : (n : Text) → All (λ x. x < 2 ^ 30) (find n t)

module _ {m : HashMap} {t : Table} (g : Agrees m t) where
  pub displacement_is : (s : Text) (a : ℕ) → a < 2 ^ 30 → parse_branch_displacement m s a ≡ displacement t a s
  unfolding parse_branch_displacement displacement reach bind or_else bytes
  displacement_is s a h =
      rw (g.finds s, starts_is (43 ∷ []) s, starts_is (45 ∷ []) s, signed_is 10 s (omega arith), ← written_is s) (go (find s t) (g.low s))
    where
      go : (o : Option ℕ) → All (λ x. x < 2 ^ 30) o
          → or_else
          (bind o (λ x.
          let d = sub_i32 (sub_i32 (as_signed 32 x) (as_signed 32 a)) (pos 2) in
          when (range_contains (negsuc 127) (pos 127) d) (Some (as_i8 d))))
          (written_signed s)
          ≡ or_else (bind o (λ x. within 128 (sub_ℕ x (a + 2)))) (written_signed s)
      go None k = refl
      go (Some x) k = rw (distance_is x a k h, displaced_is (sub_ℕ x (a + 2)))

  pub jumps_is : (s : Text) → rust_is_some (parse_immediate_address m s) ≡ jumps t s
  unfolding jumps parse_immediate_address number16 reading16 is_some bind
  jumps_is s =
      rw (
        some_is (parse_immediate_address m s),
        hex_tail_is s,
        prefix_map value_of (λ r u. unsigned_reading r (2 ^ 16) u) s,
        ← prefix_is (λ r u. value_of (unsigned_reading r (2 ^ 16) u)) s,
        number_is 16 16 (drop 1 s) (omega arith),
        number_is 16 16 (drop 2 s) (omega arith),
        number_is 16 10 s (omega arith),
        digits_all s,
        g.finds s,
      )
      (go _ _ _ (starts_with s (bytes "$")) (starts_with s (bytes "0x")) (all_digits s) (find s t))
    where
      go : (p q r : Option ℕ) (x y z : Bool) (o : Option ℕ)
          → is_some (cond x p (cond y q (cond z r (bind o (λ a. Some (as_u16 a))))))
          ≡ cond (is_some (cond x (Some (drop 1 s)) (cond y (Some (drop 2 s)) None)) || z) (is_some (cond x p (cond y q r))) (is_some o)
      go p q r true y z o = refl
      go p q r false true z o = refl
      go p q r false false true o = refl
      go p q r false false false None = refl
      go p q r false false false (Some a) = refl

pub displacement_small : (t : Table) (a : ℕ) (s : Text) → All Small (displacement t a s)
unfolding displacement reach bind or_else
displacement_small t a s = go (find s t)
  where
    written : All Small (written_signed s)
    written = written_all Small (λ z h. h) s

    or : (o p : Option ℤ) → All Small o → All Small p → All Small (or_else o p)
    or None p h k = k
    or (Some z) p h k = h

    go : (o : Option ℕ) → All Small (or_else (bind o (λ x. within 128 (sub_ℕ x (a + 2)))) (written_signed s))
    go None = written
    go (Some x) = or (within 128 (sub_ℕ x (a + 2))) (written_signed s) (within_small (sub_ℕ x (a + 2))) written
