-- Numbers in text and machine numbers: the Rust's readers are those of the rules, on all bytes. Assumes nothing.
use Rattle.std.specs.Prelude.{Option, None, Some}
use Rattle.rules.specs.Option.{bind}
use Prim.Native.Nat.{ℕ, zero, suc, ◌+◌, ◌-◌, ◌*◌, ◌^◌, ◌≤◌, ◌<◌}
use mathlib.Core.Path.{◌≡◌, refl, sym, ◌∙◌, ap}
use mathlib.Core.Bool.{Bool, true, false, ◌&&◌, ◌||◌, cond, and-true, false≢true}
use mathlib.Core.List.{[], ◌∷◌}
use native.Mathlib.Omega.{arith}
use native.Mathlib.Nat.{mod-eq_of_lt}
use lib.ListN.{drop}
use lib.Dec.{leb, ltb, eqb, leb-suc-suc}
use lib.IntN.{ℤ, pos, negsuc, neg_ℤ, sub_ℕ, ◌-ℤ◌}
use lib.Signed.{mag}
use borrow.Author.Tests.{ltb-true, ltb-false, leb-true, leb-false, eqb-true, lt-ltb, le-ltb, lt-leb}
use Rattle.rules.specs.Text.{Text, bytes}
use Rattle.rules.specs.Number.{digit_value, some_digits, below, within, without, unsigned_reading, signed_reading, hex_tail, by_prefix, reading32, reading16, reading8, immediate, value_of, signed, imm8, imm16}
use Rattle.rules.specs.Number as Rules
use Rattle.rules.proofs.Readings.{All, ranged_value, prefix_map, within_all, imm8_all}
use Rattle.promises_rust.specs.RustStr.{when, is_empty, is_ascii_digit, digit, to_digit, digits_from, digits, strip_plus, u_from_str_radix, u_parse, i8_from_str_radix, i8_range, negated, unnegated, range_contains, as_unsigned, as_signed, as_i8, sub_i32, starts_with, strip_prefix}
use Rattle.promises_rust.specs.RustAssembler.{hex_str, parse_immediate, parse_immediate_u16}
use Rattle.promises_rust.proofs.RustText.{eqb_comm, after_is}

-- digits: where Rust's letters go on to Z, the rules stop at F, and no radix here reaches so far
Read : ℕ → Option ℕ → ℕ → Type 0
Read radix o v = bind o (λ d. when (ltb d radix) (Some d)) ≡ cond (ltb v radix) (Some v) None

module _ (b lo mid hi off radix : ℕ) (x : Option ℕ) (y : ℕ) where
  block : mid ≤ hi → radix ≤ 16 → (mid < b → b ≤ hi → (16 ≤ b - off) × (16 ≤ y)) → Read radix x y
      → Read radix (cond (leb lo b && leb b hi) (Some (b - off)) x) (cond (leb lo b && leb b mid) (b - off) y)
  unfolding Read bind
  block k r gap h = go (leb lo b) refl (leb b mid) refl (leb b hi) refl
    where
      go : (l : Bool) → leb lo b ≡ l → (m : Bool) → leb b mid ≡ m → (u : Bool) → leb b hi ≡ u
          → Read radix (cond (leb lo b && leb b hi) (Some (b - off)) x) (cond (leb lo b && leb b mid) (b - off) y)
      go false e m f u g = rw e h
      go true e true f true g = rw (e, f, g)
      go true e true f false g = absurd (let p : b ≤ mid = leb-true b mid f in let q : hi < b = leb-false b hi g in let z : ⊥ = omega arith in z)
      go true e false f true g =
          let w : (16 ≤ b - off) × (16 ≤ y) = gap (leb-false b mid f) (leb-true b hi g) in
          rw (e, f, g, le-ltb (b - off) radix (omega arith), le-ltb y radix (omega arith))
      go true e false f false g = rw (e, f, g) h

pub digit_is : (b radix : ℕ) → radix ≤ 16 → to_digit b radix ≡ cond (ltb (digit_value b) radix) (Some (digit_value b)) None
unfolding to_digit digit is_ascii_digit digit_value Read bind
digit_is b radix r =
    block b 48 57 57 48 radix _ _ (omega arith) r (λ p q. (omega arith, omega arith))
    (block b 65 70 90 55 radix _ _ (omega arith) r (λ p q. (omega arith, gap p q))
    (block b 97 102 122 87 radix None 255 (omega arith) r (λ p q. (omega arith, omega arith)) (rw (le-ltb 255 radix (omega arith)))))
  where
    gap : 70 < b → b ≤ 90 → 16 ≤ cond (leb 97 b && leb b 102) (b - 87) 255
    gap p q = rw (lt-leb 97 b (omega arith)) (omega arith)

pub digits_is : (radix v : ℕ) (s : Text) → radix ≤ 16 → digits_from radix v s ≡ value_of (Rules.digits radix v s)
unfolding digits_from Rules.digits value_of
digits_is radix v [] r = refl
digits_is radix v (b ∷ s) r = go (ltb (digit_value b) radix) refl (digits_is radix (v * radix + digit_value b) s r)
  where
    go : (x : Bool) → ltb (digit_value b) radix ≡ x
        → digits_from radix (v * radix + digit_value b) s ≡ value_of (Rules.digits radix (v * radix + digit_value b) s)
        → digits_from radix v (b ∷ s) ≡ value_of (Rules.digits radix v (b ∷ s))
    go true e ih = rw (digit_is b radix r, e, digits_from, Rules.digits) ih
    go false e ih = rw (digit_is b radix r, e, digits_from, Rules.digits)

some_is : (radix : ℕ) (s : Text) → radix ≤ 16 → digits radix s ≡ value_of (some_digits radix s)
unfolding digits some_digits is_empty value_of
some_is radix [] r = refl
some_is radix (b ∷ s) r = digits_is radix 0 (b ∷ s) r

plus_is : (s : Text) → strip_plus s ≡ without 43 s
unfolding strip_plus without starts_with bytes
plus_is [] = refl
plus_is (b ∷ s) = rw (and-true (eqb 43 b), eqb_comm 43 b)

pub number_is : (bits radix : ℕ) (s : Text) → radix ≤ 16 → u_from_str_radix bits s radix ≡ value_of (unsigned_reading radix (2 ^ bits) s)
unfolding u_from_str_radix unsigned_reading below
number_is bits radix s r = rw (plus_is s, some_is radix (without 43 s) r, ranged_value (below (2 ^ bits)) (some_digits radix (without 43 s)))

-- signed numbers, -128 to 127
lt_128 : (n : ℕ) → leb n 127 ≡ ltb n 128
lt_128 n = sym (leb-suc-suc n 127)

range_is : (z : ℤ) → when (range_contains (negsuc 127) (pos 127) z) (Some z) ≡ within 128 z
unfolding within
range_is (pos n) = rw (lt_128 n)
range_is (negsuc n) = rw (and-true (leb n 127), lt_128 n)

negative_is : (o : Option ℕ) → i8_range (negated o) ≡ bind o (λ v. within 128 (neg_ℤ (pos v)))
unfolding i8_range negated bind
negative_is None = refl
negative_is (Some v) = range_is (neg_ℤ (pos v))

positive_is : (o : Option ℕ) → i8_range (unnegated o) ≡ bind o (λ v. within 128 (pos v))
unfolding i8_range unnegated bind
positive_is None = refl
positive_is (Some v) = range_is (pos v)

pub signed_is : (radix : ℕ) (s : Text) → radix ≤ 16 → i8_from_str_radix s radix ≡ signed radix 128 s
unfolding i8_from_str_radix signed signed_reading starts_with bytes some_digits without value_of bind
signed_is radix [] r = rw (plus_is [], some_is radix [] r) (positive_is (value_of (some_digits radix [])))
signed_is radix (b ∷ s) r = rw (and-true (eqb 45 b), eqb_comm 45 b) (go (eqb b 45) refl)
  where
    go : (x : Bool) → eqb b 45 ≡ x
        → cond (eqb b 45) (i8_range (negated (digits radix s))) (i8_range (unnegated (digits radix (strip_plus (b ∷ s))))) ≡ signed radix 128 (b ∷ s)
    go true e = rw (e, signed_reading, some_is radix s r, ranged_value (λ v. within 128 (neg_ℤ (pos v))) (some_digits radix s)) (negative_is _)
    go false e =
        rw (e, signed_reading, plus_is (b ∷ s), some_is radix (without 43 (b ∷ s)) r, ranged_value (λ v. within 128 (pos v)) (some_digits radix (without 43 (b ∷ s))))
        (positive_is _)

-- a text that starts with one byte does not start with another
pub clash : (a c : ℕ) (p q s : Text) → eqb c a ≡ false → starts_with s (a ∷ p) ≡ true → starts_with s (c ∷ q) ≡ false
unfolding starts_with
clash a c p q [] d e = refl
clash a c p q (b ∷ s) d e = go (eqb a b) refl
  where
    go : (x : Bool) → eqb a b ≡ x → (eqb c b && starts_with s q) ≡ false
    go true f = rw (← eqb-true a b f, d)
    go false f = absurd (false≢true (rw f at e))

-- the prefixes `$` and `0x`
module _ {A : Type 0} (f : ℕ → Text → A) (s : Text) where
  pub prefix_is : cond (starts_with s (bytes "$")) (f 16 (drop 1 s)) (cond (starts_with s (bytes "0x")) (f 16 (drop 2 s)) (f 10 s)) ≡ by_prefix f s
  unfolding by_prefix hex_tail bytes
  prefix_is = go (starts_with s (bytes "$")) refl (starts_with s (bytes "0x")) refl
    where
      go : (x : Bool) → starts_with s (36 ∷ []) ≡ x → (y : Bool) → starts_with s (48 ∷ 120 ∷ []) ≡ y
          → cond (starts_with s (36 ∷ [])) (f 16 (drop 1 s)) (cond (starts_with s (48 ∷ 120 ∷ [])) (f 16 (drop 2 s)) (f 10 s)) ≡ by_prefix f s
      go true e y g = rw (e, by_prefix, hex_tail, after_is (36 ∷ []) s, e)
      go false e true g = rw (e, g, by_prefix, hex_tail, after_is (36 ∷ []) s, e, after_is (48 ∷ 120 ∷ []) s, g)
      go false e false g = rw (e, g, by_prefix, hex_tail, after_is (36 ∷ []) s, e, after_is (48 ∷ 120 ∷ []) s, g)

  pub hex_is : cond (starts_with s (bytes "0x") || starts_with s (bytes "$")) (f 16 (hex_str s)) (f 10 s) ≡ by_prefix f s
  unfolding hex_str strip_prefix bytes
  hex_is = go (starts_with s (bytes "$")) refl (starts_with s (bytes "0x")) refl ∙ prefix_is
    where
      go : (x : Bool) → starts_with s (36 ∷ []) ≡ x → (y : Bool) → starts_with s (48 ∷ 120 ∷ []) ≡ y
          → cond (starts_with s (48 ∷ 120 ∷ []) || starts_with s (36 ∷ [])) (f 16 (hex_str s)) (f 10 s)
          ≡ cond (starts_with s (36 ∷ [])) (f 16 (drop 1 s)) (cond (starts_with s (48 ∷ 120 ∷ [])) (f 16 (drop 2 s)) (f 10 s))
      go true e true g = absurd (false≢true (sym (clash 48 36 (120 ∷ []) [] s refl g) ∙ e))
      go true e false g = rw (e, g, hex_str)
      go false e true g = rw (e, g, hex_str)
      go false e false g = rw (e, g)

-- a number of ORG or DC, where it is read
abbrev pub number32 : Text → Option ℕ
number32 s = value_of (reading32 s)

pub number32_is : (s : Text)
    → cond (starts_with s (bytes "$")) (u_from_str_radix 32 (drop 1 s) 16) (cond (starts_with s (bytes "0x")) (u_from_str_radix 32 (drop 2 s) 16) (u_parse 32 s)) ≡ number32 s
unfolding reading32
number32_is s = rw (
  number_is 32 16 (drop 1 s) (omega arith),
  number_is 32 16 (drop 2 s) (omega arith),
  number_is 32 10 s (omega arith),
  prefix_map value_of (λ r t. unsigned_reading r (2 ^ 32) t) s,
) (prefix_is (λ r t. value_of (unsigned_reading r (2 ^ 32) t)) s)

-- immediates
module _ (s : Text) where
  pub imm16_is : parse_immediate_u16 s ≡ imm16 s
  unfolding parse_immediate_u16 imm16 immediate reading16 bind bytes
  imm16_is = go (starts_with s (bytes "#")) refl
    where
      go : (x : Bool) → starts_with s (bytes "#") ≡ x → parse_immediate_u16 s ≡ imm16 s
      go true e =
          rw (
            e,
            immediate,
            after_is (bytes "#") s,
            e,
            number_is 16 16 (hex_str (drop 1 s)) (omega arith),
            number_is 16 10 (drop 1 s) (omega arith),
            prefix_map value_of (λ r t. unsigned_reading r (2 ^ 16) t) (drop 1 s),
          )
          (hex_is (λ r t. value_of (unsigned_reading r (2 ^ 16) t)) (drop 1 s))
      go false e = rw (e, immediate, after_is (bytes "#") s, e)

  pub imm8_is : parse_immediate s ≡ imm8 s
  unfolding parse_immediate imm8 immediate reading8 bind bytes signed
  imm8_is = go (starts_with s (bytes "#")) refl
    where
      go : (x : Bool) → starts_with s (bytes "#") ≡ x → parse_immediate s ≡ imm8 s
      go true e =
          rw (
            e,
            immediate,
            after_is (bytes "#") s,
            e,
            signed_is 16 (hex_str (drop 1 s)) (omega arith),
            signed_is 10 (drop 1 s) (omega arith),
            prefix_map value_of (λ r t. signed_reading r 128 t) (drop 1 s),
          )
          (hex_is (λ r t. signed r 128 t) (drop 1 s))
      go false e = rw (e, immediate, after_is (bytes "#") s, e)

  -- without `#` there is none
  pub imm16_none : starts_with s (bytes "#") ≡ false → imm16 s ≡ None
  unfolding imm16 immediate bind
  imm16_none e = rw (immediate, after_is (bytes "#") s, e)

-- the signed numbers read are small
abbrev pub Small : ℤ → Type 0
Small z = mag z < 128

pub within_small : (z : ℤ) → All Small (within 128 z)
within_small z = within_all 128 Small z (λ h. h)

pub imm8_small : (s : Text) → All Small (imm8 s)
imm8_small = imm8_all Small (λ z h. h)

-- a signed number of n bits goes through n bits unchanged
pub through : (n : ℕ) (z : ℤ) → suc (mag z) * 2 ≤ 2 ^ n → as_signed n (as_unsigned n z) ≡ z
unfolding as_signed as_unsigned
through n (pos k) h = rw (mod-eq_of_lt {n = k} {m = 2 ^ n} (omega arith), lt-ltb (k * 2) (2 ^ n) (omega arith))
through n (negsuc k) h =
    rw (mod-eq_of_lt {n = k} {m = 2 ^ n} (omega arith), le-ltb ((2 ^ n - suc k) * 2) (2 ^ n) (omega arith)) (ap negsuc (omega arith))

pub cast_is : (n k : ℕ) → k * 2 < 2 ^ n → as_signed n k ≡ pos k
unfolding as_signed
cast_is n k h = rw (lt-ltb (k * 2) (2 ^ n) h)

pub displaced_is : (z : ℤ) → when (range_contains (negsuc 127) (pos 127) z) (Some (as_i8 z)) ≡ within 128 z
unfolding within
displaced_is (pos n) = rw (lt_128 n) (go (ltb n 128) refl)
  where
    go : (x : Bool) → ltb n 128 ≡ x → cond x (Some (as_i8 (pos n))) None ≡ cond x (Some (pos n)) None
    go true e = ap Some (through 8 (pos n) (omega (arith, ltb-true n 128 e)))
    go false e = refl
displaced_is (negsuc n) = rw (and-true (leb n 127), lt_128 n) (go (ltb n 128) refl)
  where
    go : (x : Bool) → ltb n 128 ≡ x → cond x (Some (as_i8 (negsuc n))) None ≡ cond x (Some (negsuc n)) None
    go true e = ap Some (through 8 (negsuc n) (omega (arith, ltb-true n 128 e)))
    go false e = refl

-- the difference of two addresses
sub_is : (a b : ℕ) → pos a -ℤ pos b ≡ sub_ℕ a b
sub_is a zero = rw (le-ltb a 0 (omega arith)) (ap pos (omega arith))
sub_is a (suc b) = refl

sub_two : (a b : ℕ) → sub_ℕ a b -ℤ pos 2 ≡ sub_ℕ a (b + 2)
sub_two a b = go (ltb a b) refl
  where
    go : (x : Bool) → ltb a b ≡ x → sub_ℕ a b -ℤ pos 2 ≡ sub_ℕ a (b + 2)
    go true e =
        let h : a < b = ltb-true a b e in
        rw (e, lt-ltb a (b + 2) (omega arith)) (ap negsuc (omega arith))
    go false e = rw e (on (ltb (a - b) 2) refl)
      where
        h : b ≤ a
        h = ltb-false a b e

        on : (y : Bool) → ltb (a - b) 2 ≡ y → sub_ℕ (a - b) 2 ≡ sub_ℕ a (b + 2)
        on true f = let k : a - b < 2 = ltb-true (a - b) 2 f in rw (f, lt-ltb a (b + 2) (omega (arith, h))) (ap negsuc (omega (arith, h)))
        on false f = let k : 2 ≤ a - b = ltb-false (a - b) 2 f in rw (f, le-ltb a (b + 2) (omega (arith, h))) (ap pos (omega (arith, h)))

sub_mag : (a b n : ℕ) → a < n → b < n → mag (sub_ℕ a b) < n
sub_mag a b n h k = go (ltb a b)
  where
    go : (x : Bool) → mag (cond x (negsuc (b - suc a)) (pos (a - b))) < n
    go true = omega arith
    go false = omega arith

pub distance_is : (t a : ℕ) → t < 2 ^ 30 → a < 2 ^ 30 → sub_i32 (sub_i32 (as_signed 32 t) (as_signed 32 a)) (pos 2) ≡ sub_ℕ t (a + 2)
distance_is t a h k =
    rw (
      cast_is 32 t (omega arith),
      cast_is 32 a (omega arith),
      sub_is t a,
      through 32 (sub_ℕ t a) (omega (arith, sub_mag t a (2 ^ 30) h k)),
      sub_two t a,
    )
    (through 32 (sub_ℕ t (a + 2)) (omega (arith, sub_mag t (a + 2) (2 ^ 30 + 2) (omega arith) (omega arith))))
