-- What is read lies in its type's range, whatever stands in front of the digits; and readers that go by a prefix. Assumes nothing.
use Rattle.std.specs.Prelude.{Option, None, Some}
use Rattle.rules.specs.Option.{bind}
use Prim.Native.Nat.{ℕ, ◌^◌, ◌<◌}
use mathlib.Core.Path.{◌≡◌, refl}
use mathlib.Core.Bool.{Bool, true, false, ◌||◌, cond}
use mathlib.Core.List.{[], ◌∷◌}
use lib.Dec.{ltb, eqb}
use lib.IntN.{ℤ, pos, negsuc, neg_ℤ}
use lib.Signed.{mag}
use borrow.Author.Tests.{ltb-true}
use Rattle.rules.specs.Text.{Text, bytes, starts, after}
use Rattle.rules.specs.Number.{Reading, read, failed, out_of_range, some_digits, ranged, below, within, without, unsigned_reading, signed_reading, hex_tail, by_prefix, reading32, reading16, reading8, immediate, value_of, signed, imm8, imm16}
use Rattle.rules.specs.Encode.{written_reading, written_signed}

-- what is there, if anything, satisfies P
abbrev pub All : {A : Type 0} → (A → Type 0) → Option A → Type 0
All P None = Unit {0}
All P (Some a) = P a

pub all_some : {A : Type 0} (P : A → Type 0) {x : Option A} {a : A} → All P x → x ≡ Some a → P a
all_some P h e = rw e at h

-- a value in the type, and one outside
module _ {A : Type 0} (f : ℕ → Option A) (v : ℕ) where
  pub in_range : {a : A} → f v ≡ Some a → ranged f (read v) ≡ read a
  unfolding ranged
  in_range e = rw (e, ranged)

  pub out_of_range_lem : f v ≡ None → ranged f (read v) ≡ failed out_of_range
  unfolding ranged
  out_of_range_lem e = rw (e, ranged)

-- the value of a reading is that of its digits, if the type has it
pub ranged_value : {A : Type 0} (f : ℕ → Option A) (r : Reading ℕ) → value_of (ranged f r) ≡ bind (value_of r) f
unfolding value_of ranged bind
ranged_value f (failed x) = refl
ranged_value {A} f (read v) = go (f v)
  where
    go : (o : Option A) → value_of {A = A} (elim o [ None ↦ failed out_of_range | Some a ↦ read a ]) ≡ o
    go None = refl
    go (Some a) = refl

-- what is made of a reading by its prefix is made of each
pub prefix_map : {A B : Type 0} (g : A → B) (f : ℕ → Text → A) (s : Text) → g (by_prefix f s) ≡ by_prefix (λ r t. g (f r t)) s
unfolding by_prefix
prefix_map g f s = go (hex_tail s)
  where
    go : (o : Option Text) → g (elim o [ None ↦ f 10 s | Some t ↦ f 16 t ]) ≡ elim o [ None ↦ g (f 10 s) | Some t ↦ g (f 16 t) ]
    go None = refl
    go (Some t) = refl

-- a branch's signed operand is read where a sign stands in front
pub written_is : (s : Text) → written_signed s ≡ cond (starts (bytes "+") s || starts (bytes "-") s) (signed 10 128 s) None
unfolding written_signed written_reading signed bind
written_is s = go (starts (bytes "+") s || starts (bytes "-") s)
  where
    go : (x : Bool) → bind (cond x (Some (signed_reading 10 128 s)) None) value_of ≡ cond x (value_of (signed_reading 10 128 s)) None
    go true = refl
    go false = refl

-- ---- what the type lets through is read, and nothing else
module _ {A : Type 0} (P : A → Type 0) where
  kept : (a : A) (t : Bool) → (t ≡ true → P a) → All P (cond t (Some a) None)
  kept a true h = h refl
  kept a false h = tt

  ranged_all : (f : ℕ → Option A) → ((v : ℕ) → All P (f v)) → (r : Reading ℕ) → All P (value_of (ranged f r))
  unfolding bind value_of
  ranged_all f h (failed x) = rw (ranged_value f (failed x)) tt
  ranged_all f h (read v) = rw (ranged_value f (read v)) (h v)

  prefix_all : (f : ℕ → Text → Reading A) → ((r : ℕ) (t : Text) → All P (value_of (f r t))) → (s : Text) → All P (value_of (by_prefix f s))
  unfolding by_prefix
  prefix_all f h s = go (hex_tail s)
    where
      go : (o : Option Text) → All P (value_of (elim o [ None ↦ f 10 s | Some t ↦ f 16 t ]))
      go None = h 10 s
      go (Some t) = h 16 t

  immediate_all : (f : Text → Reading A) → ((t : Text) → All P (value_of (f t))) → (s : Text) → All P (bind (immediate f s) value_of)
  unfolding immediate bind
  immediate_all f h s = go (after (bytes "#") s)
    where
      go : (o : Option Text) → All P (bind (elim o [ None ↦ None | Some t ↦ Some (f t) ]) value_of)
      go None = tt
      go (Some t) = h t

-- ---- unsigned
unsigned_all : (bound radix : ℕ) (s : Text) → All (λ v. v < bound) (value_of (unsigned_reading radix bound s))
unfolding unsigned_reading below
unsigned_all bound radix s = ranged_all (λ v. v < bound) (below bound) (λ v. kept (λ w. w < bound) v (ltb v bound) (λ e. ltb-true v bound e)) (some_digits radix (without 43 s))

pub reading32_all : (s : Text) → All (λ v. v < 2 ^ 32) (value_of (reading32 s))
unfolding reading32
reading32_all s = prefix_all (λ v. v < 2 ^ 32) (λ r t. unsigned_reading r (2 ^ 32) t) (unsigned_all (2 ^ 32)) s

pub reading16_all : (s : Text) → All (λ v. v < 2 ^ 16) (value_of (reading16 s))
unfolding reading16
reading16_all s = prefix_all (λ v. v < 2 ^ 16) (λ r t. unsigned_reading r (2 ^ 16) t) (unsigned_all (2 ^ 16)) s

pub imm16_all : (s : Text) → All (λ v. v < 2 ^ 16) (imm16 s)
unfolding imm16
imm16_all s = immediate_all (λ v. v < 2 ^ 16) reading16 reading16_all s

-- ---- signed, -bound to bound - 1
pub within_all : (bound : ℕ) (P : ℤ → Type 0) (z : ℤ) → (mag z < bound → P z) → All P (within bound z)
unfolding within
within_all bound P (pos n) h = kept P (pos n) (ltb n bound) (λ e. h (ltb-true n bound e))
within_all bound P (negsuc n) h = kept P (negsuc n) (ltb n bound) (λ e. h (ltb-true n bound e))

module _ (bound : ℕ) (P : ℤ → Type 0) (h : (z : ℤ) → mag z < bound → P z) where
  pub signed_all : (radix : ℕ) (s : Text) → All P (signed radix bound s)
  unfolding signed signed_reading value_of
  signed_all radix [] = tt
  signed_all radix (b ∷ s) = go (eqb b 45)
    where
      go : (x : Bool)
          → All P (value_of {A = ℤ} (elim x [ true ↦ ranged (λ v. within bound (neg_ℤ (pos v))) (some_digits radix s) | false ↦ ranged (λ v. within bound (pos v)) (some_digits radix (without 43 (b ∷ s))) ]))
      go true = ranged_all P (λ v. within bound (neg_ℤ (pos v))) (λ v. within_all bound P (neg_ℤ (pos v)) (h (neg_ℤ (pos v)))) (some_digits radix s)
      go false = ranged_all P (λ v. within bound (pos v)) (λ v. within_all bound P (pos v) (h (pos v))) (some_digits radix (without 43 (b ∷ s)))

pub written_all : (P : ℤ → Type 0) → ((z : ℤ) → mag z < 128 → P z) → (s : Text) → All P (written_signed s)
written_all P h s = rw (written_is s) (go (starts (bytes "+") s || starts (bytes "-") s))
  where
    go : (x : Bool) → All P (cond x (signed 10 128 s) None)
    go true = signed_all 128 P h 10 s
    go false = tt

pub imm8_all : (P : ℤ → Type 0) → ((z : ℤ) → mag z < 128 → P z) → (s : Text) → All P (imm8 s)
unfolding imm8 reading8 signed
imm8_all P h s = immediate_all P reading8 (λ t. prefix_all P (λ r u. signed_reading r 128 u) (λ r u. signed_all 128 P h r u) t) s
