-- The mover's sums, modulo 65,536 and modulo 2^32: of distances, of words and of pairs. Assumes nothing.
use Prim.Native.Nat.{ℕ, suc, ◌+◌, ◌-◌, ◌*◌, ◌/◌, ◌%◌, ◌^◌, ◌<◌}
use mathlib.Core.Path.{◌≡◌, refl, ◌∙◌, ap}
use mathlib.Core.Bool.{Bool, true, false, cond}
use native.Mathlib.Nat.{add_comm, mod-lt}
use native.Mathlib.Omega.{arith}
use borrow.Author.Tests.{ltb-true, ltb-false}
use lib.Dec.{ltb}
use lib.IntN.{ℤ, pos, negsuc, ◌+ℤ◌, sub_ℕ}
use Rattle.rules.specs.Number.{modulo}
use Rattle.rules.specs.Relocate.{added_word, added_pair, added_high}

-- a number less a larger or smaller one, modulo 2^32
whole_sub : (a b : ℕ) → modulo (2 ^ 32) (sub_ℕ a (suc b)) ≡ (a % 2 ^ 32 + (2 ^ 32 - suc (b % 2 ^ 32))) % 2 ^ 32
unfolding modulo
whole_sub a b = go (ltb a (suc b)) refl
  where
    go : (x : Bool) → ltb a (suc b) ≡ x → modulo (2 ^ 32) (cond x (negsuc (suc b - suc a)) (pos (a - suc b))) ≡ (a % 2 ^ 32 + (2 ^ 32 - suc (b % 2 ^ 32))) % 2 ^ 32
    go true e = let h = ltb-true a (suc b) e in omega arith
    go false e = let h = ltb-false a (suc b) e in omega arith

-- the residue of a sum is that of the residues' sum
pub whole_add : (t d : ℤ) → modulo (2 ^ 32) (t +ℤ d) ≡ (modulo (2 ^ 32) t + modulo (2 ^ 32) d) % 2 ^ 32
unfolding modulo
whole_add (pos a) (pos b) = omega arith
whole_add (pos a) (negsuc b) = whole_sub a b
whole_add (negsuc a) (pos b) = whole_sub b a ∙ rw (add_comm (b % 2 ^ 32) (2 ^ 32 - suc (a % 2 ^ 32)))
whole_add (negsuc a) (negsuc b) = omega arith

-- and what holds modulo 2^32 holds modulo 65,536
pub residue_whole : (d : ℤ) → modulo 65536 d ≡ modulo (2 ^ 32) d % 65536
unfolding modulo
residue_whole (pos n) = omega arith
residue_whole (negsuc n) = omega arith

residue_add : (t d : ℤ) → modulo 65536 (t +ℤ d) ≡ (modulo 65536 t + modulo 65536 d) % 65536
residue_add t d = rw (residue_whole (t +ℤ d), whole_add t d, residue_whole t, residue_whole d) (halved (modulo (2 ^ 32) t) (modulo (2 ^ 32) d))
  where
    halved : (a b : ℕ) → (a + b) % 2 ^ 32 % 65536 ≡ (a % 65536 + b % 65536) % 65536
    halved a b = omega arith

pub residue_lt : (d : ℤ) → modulo 65536 d < 65536
residue_lt d = rw (residue_whole d) (mod-lt (modulo (2 ^ 32) d) (omega arith))

-- a pair moved is one number
pub pair_added : (d : ℤ) (h l : ℕ) → 65536 * added_high d h l + added_word d l ≡ added_pair d h l
unfolding added_high added_word added_pair
pair_added d h l = let e = residue_whole d in omega arith

-- a word and a pair moved twice
pub low_twice : (t d : ℤ) (w : ℕ) → added_word d (added_word t w) ≡ added_word (t +ℤ d) w
unfolding added_word
low_twice t d w = rw residue_add (omega arith)

pair_twice : (t d : ℤ) (h l : ℕ) → added_pair d (added_high t h l) (added_word t l) ≡ added_pair (t +ℤ d) h l
unfolding added_pair
pair_twice t d h l = let e = whole_add t d in let p = pair_added t h l in omega arith

pub high_twice : (t d : ℤ) (h l : ℕ) → added_high d (added_high t h l) (added_word t l) ≡ added_high (t +ℤ d) h l
unfolding added_high
high_twice t d h l = ap (λ n. n / 65536) (pair_twice t d h l)

-- moved by 0
pub low_zero : (w : ℕ) → w < 65536 → added_word (pos 0) w ≡ w
unfolding added_word modulo
low_zero w h = omega arith

pub high_zero : (h l : ℕ) → h < 65536 → l < 65536 → added_high (pos 0) h l ≡ h
unfolding added_high added_pair modulo
high_zero h l a b = omega arith

-- a moved word has 16 bits
pub low_lt : (d : ℤ) (w : ℕ) → added_word d w < 65536
unfolding added_word
low_lt d w = mod-lt (w + modulo 65536 d) (omega arith)

pub high_lt : (d : ℤ) (h l : ℕ) → added_high d h l < 65536
unfolding added_high added_pair
high_lt d h l = omega arith
