-- A list moved by t and then by d is the list moved by t + d, where the first move stays inside. Assumes nothing.
use Rattle.std.specs.Prelude.{None, Some}
use Prim.Native.Nat.{ℕ, suc, ◌+◌, ◌≤◌, ◌<◌}
use mathlib.Core.Path.{◌≡◌, refl, sym, ap}
use mathlib.Core.Logic.{◌≢◌}
use mathlib.Core.Bool.{Bool, true, false, cond, false≢true}
use mathlib.Core.List.{List, [], ◌∷◌, map, ◌++◌}
use native.Mathlib.Nat.{add-zero}
use native.Mathlib.Omega.{arith}
use borrow.Author.Tests.{le-ltb, eqb-true, eqb-false}
use lib.Dec.{eqb}
use lib.ListN.{length}
use lib.IntN.{ℤ, pos, negsuc, ◌+ℤ◌, nat_abs, +ℤ_assoc}
use Rattle.rules.specs.Limits.{last_address}
use Rattle.rules.specs.Assemble.{Place}
use Rattle.rules.specs.Relocate.{outside, moved_address, added_word, added_high, moved_word}
use Rattle.rules.specs.Tally.{first_outside, first_word, moved_place, tally_list}
use Rattle.promises.specs.Pairs.{Sixteen, Low}
use Rattle.promises.proofs.Lists.{All}
use Rattle.promises.proofs.Residues.{low_twice, high_twice, low_zero, high_zero}

-- each address plus t is from 0 to 2^30 + 1
abbrev pub Inside : ℤ → List Place → Type 0
Inside t l = All (λ p. outside (pos p.address +ℤ t) ≡ false) l

-- what is inside is not negative
inside_pos : (z : ℤ) → outside z ≡ false → pos (nat_abs z) ≡ z
unfolding outside
inside_pos (pos n) e = refl
inside_pos (negsuc n) e = absurd (false≢true (sym e))

-- a move by t has not gone below 0: each address moved is the sum
abbrev pub Reached : ℤ → Place → Type 0
Reached t p = pos (moved_address t p.address) ≡ pos p.address +ℤ t

pub inside_reached : (t : ℤ) (l : List Place) → Inside t l → All (Reached t) l
unfolding moved_address
inside_reached t [] h = tt
inside_reached t (p ∷ ps) h = (inside_pos (pos p.address +ℤ t) h.0, inside_reached t ps h.1)

-- nor has one by 0
pub reached_zero : (l : List Place) → All (Reached (pos 0)) l
unfolding moved_address
reached_zero [] = tt
reached_zero (p ∷ ps) = (refl, reached_zero ps)

-- each mark 2 is followed by a 3, which is all that a pair's number needs
unfoldable pub first_mark : List Place → ℕ
first_mark [] = 0
first_mark (p ∷ ps) = p.mark

abbrev pub Paired : List Place → Type 0
Paired [] = Unit {0}
Paired (p ∷ ps) = (p.mark ≡ 2 → first_mark ps ≡ 3) × Paired ps

-- the low word after a high one, moved
next_moved : (t : ℤ) (ps : List Place) → first_mark ps ≡ 3 → first_word (tally_list t ps) ≡ added_word t (first_word ps)
unfolding first_mark first_word tally_list moved_place moved_word
next_moved t [] e = absurd (omega arith)
next_moved t (p ∷ ps) e = rw e

-- an address, a word and a place moved twice
address_twice : (a : ℕ) (t d : ℤ) → pos (moved_address t a) ≡ pos a +ℤ t → pos (moved_address t a) +ℤ d ≡ pos a +ℤ (t +ℤ d)
address_twice a t d e = rw e (+ℤ_assoc (pos a) t d)

-- the next word is v at first, and v' after the first move
word_twice : (t d : ℤ) (m w v v' : ℕ) → (m ≡ 2 → v' ≡ added_word t v) → moved_word d m (moved_word t m w v) v' ≡ moved_word (t +ℤ d) m w v
unfolding moved_word
word_twice t d m w v v' h = go (eqb m 0) (eqb m 2) refl
  where
    go : (x y : Bool) → eqb m 2 ≡ y
        → cond x (cond x w (cond y (added_high t w v) (added_word t w)))
        (cond y (added_high d (cond x w (cond y (added_high t w v) (added_word t w))) v') (added_word d (cond x w (cond y (added_high t w v) (added_word t w)))))
        ≡ cond x w (cond y (added_high (t +ℤ d) w v) (added_word (t +ℤ d) w))
    go true y e = refl
    go false true e = rw (h (eqb-true m 2 e)) (high_twice t d w v)
    go false false e = low_twice t d w

place_twice : (t d : ℤ) (p : Place) (v v' : ℕ) → Reached t p → (p.mark ≡ 2 → v' ≡ added_word t v) → moved_place d (moved_place t p v) v' ≡ moved_place (t +ℤ d) p v
unfolding moved_place moved_address
place_twice t d p v v' e h = rw (address_twice p.address t d e, word_twice t d p.mark p.word v v' h)

-- a list moved twice, and the first of its places that the second move would put outside
pub list_twice : (t d : ℤ) (l : List Place) → All (Reached t) l → Paired l → tally_list d (tally_list t l) ≡ tally_list (t +ℤ d) l
unfolding tally_list
list_twice t d [] h k = refl
list_twice t d (p ∷ ps) h k =
    rw (place_twice t d p (first_word ps) (first_word (tally_list t ps)) h.0 (λ e. next_moved t ps (k.0 e)), list_twice t d ps h.1 k.1)

pub outside_twice : (t d : ℤ) (i : ℕ) (l : List Place) → All (Reached t) l → first_outside d i (tally_list t l) ≡ first_outside (t +ℤ d) i l
unfolding first_outside tally_list moved_place
outside_twice t d i [] h = refl
outside_twice t d i (p ∷ ps) h =
    λ k. elim (outside (address_twice p.address t d h.0 k)) [ true ↦ Some i | false ↦ outside_twice t d (suc i) ps h.1 k ]

-- no place is outside exactly where each is inside
pub none_inside : (t : ℤ) (i : ℕ) (l : List Place) → first_outside t i l ≡ None → Inside t l
unfolding first_outside
none_inside t i [] e = tt
none_inside t i (p ∷ ps) e = go (outside (pos p.address +ℤ t)) refl (none_inside t (suc i) ps)
  where
    go : (x : Bool) → outside (pos p.address +ℤ t) ≡ x → (first_outside t (suc i) ps ≡ None → Inside t ps) → Inside t (p ∷ ps)
    go true f ih = let g = rw (f, first_outside) at e in absurd (false≢true cc)
    go false f ih = (f, ih (rw (f, first_outside) at e))

pub inside_none : (t : ℤ) (i : ℕ) (l : List Place) → Inside t l → first_outside t i l ≡ None
unfolding first_outside
inside_none t i [] h = refl
inside_none t i (p ∷ ps) h = rw (h.0, first_outside) (inside_none t (suc i) ps h.1)

-- an address up to 2^30 + 1 is inside, so a list that is low once moved up by b is inside at b
bound_inside : (a : ℕ) → a ≤ last_address → outside (pos a) ≡ false
unfolding outside
bound_inside a h = le-ltb last_address a h

pub low_inside : (b : ℕ) (l : List Place) → All Low (tally_list (pos b) l) → Inside (pos b) l
unfolding tally_list moved_place moved_address
low_inside b [] h = tt
low_inside b (p ∷ ps) h = (bound_inside (p.address + b) h.0, low_inside b ps h.1)

-- moved by 0, a place whose marked word has 16 bits, and so a list, is what it was; a pair too, with its low word next
word_zero : (m w v : ℕ) → (m ≢ 0 → w < 65536) → (m ≡ 2 → v < 65536) → moved_word (pos 0) m w v ≡ w
unfolding moved_word
word_zero m w v h k = go (eqb m 0) (eqb m 2) refl refl
  where
    go : (x y : Bool) → eqb m 0 ≡ x → eqb m 2 ≡ y → cond x w (cond y (added_high (pos 0) w v) (added_word (pos 0) w)) ≡ w
    go true y e f = refl
    go false true e f = high_zero w v (h (eqb-false m 0 e)) (k (eqb-true m 2 f))
    go false false e f = low_zero w (h (eqb-false m 0 e))

next_sixteen : (ps : List Place) → All Sixteen ps → first_mark ps ≡ 3 → first_word ps < 65536
unfolding first_mark first_word
next_sixteen [] h e = absurd (omega arith)
next_sixteen (p ∷ ps) h e = h.0 (λ n. omega arith)

pub list_zero : (l : List Place) → All Sixteen l → Paired l → tally_list (pos 0) l ≡ l
unfolding tally_list moved_place moved_address
list_zero [] h k = refl
list_zero (p ∷ ps) h k =
    rw (add-zero p.address, word_zero p.mark p.word (first_word ps) h.0 (λ e. next_sixteen ps h.1 (k.0 e)), list_zero ps h.1 k.1)

-- the count and the marks stay
pub length_moved : (t : ℤ) (l : List Place) → length (tally_list t l) ≡ length l
unfolding tally_list
length_moved t [] = refl
length_moved t (p ∷ ps) = ap suc (length_moved t ps)

pub marks_moved : (t : ℤ) (l : List Place) → map (λ p. p.mark) (tally_list t l) ≡ map (λ p. p.mark) l
unfolding tally_list moved_place
marks_moved t [] = refl
marks_moved t (p ∷ ps) = ap (λ r. p.mark ∷ r) (marks_moved t ps)

-- the next word matters to a high word only
word_same : (d : ℤ) (m w v v' : ℕ) → (m ≡ 2 → v ≡ v') → moved_word d m w v ≡ moved_word d m w v'
unfolding moved_word
word_same d m w v v' h = go (eqb m 0) (eqb m 2) refl
  where
    go : (x y : Bool) → eqb m 2 ≡ y → cond x w (cond y (added_high d w v) (added_word d w)) ≡ cond x w (cond y (added_high d w v') (added_word d w))
    go true y e = refl
    go false true e = rw (h (eqb-true m 2 e))
    go false false e = refl

first_append : (l k : List Place) → first_mark l ≡ 3 → first_word (l ++ k) ≡ first_word l
unfolding first_mark first_word
first_append [] k e = absurd (omega arith)
first_append (p ∷ ps) k e = refl

next_same : (d : ℤ) (p : Place) (l k : List Place) → (p.mark ≡ 2 → first_mark l ≡ 3) → moved_place d p (first_word (l ++ k)) ≡ moved_place d p (first_word l)
unfolding moved_place
next_same d p l k h = rw (word_same d p.mark p.word (first_word (l ++ k)) (first_word l) (λ e. first_append l k (h e)))

-- two lists, one after the other: no high word at the end of the first looks into the second
pub moved_append : (t : ℤ) (l k : List Place) → Paired l → tally_list t (l ++ k) ≡ tally_list t l ++ tally_list t k
unfolding tally_list
moved_append t [] k h = refl
moved_append t (p ∷ ps) k h = rw (moved_append t ps k h.1, next_same t p ps k h.0)
