-- Mnemonics found by name: a search may be narrowed to those that pass a test that the text passes, and goes name by name. Assumes nothing.
use Rattle.std.specs.Prelude.{Option, None, Some}
use mathlib.Core.Path.{◌≡◌, refl, sym, ap, ◌∙◌}
use mathlib.Core.Bool.{Bool, true, false, not, ◌||◌}
use mathlib.Core.List.{List, [], ◌∷◌}
use Prim.Native.Nat.{ℕ, suc, ◌<◌}
use native.Mathlib.Omega.{arith}
use borrow.Author.Tests.{eq-eqb, ne_eqb, eqb-true, eqb-false}
use lib.ListN.{length, get_or}
use lib.Dec.{eqb}
use Rattle.rules.specs.Text.{Text, bytes, upper, uppers, same, starts}
use Rattle.rules.specs.Encode.{Mnemonic, mnemonic, moveq, move, movea, muls, subq, dbra, jmp, branches, other_mnemonics, mnemonics, operation_in}
use Rattle.opcode.specs.Operation.{operation_of, those, of_length, is_branch, other_three}
use Rattle.opcode.specs.declared.mnemonic.Operation.{Operation}

-- texts that compare the same are equal
same_equal : (s t : Text) → same s t ≡ true → s ≡ t
unfolding same
same_equal [] [] e = refl
same_equal [] (b ∷ t) e = let z : ◌≡◌ {A = ℕ} 0 1 = cc in absurd (omega arith)
same_equal (a ∷ s) [] e = let z : ◌≡◌ {A = ℕ} 0 1 = cc in absurd (omega arith)
same_equal (a ∷ s) (b ∷ t) e = go (eqb a b) refl (same_equal s t) e
  where
    go : (q : Bool) → eqb a b ≡ q → (same s t ≡ true → s ≡ t) → elim q [ true ↦ same s t | false ↦ false ] ≡ true → a ∷ s ≡ b ∷ t
    go true q r h = let x : a ≡ b = eqb-true a b q in let y : s ≡ t = r h in cc
    go false q r h = let z : ◌≡◌ {A = ℕ} 0 1 = cc in absurd (omega arith)

-- a text that passes a test is found among the names that pass it
pub narrow : (f : Text → Bool) (ns : List Mnemonic) (m : Text) → f m ≡ true → operation_in ns m ≡ operation_in (those f ns) m
unfolding operation_in those
narrow f [] m e = refl
narrow f (n ∷ ns) m e = go (same m n.name) refl (f n.name) refl (narrow f ns m e)
  where
    go :
        (x : Bool) → same m n.name ≡ x → (y : Bool) → f n.name ≡ y → operation_in ns m ≡ operation_in (those f ns) m
        → elim x [ true ↦ Some n.operation | false ↦ operation_in ns m ]
        ≡ operation_in (elim y [ true ↦ n ∷ those f ns | false ↦ those f ns ]) m
    go true p true q r = rw (p, operation_in)
    go true p false q r = let s : m ≡ n.name = same_equal m n.name p in let z : ◌≡◌ {A = ℕ} 0 1 = cc in absurd (omega arith)
    go false p true q r = rw (p, operation_in) r
    go false p false q r = r

-- ---- a text in upper case, by its length and its first byte
length_uppers : (m : Text) → length (uppers m) ≡ length m
unfolding uppers
length_uppers [] = refl
length_uppers (b ∷ m) = ap suc (length_uppers m)

first_upper : (m : Text) → 0 < length m → is_branch (uppers m) ≡ eqb (upper (get_or m 0 0)) 66
unfolding uppers starts bytes
first_upper [] h = absurd (omega arith)
first_upper (b ∷ m) h = go (eqb (upper b) 66) refl
  where
    go : (t : Bool) → eqb (upper b) 66 ≡ t → elim (eqb 66 (upper b)) [ true ↦ true | false ↦ false ] ≡ t
    go true e = rw (eq-eqb 66 (upper b) (sym (eqb-true _ _ e)))
    go false e = rw (ne_eqb 66 (upper b) (λ g. eqb-false _ _ e (sym g)))

-- the branches are the mnemonics that start with B
the_branches : those is_branch mnemonics ≡ branches
unfolding those mnemonics other_mnemonics branches bytes starts
the_branches = refl

-- the names of four and of five bytes
pub the_four : those (of_length 4) mnemonics ≡ mnemonic (bytes "MOVE") move ∷ mnemonic (bytes "MULS") muls ∷ mnemonic (bytes "SUBQ") subq ∷ mnemonic (bytes "DBRA") dbra ∷ mnemonic (bytes "JUMP") jmp ∷ []
unfolding those mnemonics other_mnemonics branches bytes
the_four = refl

pub the_five : those (of_length 5) mnemonics ≡ mnemonic (bytes "MOVEQ") moveq ∷ mnemonic (bytes "MOVEA") movea ∷ []
unfolding those mnemonics other_mnemonics branches bytes
the_five = refl

module _ (m : Text) where
  pub by_length : (k : ℕ) → length m ≡ k → of_length k (uppers m) ≡ true
  by_length k e = eq-eqb _ k (length_uppers m ∙ e)

  not_length : (k : ℕ) → (length m ≡ k → ⊥) → of_length k (uppers m) ≡ false
  not_length k d = ne_eqb _ k (λ e. d (sym (length_uppers m) ∙ e))

  module _ (e : length m ≡ 3) {u : ℕ} (q : u ≡ upper (get_or m 0 0)) where
    first : is_branch (uppers m) ≡ eqb u 66
    first = first_upper m (omega arith) ∙ ap (λ (x : ℕ). eqb x 66) (sym q)

    pub is_branch_lem : u ≡ 66 → is_branch (uppers m) ≡ true
    is_branch_lem h = first ∙ eq-eqb u 66 h

    pub other_three_lem : (u ≡ 66 → ⊥) → other_three (uppers m) ≡ true
    other_three_lem d = rw (by_length 3 e, first ∙ ne_eqb u 66 d)

  -- what is found among those that pass a test that the text passes is found among all
  pub among :
      (f : Text → Bool) → f (uppers m) ≡ true → {r : Option Operation} → r ≡ operation_of (operation_in (those f mnemonics) (uppers m))
      → r ≡ operation_of (operation_in mnemonics (uppers m))
  among f t e = e ∙ sym (ap operation_of (narrow f mnemonics (uppers m) t))

  pub among_branches :
      is_branch (uppers m) ≡ true → {r : Option Operation} → r ≡ operation_of (operation_in branches (uppers m)) → r ≡ operation_of (operation_in mnemonics (uppers m))
  among_branches t e = among is_branch t (rw the_branches e)

-- no mnemonic has another length
abbrev other_length : Text → Bool
other_length t = not (of_length 3 t || of_length 4 t || of_length 5 t || of_length 7 t)

no_others : those other_length mnemonics ≡ []
unfolding those mnemonics other_mnemonics branches bytes
no_others = refl

pub none_fits :
    (m : Text) → (length m ≡ 3 → ⊥) → (length m ≡ 4 → ⊥) → (length m ≡ 5 → ⊥) → (length m ≡ 7 → ⊥)
    → None ≡ operation_of (operation_in mnemonics (uppers m))
unfolding operation_in
none_fits m a b c d =
    among m other_length (rw (not_length m 3 a, not_length m 4 b, not_length m 5 c, not_length m 7 d)) (rw no_others)
