-- For callers: what an answer says of the rules' reading, and the bounds of what is read. Assumes nothing.
use Rattle.std.specs.Prelude.{Option, None, Some}
use mathlib.Core.Path.{◌≡◌, refl, sym, ap, ◌∙◌}
use mathlib.Core.Bool.{Bool, true, false, cond}
use mathlib.Core.List.{List, [], ◌∷◌}
use Prim.Native.Nat.{ℕ, ◌<◌}
use native.Mathlib.Omega.{arith}
use borrow.Author.Tests.{ltb-true}
use lib.Dec.{ltb, eqb}
use Rattle.rules.specs.Text.{Text, bytes, after, same}
use Rattle.rules.specs.Number.{digit_value}
use Rattle.rules.specs.Encode.{Mnemonic, branches, other_mnemonics, mnemonics, operation_in, register_digit, data_register, address_register, closed, indirect}
use Rattle.rules.specs.Encode.{moveq, move, movea, muls, tst, subq, asl, dbra, nop, simhalt, add, sub, cmp, jmp, branch}
use Rattle.rules.specs.Encode.{Operation as Ruled}
use Rattle.opcode.specs.Operation.{coded, operation_of, ruled}
use Rattle.opcode.specs.declared.mnemonic.Operation.{Operation}
use Rattle.opcode.specs.declared.mnemonic.Operation.TheVariants.{Moveq, Move, Movea, Muls, Tst, Subq, Asl, Dbra, Nop, Simhalt, Add, Sub, Cmp, Jmp, Branch}

-- ---- registers
-- "digit 0 to 7"
abbrev pub Below8 : Option ℕ → Type 0
Below8 o = (n : ℕ) → o ≡ Some n → n < 8

nothing : Below8 None
nothing n e = let z : ◌≡◌ {A = ℕ} 0 1 = cc in omega arith

digit_small : (o : Option Text) → Below8 (register_digit o)
unfolding register_digit
digit_small None = nothing
digit_small (Some []) = nothing
digit_small (Some (b ∷ [])) = go (ltb (digit_value b) 8) refl
  where
    go : (t : Bool) → ltb (digit_value b) 8 ≡ t → Below8 (cond t (Some (digit_value b)) None)
    go true q n e = let z : digit_value b ≡ n = cc in omega (arith, ltb-true (digit_value b) 8 q)
    go false q n e = nothing n e
digit_small (Some (b ∷ c ∷ u)) = nothing

closed_small : (o : Option Text) → Below8 (closed o)
unfolding closed
closed_small None = nothing
closed_small (Some []) = nothing
closed_small (Some (b ∷ [])) = nothing
closed_small (Some (b ∷ c ∷ [])) = go (eqb c 41)
  where
    go : (t : Bool) → Below8 (cond t (register_digit (Some (b ∷ []))) None)
    go true = digit_small (Some (b ∷ []))
    go false = nothing
closed_small (Some (b ∷ c ∷ d ∷ u)) = nothing

pub data_small : (t : Text) → Below8 (data_register t)
unfolding data_register
data_small t = digit_small (after (bytes "D") t)

pub address_small : (t : Text) → Below8 (address_register t)
unfolding address_register
address_small t = digit_small (after (bytes "A") t)

pub indirect_small : (t : Text) → Below8 (indirect t)
unfolding indirect
indirect_small t = closed_small (after (bytes "(A") t)

-- ---- operations
ruled_of : (o : Ruled) → ruled (coded o) ≡ o
ruled_of moveq = refl
ruled_of move = refl
ruled_of movea = refl
ruled_of muls = refl
ruled_of tst = refl
ruled_of subq = refl
ruled_of asl = refl
ruled_of dbra = refl
ruled_of nop = refl
ruled_of simhalt = refl
ruled_of add = refl
ruled_of sub = refl
ruled_of cmp = refl
ruled_of jmp = refl
ruled_of (branch c) = refl

pub coded_of : (o : Operation) → coded (ruled o) ≡ o
coded_of Moveq = refl
coded_of Move = refl
coded_of Movea = refl
coded_of Muls = refl
coded_of Tst = refl
coded_of Subq = refl
coded_of Asl = refl
coded_of Dbra = refl
coded_of Nop = refl
coded_of Simhalt = refl
coded_of Add = refl
coded_of Sub = refl
coded_of Cmp = refl
coded_of Jmp = refl
coded_of (Branch c) = refl

-- where the answer is `Some(Operation::Move)`, what was found is `Some move`
pub named : (o : Option Ruled) {v : Operation} → operation_of o ≡ Some v → o ≡ Some (ruled v)
named None e = cc
named (Some o) {v} e = let k : coded o ≡ v = cc in ap Some (sym (ruled_of o) ∙ ap ruled k)

pub unnamed : (o : Option Ruled) → operation_of o ≡ None → o ≡ None
unnamed None e = refl
unnamed (Some o) e = cc

-- what holds of every operation of a list holds of the one that is found
abbrev pub every : (Ruled → Bool) → List Mnemonic → Bool
every f [] = true
every f (n ∷ ns) = cond (f n.operation) (every f ns) false

pub found : (f : Ruled → Bool) (ns : List Mnemonic) (m : Text) (o : Ruled) → every f ns ≡ true → operation_in ns m ≡ Some o → f o ≡ true
unfolding operation_in
found f [] m o a e = let z : ◌≡◌ {A = ℕ} 0 1 = cc in absurd (omega arith)
found f (n ∷ ns) m o a e = go (f n.operation) refl a (same m n.name) e (found f ns m o)
  where
    go :
        (x : Bool) → f n.operation ≡ x → cond x (every f ns) false ≡ true
        → (y : Bool) → elim y [ true ↦ Some n.operation | false ↦ operation_in ns m ] ≡ Some o
        → (every f ns ≡ true → operation_in ns m ≡ Some o → f o ≡ true) → f o ≡ true
    go true p a true e r = let q : n.operation ≡ o = cc in rw (← q) p
    go true p a false e r = r a e
    go false p a y e r = let z : ◌≡◌ {A = ℕ} 0 1 = cc in absurd (omega arith)

-- a branch's condition is below 16
abbrev pub condition_below16 : Ruled → Bool
condition_below16 o =
    elim o [
      | branch c ↦ ltb c 16
      | moveq ↦ true
      | move ↦ true
      | movea ↦ true
      | muls ↦ true
      | tst ↦ true
      | subq ↦ true
      | asl ↦ true
      | dbra ↦ true
      | nop ↦ true
      | simhalt ↦ true
      | add ↦ true
      | sub ↦ true
      | cmp ↦ true
      | jmp ↦ true
    ]

pub condition_small : (m : Text) (c : ℕ) → operation_in mnemonics m ≡ Some (branch c) → c < 16
unfolding mnemonics other_mnemonics branches
condition_small m c e = ltb-true c 16 (found condition_below16 mnemonics m (branch c) refl e)
