-- The head that a mnemonic and a suffix have, by the operation that the mnemonic names in the stations' call and by what the suffix is. Assumes nothing.
use Rattle.std.specs.Prelude.{Option, None, Some}
use Prim.Native.Nat.{ℕ, ◌+◌, ◌<◌}
use mathlib.Core.Path.{◌≡◌, refl, ◌∙◌}
use mathlib.Core.Bool.{Bool, true, false, false≢true, and-false, ◌&&◌, ◌||◌, cond}
use mathlib.Core.List.{List, [], ◌∷◌}
use native.Mathlib.Omega.{arith}
use borrow.Author.Tests.{le-leb, lt-leb, ltb-true, ltb-false}
use lib.Dec.{ltb, leb}
use Rattle.rules.specs.Option.{bind}
use Rattle.rules.specs.Text.{Text, bytes, same}
use Rattle.rules.specs.Encode.{Mnemonic, branches, other_mnemonics, mnemonics, operation_in}
use Rattle.rules.specs.Encode.{moveq, move, movea, muls, tst, subq, asl, dbra, nop, simhalt, add, sub, cmp, jmp, branch}
use Rattle.rules.specs.Encode.{Operation as Ruled}
use Rattle.text.proofs.Compare.{same_is}
use Rattle.manual.specs.Manual.{Condition, T, CC, CS, NE, EQ, PL, MI, GE, LT, GT, LE, condition}
use Rattle.requests.specs.ManualCall.{HeadRow, heads, head_in, same_suffix}
use Rattle.opcode.specs.Operation.{operation_of}
use Rattle.opcode.specs.declared.mnemonic.Operation.{Operation}
use Rattle.opcode.proofs.Callers.{named}
use Rattle.instruction.specs.FirstPiece.{suffix_by, suffix_of}
use Rattle.encode_manual.specs.Heads.{manual_condition, condition_by, Conditioned, plain_head, word_head, long_head, head_by}

-- ---- a mnemonic that is found is one of the list
infixr 20 ◌and◌
data All (P : Mnemonic → Type 0) : List Mnemonic → Type 0 where
  done : All P []
  ◌and◌ : {n : Mnemonic} {ns : List Mnemonic} → P n → All P ns → All P (n ∷ ns)

by_row : (P : Text → Ruled → Type 0) {ns : List Mnemonic} → All (λ n. P n.name n.operation) ns → (m : Text) (o : Ruled) → operation_in ns m ≡ Some o → P m o
unfolding operation_in
by_row P done m o e = let y : ◌≡◌ {A = ℕ} 0 1 = cc in absurd (omega arith)
by_row P (◌and◌ {n = n} {ns = ns} h hs) m o e = go (same m n.name) refl e (λ q. by_row P hs m o q)
  where
    go : (y : Bool) → same m n.name ≡ y → elim y [ true ↦ Some n.operation | false ↦ operation_in ns m ] ≡ Some o → (operation_in ns m ≡ Some o → P m o) → P m o
    go true p q r = let k : n.operation ≡ o = cc in rw (same_is m n.name p, ← k) h
    go false p q r = r q

-- what holds of each mnemonic, by computation
pub record Bridged (m : Text) (o : Option Operation) : Type 0 where
  pub plain : head_in heads m None ≡ bind o plain_head
  pub word : head_in heads m (Some (bytes "W")) ≡ bind o word_head
  pub long : head_in heads m (Some (bytes "L")) ≡ bind o long_head

abbrev bridged :
    {m : Text} {o : Option Operation}
    → head_in heads m None ≡ bind o plain_head → head_in heads m (Some (bytes "W")) ≡ bind o word_head → head_in heads m (Some (bytes "L")) ≡ bind o long_head → Bridged m o
bridged p w l = record { plain = p; word = w; long = l }

each_bridged : All (λ n. Bridged n.name (operation_of (Some n.operation))) mnemonics
unfolding mnemonics other_mnemonics branches heads head_in same_suffix same bytes condition_by bind
each_bridged =
    bridged refl refl refl and bridged refl refl refl and bridged refl refl refl and bridged refl refl refl and bridged refl refl refl and
    bridged refl refl refl and bridged refl refl refl and bridged refl refl refl and bridged refl refl refl and bridged refl refl refl and
    bridged refl refl refl and bridged refl refl refl and bridged refl refl refl and bridged refl refl refl and bridged refl refl refl and
    bridged refl refl refl and bridged refl refl refl and bridged refl refl refl and bridged refl refl refl and bridged refl refl refl and
    bridged refl refl refl and bridged refl refl refl and bridged refl refl refl and bridged refl refl refl and bridged refl refl refl and
    bridged refl refl refl and done

-- a branch's condition is one that the stations' call has
abbrev Settled : Ruled → Type 0
Settled (branch c) = manual_condition c ≡ condition (condition_by c)
Settled moveq = Unit
Settled move = Unit
Settled movea = Unit
Settled muls = Unit
Settled tst = Unit
Settled subq = Unit
Settled asl = Unit
Settled dbra = Unit
Settled nop = Unit
Settled simhalt = Unit
Settled add = Unit
Settled sub = Unit
Settled cmp = Unit
Settled jmp = Unit

each_settled : All (λ n. Settled n.operation) mnemonics
unfolding mnemonics other_mnemonics branches manual_condition condition_by condition
each_settled =
    tt and tt and tt and tt and tt and tt and tt and tt and tt and tt and tt and tt and tt and tt and tt and
    refl and refl and refl and refl and refl and refl and refl and refl and refl and refl and refl and done

pub conditioned : (m : Text) {o : Operation} → operation_of (operation_in mnemonics m) ≡ Some o → Conditioned o
conditioned m f c g = by_row (λ n o. Settled o) each_settled m (branch c) (named _ (rw g at f))

-- ---- a mnemonic that is not found has no head
missed : (m : Text) (ns : List Mnemonic) → operation_in ns m ≡ None → All (λ n. same m n.name ≡ false) ns
unfolding operation_in
missed m [] e = done
missed m (n ∷ ns) e = go (same m n.name) refl e (λ q. missed m ns q)
  where
    go : (y : Bool) → same m n.name ≡ y → ◌≡◌ {A = Option Ruled} (elim y [ true ↦ Some n.operation | false ↦ operation_in ns m ]) None
        → (operation_in ns m ≡ None → All (λ k. same m k.name ≡ false) ns) → All (λ k. same m k.name ≡ false) (n ∷ ns)
    go true p q r = let y : ◌≡◌ {A = ℕ} 0 1 = cc in absurd (omega arith)
    go false p q r = p and r q

-- the name t is one of the list, and each row's is
abbrev among : Text → List Mnemonic → Bool
among t [] = false
among t (n ∷ ns) = same t n.name || among t ns

abbrev all_among : List HeadRow → List Mnemonic → Bool
all_among [] ns = true
all_among (r ∷ rs) ns = among r.name ns && all_among rs ns

other_name : (m : Text) {ns : List Mnemonic} (t : Text) → All (λ n. same m n.name ≡ false) ns → among t ns ≡ true → same m t ≡ false
other_name m t done e = absurd (false≢true e)
other_name m t (◌and◌ {n = n} {ns = ns} h hs) e = go (same t n.name) refl e (λ q. other_name m t hs q)
  where
    go : (y : Bool) → same t n.name ≡ y → (y || among t ns) ≡ true → (among t ns ≡ true → same m t ≡ false) → same m t ≡ false
    go true p q r = rw (same_is t n.name p) h
    go false p q r = r q

and_both : (x y : Bool) → (x && y) ≡ true → (x ≡ true) × (y ≡ true)
and_both true y e = (refl, e)
and_both false y e = absurd (false≢true e)

no_head : {ns : List Mnemonic} (m : Text) (f : Option Text) → All (λ n. same m n.name ≡ false) ns → (rs : List HeadRow) → all_among rs ns ≡ true → head_in rs m f ≡ None
unfolding head_in
no_head m f h [] e = refl
no_head {ns} m f h (r ∷ rs) e =
    let k = and_both (among r.name ns) (all_among rs ns) e in
    rw (head_in, other_name m r.name h k.0) (no_head m f h rs k.1)

names_known : all_among heads mnemonics ≡ true
unfolding heads mnemonics other_mnemonics branches same bytes
names_known = refl

-- ---- a suffix that is neither W nor L
skip_row : (r : HeadRow) (rs : List HeadRow) (m : Text) (f : Option Text) → (same m r.name && same_suffix f r.suffix) ≡ false → head_in (r ∷ rs) m f ≡ head_in rs m f
unfolding head_in
skip_row r rs m f e = rw (head_in, e)

abbrev known : Option Text → Bool
known None = true
known (Some t) = same t (bytes "W") || same t (bytes "L")

abbrev all_known : List HeadRow → Bool
all_known [] = true
all_known (r ∷ rs) = known r.suffix && all_known rs

suffixes_known : all_known heads ≡ true
unfolding heads same bytes
suffixes_known = refl

module _ (s : Text) (w : same s (bytes "W") ≡ false) (l : same s (bytes "L") ≡ false) where
  other_suffix : (f : Option Text) → known f ≡ true → same_suffix (Some s) f ≡ false
  unfolding same_suffix
  other_suffix None e = refl
  other_suffix (Some t) e = go (same t (bytes "W")) refl e
    where
      go : (y : Bool) → same t (bytes "W") ≡ y → (y || same t (bytes "L")) ≡ true → same s t ≡ false
      go true p q = rw (same_is t (bytes "W") p) w
      go false p q = rw (same_is t (bytes "L") q) l

  no_suffix : (m : Text) (rs : List HeadRow) → all_known rs ≡ true → head_in rs m (Some s) ≡ None
  unfolding head_in
  no_suffix m [] e = refl
  no_suffix m (r ∷ rs) e =
      let k = and_both (known r.suffix) (all_known rs) e in
      skip_row r rs m (Some s) (rw (other_suffix r.suffix k.0) (and-false (same m r.name))) ∙ no_suffix m rs k.1

nothing_after : {A B : Type 0} (o : Option A) → None ≡ bind {B = B} o (λ x. None)
unfolding bind
nothing_after None = refl
nothing_after (Some x) = refl

-- ---- the head, by both
module _ (m : Text) where
  at : (o : Option Ruled) → operation_in mnemonics m ≡ o → Bridged m (operation_of o)
  unfolding bind
  at None e =
      let h = missed m mnemonics e in
      bridged (no_head m None h heads names_known) (no_head m (Some (bytes "W")) h heads names_known) (no_head m (Some (bytes "L")) h heads names_known)
  at (Some o) e = by_row (λ n p. Bridged n (operation_of (Some p))) each_bridged m o e

  pub head_found : (f : Option Text) → head_in heads m f ≡ bind (operation_of (operation_in mnemonics m)) (λ o. head_by (suffix_of f) o)
  unfolding suffix_of suffix_by same bytes
  head_found None = (at (operation_in mnemonics m) refl).plain
  head_found (Some []) = no_suffix [] refl refl m heads suffixes_known ∙ nothing_after (operation_of (operation_in mnemonics m))
  head_found (Some (b ∷ s)) = go (same (b ∷ s) (bytes "L")) refl (same (b ∷ s) (bytes "W")) refl
    where
      go : (x : Bool) → same (b ∷ s) (bytes "L") ≡ x → (y : Bool) → same (b ∷ s) (bytes "W") ≡ y
          → head_in heads m (Some (b ∷ s)) ≡ bind (operation_of (operation_in mnemonics m)) (λ o. head_by (suffix_by (b ∷ s)) o)
      go true p y q = rw (p, same_is (b ∷ s) (bytes "L") p) (at (operation_in mnemonics m) refl).long
      go false p true q = rw (p, q, same_is (b ∷ s) (bytes "W") q) (at (operation_in mnemonics m) refl).word
      go false p false q = rw (p, q) (no_suffix (b ∷ s) q p m heads suffixes_known ∙ nothing_after (operation_of (operation_in mnemonics m)))

-- ---- a branch's condition, as the code works it out, and its range
pub same_condition : (c : ℕ) → (c ≡ 8 → ⊥) → (c ≡ 9 → ⊥) → c ≡ manual_condition c
unfolding manual_condition
same_condition c h k = go (ltb c 8) refl
  where
    go : (y : Bool) → ltb c 8 ≡ y → c ≡ cond (leb 8 c && leb c 9) (c + 2) c
    go true p = let l = ltb-true c 8 p in rw (lt-leb 8 c l)
    go false p = let l = ltb-false c 8 p in rw (le-leb 8 c l, lt-leb c 9 (omega arith))

pub condition_small : (k : Condition) → condition k < 16
unfolding condition
condition_small T = omega arith
condition_small CC = omega arith
condition_small CS = omega arith
condition_small NE = omega arith
condition_small EQ = omega arith
condition_small PL = omega arith
condition_small MI = omega arith
condition_small GE = omega arith
condition_small LT = omega arith
condition_small GT = omega arith
condition_small LE = omega arith
