-- The tests by which a verdict is found decide what the reasons say of operands: kinds, numbers, reach. Assumes nothing.
use Rattle.std.specs.Prelude.{Option, None, Some}
use Prim.Native.Nat.{ℕ, suc, ◌+◌, ◌-◌, ◌≤◌, ◌<◌}
use mathlib.Core.Path.{◌≡◌, refl, sym, ap₂, ◌∙◌}
use mathlib.Core.Bool.{Bool, true, false, cond, ◌&&◌, ◌||◌, false≢true}
use mathlib.Core.List.{List, [], ◌∷◌}
use native.Mathlib.Omega.{arith}
use lib.Dec.{ltb}
use lib.IntN.{ℤ, pos, negsuc}
use borrow.Author.Tests.{ltb-true, ltb-false}
use Rattle.rules.specs.Text.{Text, bytes, after, starts}
use Rattle.rules.specs.Number.{within, signed_reading, hex_tail}
use Rattle.rules.specs.Encode.{reach, written_reading, is_some, all_digits}
use Rattle.rules.specs.Forms.{hash, kind_of, same_kind, Operand, kind_for, stand, form_with}
use Rattle.rules.proofs.Operands.{after_text, after_starts, kind_told, kind_itself}
use Rattle.promises.specs.Nearest.{In, head, tail}
use Rattle.promises.specs.Explain.{Stand, all_stand, stands, behind_hash, Numeric, dollar, zero_x, digits, Signed, by_plus, by_minus, Far, behind, ahead}
use Rattle.promises.proofs.Decided.{Decided, yes, no, decided_true, decided_false}
use Rattle.promises.proofs.OperandKinds.{of_kind, kind_is}

-- ---- kinds in a form's places
stand_decided : (f : List Operand) (ps : List Text) → Decided (Stand f ps) (stand f ps)
unfolding stand
stand_decided [] ps = yes all_stand
stand_decided (x ∷ xs) [] = no (elim [ ])
stand_decided (x ∷ xs) (s ∷ ps) = go (same_kind (kind_of s) (kind_for x)) refl (stand_decided xs ps)
  where
    first : Stand (x ∷ xs) (s ∷ ps) → kind_of s ≡ kind_for x
    first (stands k h) = kind_is k

    rest : Stand (x ∷ xs) (s ∷ ps) → Stand xs ps
    rest (stands k h) = h

    go : (y : Bool) → same_kind (kind_of s) (kind_for x) ≡ y → {z : Bool} → Decided (Stand xs ps) z → Decided (Stand (x ∷ xs) (s ∷ ps)) (y && z)
    go true e (yes h) = yes (stands (of_kind s (kind_told (kind_of s) (kind_for x) e)) h)
    go true e (no n) = no (λ h. n (rest h))
    go false e d = no (λ h. false≢true (sym e ∙ rw (first h) (kind_itself (kind_for x))))

-- the form that has the operands' kinds, or that none has
pub data Chosen (fs : List (List Operand)) (ps : List Text) : Option (List Operand) → Type 0 where
  form : {f : List Operand} → In f fs → Stand f ps → Chosen fs ps (Some f)
  no_form : ((f : List Operand) → In f fs → ¬ Stand f ps) → Chosen fs ps None

pub chosen : (fs : List (List Operand)) (ps : List Text) → Chosen fs ps (form_with fs ps)
unfolding form_with
chosen [] ps = no_form (λ f. elim [ ])
chosen (f ∷ fs) ps = go (stand_decided f ps) (chosen fs ps)
  where
    later : {o : Option (List Operand)} → ¬ Stand f ps → Chosen fs ps o → Chosen (f ∷ fs) ps o
    later n (form i h) = form (tail i) h
    later n (no_form k) = no_form on
      where
        on : (g : List Operand) → In g (f ∷ fs) → ¬ Stand g ps
        on g (head e) h = n (rw e at h)
        on g (tail i) h = k g i h

    go : {x : Bool} → Decided (Stand f ps) x → {o : Option (List Operand)} → Chosen fs ps o → Chosen (f ∷ fs) ps (cond x (Some f) o)
    go (yes h) c = form (head refl) h
    go (no n) c = later n c

-- ---- texts
pub hash_kind : (s : Text) → kind_of (behind_hash s) ≡ hash
unfolding kind_of starts bytes
hash_kind s = refl

-- what follows `#`
pub behind_hash_lem : (s t : Text) → after (bytes "#") s ≡ Some t → s ≡ behind_hash t
unfolding bytes
behind_hash_lem s t e = after_text (bytes "#") s t e

pub signed : (s : Text) → Decided (Signed s) (starts (bytes "+") s || starts (bytes "-") s)
signed s = go (starts (bytes "+") s) refl (starts (bytes "-") s) refl
  where
    none_of : starts (bytes "+") s ≡ false → starts (bytes "-") s ≡ false → ¬ Signed s
    none_of e f (by_plus h) = false≢true (sym e ∙ h)
    none_of e f (by_minus h) = false≢true (sym f ∙ h)

    go : (x : Bool) → starts (bytes "+") s ≡ x → (y : Bool) → starts (bytes "-") s ≡ y → Decided (Signed s) (x || y)
    go true e y f = yes (by_plus e)
    go false e true f = yes (by_minus f)
    go false e false f = no (none_of e f)

pub written : (s : Text) → Signed s → written_reading s ≡ Some (signed_reading 10 128 s)
unfolding written_reading
written s h = rw (decided_true (signed s) h)

pub unwritten : (s : Text) → ¬ Signed s → written_reading s ≡ None
unfolding written_reading
unwritten s h = rw (decided_false (signed s) h)

hex_starts : (s : Text) → is_some (hex_tail s) ≡ (starts (bytes "$") s || starts (bytes "0x") s)
unfolding hex_tail is_some
hex_starts s = go (after (bytes "$") s) ∙ ap₂ ◌||◌ (after_starts (bytes "$") s) (after_starts (bytes "0x") s)
  where
    go : (o : Option Text) → is_some {A = Text} (elim o [ None ↦ after (bytes "0x") s | Some t ↦ Some t ]) ≡ (is_some o || is_some (after (bytes "0x") s))
    go None = refl
    go (Some t) = refl

pub numeric : (s : Text) → Decided (Numeric s) (is_some (hex_tail s) || all_digits s)
numeric s = rw (hex_starts s) (go (starts (bytes "$") s) refl (starts (bytes "0x") s) refl (all_digits s) refl)
  where
    none_of : starts (bytes "$") s ≡ false → starts (bytes "0x") s ≡ false → all_digits s ≡ false → ¬ Numeric s
    none_of e f g (dollar h) = false≢true (sym e ∙ h)
    none_of e f g (zero_x h) = false≢true (sym f ∙ h)
    none_of e f g (digits h) = false≢true (sym g ∙ h)

    go : (x : Bool) → starts (bytes "$") s ≡ x → (y : Bool) → starts (bytes "0x") s ≡ y → (z : Bool) → all_digits s ≡ z → Decided (Numeric s) (x || y || z)
    go true e y f z g = yes (dollar e)
    go false e true f z g = yes (zero_x f)
    go false e false f true g = yes (digits g)
    go false e false f false g = no (none_of e f g)

-- ---- displacements
pub data Reaches (a x : ℕ) : Option ℤ → Type 0 where
  near : {z : ℤ} → ¬ Far a x → Reaches a x (Some z)
  out : Far a x → Reaches a x None

pub reaches : (a x : ℕ) → Reaches a x (reach x a)
unfolding reach within
reaches a x = go (ltb x (a + 2)) refl
  where
    not_far : x < a + 130 → a + 2 < x + 129 → ¬ Far a x
    not_far h k (behind i) = omega arith
    not_far h k (ahead i) = omega arith

    back : (y : Bool) → ltb (a + 2 - suc x) 128 ≡ y → x < a + 2 → Reaches a x (cond y (Some (negsuc (a + 2 - suc x))) None)
    back true e h = let k = ltb-true (a + 2 - suc x) 128 e in near (not_far (omega arith) (omega arith))
    back false e h = let k = ltb-false (a + 2 - suc x) 128 e in out (behind (omega arith))

    on : (y : Bool) → ltb (x - (a + 2)) 128 ≡ y → a + 2 ≤ x → Reaches a x (cond y (Some (pos (x - (a + 2)))) None)
    on true e h = let k = ltb-true (x - (a + 2)) 128 e in near (not_far (omega arith) (omega arith))
    on false e h = let k = ltb-false (x - (a + 2)) 128 e in out (ahead (omega arith))

    go : (y : Bool) → ltb x (a + 2) ≡ y → Reaches a x (within 128 (cond y (negsuc (a + 2 - suc x)) (pos (x - (a + 2)))))
    go true e = back (ltb (a + 2 - suc x) 128) refl (ltb-true x (a + 2) e)
    go false e = on (ltb (x - (a + 2)) 128) refl (ltb-false x (a + 2) e)
