-- An operand's kind is what its bytes say. Assumes nothing.
use Rattle.std.specs.Prelude.{Option, None, Some}
use Prim.Native.Nat.{ℕ, ◌+◌, ◌-◌, ◌<◌}
use mathlib.Core.Path.{◌≡◌, refl, sym, ◌∙◌}
use mathlib.Core.Logic.{◌⊎◌, inl, inr}
use mathlib.Core.Bool.{Bool, true, false, cond, ◌&&◌}
use mathlib.Core.List.{[], ◌∷◌}
use native.Mathlib.Omega.{arith}
use lib.Dec.{eqb, leb, ltb}
use borrow.Author.Tests.{eqb-true, leb-true, ltb-true, lt-ltb}
use Rattle.rules.specs.Text.{Text, bytes, after, starts}
use Rattle.rules.specs.Number.{digit_value}
use Rattle.rules.specs.Encode.{register_digit, data_register, address_register, closed, indirect, is_some}
use Rattle.rules.specs.Forms.{Kind, hash, dn, an, at_an, text, kind_of}
use Rattle.rules.proofs.Operands.{after_text, after_starts}
use Rattle.promises.specs.Explain.{Marked, as_hash, as_dn, as_an, as_at_an, IsKind, marked, other_text}
use Rattle.promises.proofs.Compared.{clash}
use Rattle.promises.proofs.Stages.{and_both}
use Rattle.promises.proofs.Decided.{there}
use Rattle.promises.proofs.ManualLaws.{digit}

-- the byte of a register's digit
record Digit (b : ℕ) : Type 0 where
  number : ℕ
  small : number < 8
  is : b ≡ 48 + number

-- of a choice that is small, which it is
small_choice : (x : Bool) (v w : ℕ) → cond x v w < 8 → ((x ≡ true) × (v < 8)) ⊎ (w < 8)
small_choice true v w h = inl (refl, h)
small_choice false v w h = inr h

digit_byte : (b : ℕ) → digit_value b < 8 → Digit b
unfolding digit_value
digit_byte b h = decimal (small_choice _ _ _ h)
  where
    lower : ((leb 97 b && leb b 102 ≡ true) × (b - 87 < 8)) ⊎ (255 < 8) → Digit b
    lower (inl k) = let l = leb-true 97 b (and_both (leb 97 b) (leb b 102) k.0).0 in absurd (omega (arith, k.1))
    lower (inr k) = absurd (omega arith)

    upper : ((leb 65 b && leb b 70 ≡ true) × (b - 55 < 8)) ⊎ (cond (leb 97 b && leb b 102) (b - 87) 255 < 8) → Digit b
    upper (inl k) = let l = leb-true 65 b (and_both (leb 65 b) (leb b 70) k.0).0 in absurd (omega (arith, k.1))
    upper (inr k) = lower (small_choice _ _ _ k)

    decimal : ((leb 48 b && leb b 57 ≡ true) × (b - 48 < 8)) ⊎ (cond (leb 65 b && leb b 70) (b - 55) (cond (leb 97 b && leb b 102) (b - 87) 255) < 8) → Digit b
    decimal (inl k) =
        let l = leb-true 48 b (and_both (leb 48 b) (leb b 57) k.0).0 in
        record { number = b - 48; small = k.1; is = omega arith }
    decimal (inr k) = upper (small_choice _ _ _ k)

-- ---- from the bytes to the kind
marked_kind : {s : Text} {k : Kind} → Marked s k → kind_of s ≡ k
unfolding kind_of starts after data_register address_register indirect register_digit closed is_some bytes
marked_kind as_hash = refl
marked_kind (as_dn {n} h) = rw (digit n h, lt-ltb n 8 h)
marked_kind (as_an {n} h) = rw (digit n h, lt-ltb n 8 h)
marked_kind (as_at_an {n} h) = rw (digit n h, lt-ltb n 8 h)

-- ---- and back
-- a register's number is there only of its digit
register_digit_lem : (o : Option Text) → is_some (register_digit o) ≡ true → (b : ℕ) × (o ≡ Some (b ∷ [])) × Digit b
unfolding register_digit is_some
register_digit_lem None e = clash cc
register_digit_lem (Some []) e = clash cc
register_digit_lem (Some (b ∷ [])) e = (b, refl, digit_byte b (go (ltb (digit_value b) 8) refl e))
  where
    go : (x : Bool) → ltb (digit_value b) 8 ≡ x → is_some (cond x (Some (digit_value b)) None) ≡ true → digit_value b < 8
    go true f e = ltb-true (digit_value b) 8 f
    go false f e = clash cc
register_digit_lem (Some (b ∷ c ∷ s)) e = clash cc

closed_digit : (o : Option Text) → is_some (closed o) ≡ true → (b : ℕ) × (o ≡ Some (b ∷ 41 ∷ [])) × Digit b
unfolding closed is_some
closed_digit None e = clash cc
closed_digit (Some []) e = clash cc
closed_digit (Some (b ∷ [])) e = clash cc
closed_digit (Some (b ∷ c ∷ [])) e = go (eqb c 41) refl e
  where
    go : (x : Bool) → eqb c 41 ≡ x → is_some (cond x (register_digit (Some (b ∷ []))) None) ≡ true → (d : ℕ) × (Some (b ∷ c ∷ []) ≡ Some (d ∷ 41 ∷ [])) × Digit d
    go true f e =
        let h = register_digit_lem (Some (b ∷ [])) e in
        let u : b ≡ h.0 = cc h.1 in
        (h.0, (rw (← u, eqb-true c 41 f) refl), h.2)
    go false f e = clash cc
closed_digit (Some (b ∷ c ∷ d ∷ s)) e = clash cc

hash_marked : (s : Text) → starts (bytes "#") s ≡ true → Marked s hash
unfolding bytes
hash_marked s e = let h = there (after (bytes "#") s) (after_starts (bytes "#") s ∙ e) in rw (after_text (bytes "#") s h.0 h.1) as_hash

pub dn_marked : (s : Text) → is_some (data_register s) ≡ true → Marked s dn
unfolding data_register bytes
dn_marked s e = let h = register_digit_lem (after (bytes "D") s) e in rw (after_text (bytes "D") s _ h.1, h.2.is) (as_dn h.2.small)

pub an_marked : (s : Text) → is_some (address_register s) ≡ true → Marked s an
unfolding address_register bytes
an_marked s e = let h = register_digit_lem (after (bytes "A") s) e in rw (after_text (bytes "A") s _ h.1, h.2.is) (as_an h.2.small)

pub at_an_marked : (s : Text) → is_some (indirect s) ≡ true → Marked s at_an
unfolding indirect bytes
at_an_marked s e = let h = closed_digit (after (bytes "(A") s) e in rw (after_text (bytes "(A") s _ h.1, h.2.is) (as_at_an h.2.small)

never_text : {s : Text} → ¬ Marked s text
never_text = elim [ ]

is_kind : (s : Text) → IsKind s (kind_of s)
unfolding kind_of
is_kind s = go (starts (bytes "#") s) refl (is_some (data_register s)) refl (is_some (address_register s)) refl (is_some (indirect s)) refl
  where
    go : (h : Bool) → starts (bytes "#") s ≡ h → (d : Bool) → is_some (data_register s) ≡ d → (a : Bool) → is_some (address_register s) ≡ a → (p : Bool) → is_some (indirect s) ≡ p
        → IsKind s (cond h hash (cond d dn (cond a an (cond p at_an text))))
    go true e d f a g p i = marked (hash_marked s e)
    go false e true f a g p i = marked (dn_marked s f)
    go false e false f true g p i = marked (an_marked s g)
    go false e false f false g true i = marked (at_an_marked s i)
    go false e false f false g false i = other_text (λ k m. let u : kind_of s ≡ text = rw (e, f, g, i) in let v : k ≡ text = sym (marked_kind m) ∙ u in never_text (rw v at m))

pub kind_is : {s : Text} {k : Kind} → IsKind s k → kind_of s ≡ k
kind_is (marked m) = marked_kind m
kind_is {s} (other_text n) = go (is_kind s)
  where
    go : {k : Kind} → IsKind s k → k ≡ text
    go {k} (marked m) = absurd (n k m)
    go (other_text f) = refl

pub of_kind : (s : Text) {k : Kind} → kind_of s ≡ k → IsKind s k
of_kind s e = rw e at (is_kind s)
