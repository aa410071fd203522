-- An operand's kind, read off its first byte: each kind is its reader's test, and what is read as a number without `#` is other text.
-- Assumes nothing.
use Rattle.std.specs.Prelude.{None, Some}
use Rattle.std.proofs.lemmas.Option.{none-some}
use Prim.Native.Nat.{ℕ}
use mathlib.Core.Path.{◌≡◌, refl, sym, ap, ap₂, subst, ◌∙◌}
use mathlib.Core.Bool.{Bool, true, false, cond, ◌||◌, false≢true, or-true}
use mathlib.Core.List.{[], ◌∷◌, ◌++◌}
use lib.Dec.{eqb}
use borrow.Author.Tests.{eqb-true}
use Rattle.rules.specs.Text.{Text, bytes, after, starts}
use Rattle.rules.specs.Number.{digit_value, hex_tail}
use Rattle.rules.specs.Encode.{register_digit, data_register, address_register, closed, indirect, is_some, all_digits}
use Rattle.rules.specs.Forms.{Kind, hash, dn, an, at_an, text, kind_of, kind_number, same_kind}

-- ---- texts
-- what follows p in a text, and that the text starts with p
pub after_text : (p s t : Text) → after p s ≡ Some t → s ≡ p ++ t
unfolding after
after_text [] s t e = cc
after_text (c ∷ p) [] t e = absurd (none-some t e)
after_text (c ∷ p) (b ∷ s) t e = go (eqb c b) refl (after_text p s t) e
  where
    go : (x : Bool) → eqb c b ≡ x → (after p s ≡ Some t → s ≡ p ++ t) → elim x [ true ↦ after p s | false ↦ None ] ≡ Some t → b ∷ s ≡ c ∷ (p ++ t)
    go true f ih e = ap₂ ◌∷◌ (sym (eqb-true c b f)) (ih e)
    go false f ih e = absurd (none-some t e)

pub after_starts : (p s : Text) → is_some (after p s) ≡ starts p s
unfolding after starts is_some
after_starts [] s = refl
after_starts (c ∷ p) [] = refl
after_starts (c ∷ p) (b ∷ s) = go (eqb c b) (after_starts p s)
  where
    go : (x : Bool) → is_some (after p s) ≡ starts p s → is_some {A = Text} (elim x [ true ↦ after p s | false ↦ None ]) ≡ elim x [ true ↦ starts p s | false ↦ false ]
    go true e = e
    go false e = refl

-- ---- kinds told apart
kind_at : ℕ → Kind
kind_at n = cond (eqb n 0) hash (cond (eqb n 1) dn (cond (eqb n 2) an (cond (eqb n 3) at_an text)))

kind_back : (k : Kind) → kind_at (kind_number k) ≡ k
unfolding kind_at kind_number
kind_back hash = refl
kind_back dn = refl
kind_back an = refl
kind_back at_an = refl
kind_back text = refl

pub kind_told : (k j : Kind) → same_kind k j ≡ true → k ≡ j
unfolding same_kind
kind_told k j e = sym (kind_back k) ∙ ap kind_at (eqb-true (kind_number k) (kind_number j) e) ∙ kind_back j

pub kind_itself : (k : Kind) → same_kind k k ≡ true
unfolding same_kind kind_number
kind_itself hash = refl
kind_itself dn = refl
kind_itself an = refl
kind_itself at_an = refl
kind_itself text = refl

-- ---- a text by its first byte
data Front : Text → Type 0 where
  empty : Front []
  a_hash : {s : Text} → Front (35 ∷ s)
  a_d : {s : Text} → Front (68 ∷ s)
  an_a : {s : Text} → Front (65 ∷ s)
  a_bracket : {s : Text} → Front (40 ∷ s)
  other : {b : ℕ} {s : Text} → eqb 35 b ≡ false → eqb 68 b ≡ false → eqb 65 b ≡ false → eqb 40 b ≡ false → Front (b ∷ s)

front : (s : Text) → Front s
front [] = empty
front (b ∷ s) = go (eqb 35 b) refl (eqb 68 b) refl (eqb 65 b) refl (eqb 40 b) refl
  where
    go : (h : Bool) → eqb 35 b ≡ h → (d : Bool) → eqb 68 b ≡ d → (a : Bool) → eqb 65 b ≡ a → (p : Bool) → eqb 40 b ≡ p → Front (b ∷ s)
    go true e d f a g p i = subst (λ (c : ℕ). Front (c ∷ s)) (eqb-true 35 b e) a_hash
    go false e true f a g p i = subst (λ (c : ℕ). Front (c ∷ s)) (eqb-true 68 b f) a_d
    go false e false f true g p i = subst (λ (c : ℕ). Front (c ∷ s)) (eqb-true 65 b g) an_a
    go false e false f false g true i = subst (λ (c : ℕ). Front (c ∷ s)) (eqb-true 40 b i) a_bracket
    go false e false f false g false i = other e f g i

-- the tests of the four kinds that are not other text
pub record Told (h d a p : Bool) (k : Kind) : Type 0 where
  pub as_hash : same_kind k hash ≡ h
  pub as_dn : same_kind k dn ≡ d
  pub as_an : same_kind k an ≡ a
  pub as_at_an : same_kind k at_an ≡ p

-- one kind by a test, or else other text
told_dn : (x : Bool) → Told false x false false (cond x dn text)
unfolding same_kind kind_number
told_dn true = record { as_hash = refl; as_dn = refl; as_an = refl; as_at_an = refl }
told_dn false = record { as_hash = refl; as_dn = refl; as_an = refl; as_at_an = refl }

told_an : (x : Bool) → Told false false x false (cond x an text)
unfolding same_kind kind_number
told_an true = record { as_hash = refl; as_dn = refl; as_an = refl; as_at_an = refl }
told_an false = record { as_hash = refl; as_dn = refl; as_an = refl; as_at_an = refl }

told_at_an : (x : Bool) → Told false false false x (cond x at_an text)
unfolding same_kind kind_number
told_at_an true = record { as_hash = refl; as_dn = refl; as_an = refl; as_at_an = refl }
told_at_an false = record { as_hash = refl; as_dn = refl; as_an = refl; as_at_an = refl }

-- the kind of a text, by the readers' tests
abbrev pub Kinded : Text → Type 0
Kinded s = Told (starts (bytes "#") s) (is_some (data_register s)) (is_some (address_register s)) (is_some (indirect s)) (kind_of s)

kinded_by : {s : Text} → Front s → Kinded s
unfolding same_kind kind_number kind_of starts after data_register address_register indirect register_digit closed is_some bytes
kinded_by empty = record { as_hash = refl; as_dn = refl; as_an = refl; as_at_an = refl }
kinded_by a_hash = record { as_hash = refl; as_dn = refl; as_an = refl; as_at_an = refl }
kinded_by (a_d {s}) = told_dn (is_some (register_digit (Some s)))
kinded_by (an_a {s}) = told_an (is_some (register_digit (Some s)))
kinded_by (a_bracket {s}) = told_at_an (is_some (closed (after (bytes "A") s)))
kinded_by (other {b} {s} e f g i) = rw (e, f, g, i, starts, after) (record { as_hash = refl; as_dn = refl; as_an = refl; as_at_an = refl })

pub kinded : (s : Text) → Kinded s
kinded s = kinded_by (front s)

-- ---- numbers without `#`: JMP's, and a branch's signed one
number_by : {s : Text} → Front s → (is_some (hex_tail s) || all_digits s || (starts (bytes "+") s || starts (bytes "-") s)) ≡ true → kind_of s ≡ text
unfolding kind_of starts after data_register address_register indirect register_digit closed is_some bytes hex_tail all_digits digit_value
number_by empty e = refl
number_by a_hash e = absurd (false≢true e)
number_by (a_d {s}) e = absurd (false≢true e)
number_by (an_a {s}) e = absurd (false≢true e)
number_by (a_bracket {s}) e = absurd (false≢true e)
number_by (other {b} {s} e f g i) h = rw (e, f, g, i, starts, after)

pub numeric_text : (s : Text) → (is_some (hex_tail s) || all_digits s) ≡ true → kind_of s ≡ text
numeric_text s e = number_by (front s) (rw e)

pub signed_text : (s : Text) → (starts (bytes "+") s || starts (bytes "-") s) ≡ true → kind_of s ≡ text
signed_text s e = number_by (front s) (rw (e, or-true))
