-- Sums in DC: what derives is read. A sum, a product or an atom in front of a text is read up to what is after it, where parentheses may be
-- opened as deep as it nests; so a text derives one expression at most. Assumes nothing.
use Rattle.std.specs.Prelude.{Some}
use Prim.Native.Nat.{ℕ, zero, suc, ◌≤◌, max}
use mathlib.Core.Path.{◌≡◌, refl, ◌∙◌}
use mathlib.Core.Logic.{◌≢◌}
use mathlib.Core.Bool.{Bool, true, false}
use mathlib.Core.List.{[], ◌∷◌, ◌++◌, append_assoc}
use native.Mathlib.Omega.{arith}
use lib.Dec.{eqb}
use borrow.Author.Tests.{eqb-true}
use Rattle.rules.specs.Text.{Text, bytes}
use Rattle.rules.specs.Sum.{Expression, numeral, parsed, and_parse, applied, chain, series, is_times, is_sign, is_operator, number_first, paren_closed, atom_of, product_of, sum_of, ended, bracketed}
use Rattle.rules.proofs.Chain.{atom_shrinks, product_shrinks, chain_stop, chain_more}
use Rattle.promises.specs.Sums.{Sum, Product, Atom, one_product, adding, subtracting, one_atom, multiplying, plain_digits, parenthesised, Derives, depth}
use Rattle.promises.proofs.Compared.{clash}
use Rattle.promises.proofs.SumNumbers.{Solid, empty, solid, Plain, plain_solid, plain_some, Ends, operator, number_first_lem}

-- what may stand after a product: an operator that does not go on with it
data Follows : Text → Type 0 where
  other : {c : ℕ} {r : Text} → is_operator c ≡ true → is_times c ≡ false → Follows (c ∷ r)

ends : {r : Text} → Follows r → Ends r
ends (other o t) = operator o

no_times : (n : ℕ) (a : Expression) {r : Text} → Follows r → chain is_times (atom_of n) a r ≡ parsed a r
no_times n a (other {c} {r} o t) = chain_stop is_times (atom_of n) a c r t

-- ---- an atom
no_paren : (b : ℕ) → is_operator b ≡ false → eqb b 40 ≡ false
unfolding is_operator is_times is_sign
no_paren b h = go (eqb b 40) refl
  where
    go : (y : Bool) → eqb b 40 ≡ y → eqb b 40 ≡ false
    go true e = let c = rw (eqb-true b 40 e) at h in clash cc
    go false e = e

plain_atom : (n b : ℕ) (s : Text) → is_operator b ≡ false → atom_of n (b ∷ s) ≡ number_first (b ∷ s)
unfolding atom_of
plain_atom zero b s h = rw (no_paren b h)
plain_atom (suc n) b s h = rw (no_paren b h)

number_atom : (n : ℕ) {s : Text} → Solid s → s ≢ [] → (r : Text) → atom_of n (s ++ r) ≡ number_first (s ++ r)
number_atom n empty k r = absurd (k refl)
number_atom n (solid {b} {s} o h) k r = plain_atom n b (s ++ r) o

plain_complete : (n : ℕ) {t : Text} {v : ℕ} → Plain t v → (r : Text) → Ends r → atom_of n (t ++ r) ≡ parsed (numeral v) r
plain_complete n p r f = number_atom n (plain_solid p) (plain_some p) r ∙ number_first_lem p r f

paren_atom : (n : ℕ) (s : Text) → atom_of (suc n) (40 ∷ s) ≡ paren_closed (sum_of n s)
unfolding atom_of
paren_atom n s = refl

-- ---- sums, products and atoms
mutual
  unfolding and_parse series applied is_times is_sign is_operator paren_closed bytes depth

  sum_complete : {t : Text} {a : Expression} → Sum t a → (n : ℕ) → depth a ≤ n → (r : Text) → Follows r → sum_of n (t ++ r) ≡ chain is_sign (product_of n) a r
  sum_complete (one_product {t} {a} p) n h r f = rw (product_complete p n h r (ends f), no_times n a f)
  sum_complete (adding {t} {s} {p} {a} {b} {c} x y e q) n h r f =
      let d : max (depth a) (depth b) ≤ n = rw q at h in
      rw (
        e,
        q,
        append_assoc s (43 ∷ p) r,
        sum_complete x n (omega arith) (43 ∷ (p ++ r)) (other refl refl),
        chain_more is_sign (product_of n) (product_shrinks n) a 43 (p ++ r) refl,
        product_complete y n (omega arith) r (ends f),
        no_times n b f,
      )
  sum_complete (subtracting {t} {s} {p} {a} {b} {c} x y e q) n h r f =
      let d : max (depth a) (depth b) ≤ n = rw q at h in
      rw (
        e,
        q,
        append_assoc s (45 ∷ p) r,
        sum_complete x n (omega arith) (45 ∷ (p ++ r)) (other refl refl),
        chain_more is_sign (product_of n) (product_shrinks n) a 45 (p ++ r) refl,
        product_complete y n (omega arith) r (ends f),
        no_times n b f,
      )

  product_complete : {t : Text} {a : Expression} → Product t a → (n : ℕ) → depth a ≤ n → (r : Text) → Ends r → product_of n (t ++ r) ≡ chain is_times (atom_of n) a r
  product_complete (one_atom {t} {a} p) n h r f = rw (atom_complete p n h r f)
  product_complete (multiplying {t} {s} {p} {a} {b} {c} x y e q) n h r f =
      let d : max (depth a) (depth b) ≤ n = rw q at h in
      rw (
        e,
        q,
        append_assoc s (42 ∷ p) r,
        product_complete x n (omega arith) (42 ∷ (p ++ r)) (operator refl),
        chain_more is_times (atom_of n) (atom_shrinks n) a 42 (p ++ r) refl,
        atom_complete y n (omega arith) r f,
      )

  atom_complete : {t : Text} {a : Expression} → Atom t a → (n : ℕ) → depth a ≤ n → (r : Text) → Ends r → atom_of n (t ++ r) ≡ parsed a r
  atom_complete (plain_digits {t} {d} {radix} {a} p k g q) n h r f =
      rw q (plain_complete n (record { radix = radix; rest = d; prefix = p; good = record { some_digit = k; no_bad = g; is = refl } }) r f)
  atom_complete (parenthesised {t} {s} {a} {b} x e q) zero h r f = absurd (let d : suc (depth a) ≤ 0 = rw q at h in omega arith)
  atom_complete (parenthesised {t} {s} {a} {b} x e q) (suc n) h r f =
      let d : suc (depth a) ≤ suc n = rw q at h in
      rw (e, q) (paren_atom n ((s ++ (41 ∷ [])) ++ r)
      ∙ rw (append_assoc s (41 ∷ []) r, sum_complete x n (omega arith) (41 ∷ r) (other refl refl), chain_stop is_sign (product_of n) a 41 r refl))

-- ---- the whole text
sum_ended : {s : Text} {a : Expression} → Sum s a → (n : ℕ) → depth a ≤ n → ended (sum_of n (s ++ (93 ∷ []))) ≡ Some a
unfolding ended is_operator is_times is_sign
sum_ended {a = a} x n h = rw (sum_complete x n h (93 ∷ []) (other refl refl), chain_stop is_sign (product_of n) a 93 [] refl)

pub bracketed_complete : {t : Text} {a : Expression} → Derives t a → depth a ≤ 16 → bracketed t ≡ Some a
unfolding bracketed bytes
bracketed_complete d h = rw d.brackets (sum_ended d.derived 16 h)

-- two derivations of one text, read where parentheses may be opened as deep as either nests
same_inner : (s u : Text) → s ++ (93 ∷ []) ≡ u ++ (93 ∷ []) → {a b : Expression} → Sum s a → Sum u b → a ≡ b
same_inner s u e {a} {b} x y =
    let n = max (depth a) (depth b) in
    let p : ended (sum_of n (s ++ (93 ∷ []))) ≡ Some a = sum_ended x n (omega arith) in
    let q : ended (sum_of n (u ++ (93 ∷ []))) ≡ Some b = sum_ended y n (omega arith) in
    let w : ended (sum_of n (s ++ (93 ∷ []))) ≡ Some b = rw e q in
    cc

pub one_expression : (t : Text) (a b : Expression) → Derives t a → Derives t b → a ≡ b
unfolding bytes
one_expression t a b d e =
    let p = d.brackets in
    let q = e.brackets in
    let w : d.inner ++ (93 ∷ []) ≡ e.inner ++ (93 ∷ []) = cc in
    same_inner d.inner e.inner w d.derived e.derived
