-- Sums in DC: what is read derives. The text in front of what is left is a sum, a product or an atom, no deeper than parentheses may be
-- opened. Assumes nothing.
use Rattle.std.specs.Prelude.{None, Some}
use Prim.Native.Nat.{ℕ, zero, suc, ◌≤◌}
use mathlib.Core.Path.{◌≡◌, refl, ap}
use mathlib.Core.Bool.{Bool, true, false, ◌||◌, cond, false≢true}
use mathlib.Core.List.{[], ◌∷◌, ◌++◌, append_assoc}
use native.Mathlib.Omega.{arith}
use lib.Dec.{eqb}
use lib.ListN.{length, drop}
use borrow.Author.Tests.{eqb-true}
use Rattle.rules.specs.Text.{Text, bytes, cut_where, first_text}
use Rattle.rules.specs.Number.{Reading, read, failed}
use Rattle.rules.specs.Sum.{Expression, numeral, group, Parse, malformed, parsed, and_parse, applied, chain_by, chain, series, is_times, is_sign, is_operator, plain_number, as_number, number_first, paren_closed, atom_of, product_of, sum_of, ended, bracketed}
use Rattle.rules.proofs.Chain.{by_more, by_stop}
use Rattle.promises.specs.Sums.{Sum, Product, Atom, one_product, adding, subtracting, one_atom, multiplying, plain_digits, parenthesised, Derives, depth}
use Rattle.promises.proofs.Compared.{clash}
use Rattle.promises.proofs.SumNumbers.{plain_read, first_front}

-- a text that derives an expression of depth n at most
pub record Deep (P : Text → Expression → Type 0) (n : ℕ) (t : Text) (a : Expression) : Type 0 where
  pub derives : P t a
  pub deep : depth a ≤ n

-- the text before what is left satisfies P
record Front (P : Text → Expression → Type 0) (s : Text) (a : Expression) (r : Text) : Type 0 where
  front : Text
  split : s ≡ front ++ r
  meets : P front a

abbrev Reads : (Text → Expression → Type 0) → Text → Parse → Type 0
Reads P s malformed = Unit
Reads P s (parsed a r) = Front P s a r

abbrev Sound : (Text → Expression → Type 0) → (Text → Parse) → Type 0
Sound P item = (s : Text) → Reads P s (item s)

and_reads : (P Q : Text → Expression → Type 0) (s u : Text) (x : Parse) (f : Expression → Text → Parse) → Reads P s x
    → ((b : Expression) (r : Text) → Front P s b r → Reads Q u (f b r)) → Reads Q u (and_parse x f)
unfolding and_parse
and_reads P Q s u malformed f h k = tt
and_reads P Q s u (parsed b r) f h k = k b r h

-- ---- a chain, for any Q that one item meets and to which an operator with another item leads on
module _ (f : ℕ → Bool) (item : Text → Parse) (P Q : Text → Expression → Type 0) (sound : Sound P item)
    (one : (s : Text) (a : Expression) → P s a → Q s a)
    (next : (c : ℕ) (s p : Text) (a b : Expression) → f c ≡ true → Q s a → P p b → Q (s ++ (c ∷ p)) (applied c a b)) where
  longer : (c : ℕ) (u front s p r : Text) → u ≡ front ++ (c ∷ s) → s ≡ p ++ r → u ≡ (front ++ (c ∷ p)) ++ r
  longer c u front s p r e q = rw (e, q, append_assoc front (c ∷ p) r)

  chain_sound : (k : ℕ) (a : Expression) (s u front : Text) → u ≡ front ++ s → Q front a → Reads Q u (chain_by f item k a s)
  unfolding chain_by
  chain_sound zero a s u front e q = record { front = front; split = e; meets = q }
  chain_sound (suc k) a [] u front e q = record { front = front; split = e; meets = q }
  chain_sound (suc k) a (c ∷ s) u front e q = go (f c) refl (λ b r m. chain_sound k (applied c a b) r u m)
    where
      go : (y : Bool) → f c ≡ y
          → ((b : Expression) (r m : Text) → u ≡ m ++ r → Q m (applied c a b) → Reads Q u (chain_by f item k (applied c a b) r))
          → Reads Q u (chain_by f item (suc k) a (c ∷ s))
      go true y ih = rw (by_more f item k a c s y) (and_reads P Q s u (item s) (λ b r. chain_by f item k (applied c a b) r) (sound s)
          (λ b r h. ih b r (front ++ (c ∷ h.front)) (longer c u front s h.front r e h.split) (next c front h.front a b y q h.meets)))
      go false y ih = rw (by_stop f item k a c s y) (record { front = front; split = e; meets = q })

  listed_sound : Sound Q (series f item)
  unfolding series chain
  listed_sound s = and_reads P Q s s (item s) (λ a r. chain_by f item (length r) a r) (sound s)
      (λ a r h. chain_sound (length r) a r s h.front h.split (one h.front a h.meets))

-- ---- products and sums
next_product : (n c : ℕ) (s p : Text) (a b : Expression) → is_times c ≡ true → Deep Product n s a → Deep Atom n p b → Deep Product n (s ++ (c ∷ p)) (applied c a b)
unfolding is_times applied bytes depth
next_product n c s p a b e q r = rw (eqb-true c 42 e) (record { derives = multiplying q.derives r.derives refl refl; deep = omega (arith, q.deep, r.deep) })

next_sum : (n c : ℕ) (s p : Text) (a b : Expression) → is_sign c ≡ true → Deep Sum n s a → Deep Product n p b → Deep Sum n (s ++ (c ∷ p)) (applied c a b)
unfolding is_sign applied bytes depth
next_sum n c s p a b e q r = go (eqb c 43) refl (eqb c 45) refl e
  where
    go : (x : Bool) → eqb c 43 ≡ x → (y : Bool) → eqb c 45 ≡ y → x || y ≡ true → Deep Sum n (s ++ (c ∷ p)) (applied c a b)
    go true f y g e = rw (eqb-true c 43 f) (record { derives = adding q.derives r.derives refl refl; deep = omega (arith, q.deep, r.deep) })
    go false f true g e = rw (eqb-true c 45 g) (record { derives = subtracting q.derives r.derives refl refl; deep = omega (arith, q.deep, r.deep) })
    go false f false g e = absurd (false≢true e)

product_sound : (n : ℕ) → Sound (Deep Atom n) (atom_of n) → Sound (Deep Product n) (product_of n)
product_sound n h = listed_sound is_times (atom_of n) (Deep Atom n) (Deep Product n) h (λ s a d. record { derives = one_atom d.derives; deep = d.deep }) (next_product n)

sum_sound : (n : ℕ) → Sound (Deep Atom n) (atom_of n) → Sound (Deep Sum n) (sum_of n)
sum_sound n h =
    listed_sound is_sign (product_of n) (Deep Product n) (Deep Sum n) (product_sound n h) (λ s a d. record { derives = one_product d.derives; deep = d.deep }) (next_sum n)

-- ---- atoms
numbered_sound : (n : ℕ) (s front r : Text) → s ≡ front ++ r → (x : Reading ℕ) → plain_number front ≡ x → Reads (Deep Atom n) s (as_number x r)
unfolding as_number depth
numbered_sound n s front r e (failed x) q = tt
numbered_sound n s front r e (read v) q =
    let p = plain_read front v q in
    record { front = front; split = e; meets = record { derives = plain_digits p.prefix p.good.some_digit p.good.no_bad (ap numeral p.good.is); deep = omega arith } }

number_sound : (n : ℕ) → Sound (Deep Atom n) number_first
unfolding number_first
number_sound n s =
    let m = first_text (cut_where is_operator s) in
    numbered_sound n s m (drop (length m) s) (first_front is_operator s) (plain_number m) refl

closed_sound : (n : ℕ) (s : Text) (x : Parse) → Reads (Deep Sum n) s x → Reads (Deep Atom (suc n)) (40 ∷ s) (paren_closed x)
unfolding paren_closed bytes depth
closed_sound n s malformed h = tt
closed_sound n s (parsed a []) h = tt
closed_sound n s (parsed a (c ∷ r)) h = go (eqb c 41) refl
  where
    go : (y : Bool) → eqb c 41 ≡ y → Reads (Deep Atom (suc n)) (40 ∷ s) (cond y (parsed (group a) r) malformed)
    go true e = record {
      front = 40 ∷ (h.front ++ (41 ∷ []));
      split = rw (h.split, eqb-true c 41 e, append_assoc h.front (41 ∷ []) r);
      meets = record { derives = parenthesised h.meets.derives refl refl; deep = omega (arith, h.meets.deep) };
    }
    go false e = tt

atom_sound : (n : ℕ) → Sound (Deep Atom n) (atom_of n)
unfolding atom_of
atom_sound zero [] = tt
atom_sound zero (b ∷ s) = go (eqb b 40)
  where
    go : (y : Bool) → Reads (Deep Atom 0) (b ∷ s) (cond y malformed (number_first (b ∷ s)))
    go true = tt
    go false = number_sound 0 (b ∷ s)
atom_sound (suc n) [] = tt
atom_sound (suc n) (b ∷ s) = go (eqb b 40) refl (atom_sound n)
  where
    go : (y : Bool) → eqb b 40 ≡ y → Sound (Deep Atom n) (atom_of n) → Reads (Deep Atom (suc n)) (b ∷ s) (cond y (paren_closed (sum_of n s)) (number_first (b ∷ s)))
    go true e ih = rw (eqb-true b 40 e) (closed_sound n s (sum_of n s) (sum_sound n ih s))
    go false e ih = number_sound (suc n) (b ∷ s)

-- ---- the whole text
ended_sound : (s : Text) (x : Parse) → Reads (Deep Sum 16) s x → (a : Expression) → ended x ≡ Some a → Deep Derives 16 (91 ∷ s) a
unfolding ended bytes
ended_sound s malformed h a e = clash cc
ended_sound s (parsed b []) h a e = clash cc
ended_sound s (parsed b (c ∷ [])) h a e = go (eqb c 93) refl e
  where
    go : (y : Bool) → eqb c 93 ≡ y → cond y (Some b) None ≡ Some a → Deep Derives 16 (91 ∷ s) a
    go true y q =
        let p : b ≡ a = cc in
        rw (← p) (record {
          derives = record { inner = h.front; brackets = rw (h.split, eqb-true c 93 y); derived = h.meets.derives };
          deep = h.meets.deep;
        })
    go false y q = clash cc
ended_sound s (parsed b (c ∷ d ∷ r)) h a e = clash cc

pub bracketed_sound : (t : Text) (a : Expression) → bracketed t ≡ Some a → Deep Derives 16 t a
unfolding bracketed
bracketed_sound [] a e = clash cc
bracketed_sound (b ∷ s) a e = go (eqb b 91) refl e
  where
    go : (y : Bool) → eqb b 91 ≡ y → cond y (ended (sum_of 16 s)) None ≡ Some a → Deep Derives 16 (b ∷ s) a
    go true y q = rw (eqb-true b 91 y) (ended_sound s (sum_of 16 s) (sum_sound 16 (atom_sound 16) s) a q)
    go false y q = clash cc
