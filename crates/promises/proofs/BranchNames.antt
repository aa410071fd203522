-- Branch tables: what the tests of a row's name say: padding, letters, earlier rows, and mnemonics that are taken. Assumes nothing.
use Rattle.std.specs.Prelude.{Option, None, Some}
use Prim.Native.Nat.{ℕ, zero, suc, ◌<◌, ◌≤◌}
use mathlib.Core.Path.{◌≡◌, refl, sym, ap, ◌∙◌}
use mathlib.Core.Logic.{◌≢◌}
use mathlib.Core.Bool.{Bool, true, false, ◌&&◌, ◌||◌, cond}
use mathlib.Core.List.{List, [], ◌∷◌, ◌++◌}
use native.Mathlib.Omega.{arith}
use borrow.Author.Tests.{leb-true, le-leb, eqb-true, eqb-false}
use lib.Dec.{leb, eqb}
use lib.ListN.{length, replicate}
use Rattle.rules.specs.Text.{Text, blank, same}
use Rattle.rules.specs.Encode.{Operation, Mnemonic, mnemonic, other_mnemonics, operation_in, is_some}
use Rattle.requests.specs.Branches.{byte_of, four_of, keep_name, unpadded, any_lower, earlier, misnamed}
use Rattle.promises.specs.Nearest.{In, head, tail}
use Rattle.promises.specs.Branches.{Row, four, rows_bytes, Padded, Blank, tab, space, Misnamed, starts_blank, lower_case, twice, taken}
use Rattle.promises.proofs.Compared.{clash}
use Rattle.promises.proofs.Same.{same_eq}
use Rattle.promises.proofs.Kept.{same_self}
use Rattle.promises.proofs.BranchRows.{row_at, front_rows, front_command}

-- ---- padding
spaces_only : (n : ℕ) → unpadded (replicate n 32) ≡ []
unfolding unpadded keep_name
spaces_only zero = refl
spaces_only (suc n) = rw (spaces_only n)

-- no text ends with a space but where one stands last
behind_first : (b : ℕ) (s front : Text) → ((f : Text) → s ≢ f ++ (32 ∷ [])) → (s ≡ [] → b ≢ 32) → b ∷ s ≢ front ++ (32 ∷ [])
behind_first b s [] h k e = let f : s ≡ [] = cc in let g : b ≡ 32 = cc in k f g
behind_first b s (c ∷ front) h k e = let f : s ≡ front ++ (32 ∷ []) = cc in h front f

pub padded_is : (s : Text) → Padded (unpadded s) s
unfolding unpadded keep_name
padded_is [] = record { spaces = 0; padded = refl; all = λ f e. nothing f e }
  where
    nothing : (f : Text) → ◌≡◌ {A = Text} [] (f ++ (32 ∷ [])) → ⊥
    nothing [] e = clash cc
    nothing (b ∷ f) e = clash cc
padded_is (b ∷ s) = go (unpadded s) (padded_is s)
  where
    kept : Padded [] s → (x : Bool) → eqb b 32 ≡ x → Padded (cond x [] (b ∷ [])) (b ∷ s)
    kept p true e =
        let f : b ≡ 32 = eqb-true b 32 e in
        let g : s ≡ replicate p.spaces 32 = p.padded in
        record { spaces = suc p.spaces; padded = rw (f, g); all = p.all }
    kept p false e =
        let g : s ≡ replicate p.spaces 32 = p.padded in
        record { spaces = p.spaces; padded = ap (λ (r : Text). b ∷ r) g; all = λ f. behind_first b [] f p.all (λ z. eqb-false b 32 e) }

    go : (u : Text) → Padded u s → Padded (keep_name b u) (b ∷ s)
    go [] p = kept p (eqb b 32) refl
    go (c ∷ u) p =
        record { spaces = p.spaces; padded = ap (λ (r : Text). b ∷ r) p.padded; all = λ f. behind_first b (c ∷ u) f p.all (λ z. clash cc) }

padded_by : (n : Text) (k : ℕ) → ((f : Text) → n ≢ f ++ (32 ∷ [])) → n ≡ unpadded (n ++ replicate k 32)
unfolding unpadded keep_name
padded_by [] k h = sym (spaces_only k)
padded_by (b ∷ n) k h = go n refl (padded_by n k (λ f e. h (b ∷ f) (ap (λ (r : Text). b ∷ r) e)))
  where
    kept : (x : Bool) → eqb b 32 ≡ x → n ≡ [] → b ∷ [] ≡ cond {A = Text} x [] (b ∷ [])
    kept true e z = absurd (h [] (rw (z, eqb-true b 32 e)))
    kept false e z = refl

    go : (m : Text) → n ≡ m → n ≡ unpadded (n ++ replicate k 32) → b ∷ n ≡ keep_name b (unpadded (n ++ replicate k 32))
    go [] z ih = rw (← ih, z) (kept (eqb b 32) refl z)
    go (c ∷ m) z ih = rw (← ih, z)

pub is_padded : {n s : Text} → Padded n s → n ≡ unpadded s
is_padded {n} p = rw p.padded (padded_by n p.spaces p.all)

-- ---- a blank, a letter
blank_is : (b : ℕ) → blank b ≡ true → Blank b
unfolding blank
blank_is b e = go (leb 9 b) refl (leb b 13) refl e
  where
    go : (x : Bool) → leb 9 b ≡ x → (y : Bool) → leb b 13 ≡ y → ((x && y) || eqb b 32) ≡ true → Blank b
    go true f true g h = tab (leb-true 9 b f) (leb-true b 13 g)
    go true f false g h = rw (eqb-true b 32 h) space
    go false f y g h = rw (eqb-true b 32 h) space

is_blank : {b : ℕ} → Blank b → blank b ≡ true
unfolding blank
is_blank {b} (tab l h) = rw (le-leb 9 b l, le-leb b 13 h)
is_blank space = refl

lower_is : (s : Text) → any_lower s ≡ true → (b : ℕ) × In b s × (97 ≤ b) × (b ≤ 122)
unfolding any_lower
lower_is [] e = clash cc
lower_is (b ∷ s) e = go (leb 97 b) refl (leb b 122) refl (lower_is s) e
  where
    go : (x : Bool) → leb 97 b ≡ x → (y : Bool) → leb b 122 ≡ y → (any_lower s ≡ true → (c : ℕ) × In c s × (97 ≤ c) × (c ≤ 122))
        → ((x && y) || any_lower s) ≡ true → (c : ℕ) × In c (b ∷ s) × (97 ≤ c) × (c ≤ 122)
    go true f true g ih h = (b, head refl, leb-true 97 b f, leb-true b 122 g)
    go true f false g ih h = let k = ih h in (k.0, tail k.1, k.2, k.3)
    go false f y g ih h = let k = ih h in (k.0, tail k.1, k.2, k.3)

or_true : (x y : Bool) → y ≡ true → (x || y) ≡ true
or_true true y e = refl
or_true false y e = e

is_lower : {b : ℕ} {s : Text} → In b s → 97 ≤ b → b ≤ 122 → any_lower s ≡ true
unfolding any_lower
is_lower {b} (head {y = c} e) l h = let f : 97 ≤ c = rw e at l in let g : c ≤ 122 = rw e at h in rw (le-leb 97 c f, le-leb c 122 g)
is_lower (tail {y = c} {ys = s} i) l h = or_true (leb 97 c && leb c 122) (any_lower s) (is_lower i l h)

-- ---- mnemonics found
pub found : (ns : List Mnemonic) (m : Text) (o : Operation) → operation_in ns m ≡ Some o → In (mnemonic m o) ns
unfolding operation_in
found [] m o e = clash cc
found (n ∷ ns) m o e = go (same m n.name) refl (found ns m o) e
  where
    go : (x : Bool) → same m n.name ≡ x → (operation_in ns m ≡ Some o → In (mnemonic m o) ns)
        → elim x [ true ↦ Some n.operation | false ↦ operation_in ns m ] ≡ Some o → In (mnemonic m o) (n ∷ ns)
    go true f ih h = let a : m ≡ n.name = same_eq m n.name f in let b : n.operation ≡ o = cc in head {y = n} (rw (a, ← b))
    go false f ih h = tail (ih h)

pub is_found : {n : Mnemonic} {ns : List Mnemonic} → In n ns → is_some (operation_in ns n.name) ≡ true
unfolding operation_in is_some
is_found {n} (head {y = a} {ys = ns} e) = rw (e, same_self a.name, operation_in)
is_found {n} (tail {y = a} {ys = ns} i) = go (same n.name a.name) (is_found i)
  where
    go : (x : Bool) → is_some (operation_in ns n.name) ≡ true → is_some {A = Operation} (elim x [ true ↦ Some a.operation | false ↦ operation_in ns n.name ]) ≡ true
    go true ih = refl
    go false ih = ih

some_found : (ns : List Mnemonic) (m : Text) → is_some (operation_in ns m) ≡ true → (n : Mnemonic) × In n ns × (m ≡ n.name)
unfolding is_some
some_found ns m e = go (operation_in ns m) refl e
  where
    go : (x : Option Operation) → operation_in ns m ≡ x → is_some x ≡ true → (n : Mnemonic) × In n ns × (m ≡ n.name)
    go None f h = clash cc
    go (Some o) f h = (mnemonic m o, found ns m o f, refl)

-- ---- earlier rows
earlier_has : (t name : Text) (n j : ℕ) → j < n → four_of t j ≡ name → earlier t name n ≡ true
unfolding earlier
earlier_has t name zero j h e = absurd (omega arith)
earlier_has t name (suc n) j h e = go (eqb j n) refl (earlier_has t name n j)
  where
    go : (x : Bool) → eqb j n ≡ x → (j < n → four_of t j ≡ name → earlier t name n ≡ true) → (same (four_of t n) name || earlier t name n) ≡ true
    go true f ih = let z : j ≡ n = eqb-true j n f in let g : four_of t n ≡ name = rw z at e in rw (g, same_self name)
    go false f ih = let d = eqb-false j n f in or_true (same (four_of t n) name) (earlier t name n) (ih (omega arith) e)

earlier_is : (t name : Text) (n : ℕ) → earlier t name n ≡ true → (j : ℕ) × (j < n) × (four_of t j ≡ name)
unfolding earlier
earlier_is t name zero e = clash cc
earlier_is t name (suc n) e = go (same (four_of t n) name) refl (earlier_is t name n) e
  where
    go : (x : Bool) → same (four_of t n) name ≡ x → (earlier t name n ≡ true → (j : ℕ) × (j < n) × (four_of t j ≡ name)) → (x || earlier t name n) ≡ true
        → (j : ℕ) × (j < suc n) × (four_of t j ≡ name)
    go true f ih h = (n, omega arith, same_eq (four_of t n) name f)
    go false f ih h = let k = ih h in (k.0, (let l = k.1 in omega arith), k.2)

-- ---- the name of the row after the rows rs
module _ (rs : List Row) (s : Text) where
  abbrev t : Text
  t = rows_bytes rs ++ s

  abbrev k : ℕ
  k = length rs

  pub misnamed_is : misnamed t k ≡ true → Misnamed rs (row_at t k)
  unfolding misnamed four_of
  misnamed_is e = go (blank (byte_of t k 1)) refl (any_lower (four_of t k)) refl (earlier t (four_of t k) k) refl e
    where
      go : (x : Bool) → blank (byte_of t k 1) ≡ x → (y : Bool) → any_lower (four_of t k) ≡ y → (z : Bool) → earlier t (four_of t k) k ≡ z
          → (x || y || z || is_some (operation_in other_mnemonics (unpadded (four_of t k)))) ≡ true → Misnamed rs (row_at t k)
      go true f y g z h i = starts_blank (blank_is (byte_of t k 1) f)
      go false f true g z h i = let l = lower_is (four_of t k) g in lower_case l.1 l.2 l.3
      go false f false g true h i = let j = earlier_is t (four_of t k) k h in twice (front_rows rs s j.0 j.1).2 j.2
      go false f false g false h i =
          let n = some_found other_mnemonics (unpadded (four_of t k)) i in
          taken {n = n.0} n.1 (rw (← n.2) (padded_is (four_of t k)))

  pub is_misnamed : Misnamed rs (row_at t k) → misnamed t k ≡ true
  unfolding misnamed four_of
  is_misnamed (starts_blank b) = rw (is_blank b)
  is_misnamed (lower_case i l h) = any_2 (blank (byte_of t k 1)) (any_lower (four_of t k)) _ _ (is_lower i l h)
    where
      any_2 : (x y z w : Bool) → y ≡ true → (x || y || z || w) ≡ true
      any_2 true y z w e = refl
      any_2 false y z w e = rw e
  is_misnamed (twice {q} i e) =
      let c = front_command s i in
      let f : four_of t c.0 ≡ four q = ap four c.2 in
      any_3 (blank (byte_of t k 1)) (any_lower (four_of t k)) (earlier t (four_of t k) k) _ (earlier_has t (four_of t k) k c.0 c.1 (f ∙ e))
    where
      any_3 : (x y z w : Bool) → z ≡ true → (x || y || z || w) ≡ true
      any_3 true y z w e = refl
      any_3 false true z w e = refl
      any_3 false false z w e = rw e
  is_misnamed (taken {n} i p) =
      any_4 (blank (byte_of t k 1)) (any_lower (four_of t k)) (earlier t (four_of t k) k) _
      (rw (is_padded p) at (is_found i))
    where
      any_4 : (x y z w : Bool) → w ≡ true → (x || y || z || w) ≡ true
      any_4 true y z w e = refl
      any_4 false true z w e = refl
      any_4 false false true w e = refl
      any_4 false false false w e = e
