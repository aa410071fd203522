-- Laws of a name's row in a table of labels: what `find` and `recorded` are by it; bounds on addresses. Assumes nothing.
use Rattle.std.specs.Prelude.{Option, None, Some}
use mathlib.Core.Path.{◌≡◌, refl, sym, ap, ◌∙◌}
use mathlib.Core.Bool.{Bool, true, false, false≢true}
use mathlib.Core.List.{[], ◌∷◌, ◌++◌}
use Prim.Native.Nat.{ℕ, zero, suc, ◌+◌, ◌<◌}
use native.Mathlib.Omega.{arith}
use lib.ListN.{length, set, get_or}
use Rattle.rules.specs.Text.{Text, same}
use Rattle.rules.specs.Label.{Label, Table, find, recorded}
use Rattle.text.specs.Find.{further}
use Rattle.text.proofs.Compare.{same_is, same_self}
use Rattle.label.specs.Table.{row_of, AllBelow, no_label, and_label}

-- ---- the clauses, by the test
module _ (n : Text) (l : Label) (t : Table) where
  module _ (e : same n l.name ≡ true) where
    pub row_here : row_of n (l ∷ t) ≡ Some 0
    unfolding row_of
    row_here = rw (e, row_of)

    find_here : find n (l ∷ t) ≡ Some l.address
    unfolding find
    find_here = rw (e, find)

  module _ (e : same n l.name ≡ false) where
    pub row_later : row_of n (l ∷ t) ≡ further 1 (row_of n t)
    unfolding row_of
    row_later = rw (e, row_of)

    find_later : find n (l ∷ t) ≡ find n t
    unfolding find
    find_later = rw (e, find)

module _ (x l : Label) (t : Table) where
  recorded_here : same x.name l.name ≡ true → recorded x (l ∷ t) ≡ x ∷ t
  unfolding recorded
  recorded_here e = rw (e, recorded)

  recorded_later : same x.name l.name ≡ false → recorded x (l ∷ t) ≡ l ∷ recorded x t
  unfolding recorded
  recorded_later e = rw (e, recorded)

-- ---- a name in row k, and a name in none
pub record RowAt (x d : Label) (t : Table) (k : ℕ) : Type 0 where
  pub within : k < length t
  pub named : x.name ≡ (get_or t k d).name
  pub found : find x.name t ≡ Some (get_or t k d).address
  pub again : recorded x t ≡ set t k x

pub row_at : (x d : Label) (t : Table) (k : ℕ) → row_of x.name t ≡ Some k → RowAt x d t k
unfolding row_of
row_at x d [] k h = let z : ◌≡◌ {A = ℕ} 0 1 = cc in absurd (omega arith)
row_at x d (l ∷ t) k h = go (same x.name l.name) refl (λ j p. row_at x d t j p)
  where
    first : same x.name l.name ≡ true → 0 ≡ k → RowAt x d (l ∷ t) k
    first e z = rw (← z) (record { within = omega arith; named = same_is x.name l.name e; found = find_here x.name l t e; again = recorded_here x l t e })

    behind : same x.name l.name ≡ false → (j : ℕ) → suc j ≡ k → RowAt x d t j → RowAt x d (l ∷ t) k
    behind e j z r =
        rw (← z) (record {
          within = omega arith;
          named = r.named;
          found = find_later x.name l t e ∙ r.found;
          again = recorded_later x l t e ∙ ap (λ (u : Table). l ∷ u) r.again;
        })

    rest : same x.name l.name ≡ false → (y : Option ℕ) → further 1 y ≡ Some k → ((j : ℕ) → y ≡ Some j → RowAt x d t j) → RowAt x d (l ∷ t) k
    rest e None q ih = let z : ◌≡◌ {A = ℕ} 0 1 = cc in absurd (omega arith)
    rest e (Some j) q ih = let z : 1 + j ≡ k = cc in behind e j (omega arith) (ih j refl)

    go : (y : Bool) → same x.name l.name ≡ y → ((j : ℕ) → row_of x.name t ≡ Some j → RowAt x d t j) → RowAt x d (l ∷ t) k
    go true e ih = first e (let p : ◌≡◌ {A = Option ℕ} (Some 0) (Some k) = sym (row_here x.name l t e) ∙ h in cc)
    go false e ih = rest e (row_of x.name t) (sym (row_later x.name l t e) ∙ h) ih

pub record NoRow (x d : Label) (t : Table) : Type 0 where
  pub absent : (k : ℕ) → k < length t → x.name ≡ (get_or t k d).name → ⊥
  pub nowhere : find x.name t ≡ None
  pub new : recorded x t ≡ t ++ (x ∷ [])

-- texts that do not compare as the same differ
pub not_same : (n m : Text) → same n m ≡ false → n ≡ m → ⊥
not_same n m e z = let c : true ≡ false = sym (same_self n) ∙ ap (same n) z ∙ e in absurd (false≢true (sym c))

pub no_row : (x d : Label) (t : Table) → row_of x.name t ≡ None → NoRow x d t
unfolding find recorded
no_row x d [] h = record { absent = λ k l e. omega arith; nowhere = refl; new = refl }
no_row x d (l ∷ t) h = go (same x.name l.name) refl (λ p. no_row x d t p)
  where
    other : same x.name l.name ≡ false → NoRow x d t → (k : ℕ) → k < length (l ∷ t) → x.name ≡ (get_or (l ∷ t) k d).name → ⊥
    other e r zero h = not_same x.name l.name e
    other e r (suc k) h = r.absent k (omega arith)

    rest : same x.name l.name ≡ false → (y : Option ℕ) → further 1 y ≡ None → (y ≡ None → NoRow x d t) → NoRow x d (l ∷ t)
    rest e None q ih =
        record {
          absent = other e (ih refl);
          nowhere = find_later x.name l t e ∙ (ih refl).nowhere;
          new = recorded_later x l t e ∙ ap (λ (u : Table). l ∷ u) (ih refl).new;
        }
    rest e (Some j) q ih = let z : ◌≡◌ {A = ℕ} 0 1 = cc in absurd (omega arith)

    go : (y : Bool) → same x.name l.name ≡ y → (row_of x.name t ≡ None → NoRow x d t) → NoRow x d (l ∷ t)
    go true e ih = let p : ◌≡◌ {A = Option ℕ} (Some 0) None = sym (row_here x.name l t e) ∙ h in let z : ◌≡◌ {A = ℕ} 0 1 = cc in absurd (omega arith)
    go false e ih = rest e (row_of x.name t) (sym (row_later x.name l t e) ∙ h) ih

-- ---- addresses below a bound
module _ {m : ℕ} where
  pub below_recorded : (x : Label) {t : Table} → x.address < m → AllBelow m t → AllBelow m (recorded x t)
  unfolding recorded
  below_recorded x h no_label = and_label h no_label
  below_recorded x h (and_label {l} {t} p b) = go (same x.name l.name) refl (below_recorded x h b)
    where
      go : (y : Bool) → same x.name l.name ≡ y → AllBelow m (recorded x t) → AllBelow m (recorded x (l ∷ t))
      go true e ih = rw (recorded_here x l t e) (and_label h b)
      go false e ih = rw (recorded_later x l t e) (and_label p ih)

  pub below_found : (n : Text) {t : Table} {a : ℕ} → AllBelow m t → find n t ≡ Some a → a < m
  unfolding find
  below_found n no_label q = let z : ◌≡◌ {A = ℕ} 0 1 = cc in absurd (omega arith)
  below_found n {a = a} (and_label {l} {t} p b) q = go (same n l.name) refl (λ r. below_found n b r)
    where
      go : (y : Bool) → same n l.name ≡ y → (find n t ≡ Some a → a < m) → a < m
      go true e ih = let r : Some l.address ≡ Some a = sym (find_here n l t e) ∙ q in let z : l.address ≡ a = cc in omega arith
      go false e ih = ih (sym (find_later n l t e) ∙ q)
