-- Labels in order, and the slices that hold a part of each. Assumes nothing.
use Prim.Native.Nat.{ℕ, zero, suc, ◌+◌, ◌<◌}
use mathlib.Core.Path.{◌≡◌, refl, ap, ◌∙◌}
use mathlib.Core.List.{List, [], ◌∷◌, map}
use native.Mathlib.Omega.{arith}
use lib.ListN.{length, get_or, length-map}
use Rattle.rules.specs.Text.{Text}
use Rattle.rules.specs.Label.{Label}
use Rattle.requests.specs.Symbols.{Rows}
use Rattle.promises.specs.Symbols.{IsEntry}
use Rattle.promises.proofs.Compared.{clash}
use Rattle.symtext.specs.Rows.{label_at, labels_from}

-- a list has an entry at each place inside
pub entry_at : (l : List Label) (k : ℕ) → k < length l → (x : Label) × IsEntry l k x
entry_at [] k h = absurd (omega arith)
entry_at (x ∷ l) zero h = (x, refl)
entry_at (x ∷ l) (suc k) h = entry_at l k (omega arith)

mapped_at : (f : Label → ℕ) (l : List Label) (k : ℕ) (x : Label) → IsEntry l k x → get_or (map f l) k 0 ≡ f x
mapped_at f [] k x e = clash cc
mapped_at f (y ∷ l) zero x e = let u : y ≡ x = cc in ap f u
mapped_at f (y ∷ l) (suc k) x e = mapped_at f l k x e

-- in a slice that holds a part f of each label
module _ (f : Label → ℕ) (l : List Label) (ys : List ℕ) (h : ys ≡ map f l) where
  pub held_at : (k : ℕ) (x : Label) → IsEntry l k x → get_or ys k 0 ≡ f x
  held_at k x i = ap (λ (z : List ℕ). get_or z k 0) h ∙ mapped_at f l k x i

  pub held_long : length ys ≡ length l
  held_long = ap length h ∙ length-map l f

-- rows that are a list's entries make the list
pub from_entries : (s : Text) (y : Rows) (l : List Label) (k : ℕ) → ((i : ℕ) (x : Label) → IsEntry l i x → i < length l → label_at s y (k + i) ≡ x)
    → labels_from s y k (length l) ≡ l
unfolding labels_from
from_entries s y [] k f = refl
from_entries s y (x ∷ l) k f =
    let z : k + 0 ≡ k = omega arith in
    let first : label_at s y k ≡ x = rw z at (f 0 x refl (omega arith)) in
    rw
    (first, from_entries s y l (suc k) (λ i m e h. let n : k + suc i ≡ suc k + i = omega arith in rw n at (f (suc i) m e (omega arith))))
