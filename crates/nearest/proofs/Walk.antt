-- The walk from the last label to the first: one label more, and what is known before each row. Assumes nothing.
use Rattle.std.specs.Prelude.{Option, None, Some, IfSome}
use Rattle.std.specs.Option.{option_map}
use mathlib.Core.Path.{◌≡◌, refl, sym, ap, ◌∙◌}
use mathlib.Core.Bool.{Bool, true, false, false≢true}
use mathlib.Core.List.{[], ◌∷◌}
use Prim.Native.Nat.{ℕ, suc, ◌-◌, ◌≤◌, ◌<◌}
use native.Mathlib.Omega.{arith}
use borrow.Author.Tests.{le-leb, leb-true}
use lib.Dec.{leb}
use lib.ListN.{length, drop, get_or, drop_of_length-le}
use lib.Seq.{drop-cons}
use Rattle.rules.specs.Label.{Label, Table}
use Rattle.requests.specs.Nearest.{nearer, nearer_of, nearest_in}
use Rattle.label.specs.Numbers.{numbers_of}
use Rattle.label.specs.declared.Row.{Row}
use Rattle.nearest.specs.Nearest.{with_label}

-- ---- a label by its numbers
pub nothing : (o : Option Label) → None ≡ option_map numbers_of o → o ≡ None
nothing None e = refl
nothing (Some l) e = absurd (false≢true cc)

pub record Numbered (x : Row) (o : Option Label) : Type 0 where
  pub label : Label
  pub is : o ≡ Some label
  pub numbers : x ≡ numbers_of label

pub numbered : (o : Option Label) (x : Row) → Some x ≡ option_map numbers_of o → Numbered x o
numbered None x e = absurd (false≢true cc)
numbered (Some l) x e = record { label = l; is = refl; numbers = cc }

-- ---- one label more
taken : (a : ℕ) (l : Label) (o : Option Label) → l.address ≤ a → with_label a l o ≡ Some (nearer_of l o)
taken a l o h = rw (le-leb l.address a h) refl

nearer_is : (l m : Label) → nearer l m ≡ true → nearer_of l (Some m) ≡ l
unfolding nearer_of
nearer_is l m e = rw e refl

nearer_not : (l m : Label) → nearer l m ≡ false → nearer_of l (Some m) ≡ m
unfolding nearer_of
nearer_not l m e = rw e refl

module _ {x : Row} (a : ℕ) (l : Label) (o : Option Label) (e : x ≡ numbers_of l) where
  module _ (h : x.address ≤ a) where
    pub row_alone : None ≡ option_map numbers_of o → Some x ≡ option_map numbers_of (with_label a l o)
    unfolding nearer_of
    row_alone f = rw (taken a l o (rw e at h), nothing o f, e) refl

    module _ {y : Row} {r : Bool} (f : Some y ≡ option_map numbers_of o) (g : (u v : Label) → x ≡ numbers_of u → y ≡ numbers_of v → r ≡ nearer u v) where
      pub row_nearer : r ≡ true → Some x ≡ option_map numbers_of (with_label a l o)
      row_nearer t =
          let n = numbered o y f in
          rw (taken a l o (rw e at h), n.is, nearer_is l n.label (sym (g l n.label e n.numbers) ∙ t), e) refl

      pub row_further : r ≡ false → Some y ≡ option_map numbers_of (with_label a l o)
      row_further t =
          let n = numbered o y f in
          f ∙ rw (taken a l o (rw e at h), n.is, nearer_not l n.label (sym (g l n.label e n.numbers) ∙ t)) refl

-- ---- before row k: the nearest of the rows from k on
module _ (t : Table) (a : ℕ) where
  pub walk_start : (k : ℕ) → length t ≤ k → None ≡ option_map numbers_of (nearest_in a (drop k t))
  unfolding nearest_in
  walk_start k h = rw (drop_of_length-le t h) refl

  pub walk_on : (k : ℕ) → 0 < k → k ≤ length t → {x : Row} {best next : Option Row} → ((d : Label) → x ≡ numbers_of (get_or t (k - 1) d))
      → ((l : Label) (o : Option Label) → x ≡ numbers_of l → best ≡ option_map numbers_of o → next ≡ option_map numbers_of (with_label a l o))
      → best ≡ option_map numbers_of (nearest_in a (drop k t)) → next ≡ option_map numbers_of (nearest_in a (drop (k - 1) t))
  unfolding nearest_in
  walk_on k p h r n w =
      let d : Label = record { name = []; start = 0; address = 0; line = 0 } in
      let z : k ≡ suc (k - 1) = omega arith in
      rw (drop-cons t (k - 1) d (omega arith)) (n (get_or t (k - 1) d) (nearest_in a (drop (suc (k - 1)) t)) (r d) (w ∙ ap (λ (i : ℕ). option_map numbers_of (nearest_in a (drop i t))) z))

  pub walk_end : (k : ℕ) → k ≤ 0 → {best : Option Row} → best ≡ option_map numbers_of (nearest_in a (drop k t)) → best ≡ option_map numbers_of (nearest_in a t)
  walk_end k h w = let z : k ≡ 0 = omega arith in rw z at w

-- ---- the nearest does not pass the address
low_nearer : (a : ℕ) (l : Label) (o : Option Label) → l.address ≤ a → IfSome o (λ (m : Label). m.address ≤ a) → (nearer_of l o).address ≤ a
unfolding nearer_of
low_nearer a l None h w = h
low_nearer a l (Some m) h w = go (nearer l m) refl
  where
    go : (y : Bool) → nearer l m ≡ y → (nearer_of l (Some m)).address ≤ a
    go true e = rw e h
    go false e = rw e w

low_with : (a : ℕ) (l : Label) (o : Option Label) → IfSome o (λ (m : Label). m.address ≤ a) → IfSome (with_label a l o) (λ (m : Label). m.address ≤ a)
low_with a l o w = go (leb l.address a) refl
  where
    go : (y : Bool) → leb l.address a ≡ y → IfSome (with_label a l o) (λ (m : Label). m.address ≤ a)
    go true e = rw e (low_nearer a l o (leb-true l.address a e) w)
    go false e = rw e w

low : (a : ℕ) (t : Table) → IfSome (nearest_in a t) (λ (m : Label). m.address ≤ a)
unfolding nearest_in
low a [] = tt
low a (l ∷ t) = low_with a l (nearest_in a t) (low a t)

low_numbers : (a : ℕ) (o : Option Label) → IfSome o (λ (m : Label). m.address ≤ a) → IfSome (option_map numbers_of o) (λ (x : Row). x.address ≤ a)
low_numbers a None w = tt
low_numbers a (Some m) w = w

pub row_low : (a : ℕ) (t : Table) {best : Option Row} → best ≡ option_map numbers_of (nearest_in a t) → IfSome best (λ (x : Row). x.address ≤ a)
row_low a t e = rw e (low_numbers a (nearest_in a t) (low a t))
