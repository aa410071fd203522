-- The search for the next row, from the last row to the first: two rows compared, and what is known before each row. Assumes nothing.
use Rattle.std.specs.Prelude.{Option, None, Some}
use Rattle.std.specs.Option.{option_map}
use mathlib.Core.Path.{◌≡◌, refl, sym, ap, ◌∙◌}
use mathlib.Core.Bool.{false≢true}
use mathlib.Core.List.{[]}
use Prim.Native.Nat.{ℕ, suc, ◌-◌, ◌≤◌, ◌<◌}
use native.Mathlib.Omega.{arith}
use borrow.Author.Tests.{lt-ltb, le-ltb}
use lib.ListN.{length, drop, get_or, drop_of_length-le}
use lib.Seq.{drop-cons}
use Rattle.rules.specs.Label.{Label, Table}
use Rattle.label.specs.Numbers.{numbers_of}
use Rattle.label.specs.declared.Row.{Row}
use Rattle.symbols.specs.Symbols.{earlier_of, next_in}

-- ---- a label by its numbers
pub nothing : (o : Option Label) → None ≡ option_map numbers_of o → o ≡ None
nothing None e = refl
nothing (Some l) e = absurd (false≢true cc)

pub record Numbered (x : Row) (o : Option Label) : Type 0 where
  pub label : Label
  pub is : o ≡ Some label
  pub numbers : x ≡ numbers_of label

pub numbered : (o : Option Label) (x : Row) → Some x ≡ option_map numbers_of o → Numbered x o
numbered None x e = absurd (false≢true cc)
numbered (Some l) x e = record { label = l; is = refl; numbers = cc }

-- ---- two labels
module _ (i : ℕ) (l : Label) where
  pub too_early : (o : Option Label) → l.start < i → earlier_of i l o ≡ o
  unfolding earlier_of
  too_early None h = rw (lt-ltb l.start i h)
  too_early (Some m) h = rw (lt-ltb l.start i h)

  module _ (h : i ≤ l.start) where
    pub alone_is : earlier_of i l None ≡ Some l
    unfolding earlier_of
    alone_is = rw (le-ltb l.start i h)

    pub first_is : (m : Label) → l.start < m.start → earlier_of i l (Some m) ≡ Some l
    unfolding earlier_of
    first_is m k = rw (le-ltb l.start i h, lt-ltb l.start m.start k)

    pub second_is : (m : Label) → m.start ≤ l.start → earlier_of i l (Some m) ≡ Some m
    unfolding earlier_of
    second_is m k = rw (le-ltb l.start i h, le-ltb l.start m.start k)

-- ---- two rows
module _ {x : Row} (i : ℕ) (l : Label) (o : Option Label) (e : x ≡ numbers_of l) where
  pub row_early : x.start < i → {best : Option Row} → best ≡ option_map numbers_of o → best ≡ option_map numbers_of (earlier_of i l o)
  row_early h f = f ∙ ap (option_map numbers_of) (sym (too_early i l o (rw e at h)))

  module _ (h : i ≤ x.start) where
    pub row_alone : None ≡ option_map numbers_of o → Some x ≡ option_map numbers_of (earlier_of i l o)
    row_alone f = rw (nothing o f, alone_is i l (rw e at h), e) refl

    module _ {y : Row} (f : Some y ≡ option_map numbers_of o) where
      pub row_first : x.start < y.start → Some x ≡ option_map numbers_of (earlier_of i l o)
      row_first k =
          let n = numbered o y f in
          rw (n.is, first_is i l (rw e at h) n.label (rw (e, n.numbers) at k), e) refl

      pub row_second : y.start ≤ x.start → Some y ≡ option_map numbers_of (earlier_of i l o)
      row_second k =
          let n = numbered o y f in
          f ∙ rw (n.is, second_is i l (rw e at h) n.label (rw (e, n.numbers) at k)) refl

-- ---- before row k: the next of the rows from k on
module _ (t : Table) (i : ℕ) where
  pub walk_start : (k : ℕ) → length t ≤ k → None ≡ option_map numbers_of (next_in i (drop k t))
  unfolding next_in
  walk_start k h = rw (drop_of_length-le t h) refl

  pub walk_on : (k : ℕ) → 0 < k → k ≤ length t → {x : Row} {best next : Option Row} → ((d : Label) → x ≡ numbers_of (get_or t (k - 1) d))
      → ((l : Label) (o : Option Label) → x ≡ numbers_of l → best ≡ option_map numbers_of o → next ≡ option_map numbers_of (earlier_of i l o))
      → best ≡ option_map numbers_of (next_in i (drop k t)) → next ≡ option_map numbers_of (next_in i (drop (k - 1) t))
  unfolding next_in
  walk_on k p h r n w =
      let d : Label = record { name = []; start = 0; address = 0; line = 0 } in
      let z : k ≡ suc (k - 1) = omega arith in
      rw (drop-cons t (k - 1) d (omega arith)) (n (get_or t (k - 1) d) (next_in i (drop (suc (k - 1)) t)) (r d) (w ∙ ap (λ (j : ℕ). option_map numbers_of (next_in i (drop j t))) z))
