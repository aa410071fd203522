-- What is left of a recorded list after i rows are read, and the loop that puts its places into slices. Assumes nothing.
use Rattle.std.proofs.Common.{◌≡◌, ℕ, suc, ◌+◌, ◌-◌, ◌*◌, ◌<◌, ◌≤◌, List, [], ◌∷◌, map, length, drop, set, refl, ◌∙◌, arith, drop-drop}
use Rattle.rules.specs.Text.{Text}
use Rattle.rules.specs.Assemble.{Place, over}
use Rattle.text.proofs.Over.{Putting, putting_start, putting_one, putting_end, put_over}
use Rattle.recorded.specs.Recorded.{number_at, row_in, rows_in}

-- a part f of each place, from row i on
abbrev rows_from : (Place → ℕ) → Text → ℕ → ℕ → List ℕ
rows_from f t count i = map f (rows_in (count - i) (drop (7 * i) t))

-- the parts of the row at an index
pub row_address : (t : Text) (i : ℕ) → number_at i 4 t ≡ (row_in (drop i t)).address
unfolding row_in number_at
row_address t i = refl

pub row_word : (t : Text) (i : ℕ) → number_at (i + 4) 2 t ≡ (row_in (drop i t)).word
unfolding row_in number_at
row_word t i = rw (drop-drop 4 i t)

pub row_mark : (t : Text) (i : ℕ) → number_at (i + 6) 1 t ≡ (row_in (drop i t)).mark
unfolding row_in number_at
row_mark t i = rw (drop-drop 6 i t)

-- i parts f are in the slice l
abbrev pub Column : (Place → ℕ) → Text → ℕ → ℕ → List ℕ → List ℕ → Type 0
Column f t count i first l = Putting 0 (map f (rows_in count t)) first i (rows_from f t count i) l

module _ (f : Place → ℕ) (t : Text) (count : ℕ) where
  rows_more : (i v : ℕ) → i < count → v ≡ f (row_in (drop (7 * i) t)) → rows_from f t count i ≡ v ∷ rows_from f t count (i + 1)
  unfolding rows_in
  rows_more i v h e =
      let one : count - i ≡ suc (count - (i + 1)) = omega arith in
      let next : 7 * (i + 1) ≡ 7 * i + 7 = omega arith in
      rw (one, next, ← (drop-drop 7 (7 * i) t), e)

  rows_end : (i : ℕ) → count ≤ i → rows_from f t count i ≡ []
  unfolding rows_in
  rows_end i h = let none : count - i ≡ 0 = omega arith in rw none

  pub part_more : (i v : ℕ) (first l : List ℕ) → Column f t count i first l → i < count → i < length l → v ≡ f (row_in (drop (7 * i) t)) → Column f t count (i + 1) first (set l i v)
  part_more i v first l p h k e = putting_one p _ _ _ (rows_more i v h e) refl k

  pub part_all : (i : ℕ) (first l : List ℕ) → Column f t count i first l → count ≤ i → l ≡ over (map f (rows_in count t)) first
  part_all i first l p h = putting_end p (rows_end i h) ∙ put_over _ _
