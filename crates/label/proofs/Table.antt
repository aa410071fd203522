-- Laws of the table read from its cells: its rows one by one, and what a row written or linked changes. Assumes nothing.
use mathlib.Core.Path.{◌≡◌, refl, sym, ap, ◌∙◌}
use mathlib.Core.Bool.{Bool, true, false}
use mathlib.Core.List.{List, [], ◌∷◌, ◌++◌}
use Prim.Native.Nat.{ℕ, zero, suc, ◌+◌, ◌≤◌, ◌<◌, min}
use native.Mathlib.Numerals.{add-one}
use native.Mathlib.Omega.{arith}
use borrow.Author.Tests.{eqb-true, eqb-false}
use lib.Dec.{eqb}
use lib.ListN.{length, set, take, drop, get_or, replicate, length-append, length-set, length-take, length-replicate, get_or-replicate, get_or-append, length-drop}
use lib.Seq.{length-take-le, get_or-take, get_or_at, get_or-set_same, get_or-set_other, drop-set-lt, ext_get_or}
use Rattle.rules.specs.Text.{Text}
use Rattle.text.specs.Breaks.{line_number}
use Rattle.rules.specs.Label.{Label}
use Rattle.label.specs.Table.{hashes, label_at, cell_of, row, table_of, name_at, last_with, Held}
use Rattle.label.specs.Record.{with_row, with_head}
use Rattle.label.specs.Numbers.{numbers_of, row_in}

-- ---- rows
module _ (source : Text) (cells : List ℕ) where
  pub table_empty : table_of source cells 0 ≡ []
  unfolding table_of
  table_empty = refl

  -- a table whose heads are all 0 holds no label
  held_empty : hashes ≤ length cells → ((h : ℕ) → h < hashes → get_or cells h 0 ≡ 0) → Held source cells 0
  unfolding last_with
  held_empty r z = record { rows = omega arith; within = λ k h. absurd (omega arith); differ = λ j k p q e. absurd (omega arith); heads = z; before = λ k h. absurd (omega arith) }

  pub table_length : (n : ℕ) → length (table_of source cells n) ≡ n
  unfolding table_of
  table_length zero = refl
  table_length (suc n) = rw length-append (omega (arith, table_length n))

  pub table_at : (n k : ℕ) (d : Label) → k < n → get_or (table_of source cells n) k d ≡ row source cells k
  unfolding table_of
  table_at zero k d h = absurd (omega arith)
  table_at (suc n) k d h = go (eqb k n) refl (λ l. table_at n k d l)
    where
      go : (y : Bool) → eqb k n ≡ y → (k < n → get_or (table_of source cells n) k d ≡ row source cells k)
          → get_or (table_of source cells (suc n)) k d ≡ row source cells k
      go true e ih = let z : k ≡ n = eqb-true k n e in rw z (get_or_at (table_of source cells n) (row source cells n) [] d n (table_length n))
      go false e ih =
          let l : k < n = omega (arith, eqb-false k n e) in
          get_or-append (table_of source cells n) (row source cells n ∷ []) d k (rw (table_length n) l) ∙ ih l

-- cells that begin with heads of 0
pub held_heads : (source : Text) {cells : List ℕ} → take hashes cells ≡ replicate hashes 0 → Held source cells 0
held_heads source {cells} e =
    let l : min hashes (length cells) ≡ hashes = rw (length-take hashes cells, length-replicate {A = ℕ} hashes 0) at (ap length e) in
    held_empty source cells (omega arith) (λ h b. sym (get_or-take hashes cells h 0 b) ∙ ap (λ (t : List ℕ). get_or t h 0) e ∙ get_or-replicate {A = ℕ} hashes h 0 0 b)

-- tables whose rows agree
table_same : (source : Text) (cells after : List ℕ) (n : ℕ) → ((k : ℕ) → k < n → row source after k ≡ row source cells k)
    → table_of source after n ≡ table_of source cells n
unfolding table_of
table_same source cells after zero f = refl
table_same source cells after (suc n) f = rw (table_same source cells after n (λ k h. f k (omega arith)), f n (omega arith))

-- ---- row k written
module _ (cells : List ℕ) (k s l a : ℕ) where
  abbrev one : List ℕ
  one = set cells (cell_of k) s

  abbrev two : List ℕ
  two = set one (cell_of k + 1) l

  abbrev after : List ℕ
  after = with_row cells k s l a

  pub length_with_row : length after ≡ length cells
  length_with_row = simp length-set

  -- after the first n rows
  pub drop_with_row : (n : ℕ) → k < n → drop (cell_of n) after ≡ drop (cell_of n) cells
  drop_with_row n h =
      drop-set-lt (cell_of n) two (cell_of k + 2) a (omega arith) ∙ drop-set-lt (cell_of n) one (cell_of k + 1) l (omega arith) ∙ drop-set-lt (cell_of n) cells (cell_of k) s (omega arith)

  -- a cell that is not one of the three
  cell_other : (i : ℕ) → (i ≡ cell_of k → ⊥) → (i ≡ cell_of k + 1 → ⊥) → (i ≡ cell_of k + 2 → ⊥) → get_or after i 0 ≡ get_or cells i 0
  cell_other i p q r = get_or-set_other two (cell_of k + 2) i a 0 r ∙ get_or-set_other one (cell_of k + 1) i l 0 q ∙ get_or-set_other cells (cell_of k) i s 0 p

  pub head_kept : (h : ℕ) → h < hashes → get_or after h 0 ≡ get_or cells h 0
  head_kept h b = cell_other h (λ e. omega arith) (λ e. omega arith) (λ e. omega arith)

  pub link_kept : (j : ℕ) → get_or after (cell_of j + 3) 0 ≡ get_or cells (cell_of j + 3) 0
  link_kept j = cell_other (cell_of j + 3) (λ e. omega arith) (λ e. omega arith) (λ e. omega arith)

  -- the cells of another row
  module _ (j : ℕ) (d : j ≡ k → ⊥) where
    pub start_other : get_or after (cell_of j) 0 ≡ get_or cells (cell_of j) 0
    start_other = cell_other (cell_of j) (λ e. d (omega arith)) (λ e. d (omega arith)) (λ e. d (omega arith))

    pub len_other : get_or after (cell_of j + 1) 0 ≡ get_or cells (cell_of j + 1) 0
    len_other = cell_other (cell_of j + 1) (λ e. d (omega arith)) (λ e. d (omega arith)) (λ e. d (omega arith))

    row_other : (source : Text) → row source after j ≡ row source cells j
    row_other source = rw (start_other, len_other, cell_other (cell_of j + 2) (λ e. d (omega arith)) (λ e. d (omega arith)) (λ e. d (omega arith)))

    pub name_other : (source : Text) → name_at source after j ≡ name_at source cells j
    name_other source = rw (start_other, len_other)

  module _ (h : cell_of k + 2 < length cells) where
    pub start_here : get_or after (cell_of k) 0 ≡ s
    start_here = get_or-set_other two (cell_of k + 2) (cell_of k) a 0 (λ e. omega arith) ∙ get_or-set_other one (cell_of k + 1) (cell_of k) l 0 (λ e. omega arith) ∙ get_or-set_same cells (cell_of k) s 0 (omega arith)

    pub len_here : get_or after (cell_of k + 1) 0 ≡ l
    len_here = get_or-set_other two (cell_of k + 2) (cell_of k + 1) a 0 (λ e. omega arith) ∙ get_or-set_same one (cell_of k + 1) l 0 (simp length-set (omega arith))

    row_written : (source : Text) → row source after k ≡ label_at source s l a
    row_written source = rw (start_here, len_here, get_or-set_same two (cell_of k + 2) a 0 (simp length-set (omega arith)))

    module _ (source : Text) where
      abbrev label : Label
      label = label_at source s l a

      pub name_here : name_at source after k ≡ label.name
      name_here = rw (start_here, len_here)

      -- among the first n rows
      pub table_set : (n : ℕ) → k < n → table_of source after n ≡ set (table_of source cells n) k label
      table_set n b =
          ext_get_or label (table_of source after n) (set (table_of source cells n) k label)
          (table_length source after n ∙ sym (length-set (table_of source cells n) k label ∙ table_length source cells n))
          (λ i q. at i (rw (table_length source after n) at q) (eqb i k) refl)
        where
          at : (i : ℕ) → i < n → (y : Bool) → eqb i k ≡ y → get_or (table_of source after n) i label ≡ get_or (set (table_of source cells n) k label) i label
          at i q true e =
              let z : i ≡ k = eqb-true i k e in
              rw z (table_at source after n k label b ∙ row_written source ∙ sym (get_or-set_same (table_of source cells n) k label label (rw (table_length source cells n) b)))
          at i q false e =
              let d : i ≡ k → ⊥ = eqb-false i k e in
              table_at source after n i label q ∙ row_other i d source ∙ sym (get_or-set_other (table_of source cells n) k i label label d ∙ table_at source cells n i label q)

      -- as the next row
      pub table_next : table_of source after (k + 1) ≡ table_of source cells k ++ (label ∷ [])
      unfolding table_of
      table_next = rw (add-one k) (rw (table_same source cells after k (λ j b. row_other j (λ e. omega arith) source), row_written source))

-- ---- row k put in front of the chain of the hash h
module _ (cells : List ℕ) (k h : ℕ) (b : h < hashes) where
  abbrev linked : List ℕ
  linked = with_head cells k h

  abbrev behind : List ℕ
  behind = set cells (cell_of k + 3) (get_or cells h 0)

  pub length_with_head : length linked ≡ length cells
  length_with_head = simp length-set

  pub drop_with_head : (n : ℕ) → k < n → drop (cell_of n) linked ≡ drop (cell_of n) cells
  drop_with_head n l = drop-set-lt (cell_of n) behind h (k + 1) (omega arith) ∙ drop-set-lt (cell_of n) cells (cell_of k + 3) (get_or cells h 0) (omega arith)

  -- a cell that is neither
  pub cell_kept : (i : ℕ) → (i ≡ cell_of k + 3 → ⊥) → (i ≡ h → ⊥) → get_or linked i 0 ≡ get_or cells i 0
  cell_kept i p q = get_or-set_other behind h i (k + 1) 0 q ∙ get_or-set_other cells (cell_of k + 3) i (get_or cells h 0) 0 p

  pub start_kept : (j : ℕ) → get_or linked (cell_of j) 0 ≡ get_or cells (cell_of j) 0
  start_kept j = cell_kept (cell_of j) (λ e. omega arith) (λ e. omega arith)

  pub len_kept : (j : ℕ) → get_or linked (cell_of j + 1) 0 ≡ get_or cells (cell_of j + 1) 0
  len_kept j = cell_kept (cell_of j + 1) (λ e. omega arith) (λ e. omega arith)

  pub name_kept : (source : Text) (j : ℕ) → name_at source linked j ≡ name_at source cells j
  name_kept source j = rw (start_kept j, len_kept j)

  pub table_kept : (source : Text) (n : ℕ) → table_of source linked n ≡ table_of source cells n
  table_kept source n =
      table_same source cells linked n (λ j l. rw (start_kept j, len_kept j, cell_kept (cell_of j + 2) (λ e. omega arith) (λ e. omega arith)))

  module _ (r : cell_of k + 3 < length cells) where
    pub head_now : get_or linked h 0 ≡ k + 1
    head_now = get_or-set_same behind h (k + 1) 0 (simp length-set (omega arith))

    pub link_now : get_or linked (cell_of k + 3) 0 ≡ get_or cells h 0
    link_now = get_or-set_other behind h (cell_of k + 3) (k + 1) 0 (λ e. omega arith) ∙ get_or-set_same cells (cell_of k + 3) (get_or cells h 0) 0 r

-- ---- a row's numbers
module _ {source : Text} {cells : List ℕ} {count : ℕ} (held : Held source cells count) where
  -- a name is as long as its row says
  pub name_length : (k : ℕ) → k < count → length (name_at source cells k) ≡ get_or cells (cell_of k + 1) 0
  name_length k l =
      length-take-le (get_or cells (cell_of k + 1) 0) (drop (get_or cells (cell_of k) 0) source) (rw length-drop (omega (arith, held.within k l)))

  pub numbers_at : {k : ℕ} (d : Label) → k < count → row_in cells k ≡ numbers_of (get_or (table_of source cells count) k d)
  numbers_at {k} d l = rw (table_at source cells count k d l, name_length k l)

-- a label's start tells its line
pub line_told : (source : Text) (cells : List ℕ) (count k : ℕ) (d : Label) → k < length (table_of source cells count)
    → (get_or (table_of source cells count) k d).line ≡ line_number source (get_or (table_of source cells count) k d).start
line_told source cells count k d h = rw (table_at source cells count k d (omega (arith, table_length source cells count)))
