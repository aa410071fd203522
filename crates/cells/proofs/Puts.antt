-- What lines ask, by the lines before them; one line more kept; and one line after another. Assumes nothing.
use mathlib.Core.Path.{◌≡◌, refl, ◌∙◌}
use mathlib.Core.Bool.{Bool, true, false}
use mathlib.Core.List.{List, [], ◌∷◌, ◌++◌}
use Prim.Native.Nat.{ℕ, zero, suc, ◌≤◌, ◌<◌}
use native.Mathlib.Omega.{arith}
use lib.Dec.{ltb}
use lib.ListN.{length, drop, get_or, length-append, get_or-append}
use lib.Seq.{drop-cons, get_or-append_seam}
use borrow.Author.Tests.{ltb-true, ltb-false}
use Rattle.rules.specs.Text.{Text}
use Rattle.rules.specs.Assemble.{Sizes, Put}
use Rattle.line.specs.Line.{task_at}
use Rattle.cells.specs.Cells.{after_by, head_cell, tail_cell, kept_by, kept_at, InCells, Fits}
use Rattle.cells.specs.Puts.{address_at, put_at, puts_of, Tells, LinesIn}
use Rattle.cells.specs.declared.Kept.{Kept}
use Rattle.cells.proofs.Cells.{with_length, with_other, with_kept, with_back}

-- ---- only the lines before matter

abbrev pub SameLines : List ℕ → List ℕ → ℕ → Type 0
SameLines c d n = (j : ℕ) → j < n → kept_at c j ≡ kept_at d j

after_same : (base : ℕ) {a b : ℕ} {k l : Kept} → a ≡ b → k ≡ l → after_by base a k ≡ after_by base b l
after_same base e f = rw (e, f)

more_same : (source : Text) {ps qs : List Put} {a b : ℕ} {k l : Kept} → ps ≡ qs → a ≡ b → k ≡ l
    → ps ++ (record { address = a; task = task_at source k.task } ∷ []) ≡ qs ++ (record { address = b; task = task_at source l.task } ∷ [])
more_same source d e f = rw (d, e, f)

module _ (base : ℕ) (c d : List ℕ) where
  pub address_same : (n : ℕ) → SameLines c d n → address_at base c n ≡ address_at base d n
  unfolding address_at
  address_same zero h = refl
  address_same (suc n) h = after_same base (address_same n (λ j l. h j (omega arith))) (h n (omega arith))

  pub puts_same : (source : Text) (n : ℕ) → SameLines c d n → puts_of source base c n ≡ puts_of source base d n
  unfolding puts_of
  puts_same source zero h = refl
  puts_same source (suc n) h =
      let before : SameLines c d n = (λ j l. h j (omega arith)) in
      more_same source (puts_same source n before) (address_same n before) (h n (omega arith))

-- ---- line n kept after the n lines before it
module _ (cells : List ℕ) (n : ℕ) (r : Kept) (room : InCells cells n) (fits : Fits r) where
  same_before : SameLines (with_kept cells n r) cells n
  same_before j l = with_other cells n (head_cell r) (tail_cell r.task) kept_by j (λ e. omega arith)

  pub address_more : (base : ℕ) → address_at base (with_kept cells n r) (suc n) ≡ after_by base (address_at base cells n) r
  unfolding address_at
  address_more base = after_same base (address_same base _ cells n same_before) (with_back cells n r room fits)

  pub puts_more : (source : Text) (base : ℕ) → puts_of source base (with_kept cells n r) (suc n) ≡ puts_of source base cells n ++ (record { address = address_at base cells n; task = task_at source r.task } ∷ [])
  unfolding puts_of
  puts_more source base = more_same source (puts_same base _ cells source n same_before) (address_same base _ cells n same_before) (with_back cells n r room fits)

  pub lines_more : (z : Sizes) (source : Text) → LinesIn z source cells n → Tells z source r → LinesIn z source (with_kept cells n r) (suc n)
  lines_more z source h t =
      record { room = omega (arith, with_length cells n (head_cell r) (tail_cell r.task), room.room); line = λ k l. go k l (ltb k n) refl }
    where
      go : (k : ℕ) → k < suc n → (y : Bool) → ltb k n ≡ y → Tells z source (kept_at (with_kept cells n r) k)
      go k l true e = rw (same_before k (ltb-true _ _ e)) (h.line k (ltb-true _ _ e))
      go k l false e =
          let d : n ≤ k = ltb-false k n e in
          let m : k ≡ n = omega arith in
          rw (m, with_back cells n r room fits) t

-- ---- one line after another
module _ (source : Text) (base : ℕ) (cells : List ℕ) where
  pub puts_length : (n : ℕ) → length (puts_of source base cells n) ≡ n
  unfolding puts_of
  puts_length zero = refl
  puts_length (suc n) = rw (length-append, puts_length n) (omega arith)

  pub put_at_lem : (n k : ℕ) (d : Put) → k < n → get_or (puts_of source base cells n) k d ≡ put_at source base cells k
  unfolding puts_of
  put_at_lem zero k d h = elim h [ ]
  put_at_lem (suc n) k d h = go (ltb k n) refl (put_at_lem n k d)
    where
      go : (y : Bool) → ltb k n ≡ y → (k < n → get_or (puts_of source base cells n) k d ≡ put_at source base cells k) → get_or (puts_of source base cells n ++ (put_at source base cells n ∷ [])) k d ≡ put_at source base cells k
      go true e ih = get_or-append (puts_of source base cells n) (put_at source base cells n ∷ []) d k (rw puts_length (ltb-true _ _ e)) ∙ ih (ltb-true _ _ e)
      go false e ih =
          let z : n ≤ k = ltb-false k n e in
          let m : k ≡ n = omega arith in
          rw m (rw (puts_length n) at (get_or-append_seam (puts_of source base cells n) (put_at source base cells n) [] d))

  -- what the lines from k on ask
  pub puts_next : (n k : ℕ) → k < n → drop k (puts_of source base cells n) ≡ put_at source base cells k ∷ drop (suc k) (puts_of source base cells n)
  puts_next n k h = rw (drop-cons (puts_of source base cells n) k (put_at source base cells k) (rw puts_length h), put_at_lem n k (put_at source base cells k) h)
