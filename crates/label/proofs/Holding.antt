-- Laws of a table that is held: after a row written again, and after one more row that is linked. Assumes nothing.
use mathlib.Core.Path.{◌≡◌, refl, sym, ap, ◌∙◌}
use mathlib.Core.Bool.{Bool, true, false}
use mathlib.Core.List.{List}
use Prim.Native.Nat.{ℕ, suc, ◌+◌, ◌≤◌, ◌<◌}
use native.Mathlib.Numerals.{add-one}
use native.Mathlib.Omega.{arith}
use borrow.Author.Tests.{eqb-true, eqb-false}
use lib.Dec.{eqb}
use lib.ListN.{length, take, drop, get_or}
use Rattle.rules.specs.Text.{Text}
use Rattle.label.specs.Table.{hashes, hash_of, cell_of, name_at, hash_at, last_with, Held}
use Rattle.label.specs.Record.{with_row, with_head}
use Rattle.label.proofs.Chain.{hash_below, last_here, last_before, last_same}
use Rattle.label.proofs.Table.{length_with_row, head_kept, link_kept, start_other, len_other, name_other, start_here, len_here, name_here, length_with_head, cell_kept, start_kept, len_kept, name_kept, head_now, link_now}

module _ (source : Text) (cells : List ℕ) (k s l a : ℕ) (inside : s + l ≤ length source) (h : cell_of k + 2 < length cells) where
  abbrev name : Text
  name = take l (drop s source)

  abbrev after : List ℕ
  after = with_row cells k s l a

  -- a row's name lies in the source
  row_within : (j : ℕ) → ((j ≡ k → ⊥) → get_or cells (cell_of j) 0 + get_or cells (cell_of j + 1) 0 ≤ length source)
      → get_or after (cell_of j) 0 + get_or after (cell_of j + 1) 0 ≤ length source
  row_within j w = go (eqb j k) refl
    where
      go : (y : Bool) → eqb j k ≡ y → get_or after (cell_of j) 0 + get_or after (cell_of j + 1) 0 ≤ length source
      go true e = let z : j ≡ k = eqb-true j k e in rw (z, start_here cells k s l a h, len_here cells k s l a h) inside
      go false e = let d : j ≡ k → ⊥ = eqb-false j k e in rw (start_other cells k s l a j d, len_other cells k s l a j d) (w d)

  -- ---- row k written again, with its own name
  module _ (count : ℕ) (held : Held source cells count) (own : name ≡ name_at source cells k) where
    name_again : (j : ℕ) → name_at source after j ≡ name_at source cells j
    name_again j = go (eqb j k) refl
      where
        go : (y : Bool) → eqb j k ≡ y → name_at source after j ≡ name_at source cells j
        go true e = let z : j ≡ k = eqb-true j k e in rw z (name_here cells k s l a h source ∙ own)
        go false e = name_other cells k s l a j (eqb-false j k e) source

    last_again : (x n : ℕ) → last_with (hash_at source cells) x n ≡ last_with (hash_at source after) x n
    last_again x n = last_same (hash_at source cells) (hash_at source after) x n (λ j b. ap hash_of (sym (name_again j)))

    pub held_again : Held source after count
    held_again =
        record {
          rows = rw (length_with_row cells k s l a) held.rows;
          within = λ j b. row_within j (λ d. held.within j b);
          differ = λ i j p q e. held.differ i j p q (sym (name_again i) ∙ e ∙ name_again j);
          heads = λ x b. head_kept cells k s l a x b ∙ held.heads x b ∙ last_again x count;
          before = λ j b. link_kept cells k s l a j ∙ held.before j b ∙ last_again (hash_at source cells j) j
              ∙ ap (λ (n : Text). last_with (hash_at source after) (hash_of n) j) (sym (name_again j));
        }

-- ---- row k written as the next, and linked
module _ (source : Text) (cells : List ℕ) (k s l a : ℕ) (inside : s + l ≤ length source) (r : cell_of (k + 1) ≤ length cells)
    (held : Held source cells k) (new : (j : ℕ) → j < k → take l (drop s source) ≡ name_at source cells j → ⊥) where
  abbrev hash : ℕ
  hash = hash_of (take l (drop s source))

  abbrev written : List ℕ
  written = with_row cells k s l a

  abbrev linked : List ℕ
  linked = with_head written k hash

  hash_ok : hash < hashes
  hash_ok = hash_below (take l (drop s source))

  within_cells : cell_of k + 2 < length cells
  within_cells = omega arith

  within_written : cell_of k + 3 < length written
  within_written = rw (length_with_row cells k s l a) (omega arith)

  name_old : (j : ℕ) → j < k → name_at source linked j ≡ name_at source cells j
  name_old j b = name_kept written k hash hash_ok source j ∙ name_other cells k s l a j (λ e. omega arith) source

  name_new : name_at source linked k ≡ take l (drop s source)
  name_new = name_kept written k hash hash_ok source k ∙ name_here cells k s l a within_cells source

  last_old : (x n : ℕ) → n ≤ k → last_with (hash_at source cells) x n ≡ last_with (hash_at source linked) x n
  last_old x n m = last_same (hash_at source cells) (hash_at source linked) x n (λ j b. ap hash_of (sym (name_old j (omega arith))))

  within_next : (j : ℕ) → j < k + 1 → get_or linked (cell_of j) 0 + get_or linked (cell_of j + 1) 0 ≤ length source
  within_next j b =
      rw (start_kept written k hash hash_ok j, len_kept written k hash hash_ok j)
      (row_within source cells k s l a inside within_cells j (λ d. held.within j (omega arith)))

  differ_next : (i j : ℕ) → i < k + 1 → j < k + 1 → name_at source linked i ≡ name_at source linked j → i ≡ j
  differ_next i j p q e = go (eqb i k) refl (eqb j k) refl
    where
      go : (x : Bool) → eqb i k ≡ x → (y : Bool) → eqb j k ≡ y → i ≡ j
      go true f true g = eqb-true i k f ∙ sym (eqb-true j k g)
      go true f false g =
          let b : j < k = omega (arith, eqb-false j k g) in
          let z : i ≡ k = eqb-true i k f in
          absurd (new j b (sym name_new ∙ (rw z at e) ∙ name_old j b))
      go false f true g =
          let b : i < k = omega (arith, eqb-false i k f) in
          let z : j ≡ k = eqb-true j k g in
          absurd (new i b (sym name_new ∙ sym (rw z at e) ∙ name_old i b))
      go false f false g =
          let b : i < k = omega (arith, eqb-false i k f) in
          let c : j < k = omega (arith, eqb-false j k g) in
          held.differ i j b c (sym (name_old i b) ∙ e ∙ name_old j c)

  head_next : (x : ℕ) → x < hashes → get_or linked x 0 ≡ last_with (hash_at source linked) x (suc k)
  head_next x b = go (eqb x hash) refl
    where
      go : (y : Bool) → eqb x hash ≡ y → get_or linked x 0 ≡ last_with (hash_at source linked) x (suc k)
      go true e =
          let z : x ≡ hash = eqb-true x hash e in
          rw z (head_now written k hash hash_ok within_written ∙ add-one k ∙ sym (last_here (hash_at source linked) hash k (ap hash_of name_new)))
      go false e =
          let d : x ≡ hash → ⊥ = eqb-false x hash e in
          cell_kept written k hash hash_ok x (λ f. omega arith) d ∙ head_kept cells k s l a x b ∙ held.heads x b ∙ last_old x k (omega arith)
          ∙ sym (last_before (hash_at source linked) x k (λ f. d (sym f ∙ ap hash_of name_new)))

  before_next : (j : ℕ) → j < k + 1 → get_or linked (cell_of j + 3) 0 ≡ last_with (hash_at source linked) (hash_at source linked j) j
  before_next j b = go (eqb j k) refl
    where
      go : (y : Bool) → eqb j k ≡ y → get_or linked (cell_of j + 3) 0 ≡ last_with (hash_at source linked) (hash_at source linked j) j
      go true e =
          let z : j ≡ k = eqb-true j k e in
          rw (z, name_new) (link_now written k hash hash_ok within_written ∙ head_kept cells k s l a hash hash_ok ∙ held.heads hash hash_ok ∙ last_old hash k (omega arith))
      go false e =
          let c : j < k = omega (arith, eqb-false j k e) in
          rw (name_old j c)
          (cell_kept written k hash hash_ok (cell_of j + 3) (λ f. omega arith) (λ f. omega (arith, hash_ok)) ∙ link_kept cells k s l a j ∙ held.before j c ∙ last_old (hash_at source cells j) j (omega arith))

  pub held_next : Held source linked (k + 1)
  held_next =
      record {
        rows = rw (length_with_head written k hash hash_ok, length_with_row cells k s l a) r;
        within = within_next;
        differ = differ_next;
        heads = λ x b. head_next x b ∙ ap (last_with (hash_at source linked) x) (sym (add-one k));
        before = before_next;
      }
