-- Laws of the search: what its loops over a hash's rows and over bytes keep, and what its answer says. Assumes nothing.
use Rattle.std.specs.Prelude.{Option, None, Some}
use mathlib.Core.Path.{◌≡◌, refl, sym, ap, ◌∙◌}
use mathlib.Core.Bool.{Bool, true, false}
use mathlib.Core.List.{List}
use Prim.Native.Nat.{ℕ, suc, ◌+◌, ◌≤◌, ◌<◌}
use native.Mathlib.Omega.{arith}
use borrow.Author.Tests.{eqb-true, eqb-false}
use lib.Dec.{eqb}
use lib.ListN.{length, take, drop, get_or, length-take, length-drop}
use lib.Seq.{ext_get_or, get_or-take, get_or-drop}
use Rattle.rules.specs.Text.{Text}
use Rattle.rules.specs.Label.{Label, Table, find}
use Rattle.label.specs.Table.{hash_of, cell_of, row, table_of, name_at, hash_at, last_with, Held, row_of}
use Rattle.label.proofs.Rows.{RowAt, row_at, no_row}
use Rattle.label.proofs.Chain.{hash_below, Last, last}
use Rattle.label.proofs.Table.{table_length, table_at, name_length}

-- a label of that name
abbrev named : Text → Label
named n = record { name = n; start = 0; address = 0; line = 1 }

-- ---- a name's row, by what its rows are
module _ (source : Text) (cells : List ℕ) (count : ℕ) (name : Text) where
  abbrev labels : Table
  labels = table_of source cells count

  row_named : (k : ℕ) → row_of name labels ≡ Some k → (k < count) × (name ≡ name_at source cells k)
  row_named k e =
      let x : Label = row source cells k in
      let r : RowAt (named name) x labels k = row_at (named name) x labels k e in
      let b : k < count = omega (arith, r.within, table_length source cells count) in
      (b, r.named ∙ ap (λ (l : Label). l.name) (table_at source cells count k x b))

  -- no row bears the name
  row_none : ((j : ℕ) → j < count → name ≡ name_at source cells j → ⊥) → None ≡ row_of name labels
  row_none d = go (row_of name labels) refl
    where
      go : (y : Option ℕ) → row_of name labels ≡ y → None ≡ row_of name labels
      go None e = sym e
      go (Some j) e = let r = row_named j e in absurd (d j r.0 r.1)

  -- row k bears it
  row_hit : Held source cells count → (k : ℕ) → k < count → name_at source cells k ≡ name → Some k ≡ row_of name labels
  row_hit held k b n = go (row_of name labels) refl
    where
      go : (y : Option ℕ) → row_of name labels ≡ y → Some k ≡ row_of name labels
      go None e =
          let x : Label = row source cells k in
          let z : get_or labels k x ≡ x = table_at source cells count k x b in
          absurd ((no_row (named name) x labels e).absent k (omega (arith, table_length source cells count)) (sym n ∙ ap (λ (l : Label). l.name) (sym z)))
      go (Some j) e = let r = row_named j e in rw e (ap Some (held.differ k j b r.0 (n ∙ r.1)))

-- ---- the loop over the rows of a hash
-- what it keeps: row k, counted from 1, is of the name's hash, and no row from k on bears the name
pub record Left (source : Text) (cells : List ℕ) (count : ℕ) (name : Text) (k : ℕ) : Type 0 where
  pub upto : k ≤ count
  pub hash : (j : ℕ) → k ≡ suc j → hash_at source cells j ≡ hash_of name
  pub above : (j : ℕ) → k ≤ j → j < count → name ≡ name_at source cells j → ⊥

-- the row is in the cell `link`
pub record Linked (source : Text) (cells : List ℕ) (count : ℕ) (name : Text) (link : ℕ) : Type 0 where
  pub there : link < length cells
  pub left : Left source cells count name (get_or cells link 0)

-- ---- the loop over a row's bytes
-- what it keeps: so far they are the name's; and what it comes to if they all are, or if one is not
pub record Bytes (source : Text) (cells : List ℕ) (count : ℕ) (name : Text) (start row link i : ℕ) : Type 0 where
  pub inside : start + length name ≤ length source
  pub so_far : (j : ℕ) → j < i → get_or source (start + j) 0 ≡ get_or name j 0
  pub hit : take (length name) (drop start source) ≡ name → Some row ≡ row_of name (table_of source cells count)
  pub miss : (take (length name) (drop start source) ≡ name → ⊥) → Linked source cells count name link

module _ {source : Text} {cells : List ℕ} {count : ℕ} {name : Text} where
  -- from the head of the hash on
  pub linked_start : {h : ℕ} → Held source cells count → h ≡ hash_of name → Linked source cells count name h
  linked_start held e =
      let b = hash_below name in
      let l : Last (hash_at source cells) (hash_of name) count (last_with (hash_at source cells) (hash_of name) count) = last (hash_at source cells) (hash_of name) count in
      rw e
      (record {
        there = omega (arith, b, held.rows);
        left = rw (held.heads (hash_of name) b) (record { upto = l.upto; hash = l.hash; above = λ j p q n. l.above j p q (ap hash_of (sym n)) });
      })

  module _ {link : ℕ} (inv : Linked source cells count name link) where
    pub linked_none : get_or cells link 0 ≡ 0 → None ≡ row_of name (table_of source cells count)
    linked_none z = row_none source cells count name (λ j b. inv.left.above j (omega arith) b)

    -- row k
    module _ {k : ℕ} (held : Held source cells count) (f : get_or cells link 0 ≡ suc k) where
      row_upto : k < count
      row_upto = omega (arith, inv.left.upto)

      -- its cells are there
      pub row_inside : cell_of (k + 1) ≤ length cells
      row_inside = omega (arith, row_upto, held.rows)

      -- it does not bear the name
      module _ (d : name_at source cells k ≡ name → ⊥) where
        passed : (j : ℕ) → (j < k → ⊥) → j < count → (y : Bool) → eqb j k ≡ y → name ≡ name_at source cells j → ⊥
        passed j a b true e n = let z : j ≡ k = eqb-true j k e in d (sym (rw z at n))
        passed j a b false e n = inv.left.above j (omega (arith, eqb-false j k e)) b n

        row_not : Linked source cells count name (cell_of k + 3)
        row_not =
            let l : Last (hash_at source cells) (hash_of name) k (last_with (hash_at source cells) (hash_of name) k) = last (hash_at source cells) (hash_of name) k in
            record {
              there = omega (arith, row_inside);
              left = rw (held.before k row_upto, inv.left.hash k f)
                  (record {
                    upto = omega (arith, l.upto, row_upto);
                    hash = l.hash;
                    above = λ j b c n. passed j (λ q. l.above j b q (ap hash_of (sym n))) c (eqb j k) refl n;
                  });
            }

      -- as it is of another length
      pub other_length : (get_or cells (cell_of k + 1) 0 ≡ length name → ⊥) → Linked source cells count name (cell_of k + 3)
      other_length d = row_not (λ n. d (sym (name_length held k row_upto) ∙ ap length n))

      -- or of the same
      pub bytes_start : get_or cells (cell_of k + 1) 0 ≡ length name → Bytes source cells count name (get_or cells (cell_of k) 0) k (cell_of k + 3) 0
      bytes_start e =
          let same = ap (λ (n : ℕ). take n (drop (get_or cells (cell_of k) 0) source)) e in
          record {
            inside = omega (arith, held.within k row_upto);
            so_far = λ j b. absurd (omega arith);
            hit = λ n. row_hit source cells count name held k row_upto (same ∙ n);
            miss = λ d. row_not (λ n. d (sym same ∙ n));
          }

      -- the row before it is nearer to the first
      pub row_nearer : get_or cells (cell_of k + 3) 0 < get_or cells link 0
      row_nearer =
          let l = last (hash_at source cells) (hash_at source cells k) k in
          rw (held.before k row_upto) (omega (arith, l.upto))

module _ {source : Text} {cells : List ℕ} {count : ℕ} {name : Text} {start row link i : ℕ} (inv : Bytes source cells count name start row link i) where
  part_at : (j : ℕ) → j < length name → get_or (take (length name) (drop start source)) j 0 ≡ get_or source (start + j) 0
  part_at j b = rw (get_or-take, get_or-drop)

  -- all of them are the name's
  pub bytes_all : length name ≤ i → Some row ≡ row_of name (table_of source cells count)
  bytes_all h =
      let n : length (take (length name) (drop start source)) ≡ length name = simp (length-take, length-drop) (omega (arith, inv.inside)) in
      inv.hit (ext_get_or 0 (take (length name) (drop start source)) name n (λ j b. let c : j < length name = rw n at b in part_at j c ∙ inv.so_far j (omega arith)))

-- ---- what `row_hashed` answered
module _ (source : Text) (cells : List ℕ) (count : ℕ) (name : Text) where
  module _ (k : ℕ) (e : Some k ≡ row_of name (table_of source cells count)) where
    found_row : RowAt (named name) (row source cells k) (table_of source cells count) k
    found_row = row_at (named name) (row source cells k) (table_of source cells count) k (sym e)

    pub row_within : k < count
    row_within = omega (arith, found_row.within, table_length source cells count)

    -- its cells are there
    pub row_cells : Held source cells count → cell_of (k + 1) ≤ length cells
    row_cells held = omega (arith, row_within, held.rows)

    pub row_address : Some (get_or cells (cell_of k + 2) 0) ≡ find name (table_of source cells count)
    row_address =
        let x : Label = row source cells k in
        sym (found_row.found ∙ ap (λ (l : Label). Some l.address) (table_at source cells count k x row_within))

-- a name that no row bears has no address
pub no_address : (name : Text) (t : Table) → None ≡ row_of name t → None ≡ find name t
no_address name t e = sym (no_row (named name) (named name) t (sym e)).nowhere

-- no row, no label
pub none_of_none : (source : Text) (cells : List ℕ) {count : ℕ} (name : Text) → count ≡ 0 → None ≡ find name (table_of source cells count)
unfolding table_of find
none_of_none source cells name z = rw z refl
