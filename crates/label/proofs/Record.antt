-- Laws of recording a label: what the cells then hold, and what stands in them. Assumes nothing.
use Rattle.std.specs.Prelude.{Option, None, Some}
use mathlib.Core.Path.{◌≡◌, refl, sym, ap, ◌∙◌}
use mathlib.Core.Bool.{true, false}
use mathlib.Core.List.{List}
use Prim.Native.Nat.{ℕ, ◌+◌, ◌-◌, ◌≤◌, ◌<◌}
use native.Mathlib.Omega.{arith}
use borrow.Author.Tests.{lt-ltb, le-ltb}
use lib.Dec.{ltb}
use lib.ListN.{length, drop, get_or, length-set, length-append}
use Rattle.rules.specs.Limits.{max_labels}
use Rattle.rules.specs.Text.{Text}
use Rattle.rules.specs.Label.{Label, Table, find, recorded, has_room}
use Rattle.label.specs.Table.{hashes, hash_of, cell_of, table_of, name_at, row_of, Held}
use Rattle.label.specs.Record.{with_row, with_head, span_label, span_name, cells_for, cells_with}
use Rattle.label.proofs.Rows.{RowAt, row_at, NoRow, no_row}
use Rattle.label.proofs.Chain.{hash_below}
use Rattle.label.proofs.Table.{table_length, table_at, table_set, table_next, table_kept, length_with_row, drop_with_row, length_with_head, drop_with_head}
use Rattle.label.proofs.Holding.{held_again, held_next}

module _ {source : Text} {cells : List ℕ} {count start end : ℕ} (address : ℕ) (held : Held source cells count) (ordered : start ≤ end) (within : end ≤ length source) where
  abbrev before : Table
  before = table_of source cells count

  abbrev label : Label
  label = span_label source start end address

  abbrev already : Option ℕ
  already = row_of (span_name source start end) before

  abbrev hash : ℕ
  hash = hash_of (span_name source start end)

  -- the label is recorded, in the first n rows of the cells afterwards
  pub record Keeps (n : ℕ) (after : List ℕ) : Type 0 where
    pub table : table_of source after n ≡ recorded label before
    pub holds : Held source after n
    pub room : has_room (find label.name before) before ≡ true
    pub written : after ≡ cells_with source before cells start end address

  room_known : {a : ℕ} → find label.name before ≡ Some a → has_room (find label.name before) before ≡ true
  unfolding has_room
  room_known e = rw e

  room_new : find label.name before ≡ None → has_room (find label.name before) before ≡ ltb count max_labels
  unfolding has_room
  room_new e = rw (e, table_length source cells count)

  -- a label of the table, by its row
  in_row : (k : ℕ) (d : Label) → k < count → (get_or before k d).name ≡ name_at source cells k
  in_row k d b = ap (λ (l : Label). l.name) (table_at source cells count k d b)

  inside : start + (end - start) ≤ length source
  inside = omega arith

  -- again in its row
  pub again : {k : ℕ} → Some k ≡ already → {after : List ℕ} → after ≡ with_row cells k start (end - start) address → Keeps count after
  again {k} e w =
      let at : RowAt label label before k = row_at label label before k (sym e) in
      let b : k < count = omega (arith, at.within, table_length source cells count) in
      let h : cell_of k + 2 < length cells = omega (arith, held.rows) in
      rw w
      (record {
        table = table_set cells k start (end - start) address h source count b ∙ sym at.again;
        holds = held_again source cells k start (end - start) address inside h count held (at.named ∙ in_row k label b);
        room = room_known at.found;
        written = ap (λ (o : Option ℕ). cells_for o (length before) cells hash start (end - start) address) e;
      })

  module _ (e : None ≡ already) where
    new : NoRow label label before
    new = no_row label label before (sym e)

    -- in the next row, and in front of the rows of its hash
    pub next : count < max_labels → cell_of (count + 1) ≤ length cells → {h : ℕ} {middle after : List ℕ} → h ≡ hash
        → middle ≡ with_row cells count start (end - start) address → after ≡ with_head middle count h → Keeps (count + 1) after
    next l r z m w =
        let b : hash < hashes = hash_below (span_name source start end) in
        rw (w, m, z)
        (record {
          table = table_kept (with_row cells count start (end - start) address) count hash b source (count + 1)
              ∙ table_next cells count start (end - start) address (omega arith) source ∙ sym new.new;
          holds = held_next source cells count start (end - start) address inside r held
              (λ j c n. new.absent j (omega (arith, table_length source cells count)) (n ∙ sym (in_row j label c)));
          room = room_new new.nowhere ∙ lt-ltb count max_labels l;
          written = ap (λ (m : ℕ). with_head (with_row cells m start (end - start) address) m hash) (sym (table_length source cells count))
              ∙ ap (λ (o : Option ℕ). cells_for o (length before) cells hash start (end - start) address) e;
        })

    -- there is no next row
    pub full : max_labels ≤ count → has_room (find label.name before) before ≡ false
    full l = room_new new.nowhere ∙ le-ltb count max_labels l

-- the cells afterwards, by the labels: as many, and those past the rows unchanged
module _ (source : Text) (t : Table) (cells : List ℕ) (start end address : ℕ) where
  abbrev x : Label
  x = span_label source start end address

  abbrev written : List ℕ
  written = cells_with source t cells start end address

  pub record Past (n : ℕ) (after : List ℕ) : Type 0 where
    pub long : length after ≡ length cells
    pub past : drop (cell_of n) after ≡ drop (cell_of n) cells

  pub past_with : Past (length (recorded x t)) written
  past_with = go (row_of x.name t) refl
    where
      h : ℕ
      h = hash_of (span_name source start end)

      go : (o : Option ℕ) → row_of x.name t ≡ o → Past (length (recorded x t)) written
      go (Some k) e =
          let at = row_at x x t k e in
          rw (e, at.again, length-set)
          (record { long = length_with_row cells k start (end - start) address; past = drop_with_row cells k start (end - start) address (length t) at.within })
      go None e =
          let new = no_row x x t e in
          let b : h < hashes = hash_below (span_name source start end) in
          let n = length t in
          let middle = with_row cells n start (end - start) address in
          rw (e, new.new, length-append)
          (record {
            long = length_with_head middle n h b ∙ length_with_row cells n start (end - start) address;
            past = drop_with_head middle n h b (n + 1) (omega arith) ∙ drop_with_row cells n start (end - start) address (n + 1) (omega arith);
          })
