-- Rows written one after another: where that stands before a line, and the line's row written. Assumes nothing.
use Prim.Native.Nat.{ℕ, suc, ◌+◌, ◌≤◌, ◌<◌}
use mathlib.Core.Path.{◌≡◌, refl, sym, ap, ◌∙◌}
use mathlib.Core.List.{List, [], ◌++◌, append-nil, append_assoc, flat_map}
use native.Mathlib.Numerals.{add-one}
use native.Mathlib.Omega.{arith}
use lib.ListN.{length}
use Rattle.rules.specs.Text.{Text}
use Rattle.rules.specs.Label.{Table}
use Rattle.rules.specs.Encode.{Mnemonic}
use Rattle.outline.specs.Lines.{line_end, lines_from}
use Rattle.outline.proofs.Lines.{line_end_le, lines_none, lines_step, lines_more}
use Rattle.line.specs.declared.Task.TheVariants.{End}
use Rattle.listing.specs.Writer.{Adds}
use Rattle.listing.specs.declared.writer.Writer.{Writer}
use Rattle.listing.proofs.Adding.{adds_none, adds_as, adds_both}
use Rattle.printout.specs.Printout.{read_row, unread_row, rows_from}
use Rattle.printout.specs.Rows.{put_of, line_at, LineNeeds, rows_room, LinesNeeds, RowsGive}

-- of the rows of the lines from one on, all but the rest are written by first, which gives at; the next line has number k and starts at i
pub record Rowing (source : Text) (line start : ℕ) (whole : Text) (first : Writer) (k i : ℕ) (rest : Text) (at : Writer) : Type 0 where
  pub done : Text
  pub count : k + length (lines_from source k i) ≡ line + length (lines_from source line start)
  pub near : i ≤ length source + 1
  pub room : at.len + rows_room source k i ≤ first.len + rows_room source line start
  pub all : done ++ rest ≡ whole
  pub adds : Adds done first at

pub rowing_start : (source : Text) (line start : ℕ) (whole rest : Text) (first : Writer) → start ≤ length source + 1 → first.len ≤ length first.out.now → rest ≡ whole
    → Rowing source line start whole first line start rest first
rowing_start source line start whole rest first h l e =
    record { done = []; count = refl; near = h; room = omega arith; all = e; adds = adds_none first l }

module _ {source whole rest : Text} {line start k i : ℕ} {first at : Writer} (w : Rowing source line start whole first k i rest at) (needs : LinesNeeds source line start first) where
  -- what the lines that are left need
  pub rowing_needs : LinesNeeds source k i at
  rowing_needs = record { numbers = omega (arith, w.count, needs.numbers); near = w.near; room = omega (arith, w.room, needs.room, w.adds.room) }

  module _ (h : i ≤ length source) (end : ℕ) (e : end ≡ line_end source i) where
    pub rowing_line : LineNeeds source k (record { start = i; end = end }) at
    rowing_line =
        let n = lines_more source k i h in
        let l = line_end_le source i h in
        record {
          number = omega (arith, w.count, needs.numbers);
          inside = h;
          ends = e;
          room = omega (arith, w.room, needs.room, w.adds.room);
        }

    pub rowing_more : (row more : Text) (last : Writer) → rest ≡ row ++ more → Adds row at last → last.len + i ≤ at.len + 58 + end
        → Rowing source line start whole first (k + 1) (end + 1) more last
    rowing_more row more last q p b =
        let n = lines_more source k i h in
        let l = line_end_le source i h in
        let z : suc (line_end source i) ≡ suc end = ap suc (sym e) in
        let m : length (lines_from source k i) ≡ suc (length (lines_from source (suc k) (suc end))) = rw z at n in
        rw (add-one k, add-one end)
        (record {
          done = w.done ++ row;
          count = omega (arith, w.count);
          near = omega arith;
          room = omega (arith, w.room);
          all = append_assoc w.done row more ∙ ap (λ (s : Text). w.done ++ s) (sym q) ∙ w.all;
          adds = adds_both w.adds p;
        })

  -- the rows that are left, written by a call
  pub rowing_rest : {last : Writer} → RowsGive source k i rest at last → RowsGive source line start whole first last
  rowing_rest g = record { adds = adds_as (adds_both w.adds g.adds) w.all; low = omega (arith, g.low, w.room) }

  -- or none
  pub rowing_all : rest ≡ [] → RowsGive source line start whole first at
  rowing_all e =
      let all : w.done ≡ whole = sym (append-nil w.done) ∙ ap (λ (s : Text). w.done ++ s) (sym e) ∙ w.all in
      record { adds = adds_as w.adds all; low = omega (arith, w.room) }

-- ---- lines after END
pub unread_none : (source : Text) (k i : ℕ) → length source < i → flat_map unread_row (lines_from source k i) ≡ []
unfolding flat_map
unread_none source k i h = rw (lines_none source k i h)

pub unread_step : (source : Text) (k i end : ℕ) → i ≤ length source → end ≡ line_end source i
    → flat_map unread_row (lines_from source k i) ≡ unread_row (line_at source k i) ++ flat_map unread_row (lines_from source (k + 1) (end + 1))
unfolding flat_map
unread_step source k i end h e = rw (lines_step source k i h, add-one k, add-one end, e)

-- ---- END, and the lines after it
module _ {source : Text} {line start : ℕ} {first : Writer} (needs : LinesNeeds source line start first) where
  here : first.len ≤ length first.out.now
  here = omega (arith, needs.room)

  pub rest_line_lem : start ≤ length source → {end : ℕ} → end ≡ line_end source start → LineNeeds source line (record { start = start; end = end }) first
  rest_line_lem h {end} e = rowing_line (rowing_start source line start [] [] first needs.near here refl) needs h end e

  module _ (names : List Mnemonic) (t : Table) (base address : ℕ) where
    abbrev whole : Text
    whole = rows_from names t base address [] (lines_from source line start)

    begins : Rowing source line start whole first line start whole first
    begins = rowing_start source line start whole whole first needs.near here refl

    pub rest_none : length source < start → RowsGive source line start whole first first
    unfolding rows_from
    rest_none h = rowing_all begins needs (rw (lines_none source line start h))

    module _ (h : start ≤ length source) {end : ℕ} (e : end ≡ line_end source start) {last : Writer} (p : Adds (read_row names t (put_of source address End) (line_at source line start)) first last)
        (b : last.len + start ≤ first.len + 58 + end) where
      step : whole ≡ read_row names t (put_of source address End) (line_at source line start) ++ flat_map unread_row (lines_from source (line + 1) (end + 1))
      unfolding rows_from
      step = rw (lines_step source line start h, add-one line, add-one end, e)

      goes_on : Rowing source line start whole first (line + 1) (end + 1) (flat_map unread_row (lines_from source (line + 1) (end + 1))) last
      goes_on = rowing_more begins needs h end e (read_row names t (put_of source address End) (line_at source line start)) (flat_map unread_row (lines_from source (line + 1) (end + 1))) last step p b

      pub rest_needs : LinesNeeds source (line + 1) (end + 1) last
      rest_needs = rowing_needs goes_on needs

      pub rest_all : {final : Writer} → RowsGive source (line + 1) (end + 1) (flat_map unread_row (lines_from source (line + 1) (end + 1))) last final
          → RowsGive source line start whole first final
      rest_all q = rowing_rest goes_on needs q
