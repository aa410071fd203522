-- The rows written one after another: what the loop keeps, what it knows of the next row, and what it leaves. Assumes nothing.
use Rattle.std.specs.Prelude.{None, Some}
use Rattle.std.specs.Option.{option_map}
use mathlib.Core.Path.{◌≡◌, refl, sym, ap, ◌∙◌}
use mathlib.Core.Bool.{Bool, true, false, false≢true}
use mathlib.Core.List.{List, [], ◌∷◌, map}
use Prim.Native.Nat.{ℕ, zero, suc, ◌+◌, ◌-◌, ◌≤◌, ◌<◌}
use native.Mathlib.Numerals.{add-one}
use native.Mathlib.Omega.{arith}
use borrow.Author.Tests.{ltb-true, ltb-false}
use lib.Dec.{ltb}
use lib.ListN.{length, take, drop, get_or, set, drop_of_length-le}
use lib.Seq.{drop-cons}
use Rattle.rules.specs.Limits.{max_source, max_lines}
use Rattle.rules.specs.Text.{Text}
use Rattle.rules.specs.Line.{size}
use Rattle.rules.specs.Label.{Label}
use Rattle.rules.specs.Answer.{accepted, and_then}
use Rattle.rules.specs.Assemble.{over}
use Rattle.requests.specs.Symbols.{in_order, symbols, Rows, rows, holding_rows}
use Rattle.promises.specs.Nearest.{In, head, tail}
use Rattle.promises.specs.Symbols.{IsEntry, EntryFits, SymbolsFit, EachListFits}
use Rattle.promises.proofs.Compared.{Compared, less, more, equal, compared}
use Rattle.promises.proofs.Records.{labels_are_last}
use Rattle.promises.proofs.Sorted.{Sorted, entry_in, ascends_at}
use Rattle.promises.proofs.Symbols.{in_order_lem}
use Rattle.promises.proofs.SymbolsFit.{each_list_fits}
use Rattle.text.specs.Breaks.{breaks, line_number}
use Rattle.text.proofs.Breaks.{number_on}
use Rattle.text.proofs.Over.{Putting, putting_start, putting_one, putting_end, put_over}
use Rattle.label.specs.Labelled.{Labelled}
use Rattle.label.specs.Numbers.{numbers_of}
use Rattle.label.specs.declared.Row.{Row}
use Rattle.first.proofs.Bounds.{within}
use Rattle.symbols.specs.Symbols.{next_in, HoldsPass, WriteRowsNeeds}
use Rattle.symbols.proofs.Next.{nothing, Numbered, numbered}
use Rattle.symbols.proofs.Order.{next_entry, next_upto}

-- stands for a label where there is none
abbrev no_label : Label
no_label = record { name = []; start = 0; address = 0; line = 0 }

-- ---- a list's entries
-- the entry at a place inside
entry_at : (l : List Label) (k : ℕ) → k < length l → IsEntry l k (get_or l k no_label)
entry_at [] k h = absurd (omega arith)
entry_at (x ∷ l) zero h = refl
entry_at (x ∷ l) (suc k) h = entry_at l k (omega arith)

-- a part f of each label is put into the slice, but those of the labels from k on
abbrev Column : (Label → ℕ) → List Label → ℕ → List ℕ → List ℕ → Type 0
Column f l k first now = Putting 0 (map f l) first k (map f (drop k l)) now

column_more : (f : Label → ℕ) (l : List Label) (k v : ℕ) (first now : List ℕ) → Column f l k first now → k < length l → k < length now → v ≡ f (get_or l k no_label)
    → Column f l (k + 1) first (set now k v)
column_more f l k v first now p h g e = putting_one p (k + 1) v (map f (drop (k + 1) l)) (rw (drop-cons l k no_label h, add-one k, e)) refl g

column_all : (f : Label → ℕ) (l : List Label) (k : ℕ) (first now : List ℕ) → Column f l k first now → length l ≤ k → now ≡ over (map f l) first
column_all f l k first now p h = putting_end p (rw (drop_of_length-le l h)) ∙ put_over (map f l) first

-- an entry's place is inside
entry_below : (l : List Label) (j : ℕ) (z : Label) → IsEntry l j z → j < length l
entry_below [] j z e = absurd (let w : ◌≡◌ {A = ℕ} 0 1 = cc in omega arith)
entry_below (y ∷ l) zero z e = omega arith
entry_below (y ∷ l) (suc j) z e = omega (arith, entry_below l j z e)

-- each label of a table has a place in it
record At (t : List Label) (x : Label) : Type 0 where
  at : ℕ
  upto : at < length t
  is : get_or t at no_label ≡ x

in_at : (t : List Label) {x : Label} → In x t → At t x
in_at [] i = absurd (elim i [ ])
in_at (y ∷ t) (head e) = record { at = 0; upto = omega arith; is = sym e }
in_at (y ∷ t) (tail i) = let a = in_at t i in record { at = suc a.at; upto = omega (arith, a.upto); is = a.is }

-- ---- the labels of an accepted pass, in order
module _ {labels : Labelled} (h : HoldsPass labels) where
  abbrev list : List Label
  list = in_order labels.table

  sorted : Sorted labels.table list
  sorted = rw h.held at (in_order_lem h.base labels.source h.pass.labels (labels_are_last h.base labels.source h.pass h.passed))

  listed : symbols h.base labels.source ≡ accepted list
  unfolding symbols and_then
  listed = rw h.passed (ap (λ t. accepted (in_order t)) h.held)

  fits : SymbolsFit labels.source list
  unfolding EachListFits
  fits = each_list_fits h.base labels.source list listed

  pub long : length list ≡ length labels.table
  long = sorted.long

  short : length labels.source ≤ max_source
  short = (within size h.base labels.source h.pass h.passed).short

  -- a label's start tells its line
  told_by_start : {x : Label} → In x labels.table → x.line ≡ line_number labels.source x.start
  told_by_start i = let a = in_at labels.table i in rw a.is at (h.told a.at no_label a.upto)

rows_are : (y : Rows) {ss ns xs ls : List ℕ} → y.starts ≡ ss → y.lengths ≡ ns → y.addresses ≡ xs → y.lines ≡ ls → y ≡ rows ss ns xs ls
rows_are y e f g h = λ i. record { starts = e i; lengths = f i; addresses = g i; lines = h i }

-- ---- the loop over the rows
-- what it keeps: the first k labels are written, and start before `from`; the others start there or later; and `line` is that of the place `at`
pub record Listing (labels : Labelled) (x y : Rows) (line at from k : ℕ) : Type 0 where
  pub upto : k ≤ length labels.table
  pub number : line ≡ line_number labels.source at
  pub behind : at ≤ from
  pub start : from ≤ length labels.source + 1
  pub passed : (j : ℕ) (z : Label) → IsEntry (in_order labels.table) j z → j < k → z.start < from
  pub ahead : (j : ℕ) (z : Label) → IsEntry (in_order labels.table) j z → k ≤ j → from ≤ z.start
  pub starts : Column (λ m. m.start) (in_order labels.table) k x.starts y.starts
  pub lengths : Column (λ m. length m.name) (in_order labels.table) k x.lengths y.lengths
  pub addresses : Column (λ m. m.address) (in_order labels.table) k x.addresses y.addresses
  pub lines : Column (λ m. m.line) (in_order labels.table) k x.lines y.lines

pub listing_start : (labels : Labelled) (x : Rows) → Listing labels x x 1 0 0 0
unfolding breaks
listing_start labels x =
    record {
      upto = omega arith;
      number = refl;
      behind = omega arith;
      start = omega arith;
      passed = λ j z e h. absurd (omega arith);
      ahead = λ j z e h. omega arith;
      starts = putting_start _ _ _ _ _ refl refl;
      lengths = putting_start _ _ _ _ _ refl refl;
      addresses = putting_start _ _ _ _ _ refl refl;
      lines = putting_start _ _ _ _ _ refl refl;
    }

-- a row lies in the source, after the place counted to, and the slices have place k for it
pub record RowFits (source : Text) (y : Rows) (at from k : ℕ) (r : Row) : Type 0 where
  pub after : at ≤ r.start
  pub later : from ≤ r.start
  pub inside : r.start + r.length ≤ length source
  pub short : length source ≤ max_source
  pub starts : k < length y.starts
  pub lengths : k < length y.lengths
  pub addresses : k < length y.addresses
  pub lines : k < length y.lines

module _ {labels : Labelled} {x y : Rows} {line at from k : ℕ} (needs : WriteRowsNeeds labels x) (inv : Listing labels x y line at from k) where
  abbrev h : HoldsPass labels
  h = needs.holds

  below : (j : ℕ) (z : Label) → IsEntry (list h) j z → j < length labels.table
  below j z e = omega (arith, entry_below (list h) j z e, long h)

  -- no row is left: all are written
  pub listing_end : None ≡ option_map numbers_of (next_in from labels.table) → y ≡ holding_rows (in_order labels.table) x
  unfolding holding_rows
  listing_end g = go (ltb k (length (list h))) refl
    where
      n : next_in from labels.table ≡ None
      n = nothing (next_in from labels.table) g

      go : (b : Bool) → ltb k (length (list h)) ≡ b → y ≡ holding_rows (in_order labels.table) x
      go true e =
          let u = ltb-true k (length (list h)) e in
          let v = next_entry (sorted h) from k inv.passed inv.ahead (get_or (list h) k no_label) (entry_at (list h) k u) in
          absurd (false≢true (let w : None ≡ Some (get_or (list h) k no_label) = sym n ∙ v in cc))
      go false e =
          let u = ltb-false k (length (list h)) e in
          rows_are y (column_all _ _ k _ _ inv.starts u) (column_all _ _ k _ _ inv.lengths u) (column_all _ _ k _ _ inv.addresses u) (column_all _ _ k _ _ inv.lines u)

  -- a turn: the next row, and the bytes 10 before it
  module _ {r : Row} (g : Some r ≡ option_map numbers_of (next_in from labels.table)) where
    found : Numbered r (next_in from labels.table)
    found = numbered (next_in from labels.table) r g

    pub row_there : k < length labels.table
    row_there = next_upto (sorted h) from k inv.passed inv.ahead found.is (length labels.table) below

    abbrev here : Label
    here = get_or (list h) k no_label

    inside : k < length (list h)
    inside = omega (arith, row_there, long h)

    entry : IsEntry (list h) k here
    entry = entry_at (list h) k inside

    here_in : In here (list h)
    here_in = entry_in (list h) k entry

    entry_fits : EntryFits labels.source here
    entry_fits = (fits h).entry here_in

    row_is : r ≡ numbers_of here
    row_is =
        let e = sym found.is ∙ next_entry (sorted h) from k inv.passed inv.ahead here entry in
        found.numbers ∙ ap numbers_of (let z : found.label ≡ here = cc in z)

    start_is : r.start ≡ here.start
    start_is = ap (λ (z : Row). z.start) row_is

    -- the entries up to this one, and those after it
    up_to : (j : ℕ) (z : Label) → IsEntry (list h) j z → j < k + 1 → z.start < r.start + 1
    up_to j z e u = go (compared j k)
      where
        go : Compared j k → z.start < r.start + 1
        go (less v) = let w = ascends_at (sorted h).ascends j k e entry v in omega (arith, start_is)
        go (more v) = absurd (omega arith)
        go (equal v) = let w = rw v at e in let i = entry in let q : z ≡ here = cc in omega (arith, start_is, ap (λ (m : Label). m.start) q)

    from_on : (j : ℕ) (z : Label) → IsEntry (list h) j z → k + 1 ≤ j → r.start + 1 ≤ z.start
    from_on j z e u = let w = ascends_at (sorted h).ascends k j entry e (omega arith) in omega (arith, start_is)

    pub row_fits : RowFits labels.source y at from k r
    row_fits =
        rw row_is (record {
          after = omega (arith, inv.behind, inv.ahead k here entry (omega arith));
          later = inv.ahead k here entry (omega arith);
          inside = entry_fits.end;
          short = short h;
          starts = omega (arith, needs.starts, inv.starts.long, row_there);
          lengths = omega (arith, needs.lengths, inv.lengths.long, row_there);
          addresses = omega (arith, needs.addresses, inv.addresses.long, row_there);
          lines = omega (arith, needs.lines, inv.lines.long, row_there);
        })

    module _ {n : ℕ} (c : n ≡ breaks (take (r.start - at) (drop at labels.source))) where
      number_is : line + n ≡ line_number labels.source r.start
      number_is =
          let d : at + (r.start - at) ≡ r.start = omega (arith, row_fits.after) in
          let on = rw d at (number_on labels.source at (r.start - at)) in
          omega (arith, inv.number)

      line_is : line + n ≡ here.line
      line_is = number_is ∙ ap (line_number labels.source) start_is ∙ sym (told_by_start h ((sorted h).is here_in))

      pub line_low : line + n ≤ max_lines
      line_low = omega (arith, line_is, entry_fits.line)

      pub listing_on : Listing labels x (rows (set y.starts k r.start) (set y.lengths k r.length) (set y.addresses k r.address) (set y.lines k (line + n)))
          (line + n) r.start (r.start + 1) (k + 1)
      listing_on =
          record {
            upto = omega (arith, row_there);
            number = number_is;
            behind = omega arith;
            start = omega (arith, row_fits.inside);
            passed = up_to;
            ahead = from_on;
            starts = column_more (λ m. m.start) (list h) k r.start x.starts y.starts inv.starts inside row_fits.starts start_is;
            lengths = column_more (λ m. length m.name) (list h) k r.length x.lengths y.lengths inv.lengths inside row_fits.lengths (ap (λ (z : Row). z.length) row_is);
            addresses = column_more (λ m. m.address) (list h) k r.address x.addresses y.addresses inv.addresses inside row_fits.addresses (ap (λ (z : Row). z.address) row_is);
            lines = column_more (λ m. m.line) (list h) k (line + n) x.lines y.lines inv.lines inside row_fits.lines line_is;
          }
