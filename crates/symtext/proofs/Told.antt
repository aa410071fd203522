-- From a call's rows to the lines that are printed: the rows hold the labels in order, and their lines fit. Assumes nothing.
use Prim.Native.Nat.{ℕ, ◌+◌, ◌*◌, ◌<◌, ◌≤◌}
use mathlib.Core.Path.{◌≡◌, refl, sym, ap, ◌∙◌}
use mathlib.Core.Bool.{false}
use mathlib.Core.List.{List, [], ◌∷◌, flat_map}
use native.Mathlib.Omega.{arith}
use borrow.Author.Tests.{le-ltb}
use lib.ListN.{length, take, get_or, length-append}
use Rattle.rules.specs.Limits.{max_source, max_lines, max_labels}
use Rattle.rules.specs.Text.{Text}
use Rattle.rules.specs.Label.{Label}
use Rattle.rules.specs.Answer.{Answer, accepted, refused, refuse_if, and_then}
use Rattle.rules.specs.Assemble.{pass_at_by}
use Rattle.requests.specs.Symbols.{symbols, Rows, rows, short_rows, room_rows, symbols_answer, symbols_rows}
use Rattle.promises.specs.Refusals.{source_over, of_source}
use Rattle.promises.specs.Nearest.{In, head, tail}
use Rattle.promises.specs.Symbols.{IsEntry, SymbolsAreListed, RowsWritten, names_length, SymbolsFit, EachListFits}
use Rattle.promises.proofs.Compared.{clash}
use Rattle.promises.proofs.Sorted.{entry_in}
use Rattle.promises.proofs.Symbols.{symbols_are_listed}
use Rattle.promises.proofs.SymbolsFit.{each_list_fits}
use Rattle.promises.proofs.SymbolsRows.{symbols_are_written}
use Rattle.listing.proofs.Digits.{few_places, decimal_length}
use Rattle.station.specs.Puts.{texts}
use Rattle.station.proofs.Puts.{line_of}
use Rattle.station.proofs.ScriptInput.{RefusesLong, checks_long}
use Rattle.symtext.specs.Symlist.{symbol_text, told_text, symbols_text}
use Rattle.symtext.specs.Rows.{label_at, labels_from, rows_text, RowsFit}
use Rattle.symtext.proofs.Lines.{line_length}
use Rattle.symtext.proofs.Held.{entry_at, held_at, held_long, from_entries}

pub symbols_refuse_long : (base : ℕ) → RefusesLong (symbols_text base)
unfolding symbols_text told_text symbols and_then pass_at_by
symbols_refuse_long base t h = rw (checks_long t _ h)

-- ---- the lines of labels: a line's number has at most four digits
pub lines_fit : (l : List Label) → ((x : Label) → In x l → x.line ≤ max_lines) → length (flat_map symbol_text l) ≤ names_length l + 15 * length l
unfolding flat_map names_length
lines_fit [] h = omega arith
lines_fit (x ∷ l) h =
    let rest = lines_fit l (λ y i. h y (tail i)) in
    let few = few_places 3 x.line (omega (arith, h x (head refl))) in
    let size = line_length x.name x.address x.line in
    rw (length-append (symbol_text x) (flat_map symbol_text l)) (omega (arith, decimal_length _ x.line refl))

-- ---- the rows after a call that is accepted
module _ (base : ℕ) (s : Text) (x : Rows) {y : Rows} {n : ℕ} (answered : accepted n ≡ symbols_answer base s x) (written : y ≡ symbols_rows base s x) where
  call : RowsWritten base s n x y
  call = rw (← written) at (symbols_are_written.by_accepted base s x n (sym answered))

  listed : symbols base s ≡ accepted call.list
  unfolding SymbolsAreListed
  listed = (symbols_are_listed base s call.list).1 call.listed

  fits : SymbolsFit s call.list
  unfolding EachListFits
  fits = each_list_fits base s call.list listed

  pub few : n ≤ max_labels
  few = omega (arith, fits.count, call.counted)

  -- the rows that are written
  abbrev cut : Rows
  cut = rows (take n y.starts) (take n y.lengths) (take n y.addresses) (take n y.lines)

  -- what row k holds
  module _ (k : ℕ) (m : Label) (i : IsEntry call.list k m) where
    start_is : get_or cut.starts k 0 ≡ m.start
    start_is = held_at (λ m. m.start) call.list cut.starts call.written.starts.0 k m i

    length_is : get_or cut.lengths k 0 ≡ length m.name
    length_is = held_at (λ m. length m.name) call.list cut.lengths call.written.lengths.0 k m i

    row_is : label_at s cut k ≡ m
    row_is =
        let name = (fits.entry (entry_in call.list k i)).text in
        let address = held_at (λ m. m.address) call.list cut.addresses call.written.addresses.0 k m i in
        let line = held_at (λ m. m.line) call.list cut.lines call.written.lines.0 k m i in
        rw (start_is, length_is, address, line, name)

    ends_within : get_or cut.starts k 0 + get_or cut.lengths k 0 ≤ length s
    ends_within = rw (start_is, length_is) (fits.entry (entry_in call.list k i)).end

  counted : length cut.starts ≡ length call.list
  counted = held_long (λ m. m.start) call.list cut.starts call.written.starts.0

  labels : labels_from s cut 0 (length cut.starts) ≡ call.list
  labels = ap (labels_from s cut 0) counted ∙ from_entries s cut call.list 0 (λ i m e h. let z : 0 + i ≡ i = omega arith in rw z (row_is i m e))

  room : length (rows_text s cut) + 20 ≤ 36628
  room =
      let short : ¬ (max_source < length s) = λ h. call.listed.clear 1 (length s) (of_source (source_over h)) in
      let text = ap (λ (l : List Label). length (flat_map symbol_text l)) labels in
      omega (arith, lines_fit call.list (λ m i. (fits.entry i).line), fits.names, fits.count, text)

  pub rows_fit : RowsFit s cut
  rows_fit =
      let w = call.written in
      record {
        lengths = held_long (λ m. length m.name) call.list cut.lengths w.lengths.0 ∙ sym counted;
        addresses = held_long (λ m. m.address) call.list cut.addresses w.addresses.0 ∙ sym counted;
        lines = held_long (λ m. m.line) call.list cut.lines w.lines.0 ∙ sym counted;
        within = λ k h. let m = entry_at call.list k (omega (arith, counted)) in ends_within k m.0 m.1;
        room = room;
      }

  -- they hold the labels
  pub rows_listed : symbols base s ≡ accepted (labels_from s cut 0 (length cut.starts))
  rows_listed = rw (listed, labels)

  pub rows_told : texts (flat_map symbol_text) (symbols base s) ≡ accepted (rows_text s cut)
  rows_told = rw rows_listed refl

-- ---- a refused call, where each slice has a place for each label
module _ (x : Rows) (a : max_labels ≤ length x.starts) (b : max_labels ≤ length x.lengths) (c : max_labels ≤ length x.addresses) (d : max_labels ≤ length x.lines) where
  not_short : (n : ℕ) → n ≤ max_labels → short_rows x n ≡ false
  unfolding short_rows
  not_short n h =
      rw
      (le-ltb (length x.starts) n (omega arith), le-ltb (length x.lengths) n (omega arith), le-ltb (length x.addresses) n (omega arith), le-ltb (length x.lines) n (omega arith))

  pub same_refusal : (base : ℕ) (s : Text) (n p : ℕ) → symbols_answer base s x ≡ refused n p → symbols base s ≡ refused n p
  unfolding symbols_answer and_then room_rows refuse_if EachListFits
  same_refusal base s n p e = go (symbols base s) refl
    where
      go : (r : Answer (List Label)) → symbols base s ≡ r → symbols base s ≡ refused n p
      go (refused m q) f = let g : ◌≡◌ {A = Answer ℕ} (refused m q) (refused n p) = rw f at e in f ∙ cc
      go (accepted l) f =
          let g : accepted (length l) ≡ refused n p = rw (f, room_rows, not_short (length l) (each_list_fits base s l f).count) at e in clash cc

pub refusal_told : (base : ℕ) (s : Text) (x : Rows) {n p : ℕ} → refused n p ≡ symbols_answer base s x
    → max_labels ≤ length x.starts → max_labels ≤ length x.lengths → max_labels ≤ length x.addresses → max_labels ≤ length x.lines
    → texts (flat_map symbol_text) (symbols base s) ≡ refused n p
refusal_told base s x {n} {p} e a b c d = rw (same_refusal x a b c d base s n p (sym e)) refl

-- what is printed is the lines, or that of the refusal
pub symbols_told : (base : ℕ) (s : Text) → line_of (texts (flat_map symbol_text) (symbols base s)) ≡ symbols_text base s
unfolding symbols_text told_text
symbols_told base s = go (symbols base s)
  where
    go : (a : Answer (List Label)) → line_of (texts (flat_map symbol_text) a) ≡ told_text a
    go (accepted l) = refl
    go (refused n p) = refl
