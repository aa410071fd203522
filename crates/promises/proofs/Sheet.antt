-- What is promised of the sheet holds: each line is in one class, a source adds its own totals, 20 and 21 come exactly by their conditions, and sheets add up.
-- Assumes nothing.
use Prim.Native.Nat.{ℕ, ◌+◌, ◌≤◌, ◌<◌}
use mathlib.Core.Path.{◌≡◌, refl, sym, ap, ◌∙◌}
use mathlib.Core.Bool.{Bool, true, false, ◌||◌}
use mathlib.Core.List.{List, [], ◌∷◌}
use native.Mathlib.Omega.{arith}
use borrow.Author.Tests.{ltb-true, lt-ltb, ltb-false, leb-true, le-leb}
use lib.Dec.{leb, ltb}
use lib.ListN.{length}
use Rattle.rules.specs.Limits.{max_lines}
use Rattle.rules.specs.Text.{Text, cut_at}
use Rattle.rules.specs.Line.{size}
use Rattle.rules.specs.Answer.{Answer, accepted, refused, and_then}
use Rattle.rules.specs.Assemble.{Pass, second_pass, pass_at_by, pass_at, assemble_by, assemble}
use Rattle.requests.specs.Symbols.{in_order, symbols}
use Rattle.requests.specs.Sheet.{max_sources, max_total, skip, origin, bare_label, datum, emitting, wordless, ending, classes, Totals, one_refused, numbers_in, accepted_sheet, answer_sheet, source_sheet, plus, sources, any_over, add_source}
use Rattle.promises.specs.Stages.{Checked}
use Rattle.promises.specs.Refusals.{line_count, PassCondition, PassRefusesExactly}
use Rattle.promises.specs.Longest.{AtMostTwoALine}
use Rattle.promises.specs.Nearest.{In, head, tail}
use Rattle.promises.specs.Symbols.{SymbolsAreListed, EachListFits}
use Rattle.promises.specs.Sheet.{EachInOneClass, OfAccepted, IsSheet, of_accepted, of_refused, SheetCondition, source_more, total_over, sheeting, SheetRefusesExactly, SourceAdded, SourcesAreAdded, OfSeries, no_source, with_source, AcceptedLines, no_lines, accepted_lines, refused_lines, ClassesAddUp, SheetsAddUp}
use Rattle.promises.proofs.Compared.{clash, Compared, less, more, equal, compared}
use Rattle.promises.proofs.Stages.{is_checked, checked_by, apart, are_apart, Runs, done, refuse_if_lem, refuses_exactly, none_holds}
use Rattle.promises.proofs.Refusals.{pass_refuses_exactly}
use Rattle.promises.proofs.RefusalsAssemble.{counted}
use Rattle.promises.proofs.Accepted.{not_refused, checks_passed}
use Rattle.promises.proofs.Longest.{at_most_two_a_line}
use Rattle.promises.proofs.Records.{labels_are_last}
use Rattle.promises.proofs.Nearest.{clear}
use Rattle.promises.proofs.Symbols.{in_order_lem, symbols_are_listed}
use Rattle.promises.proofs.SymbolsFit.{each_list_fits}
use Rattle.promises.proofs.SheetClasses.{all_classes, class_at, is_class_at, each_class, how_many_lem, how_marked, marked_few, seven}
use Rattle.promises.proofs.SheetSums.{added, Within, low, is_one, one_is, total_of, total_within, sheet_of, sheet_refused, sheet_parts, sheet_reordered}

-- ---- one class
pub each_in_one_class : EachInOneClass
each_in_one_class =
    record {
      in_one = λ s p e j h. let c = class_at s p e j h in (c.0, c.2);
      in_no_other = λ s p e j c d h k. let g = sym (is_class_at s p e j c h) ∙ is_class_at s p e j d k in let u : c ≡ d = cc in u;
    }

-- ---- an accepted source
module _ (s : Text) (p : Pass) (e : pass_at 0 s ≡ accepted p) where
  its_list : assemble 0 s ≡ accepted (second_pass p)
  unfolding assemble_by and_then
  its_list = rw e

  its_symbols : symbols 0 s ≡ accepted (in_order p.labels)
  unfolding symbols and_then
  its_symbols = rw e

  as_long : length (in_order p.labels) ≡ length p.labels
  as_long = (in_order_lem 0 s p.labels (labels_are_last 0 s p e)).long

  accepted_own : OfAccepted s (accepted_sheet s p)
  unfolding accepted_sheet SymbolsAreListed
  accepted_own =
      record {
        clear = clear 0 s p e;
        pass = p;
        passed = e;
        classes = classes s p;
        all_lines = all_classes s p e;
        each = each_class s p e;
        of_skipped = how_many_lem skip (classes s p);
        of_org = how_many_lem origin (classes s p);
        of_label = how_many_lem bare_label (classes s p);
        of_data = how_many_lem datum (classes s p);
        of_word = how_many_lem emitting (classes s p);
        of_wordless = how_many_lem wordless (classes s p);
        of_end = how_many_lem ending (classes s p);
        list = second_pass p;
        listed = its_list;
        of_words = refl;
        of_marked = how_marked (second_pass p);
        symbols = in_order p.labels;
        are_symbols = (symbols_are_listed 0 s (in_order p.labels)).0 its_symbols;
        of_labels = sym as_long;
        accepts = refl;
        refuses_none = refl;
      }

  few_lines : length (classes s p) ≤ max_lines
  unfolding pass_at_by
  few_lines = omega (arith, all_classes s p e, (counted s).0, ltb-false max_lines (length (cut_at 10 s)) (checks_passed s _ p e).0.lines)

  accepted_within : Within 1 (accepted_sheet s p)
  unfolding accepted_sheet AtMostTwoALine EachListFits
  accepted_within =
      let n = seven (classes s p) in
      let l = few_lines in
      let w = (at_most_two_a_line s 0 (second_pass p) its_list).1 in
      let m = marked_few (second_pass p) in
      let k = (each_list_fits 0 s (in_order p.labels) its_symbols).count in
      record {
        of_skipped = omega arith;
        of_org = omega arith;
        of_label = omega arith;
        of_data = omega arith;
        of_word = omega arith;
        of_wordless = omega arith;
        of_end = omega arith;
        of_words = omega arith;
        of_marked = omega arith;
        of_labels = omega (arith, as_long);
        count = omega arith;
      }

refused_within : Within 1 one_refused
refused_within =
    record {
      of_skipped = omega arith;
      of_org = omega arith;
      of_label = omega arith;
      of_data = omega arith;
      of_word = omega arith;
      of_wordless = omega arith;
      of_end = omega arith;
      of_words = omega arith;
      of_marked = omega arith;
      of_labels = omega arith;
      count = omega arith;
    }

-- ---- any source
by_answer : (s : Text) (r : Answer Pass) → pass_at 0 s ≡ r → source_sheet s ≡ answer_sheet s r
unfolding source_sheet
by_answer s r e = ap (answer_sheet s) e

refused_by : (s : Text) (n q : ℕ) → pass_at 0 s ≡ refused n q → PassCondition size 0 s n q
unfolding PassRefusesExactly
refused_by s n q e = ((pass_refuses_exactly size 0 s n q).0 e).0

own_sheet : (s : Text) → IsSheet s (source_sheet s)
unfolding answer_sheet
own_sheet s = go (pass_at 0 s) refl
  where
    go : (r : Answer Pass) → pass_at 0 s ≡ r → IsSheet s (source_sheet s)
    go (accepted p) e = rw (by_answer s (accepted p) e) (of_accepted (accepted_own s p e))
    go (refused n q) e = rw (by_answer s (refused n q) e) (of_refused (record { number = n; place = q; condition = refused_by s n q e; adds_only = refl }))

pub own_within : (s : Text) → Within 1 (source_sheet s)
unfolding answer_sheet
own_within s = go (pass_at 0 s) refl
  where
    go : (r : Answer Pass) → pass_at 0 s ≡ r → Within 1 (source_sheet s)
    go (accepted p) e = rw (by_answer s (accepted p) e) (accepted_within s p e)
    go (refused n q) e = rw (by_answer s (refused n q) e) refused_within

-- ---- the call
-- a total above 2^33, by the test
over_one : (ns : List ℕ) → any_over ns ≡ true → (n : ℕ) × In n ns × (max_total < n)
unfolding any_over
over_one [] e = clash cc
over_one (n ∷ ns) e = go (ltb max_total n) refl e (over_one ns)
  where
    go : (x : Bool) → ltb max_total n ≡ x → (x || any_over ns) ≡ true → (any_over ns ≡ true → (m : ℕ) × In m ns × (max_total < m)) → (m : ℕ) × In m (n ∷ ns) × (max_total < m)
    go true f g ih = (n, head refl, ltb-true max_total n f)
    go false f g ih = let h = ih g in (h.0, tail h.1, h.2)

one_over : (ns : List ℕ) (n : ℕ) → In n ns → max_total < n → any_over ns ≡ true
unfolding any_over
one_over (m ∷ ns) n (head e) h = rw (lt-ltb max_total m (omega arith))
one_over (m ∷ ns) n (tail i) h = rw (one_over ns n i h) (go (ltb max_total m))
  where
    go : (x : Bool) → (x || true) ≡ true
    go true = refl
    go false = refl
one_over [] n i h = elim i [ ]

module _ (t : Totals) (s : Text) where
  abbrev C : ℕ → ℕ → Type 0
  C = SheetCondition t

  known : (n q : ℕ) → C n q → Checked n sheeting
  unfolding is_checked
  known n q (source_more h) = checked_by 20 sheeting refl
  known n q (total_over i h) = checked_by 21 sheeting refl

  to_20 : (q : ℕ) → C 20 q → (leb max_sources (sources t) ≡ true) × (q ≡ max_sources)
  unfolding sources
  to_20 q (source_more h) = (le-leb max_sources (t.accepted_sources + t.refused_sources) h, refl)

  to_21 : (q : ℕ) → C 21 q → (any_over (numbers_in t) ≡ true) × (q ≡ 0)
  to_21 q (total_over {n} i h) = (one_over (numbers_in t) n (one_is t n i) h, refl)

  runs : Runs C sheeting (add_source t s)
  unfolding add_source sources
  runs =
      refuse_if_lem C 20 max_sources (leb max_sources (sources t)) _ (λ e. source_more (leb-true max_sources (t.accepted_sources + t.refused_sources) e)) to_20 λ e.
      refuse_if_lem C 21 0 (any_over (numbers_in t)) _ (λ f. let h = over_one (numbers_in t) f in total_over (is_one t h.0 h.1) h.2) to_21 (λ f. done)

  call_added : (v : Totals) → add_source t s ≡ accepted v → SourceAdded t s v
  unfolding add_source apart
  call_added v e =
      let k = not_refused (leb max_sources (sources t)) 20 max_sources _ v e in
      let m = not_refused (any_over (numbers_in t)) 21 0 _ v k.1 in
      let g = m.1 in
      let u : plus t (source_sheet s) ≡ v = cc in
      record {
        clear = none_holds C sheeting (are_apart sheeting refl) known v (add_source t s) e runs;
        own = source_sheet s;
        is_own = own_sheet s;
        added = rw u at (added t (source_sheet s));
      }

pub sheet_refuses_exactly : SheetRefusesExactly
unfolding SheetRefusesExactly apart
sheet_refuses_exactly t s = refuses_exactly (SheetCondition t) sheeting (are_apart sheeting refl) (known t s) (add_source t s) (runs t s)

pub sources_are_added : SourcesAreAdded
unfolding SourcesAreAdded
sources_are_added t s v e = call_added t s v e

-- ---- a series
series : (ss : List Text) → OfSeries ss (total_of ss)
unfolding total_of
series [] = no_source
series (s ∷ ss) = with_source (own_sheet s) (series ss) (added (source_sheet s) (total_of ss))

unfoldable lines : Totals → ℕ
lines t = t.skipped_lines + t.org_lines + t.label_lines + t.data_lines + t.word_lines + t.wordless_lines + t.end_lines

lines_add : (t u : Totals) → lines (plus t u) ≡ lines t + lines u
unfolding lines plus
lines_add t u = omega arith

accepted_count : (s : Text) (p : Pass) → pass_at 0 s ≡ accepted p → lines (accepted_sheet s p) ≡ line_count s
unfolding lines accepted_sheet
accepted_count s p e = seven (classes s p) ∙ all_classes s p e

series_lines : (ss : List Text) → AcceptedLines ss (lines (total_of ss))
unfolding total_of lines answer_sheet
series_lines [] = no_lines
series_lines (s ∷ ss) = go (pass_at 0 s) refl (series_lines ss)
  where
    go : (r : Answer Pass) → pass_at 0 s ≡ r → AcceptedLines ss (lines (total_of ss)) → AcceptedLines (s ∷ ss) (lines (plus (source_sheet s) (total_of ss)))
    go (accepted p) e h =
        rw (lines_add (source_sheet s) (total_of ss), by_answer s (accepted p) e, accepted_count s p e) (accepted_lines (clear 0 s p e) h)
    go (refused n q) e h =
        let z : 0 + lines (total_of ss) ≡ lines (total_of ss) = omega arith in
        rw (lines_add (source_sheet s) (total_of ss), by_answer s (refused n q) e, z) (refused_lines (refused_by s n q e) h)

pub classes_add_up : ClassesAddUp
unfolding ClassesAddUp lines
classes_add_up ss t e = go (compared max_sources (length ss))
  where
    fits : length ss ≤ max_sources → AcceptedLines ss (lines t)
    fits h =
        let g = sym (sheet_of own_within ss h) ∙ e in
        let u : total_of ss ≡ t = cc in
        rw u at (series_lines ss)

    go : Compared max_sources (length ss) → AcceptedLines ss (lines t)
    go (less h) = let g = sym (sheet_refused own_within ss h) ∙ e in clash cc
    go (more h) = fits (omega arith)
    go (equal h) = fits (omega arith)

pub sheets_add_up : SheetsAddUp
sheets_add_up =
    record {
      accepts = λ ss h.
          record { sheet = total_of ss; answered = sheet_of own_within ss h; of_series = series ss; low = low (length ss) (total_of ss) (total_within own_within ss) h };
      refuses = sheet_refused own_within;
      parts = sheet_parts own_within;
      in_any_order = sheet_reordered own_within;
    }
