-- All rows together show the list: the words of the lines with a value, and then those of the others. Assumes nothing.
use Rattle.std.specs.Prelude.{Some, slice_get}
use Prim.Native.Nat.{ℕ, suc, ◌+◌, ◌^◌, ◌≤◌, ◌<◌}
use mathlib.Core.Path.{◌≡◌, refl, sym, ap, ◌∙◌}
use mathlib.Core.Bool.{Bool, true, false, cond}
use mathlib.Core.List.{List, [], ◌∷◌, ◌++◌, map, flat_map, map-append}
use native.Mathlib.Omega.{arith}
use lib.ListN.{length}
use Rattle.rules.specs.Text.{Text, cut_at}
use Rattle.rules.specs.Line.{SourceLine, numbered, lines_of, Task, skipped, end, org, no_org, label_only, instruction, value, space, line_of, size}
use Rattle.rules.specs.Label.{Table}
use Rattle.rules.specs.Encode.{Mnemonic, encode_by}
use Rattle.rules.specs.Answer.{accepted, and_then}
use Rattle.rules.specs.Assemble.{Put, Pass, Place, address_after, places_at, data_contents, data_places, code_contents_by, code_places_by, second_pass_by, pass_at, assemble_by}
use Rattle.promises.proofs.Lists.{All}
use Rattle.symtext.specs.Symlist.{symbols_text}
use Rattle.printout.specs.Printout.{places_of_put, under_rows}
use Rattle.printout.specs.Shown.{places_in, sixteen, has_value, values_shown, others_shown, ShowsList}
use Rattle.printout.proofs.Bare.{bare_read, bare_unread, end_put, row_lines, end_at}
use Rattle.printout.proofs.Asking.{Asks, over, stops, goes, pass_asks, few_lines}
use Rattle.printout.proofs.Showing.{read_places, unread_places, end_places, pass_of, rows, put_fits, end_fits}

abbrev Small : SourceLine → Type 0
Small l = l.number ≤ 9999

abbrev Fits : Put → Type 0
Fits u = u.address < 16 ^ 8

abbrev texts : List SourceLine → List Text
texts ls = map (λ (l : SourceLine). l.text) ls

-- ---- a line's words are of a value, or not
nothing : (y : Bool) → ◌≡◌ {A = List Place} (cond y [] []) []
nothing true = refl
nothing false = refl

module _ (names : List Mnemonic) (t : Table) (a : ℕ) where
  abbrev put : Task → Put
  put k = record { address = a; task = k }

  of_value : (k : Task) → cond (has_value k) (map sixteen (places_of_put names t (put k))) [] ≡ map sixteen (data_places (put k))
  unfolding has_value places_of_put data_places data_contents places_at code_places_by code_contents_by
  of_value skipped = refl
  of_value end = refl
  of_value (org v) = refl
  of_value no_org = refl
  of_value label_only = refl
  of_value (instruction i) = refl
  of_value (value n v) = refl
  of_value (space n) = refl

  of_others : (k : Task) → cond (has_value k) [] (map sixteen (places_of_put names t (put k))) ≡ map sixteen (code_places_by (encode_by names) t (put k))
  unfolding has_value places_of_put data_places data_contents places_at code_places_by code_contents_by
  of_others skipped = refl
  of_others end = refl
  of_others (org v) = refl
  of_others no_org = refl
  of_others label_only = refl
  of_others (instruction i) = refl
  of_others (value n v) = refl
  of_others (space n) = refl

-- ---- after END
module _ (rest : List Text) where
  unread_values : (ls : List SourceLine) → All Small ls → values_shown (texts ls) (map bare_unread ls ++ rest) ≡ []
  unfolding values_shown
  unread_values [] h = refl
  unread_values (l ∷ ls) h = rw (unread_places l h.0, nothing (has_value (line_of l.text).task), unread_values ls h.1)

  unread_others : (ls : List SourceLine) → All Small ls → others_shown (texts ls) (map bare_unread ls ++ rest) ≡ []
  unfolding others_shown
  unread_others [] h = refl
  unread_others (l ∷ ls) h = rw (unread_places l h.0, nothing (has_value (line_of l.text).task), unread_others ls h.1)

-- ---- all lines
module _ (names : List Mnemonic) (t : Table) (base : ℕ) (rest : List Text) where
  end_shows : (a : ℕ) (l : SourceLine) → Small l → a < 16 ^ 8 → places_in (bare_read names t (end_put a) l) ≡ []
  end_shows a l h f = read_places names t (end_put a) l h f ∙ ap (map sixteen) (end_places names t a)

  values_shown_lem : (a : ℕ) (us : List Put) (ls : List SourceLine) → Asks us ls → All Small ls → All Fits us → end_at base a us < 16 ^ 8
      → values_shown (texts ls) (row_lines names t base a us ls ++ rest) ≡ map sixteen (flat_map data_places us)
  unfolding values_shown row_lines flat_map end_at
  values_shown_lem a _ _ over h f g = refl
  values_shown_lem a _ _ (stops {l} {ls} q) h f g = rw (end_shows a l h.0 g, nothing (has_value (line_of l.text).task), unread_values rest ls h.1)
  values_shown_lem a _ _ (goes {u} {us} {l} {ls} q k) h f g =
      let first : cond (has_value (line_of l.text).task) (places_in (bare_read names t u l)) [] ≡ map sixteen (data_places u) =
      ap (λ (x : Task). cond (has_value x) (places_in (bare_read names t u l)) []) (sym q) ∙ (ap (λ (x : List Place). cond (has_value u.task) x []) (read_places names t u l h.0 f.0) ∙ of_value names t u.address u.task) in
      rw (first, values_shown_lem (address_after size base u.address u.task) us ls k h.1 f.1 g, map-append)

  others_shown_lem : (a : ℕ) (us : List Put) (ls : List SourceLine) → Asks us ls → All Small ls → All Fits us → end_at base a us < 16 ^ 8
      → others_shown (texts ls) (row_lines names t base a us ls ++ rest) ≡ map sixteen (flat_map (code_places_by (encode_by names) t) us)
  unfolding others_shown row_lines flat_map end_at
  others_shown_lem a _ _ over h f g = refl
  others_shown_lem a _ _ (stops {l} {ls} q) h f g = rw (end_shows a l h.0 g, nothing (has_value (line_of l.text).task), unread_others rest ls h.1)
  others_shown_lem a _ _ (goes {u} {us} {l} {ls} q k) h f g =
      let first : cond (has_value (line_of l.text).task) [] (places_in (bare_read names t u l)) ≡ map sixteen (code_places_by (encode_by names) t u) =
      ap (λ (x : Task). cond (has_value x) [] (places_in (bare_read names t u l))) (sym q) ∙ (ap (λ (x : List Place). cond (has_value u.task) [] x) (read_places names t u l h.0 f.0) ∙ of_others names t u.address u.task) in
      rw (first, others_shown_lem (address_after size base u.address u.task) us ls k h.1 f.1 g, map-append)

-- ---- the lines of a source
numbered_small : (n i : ℕ) (ts : List Text) → n + length ts ≤ 9999 → All Small (numbered n i ts)
unfolding numbered
numbered_small n i [] h = tt
numbered_small n i (x ∷ ts) h = (omega arith, numbered_small (suc n) (suc (i + length x)) ts (omega arith))

numbered_texts : (n i : ℕ) (ts : List Text) → texts (numbered n i ts) ≡ ts
unfolding numbered
numbered_texts n i [] = refl
numbered_texts n i (x ∷ ts) = ap (λ (r : List Text). x ∷ r) (numbered_texts (suc n) (suc (i + length x)) ts)

all_fit : (us : List Put) → ((k : ℕ) (u : Put) → slice_get us k ≡ Some u → Fits u) → All Fits us
all_fit [] h = tt
all_fit (u ∷ us) h = (h 0 u refl, all_fit us (λ k v e. h (suc k) v e))

list_as : (names : List Mnemonic) (base : ℕ) (s : Text) (p : Pass) → pass_at base s ≡ accepted p → assemble_by size (encode_by names) base s ≡ accepted (second_pass_by (encode_by names) p)
unfolding assemble_by and_then
list_as names base s p e = rw e

pub shows_list : ShowsList
unfolding ShowsList second_pass_by lines_of
shows_list names base s t list e q =
    let p = (pass_of names base s t e).0 in
    let h = (pass_of names base s t e).1 in
    let is : accepted list ≡ accepted (second_pass_by (encode_by names) p) = sym q ∙ list_as names base s p h.passed in
    let same : list ≡ second_pass_by (encode_by names) p = cc in
    let rest = cut_at 10 (under_rows p.labels (symbols_text base s)) in
    let small = numbered_small 1 0 (cut_at 10 s) (omega (arith, few_lines base s p h.passed)) in
    let fit = all_fit p.puts (put_fits h) in
    let asks = pass_asks base s p h.passed in
    let texts_are = numbered_texts 1 0 (cut_at 10 s) in
    let values = rw texts_are at (values_shown_lem names p.labels base rest base p.puts (lines_of s) asks small fit (end_fits h)) in
    let others = rw texts_are at (others_shown_lem names p.labels base rest base p.puts (lines_of s) asks small fit (end_fits h)) in
    rw (same, map-append, rows h, values, others)
