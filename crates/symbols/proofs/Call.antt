-- The call by what the first pass answered: refused, slices too short, or the rows written. Assumes nothing.
use mathlib.Core.Path.{◌≡◌, refl, sym, ◌∙◌}
use mathlib.Core.Bool.{Bool, true, false}
use mathlib.Core.List.{List}
use Prim.Native.Nat.{ℕ, ◌<◌}
use lib.ListN.{length, get_or}
use Rattle.rules.specs.Text.{Text}
use Rattle.rules.specs.Line.{size}
use Rattle.rules.specs.Label.{Label}
use Rattle.rules.specs.Answer.{accepted, refused, refuse_if, and_then}
use Rattle.rules.specs.Assemble.{pass_at_by}
use Rattle.requests.specs.Symbols.{in_order, symbols, Rows, short_rows, room_rows, symbols_answer, holding_rows, write_rows, symbols_rows}
use Rattle.promises.proofs.SymbolsRows.{long_enough}
use Rattle.text.specs.Breaks.{line_number}
use Rattle.label.specs.Labelled.{Labelled}
use Rattle.first.specs.Pass.{pass_in}
use Rattle.first.specs.declared.Pass.{Pass}
use Rattle.symbols.specs.Symbols.{HoldsPass, WriteRowsNeeds}
use Rattle.symbols.proofs.Listing.{long}

module _ (base : ℕ) {source s : Text} (same : s ≡ source) (x : Rows) where
  module _ (n k : ℕ) (e : refused n k ≡ pass_at_by size base s) where
    pub refused_answer : refused n k ≡ symbols_answer base source x
    unfolding symbols symbols_answer and_then
    refused_answer = rw (← same, ← e) refl

    pub refused_rows : x ≡ symbols_rows base source x
    unfolding symbols symbols_rows write_rows and_then
    refused_rows = rw (← same, ← e) refl

  -- the labels of an accepted pass, each of which tells its line
  module _ (labels : Labelled) (cells : List ℕ) (p : Pass) (t : labels.source ≡ s) (told : (k : ℕ) (d : Label) → k < length labels.table → (get_or labels.table k d).line ≡ line_number labels.source (get_or labels.table k d).start)
      (e : accepted (pass_in labels cells p) ≡ pass_at_by size base s) where
    holds : HoldsPass labels
    holds = record { base = base; pass = pass_in labels cells p; passed = rw t (rw t at (sym e)); held = refl; told = told }

    listed : symbols base source ≡ accepted (in_order labels.table)
    unfolding symbols and_then
    listed = rw (← same, ← e) refl

    module _ {n : ℕ} (count : n ≡ length labels.table) {b : Bool} (f : b ≡ short_rows x n) where
      module _ (g : b ≡ true) where
        is_short : short_rows x (length labels.table) ≡ true
        is_short = rw (← count) (sym f ∙ g)

        pub short_answer : refused 7 n ≡ symbols_answer base source x
        unfolding symbols_answer and_then room_rows refuse_if
        short_answer = rw (listed, long holds, is_short, count) refl

        pub short_rows_kept : x ≡ symbols_rows base source x
        unfolding symbols_rows write_rows
        short_rows_kept = rw (listed, write_rows, long holds, is_short) refl

      module _ (g : b ≡ false) where
        enough : short_rows x (length labels.table) ≡ false
        enough = rw (← count) (sym f ∙ g)

        pub write_needs : WriteRowsNeeds labels x
        write_needs =
            let l = long_enough x (length labels.table) enough in
            record { holds = holds; starts = l.0; lengths = l.1; addresses = l.2; lines = l.3 }

        pub written_answer : accepted n ≡ symbols_answer base source x
        unfolding symbols_answer and_then room_rows refuse_if
        written_answer = rw (listed, long holds, enough, count) refl

        pub written_rows : {y : Rows} → y ≡ holding_rows (in_order labels.table) x → y ≡ symbols_rows base source x
        unfolding symbols_rows write_rows
        written_rows w = rw (listed, write_rows, long holds, enough) w
