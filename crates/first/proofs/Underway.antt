-- The first pass underway: what the loop over the lines keeps, and what it leaves when it stops. Assumes nothing.
use Rattle.std.specs.Prelude.{min}
use mathlib.Core.Path.{◌≡◌, refl, sym, ap, ◌∙◌}
use mathlib.Core.List.{List, [], flat_map}
use Prim.Native.Nat.{ℕ, ◌*◌, ◌≤◌}
use native.Mathlib.Omega.{arith}
use lib.ListN.{length}
use Rattle.rules.specs.Limits.{max_source, max_lines, max_labels}
use Rattle.rules.specs.Text.{cut_at}
use Rattle.rules.specs.Line.{lines_of}
use Rattle.rules.specs.Answer.{Answer, accepted, refused}
use Rattle.rules.specs.Assemble.{Sizes, Pass as Ruled, first_pass_by}
use Rattle.text.specs.Breaks.{breaks}
use Rattle.outline.proofs.Lines.{lines_all, lines_count}
use Rattle.label.specs.Table.{cell_of}
use Rattle.label.specs.Labelled.{Labelled}
use Rattle.cells.specs.Puts.{address_at, puts_of}
use Rattle.cells.proofs.Puts.{puts_length}
use Rattle.first.specs.Stopped.{stopped}
use Rattle.first.specs.Pass.{Unchanged, HoldsLines}
use Rattle.first.specs.Names.{Grown}
use Rattle.first.specs.Progress.{after_puts, answer_after, answer_from, stop_from, Stands, Going, Stopping}
use Rattle.first.specs.declared.Progress.{Progress}
use Rattle.first.proofs.Naming.{unchanged_more, grown_same, grown_then}

-- what is done and what is left come to the whole pass, and after what is done the cells are as they were lent
pub record Underway (z : Sizes) (labels₀ : Labelled) (base : ℕ) (cells₀ : List ℕ) (labels : Labelled) (cells : List ℕ) (p : Progress) : Type 0 where
  pub stands : Stands z labels base cells p
  pub answer : first_pass_by z base base [] (lines_of labels₀.source) ≡ answer_from z labels base cells p
  pub stop : stopped z base base [] (lines_of labels₀.source) ≡ stop_from z labels base cells p
  pub source : labels.source ≡ labels₀.source
  pub room : labels.room ≡ labels₀.room
  pub grown : Grown labels₀ labels
  pub cells_past : Unchanged (2 * p.lines) cells₀ cells

answer_whole : (x : Answer Ruled) → x ≡ answer_after [] x
unfolding answer_after after_puts
answer_whole (accepted q) = refl
answer_whole (refused n k) = refl

module _ (z : Sizes) (labels₀ : Labelled) (base : ℕ) (cells₀ : List ℕ) where
  pub begins : length labels₀.source ≤ max_source → length (cut_at 10 labels₀.source) ≤ max_lines → labels₀.table ≡ []
      → min (2 * length (cut_at 10 labels₀.source)) max_labels ≤ labels₀.room → 2 * length (cut_at 10 labels₀.source) ≤ length cells₀
      → Underway z labels₀ base cells₀ labels₀ cells₀ (record { at = 0; address = base; values = 0; lines = 0 })
  unfolding puts_of address_at flat_map after_puts breaks
  begins short few empty rows lines =
      let all = lines_all labels₀.source in
      let count = lines_count labels₀.source in
      record {
        stands = record {
          short = short;
          kept = record { room = omega arith; line = λ k l. absurd (omega arith) };
          address = refl;
          number = λ h. refl;
          values = refl;
          rows = record { room = rw empty (omega (arith, ap length all, count, rows)) };
          few = omega (arith, ap length all, count, few);
          room = omega (arith, ap length all, count, lines);
        };
        answer = rw (empty, all) (answer_whole _);
        stop = rw (empty, all);
        source = refl;
        room = refl;
        grown = grown_same labels₀;
        cells_past = record { long = refl; past = refl };
      }

  module _ (labels : Labelled) (cells : List ℕ) (p : Progress) (u : Underway z labels₀ base cells₀ labels cells p) where
    pub goes_on : (q : Progress) (labels' : Labelled) (cells' : List ℕ) → Going z labels base cells p q labels' cells' → Underway z labels₀ base cells₀ labels' cells' q
    goes_on q labels' cells' g =
        record {
          stands = g.stands;
          answer = u.answer ∙ g.answer;
          stop = u.stop ∙ g.stop;
          source = ap (λ (x : Labelled). x.source) g.labels_now ∙ u.source;
          room = ap (λ (x : Labelled). x.room) g.labels_now ∙ u.room;
          grown = grown_then u.grown g.grown;
          cells_past = unchanged_more (2 * p.lines) (2 * q.lines) cells₀ cells cells' (omega (arith, g.lines)) u.cells_past g.cells_past;
        }

    lines_held : HoldsLines z labels.source base (puts_of labels.source base cells p.lines) cells₀ cells
    lines_held =
        let n = puts_length labels.source base cells p.lines in
        record { puts = rw n; kept = rw n u.stands.kept; long = u.cells_past.long; past = rw n u.cells_past.past }

    -- where it stops
    module _ {x : Answer Ruled} {labels' : Labelled} {cells' : List ℕ} (k : Stopping z labels base cells p x labels' cells') where
      pub answer_is : x ≡ first_pass_by z base base [] (lines_of labels₀.source)
      answer_is = sym (u.answer ∙ k.answer)

      pub rows_are : Unchanged (cell_of (length labels'.table)) labels₀.cells labels'.cells
      rows_are = (grown_then u.grown k.grown).cells

      pub lines_are : HoldsLines z labels₀.source base (stopped z base base [] (lines_of labels₀.source)).puts cells₀ cells'
      lines_are = rw (u.stop, k.puts, k.same, ← u.source) lines_held
