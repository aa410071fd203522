-- For whoever calls `first_pass` or `enter`: that the labels and the cells hold an accepted pass, and the bounds of what they hold.
-- Assumes nothing.
use Rattle.std.specs.Prelude.{Result, Ok, Err, IfOk}
use mathlib.Core.Path.{◌≡◌, sym, ◌∙◌}
use mathlib.Core.List.{List, []}
use Prim.Native.Nat.{ℕ, ◌≤◌, ◌<◌}
use lib.ListN.{length}
use borrow.Author.Tests.{lt-leb}
use Rattle.rules.specs.Limits.{max_source, address_limit}
use Rattle.rules.specs.Text.{Text}
use Rattle.rules.specs.Line.{lines_of}
use Rattle.rules.specs.Answer.{Answer, refuse_if}
use Rattle.rules.specs.Assemble.{Sizes, Pass as Ruled, first_pass_by, checks, pass_at_by}
use Rattle.answer.specs.declared.Refusal.{Refusal}
use Rattle.label.specs.Table.{AllBelow}
use Rattle.label.specs.Labelled.{Labelled}
use Rattle.cells.specs.Puts.{put_at}
use Rattle.cells.proofs.Puts.{puts_length, put_at_lem}
use Rattle.first.specs.Stopped.{stopped, or_nothing, stopped_at}
use Rattle.first.specs.Pass.{entered, pass_in, IsDone, HoldsBy}
use Rattle.first.specs.declared.Pass.{Pass}
use Rattle.first.proofs.Bounds.{within, LowPut, low}

-- ---- `first_pass` where refusals 1 to 4 do not come is `enter`
module _ (z : Sizes) (source : Text) (base : ℕ) (clear : (a : Answer Ruled) → checks source a ≡ a) (h : base < address_limit) where
  pub pass_clear : pass_at_by z base source ≡ first_pass_by z base base [] (lines_of source)
  unfolding pass_at_by refuse_if
  pass_clear = clear _ ∙ rw (lt-leb address_limit base h)

  pub stop_clear : stopped_at z base source ≡ stopped z base base [] (lines_of source)
  unfolding stopped_at or_nothing refuse_if
  stop_clear = rw (clear, lt-leb address_limit base h)

-- ---- an accepted pass
pub holds : {z : Sizes} (labels₀ : Labelled) {base : ℕ} {labels : Labelled} {cells : List ℕ} {p : Pass} → entered labels cells (Ok p) ≡ pass_at_by z base labels₀.source
    → labels.source ≡ labels₀.source → IsDone z labels base cells p → HoldsBy z labels cells p
holds labels₀ e s d = record { passed = rw (d.base, s) (rw (d.base, s) at (sym e)); lines = d.kept; values = d.values }

pub all_hold : (z : Sizes) (labels₀ : Labelled) (base : ℕ) (labels : Labelled) (cells : List ℕ) (r : Result Pass Refusal) → entered labels cells r ≡ pass_at_by z base labels₀.source
    → labels.source ≡ labels₀.source → IfOk r (IsDone z labels base cells) → IfOk r (HoldsBy z labels cells)
all_hold z labels₀ base labels cells (Ok p) e s d = holds labels₀ e s d
all_hold z labels₀ base labels cells (Err n) e s d = tt

-- ---- the bounds of what the labels and the cells hold
pub record Bounded (z : Sizes) (labels : Labelled) (cells : List ℕ) (p : Pass) : Type 0 where
  pub short : length labels.source ≤ max_source
  pub base : p.base < address_limit
  pub labels_below : AllBelow address_limit labels.table
  pub puts : (k : ℕ) → k < p.lines → LowPut z p.base (put_at labels.source p.base cells k)

pub bounded : {z : Sizes} {labels : Labelled} {cells : List ℕ} {p : Pass} → HoldsBy z labels cells p → Bounded z labels cells p
bounded {z} {labels} {cells} {p} h =
    let w = within z p.base labels.source (pass_in labels cells p) h.passed in
    let b = low z p.base labels.source (pass_in labels cells p) h.passed in
    record {
      short = w.short;
      base = w.low;
      labels_below = b.labels;
      puts = λ k l. rw (put_at_lem labels.source p.base cells p.lines k (put_at labels.source p.base cells k) l)
          at (b.puts k (put_at labels.source p.base cells k) (rw (puts_length labels.source p.base cells p.lines) l));
    }
