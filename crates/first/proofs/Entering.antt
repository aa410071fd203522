-- `enter`: refusals 1 to 4, which leave the labels and the cells as they were lent, or the first pass. Assumes nothing.
use mathlib.Core.Path.{◌≡◌, refl, sym, ap}
use mathlib.Core.List.{List, []}
use Prim.Native.Nat.{ℕ, ◌≤◌, ◌<◌}
use native.Mathlib.Omega.{arith}
use lib.ListN.{length}
use borrow.Author.Tests.{le-leb}
use Rattle.rules.specs.Limits.{address_limit}
use Rattle.rules.specs.Text.{Text, cut_at}
use Rattle.rules.specs.Line.{lines_of}
use Rattle.rules.specs.Answer.{accepted, refused, refuse_if}
use Rattle.rules.specs.Assemble.{Sizes, first_pass_by, pass_at_by, checks}
use Rattle.source.specs.Clear.{Clear}
use Rattle.source.proofs.Callers.{checks_clear, stopped}
use Rattle.label.specs.Table.{cell_of}
use Rattle.label.specs.Labelled.{Labelled}
use Rattle.cells.specs.Puts.{puts_of}
use Rattle.first.specs.Stopped.{stopped as stops_at, only, or_nothing, stopped_at}
use Rattle.first.specs.Pass.{with_table, Unchanged, HoldsLines}
use Rattle.first.proofs.Callers.{pass_clear, stop_clear}

module _ (z : Sizes) (labels : Labelled) (base : ℕ) (cells : List ℕ) where
  -- what a refusal before the first line leaves
  pub record Untouched (n k : ℕ) : Type 0 where
    pub answer : refused n k ≡ pass_at_by z base labels.source
    pub labels_now : labels ≡ with_table (stopped_at z base labels.source).labels labels.cells labels
    pub rows : Unchanged (cell_of (length labels.table)) labels.cells labels.cells
    pub lines : HoldsLines z labels.source base (stopped_at z base labels.source).puts cells cells

  module _ (empty : labels.table ≡ []) where
    untouched : (n k : ℕ) → refused n k ≡ pass_at_by z base labels.source → stopped_at z base labels.source ≡ only [] → Untouched n k
    unfolding puts_of
    untouched n k d f =
        record {
          answer = d;
          labels_now = rw (f, ← empty);
          rows = record { long = refl; past = refl };
          lines = rw f (record { puts = refl; kept = record { room = omega arith; line = λ k l. absurd (omega arith) }; long = refl; past = refl });
        }

    pub checked : {s : Text} → s ≡ labels.source → (n k : ℕ) → refused n k ≡ checks s (accepted (length (cut_at 10 s))) → Untouched n k
    unfolding pass_at_by stopped_at or_nothing
    checked e n k d = let s = stopped labels.source _ n k (rw e at d) in untouched n k (s _) (ap or_nothing (sym (s _)))

    pub high : {s : Text} → s ≡ labels.source → Clear s → address_limit ≤ base → Untouched 4 0
    unfolding pass_at_by stopped_at or_nothing refuse_if
    high e c h =
        let clear : Clear labels.source = rw e at c in
        let f = le-leb address_limit base h in
        untouched 4 0 (sym (rw f (checks_clear labels.source clear _))) (rw f (ap or_nothing (checks_clear labels.source clear _)))

-- past them the call is the first pass
module _ (z : Sizes) {source : Text} {base : ℕ} {s : Text} (e : s ≡ source) (c : Clear s) (h : base < address_limit) where
  clear : Clear source
  clear = rw e at c

  pub pass_enters : pass_at_by z base source ≡ first_pass_by z base base [] (lines_of source)
  pass_enters = pass_clear z source base (checks_clear source clear) h

  pub stop_enters : stopped_at z base source ≡ stops_at z base base [] (lines_of source)
  stop_enters = stop_clear z source base (checks_clear source clear) h
