-- The rows of the lines that are kept, one after another, and then of those after them. Assumes nothing.
use Prim.Native.Nat.{ℕ, zero, suc, ◌+◌, ◌^◌, ◌≤◌, ◌<◌}
use mathlib.Core.Path.{◌≡◌, refl, sym, ap, ◌∙◌}
use mathlib.Core.Bool.{Bool, true, false}
use mathlib.Core.List.{List, [], ◌∷◌, ◌++◌}
use native.Mathlib.Numerals.{add-one}
use native.Mathlib.Omega.{arith}
use borrow.Author.Tests.{leb-true, leb-false}
use lib.Dec.{leb}
use lib.ListN.{length, drop, drop_of_length-le}
use Rattle.rules.specs.Limits.{address_limit}
use Rattle.rules.specs.Text.{Text}
use Rattle.rules.specs.Line.{SourceLine, lines_of, line_of, size, Task as Said}
use Rattle.rules.specs.Label.{Table}
use Rattle.rules.specs.Encode.{Mnemonic}
use Rattle.rules.specs.Assemble.{Put, address_after, putting, first_pass_by}
use Rattle.rules.specs.Assemble.{Pass as Ruled}
use Rattle.promises.proofs.Fit.{Holds as Kept, holds_then}
use Rattle.promises.proofs.Tasks.{pass_line}
use Rattle.label.specs.Labelled.{Labelled}
use Rattle.outline.specs.Lines.{line_end, lines_from}
use Rattle.outline.proofs.Lines.{lines_all, lines_none, lines_step}
use Rattle.line.specs.declared.Task.TheVariants.{End}
use Rattle.cells.specs.Cells.{after_by, kept_at}
use Rattle.cells.specs.Puts.{address_at, put_at, puts_of}
use Rattle.cells.specs.declared.Kept.{Kept as Line}
use Rattle.cells.proofs.Puts.{puts_length, puts_next}
use Rattle.cells.proofs.Tasks.{after_kept}
use Rattle.first.specs.Pass.{pass_in, Holds}
use Rattle.first.specs.declared.Pass.{Pass}
use Rattle.first.proofs.Bounds.{within}
use Rattle.first.proofs.Callers.{bounded}
use Rattle.explain.specs.Lines.{WhyTaskNeeds}
use Rattle.explain.proofs.Lines.{after_low, task_needs}
use Rattle.listing.specs.Writer.{Adds}
use Rattle.listing.specs.declared.writer.Writer.{Writer}
use Rattle.printout.specs.Printout.{read_row, rows_from}
use Rattle.printout.specs.Rows.{put_of, line_at, LineNeeds, LinesNeeds, RowsGive}
use Rattle.printout.proofs.Rowing.{Rowing, rowing_start, rowing_needs, rowing_line, rowing_more, rowing_rest}

-- ---- each line asks at most once
few_asked : (base a : ℕ) (t : Table) (ls : List SourceLine) → Kept (λ (p : Ruled). length p.puts ≤ length ls) (first_pass_by size base a t ls)
unfolding first_pass_by putting
few_asked base a t [] = omega arith
few_asked base a t (l ∷ ls) =
    pass_line size base a t l ls (Kept (λ (p : Ruled). length p.puts ≤ length (l ∷ ls)))
    (λ k. omega arith) (λ k o. tt) (λ t' k o v. tt)
    (λ t' k o v. holds_then (λ (p : Ruled). length p.puts ≤ length ls) (λ (p : Ruled). length p.puts ≤ length (l ∷ ls)) (first_pass_by size base _ t' ls) (putting a task) (few_asked base (address_after size base a (line_of l.text).task) t' ls)
    (λ p h. omega arith))
  where
    task : Said
    task = (line_of l.text).task

module _ {labels : Labelled} {cells : List ℕ} {pass : Pass} (h : Holds labels cells pass) where
  pub few_kept : pass.lines ≤ length (lines_from labels.source 1 0)
  few_kept =
      let w = within size pass.base labels.source (pass_in labels cells pass) h.passed in
      let f = rw w.passed at (few_asked pass.base pass.base [] (lines_of labels.source)) in
      omega (arith, f, puts_length labels.source pass.base cells pass.lines, ap length (lines_all labels.source))

  -- the address before line k, and before END
  pub address_low : (k : ℕ) → k ≤ pass.lines → address_at pass.base cells k < address_limit
  unfolding address_at
  address_low zero l = (bounded h).base
  address_low (suc j) l =
      let b = (bounded h).puts j (omega arith) in
      rw (after_kept size labels.source pass.base (address_at pass.base cells j) (kept_at cells j) (h.lines.line j (omega arith)).sized) b.after

  pub end_needs : (k address : ℕ) → k ≤ pass.lines → address ≡ address_at pass.base cells k → WhyTaskNeeds labels address End
  end_needs k address l e = rw e (record { near = record { labels_below = (bounded h).labels_below; address_below = address_low k l }; short = (bounded h).short; within = tt })

-- ---- the rows
module _ (names : List Mnemonic) (labels : Labelled) (cells : List ℕ) (pass : Pass) where
  abbrev asked : List Put
  asked = puts_of labels.source pass.base cells pass.lines

  abbrev pub all_rows : Text
  all_rows = rows_from names labels.table pass.base pass.base asked (lines_of labels.source)

  -- from line k on, which starts at i and is read at address a
  abbrev pub left_rows : ℕ → ℕ → ℕ → Text
  left_rows a k i = rows_from names labels.table pass.base a (drop k asked) (lines_from labels.source (k + 1) i)

-- the rows of k lines are written by first, which gives at
pub record Keeping (names : List Mnemonic) (labels : Labelled) (cells : List ℕ) (pass : Pass) (first : Writer) (address k i : ℕ) (at : Writer) : Type 0 where
  pub among : k ≤ pass.lines
  pub here : address ≡ address_at pass.base cells k
  pub rows : Rowing labels.source 1 0 (all_rows names labels cells pass) first (k + 1) i (left_rows names labels cells pass address k i) at

pub keeping_start : (names : List Mnemonic) (labels : Labelled) (cells : List ℕ) (pass : Pass) {first : Writer} → LinesNeeds labels.source 1 0 first → Keeping names labels cells pass first pass.base 0 0 first
unfolding address_at
keeping_start names labels cells pass {first} needs =
    record {
      among = omega arith;
      here = refl;
      rows = rowing_start labels.source 1 0 (all_rows names labels cells pass) (left_rows names labels cells pass pass.base 0 0) first (omega arith) (omega (arith, needs.room))
          (ap (rows_from names labels.table pass.base pass.base (asked names labels cells pass)) (sym (lines_all labels.source)));
    }

module _ {names : List Mnemonic} {labels : Labelled} {cells : List ℕ} {pass : Pass} {first : Writer} {address k i : ℕ} {at : Writer} (w : Keeping names labels cells pass first address k i at)
    (h : Holds labels cells pass) (needs : LinesNeeds labels.source 1 0 first) where
  -- a line is left
  pub keeping_inside : k < pass.lines → i ≤ length labels.source
  keeping_inside l = go (leb i (length labels.source)) refl
    where
      go : (y : Bool) → leb i (length labels.source) ≡ y → i ≤ length labels.source
      go true e = leb-true i (length labels.source) e
      go false e = absurd (omega (arith, ap length (lines_none labels.source (k + 1) i (leb-false i (length labels.source) e)), w.rows.count, few_kept h))

  module _ (l : k < pass.lines) {kept : Line} (e : kept ≡ kept_at cells k) where
    pub keeping_task : WhyTaskNeeds labels address kept.task
    keeping_task = task_needs h k l w.here e

    pub keeping_fits : after_by pass.base address kept < 2 ^ 32
    keeping_fits = rw (w.here, e) (after_low h k l)

    module _ {end : ℕ} (q : end ≡ line_end labels.source i) where
      pub keeping_line : LineNeeds labels.source (k + 1) (record { start = i; end = end }) at
      keeping_line = rowing_line w.rows needs (keeping_inside l) end q

      step : {a : ℕ} → a ≡ after_by pass.base address kept
          → left_rows names labels cells pass address k i ≡ read_row names labels.table (put_of labels.source address kept.task) (line_at labels.source (k + 1) i) ++ left_rows names labels cells pass a (k + 1) (end + 1)
      unfolding rows_from
      step {a} p =
          let f : a ≡ address_after size pass.base (address_at pass.base cells k) (put_at labels.source pass.base cells k).task = p ∙ (rw (w.here, e) (after_kept size labels.source pass.base (address_at pass.base cells k) (kept_at cells k) (h.lines.line k l).sized)) in
          rw (puts_next labels.source pass.base cells pass.lines k l, lines_step labels.source (k + 1) i (keeping_inside l), f, w.here, e, q, add-one (line_end labels.source i), add-one (k + 1), add-one k)

      pub keeping_more : {a : ℕ} {last : Writer} → a ≡ after_by pass.base address kept
          → Adds (read_row names labels.table (put_of labels.source address kept.task) (line_at labels.source (k + 1) i)) at last
          → last.len + i ≤ at.len + 58 + end → Keeping names labels cells pass first a (k + 1) (end + 1) last
      unfolding address_at
      keeping_more p g b =
          record {
            among = omega arith;
            here = p ∙ rw (w.here, e, add-one k);
            rows = rowing_more w.rows needs (keeping_inside l) end q _ _ _ (step p) g b;
          }

  -- after them
  pub keeping_end : WhyTaskNeeds labels address End
  keeping_end = end_needs h k address w.among w.here

  pub keeping_left : LinesNeeds labels.source (k + 1) i at
  keeping_left = rowing_needs w.rows needs

  -- and all kept ones are put
  pub keeping_done : pass.lines ≤ k → Keeping names labels cells pass first address pass.lines i at
  keeping_done l = let z : k ≡ pass.lines = omega (arith, w.among) in rw z at w

  pub keeping_rest : pass.lines ≤ k → {last : Writer}
      → RowsGive labels.source (k + 1) i (rows_from names labels.table pass.base address [] (lines_from labels.source (k + 1) i)) at last
      → RowsGive labels.source 1 0 (all_rows names labels cells pass) first last
  keeping_rest l {last} g =
      let past : length (puts_of labels.source pass.base cells pass.lines) ≤ k = omega (arith, puts_length labels.source pass.base cells pass.lines) in
      let none : drop k (puts_of labels.source pass.base cells pass.lines) ≡ [] = drop_of_length-le (puts_of labels.source pass.base cells pass.lines) past in
      let g' : RowsGive labels.source (k + 1) i (left_rows names labels cells pass address k i) at last = rw none g in
      rowing_rest w.rows needs g'
