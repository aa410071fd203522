-- Laws of steps 3 and 5: the tasks by their numbers, and the line of a label and a directive. Assumes nothing.
use Rattle.std.specs.Prelude.{Option, None, Some, IfSome, Result}
use mathlib.Core.Path.{◌≡◌, refl, ap, ◌∙◌}
use mathlib.Core.Bool.{Bool, true, false, ◌||◌, cond}
use Prim.Native.Nat.{ℕ, ◌+◌, ◌-◌, ◌≤◌, ◌<◌}
use native.Mathlib.Omega.{arith}
use lib.ListN.{length, take, drop}
use lib.Seq.{length-take-le}
use Rattle.rules.specs.Text.{Text, bytes, uppers, pieces, contains, nth}
use Rattle.rules.specs.Number.{Reading, read, failed, value_of}
use Rattle.rules.specs.Line.{value_reading_in, data_size, data_value, sized, data_task, nonempty, data_line, org_task}
use Rattle.text.specs.declared.Span.{Span}
use Rattle.text.specs.Spans.{span_text, PartIn, SpanIn}
use Rattle.text.proofs.Spans.{part_front, length_part}
use Rattle.numeral.specs.Number.{number_of}
use Rattle.numeral.specs.declared.Failure.{Failure}
use Rattle.line.specs.Line.{names_of, task_at, TaskIn, Says}
use Rattle.line.specs.Steps.{Trimmed, span_from, line_by, org_of, data_by, data_of, PieceHeadGives}
use Rattle.line.specs.declared.Task.{Task}
use Rattle.line.specs.declared.Task.TheVariants.{Space}
use Rattle.line.specs.declared.DataHead.{DataHead}
use Rattle.line.proofs.Directive.{nonempty_some}

-- ---- step 3 by its number
pub org_is : (source : Text) (r : Reading ℕ) → task_at source (org_of (number_of r)) ≡ org_task (value_of r)
unfolding org_task value_of
org_is source (read v) = refl
org_is source (failed x) = refl

pub org_in : (source : Text) (r : Reading ℕ) → TaskIn source (org_of (number_of r))
org_in source (read v) = Prim.tt
org_in source (failed x) = Prim.tt

-- ---- data by its number
size_most : (u : Text) → data_size u ≤ 4
unfolding data_size
size_most u = go (contains (bytes "DC.L") u || contains (bytes "DS.L") u) (contains (bytes "DC.W") u || contains (bytes "DS.W") u) (contains (bytes "DC.B") u || contains (bytes "DS.B") u)
  where
    go : (x y z : Bool) → cond x 4 (cond y 2 (cond z 1 2)) ≤ 4
    go true y z = omega arith
    go false true z = omega arith
    go false false true = omega arith
    go false false false = omega arith

by_is : (source : Text) (n : ℕ) (r : Reading ℕ) → task_at source (data_by n (number_of r)) ≡ sized n (value_of r)
unfolding sized value_of
by_is source n (read v) = refl
by_is source n (failed x) = refl

by_in : (source : Text) (n : ℕ) (r : Reading ℕ) → n ≤ 4 → TaskIn source (data_by n (number_of r))
by_in source n (read v) h = h
by_in source n (failed x) h = h

module _ (source t d : Text) where
  data_is : task_at source (data_of t d) ≡ data_task t d
  unfolding data_task data_value sized
  data_is = go (contains (bytes "DC.") (uppers t))
    where
      r : Reading ℕ
      r = value_reading_in (nth 1 (pieces d))

      go : (x : Bool) → task_at source (cond x (data_by (data_size (uppers t)) (number_of r)) (Space (data_size (uppers t)))) ≡ sized (data_size (uppers t)) (cond x (value_of r) None)
      go true = by_is source (data_size (uppers t)) r
      go false = refl

  data_in : TaskIn source (data_of t d)
  data_in = go (contains (bytes "DC.") (uppers t))
    where
      go : (x : Bool) → TaskIn source (cond x (data_by (data_size (uppers t)) (number_of (value_reading_in (nth 1 (pieces d))))) (Space (data_size (uppers t))))
      go true = by_in source (data_size (uppers t)) (value_reading_in (nth 1 (pieces d))) (size_most (uppers t))
      go false = size_most (uppers t)

-- as the code makes it: of size s, with a value only where `DC.` stands
module _ (t d : Text) {s : ℕ} (p : s ≡ data_size (uppers t)) {y : Bool} (q : y ≡ contains (bytes "DC.") (uppers t)) where
  pub task_none : y ≡ false → Space s ≡ data_of t d
  task_none e = rw (p, ← q, e)

  pub task_some : {v : Result ℕ Failure} → y ≡ true → v ≡ number_of (value_reading_in (nth 1 (pieces d))) → data_by s v ≡ data_of t d
  task_some e w = rw (p, ← q, e, w)

-- ---- the line
module _ {source : Text} (o : Option Span) {r : Span} (tr : Trimmed source r) (h : IfSome o (SpanIn source)) {hd : DataHead} (x : PieceHeadGives (span_text source r) hd)
    {k : Task} (y : k ≡ data_of (span_text source r) (drop hd.directive (span_text source r))) where
  task_is : task_at source k ≡ data_task (span_text source r) (drop hd.directive (span_text source r))
  task_is = ap (task_at source) y ∙ data_is source (span_text source r) (drop hd.directive (span_text source r))

  task_in : TaskIn source k
  task_in = rw y (data_in source (span_text source r) (drop hd.directive (span_text source r)))

  pub label_end : r.start + hd.label ≤ length source
  label_end = omega (arith, x.label_in, length_part source r.start r.end tr.placed, tr.placed)

  pub data_bare : hd.label ≤ 0 → Says source (data_line (names_of source o) r.start (span_text source r)) (line_by o None k)
  unfolding nonempty
  data_bare l =
      let z : hd.label ≡ 0 = omega arith in
      record { says = rw (x.says (names_of source o) r.start, z, task_is); names_in = record { first = h; second = Prim.tt }; task_in = task_in }

  pub data_named : 0 < hd.label → Says source (data_line (names_of source o) r.start (span_text source r)) (line_by o (Some (span_from r.start (r.start + hd.label))) k)
  data_named l =
      let t : Text = span_text source r in
      let m : hd.label ≤ r.end - r.start = omega (arith, x.label_in, length_part source r.start r.end tr.placed) in
      let p : PartIn source r.start (r.start + hd.label) = record { ordered = omega arith; inside = label_end } in
      let g : 0 < length (take hd.label t) = rw (length-take-le hd.label t x.label_in) l in
      record {
        says = rw (x.says (names_of source o) r.start, nonempty_some r.start (take hd.label t) g, part_front source r.start r.end hd.label m, task_is);
        names_in = record { first = h; second = p };
        task_in = task_in;
      }
