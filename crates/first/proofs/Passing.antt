-- One line of the first pass: from what the code has read and recorded to what is left of the pass. Assumes nothing.
use Rattle.std.specs.Prelude.{Option, None, Some}
use mathlib.Core.Path.{◌≡◌, refl, sym, ap, ◌∙◌}
use mathlib.Core.Bool.{true, false}
use mathlib.Core.List.{List, [], ◌∷◌, ◌++◌, map, flat_map, append-nil, append_assoc}
use Prim.Native.Nat.{ℕ, suc, ◌+◌, ◌*◌, ◌≤◌, ◌<◌}
use native.Mathlib.Numerals.{add-one}
use native.Mathlib.Omega.{arith}
use borrow.Author.Tests.{lt-ltb, le-ltb}
use lib.Dec.{ltb}
use lib.ListN.{length, length-append, length-map, length-take, length-drop}
use Rattle.rules.specs.Limits.{max_source, address_limit, max_lines}
use Rattle.rules.specs.Text.{Text}
use Rattle.rules.specs.Line.{SourceLine, Name, Task as SaidTask, skipped, end, org, no_org, label_only, instruction, value, space, Line as Said, line_of}
use Rattle.rules.specs.Label.{Table}
use Rattle.rules.specs.Answer.{Answer, accepted, refused, and_then}
use Rattle.rules.specs.Assemble.{Sizes, Pass as Ruled, Put, Place, address_after, is_end, putting, first_pass_by, places_at, data_contents, data_places}
use Rattle.rules.proofs.Standing.{at_within}
use Rattle.rules.proofs.Names.{Rising, over, next as behind, names_rise}
use Rattle.text.specs.declared.Span.{Span}
use Rattle.text.specs.Spans.{span_text, SpanIn}
use Rattle.text.specs.Breaks.{line_number}
use Rattle.text.proofs.Breaks.{number_same, number_next}
use Rattle.outline.specs.Lines.{line_end, line_from, lines_from}
use Rattle.outline.proofs.Lines.{line_length, lines_none, lines_step}
use Rattle.label.specs.Labelled.{Labelled}
use Rattle.line.specs.declared.Task.{Task}
use Rattle.line.specs.declared.Task.TheVariants.{Instruction}
use Rattle.line.specs.declared.Line.{Line}
use Rattle.line.specs.Line.{names_of, names_at, task_at, name_from, ReadLineGives}
use Rattle.cells.specs.declared.Kept.{Kept}
use Rattle.cells.specs.Cells.{data_words, after_by, head_cell, tail_cell, InCells, Fits}
use Rattle.cells.specs.Sizes.{size_of, Small}
use Rattle.cells.specs.Puts.{puts_of}
use Rattle.cells.proofs.Cells.{with_length, with_past, with_kept}
use Rattle.cells.proofs.Puts.{address_more, puts_more, lines_more, puts_length}
use Rattle.cells.proofs.Tasks.{data_places_lem, after_kept, task_fits}
use Rattle.first.specs.Stopped.{record_some, only, before, stopped}
use Rattle.first.specs.Pass.{with_table}
use Rattle.first.specs.Names.{RoomFor, Grown, RecordNamesNeeds, OnLine, no_name, and_name, all_recorded, some_recorded}
use Rattle.first.specs.Progress.{after_puts, answer_after, line_here, lines_left, pass_so_far, Stands, Going, Stopping, Ahead, Readable}
use Rattle.first.specs.declared.Progress.{Progress}
use Rattle.first.proofs.Turns.{asked, labelled, pass_halts, stop_halts, pass_full, stop_full, pass_out, stop_out, pass_more, stop_more}
use Rattle.first.proofs.Naming.{record_some_lem, record_from, some_from, some_most, same_labels, grown_same}

-- ---- lines taken before
module _ (ps : List Put) where
  after_only : (t : Table) → after_puts ps (only t) ≡ record { labels = t; puts = ps }
  unfolding after_puts
  after_only t = rw (append-nil ps)

  module _ (u : Put) where
    after_before : (q : Ruled) → after_puts ps (before u q) ≡ after_puts (ps ++ (u ∷ [])) q
    unfolding after_puts before
    after_before q = rw (append_assoc ps (u ∷ []) q.puts)

    answer_more : (x : Answer Ruled) → answer_after ps (and_then x (putting u.address u.task)) ≡ answer_after (ps ++ (u ∷ [])) x
    unfolding answer_after and_then putting before
    answer_more (accepted q) = ap accepted (after_before q)
    answer_more (refused n k) = refl

-- ---- data words
flat_more : (f : Put → List Place) (ps : List Put) (u : Put) → length (flat_map f (ps ++ (u ∷ []))) ≡ length (flat_map f ps) + length (f u)
unfolding flat_map
flat_more f [] u = rw (append-nil (f u)) (omega arith)
flat_more f (p ∷ ps) u = rw (length-append (f p) (flat_map f (ps ++ (u ∷ []))), length-append (f p) (flat_map f ps), flat_more f ps u) (omega arith)

data_most : (a : ℕ) (k : SaidTask) → length (places_at a (data_contents k)) ≤ 2
unfolding places_at data_contents
data_most a skipped = omega arith
data_most a end = omega arith
data_most a (org v) = omega arith
data_most a no_org = omega arith
data_most a label_only = omega arith
data_most a (instruction i) = omega arith
data_most a (value n v) = omega arith
data_most a (space n) = omega arith

flat_most : (ps : List Put) → length (flat_map data_places ps) ≤ 2 * length ps
unfolding flat_map data_places
flat_most [] = omega arith
flat_most (u ∷ ps) = rw (length-append (data_places u) (flat_map data_places ps)) (omega (arith, data_most u.address u.task, flat_most ps))

pub words_most : {w : ℕ} (t : Task) → w ≡ data_words t → w ≤ 2
unfolding data_places
words_most t e = omega (arith, data_places_lem [] 0 t, data_most 0 (task_at [] t))

-- an instruction's text lies in the source, and is no longer
module _ {source : Text} {t : Task} {s : Span} (h : Readable source t) (e : t ≡ Instruction s) where
  pub span_in : SpanIn source s
  span_in = rw e at h.within

  pub text_short : length (span_text source s) ≤ max_source
  text_short = simp (length-take, length-drop) (omega (arith, h.short, span_in))

-- a line has at most two labels
name_most : (source : Text) (o : Option Span) → length (names_of source o) ≤ 1
name_most source None = omega arith
name_most source (Some s) = omega arith

names_most : (source : Text) (l : Line) → length (names_at source l.names) ≤ 2
names_most source l = rw (length-append (names_of source l.names.first) (names_of source l.names.second)) (omega (arith, name_most source l.names.first, name_most source l.names.second))

-- the labels of the line that starts at i stand on it
on_line : (source : Text) (i k : ℕ) → line_number source i ≡ k → {e b : ℕ} {ns : List Name} → Rising (line_from source i) e b ns → OnLine source k (map (name_from i) ns)
on_line source i k n (over h) = no_name
on_line source i k n (behind {m = m} h a r) =
    and_name (number_same source i m.start (omega (arith, at_within a, line_length source i)) ∙ n) (on_line source i k n r)

-- ---- where the pass stops
module _ (z : Sizes) (labels : Labelled) (base : ℕ) (cells : List ℕ) (p : Progress) where
  abbrev source : Text
  source = labels.source

  abbrev puts : List Put
  puts = puts_of source base cells p.lines

  stopping : (x : Answer Ruled) (t : Table) {labels' : Labelled} → first_pass_by z base p.address labels.table (lines_left source p) ≡ x
      → stopped z base p.address labels.table (lines_left source p) ≡ only t → labels' ≡ with_table t labels'.cells labels → Grown labels labels'
      → Stopping z labels base cells p (answer_after puts x) labels' cells
  unfolding after_puts
  stopping x t e f h g = record { answer = ap (answer_after puts) e; labels_now = rw f h; grown = g; puts = rw f (append-nil puts); same = refl }

  -- at its end
  ending : first_pass_by z base p.address labels.table (lines_left source p) ≡ accepted (only labels.table)
      → stopped z base p.address labels.table (lines_left source p) ≡ only labels.table → Stopping z labels base cells p (accepted (pass_so_far labels base cells p)) labels cells
  unfolding answer_after
  ending e f = rw (ap accepted (after_only puts labels.table)) at (stopping (accepted (only labels.table)) labels.table e f refl (grown_same labels))

  pub ends_last : length source < p.at → Stopping z labels base cells p (accepted (pass_so_far labels base cells p)) labels cells
  unfolding first_pass_by stopped
  ends_last h = let n = lines_none source (suc p.lines) p.at h in ending (rw n) (rw n)

  pub values_most : Stands z labels base cells p → p.values ≤ 2 * max_lines
  values_most s = omega (arith, s.values, flat_most puts, puts_length source base cells p.lines, s.few)

  -- ---- the line, and the rest
  module _ (needs : Ahead z labels base cells p) (l : Line) (r : ReadLineGives source p.at l) where
    abbrev this : SourceLine
    this = line_here source p

    abbrev rest : List SourceLine
    rest = lines_from source (suc (suc p.lines)) (suc (line_end source p.at))

    left : lines_left source p ≡ this ∷ rest
    left = lines_step source (suc p.lines) p.at needs.inside

    task_said : task_at source l.task ≡ asked this
    task_said = ap (λ (x : Said). x.task) r.says

    names_said : names_at source l.names ≡ map (name_from p.at) (line_of this.text).names
    names_said = ap (λ (x : Said). x.names) r.says

    number : line_number source p.at ≡ suc p.lines
    number = needs.stands.number needs.inside

    -- END
    pub ends_here : is_end (task_at source l.task) ≡ true → Stopping z labels base cells p (accepted (pass_so_far labels base cells p)) labels cells
    ends_here e =
        let h : is_end (asked this) ≡ true = rw task_said at e in
        ending (rw left (pass_halts z base p.address labels.table this rest h)) (rw left (stop_halts z base p.address labels.table this rest h))

    -- the line has its cells, and its task can be kept
    pub in_cells : InCells cells p.lines
    in_cells = record { room = omega (arith, ap length left, needs.stands.room) }

    pub fits : Small z → (m : ℕ) → m ≡ size_of z source l.task → Fits (record { task = l.task; size = m })
    fits w m e = task_fits w source (record { task = l.task; size = m }) needs.stands.short r.task_in e

    pub naming : RecordNamesNeeds labels l.names
    naming = record { short = needs.stands.short; room = record { room = omega (arith, ap length left, needs.stands.rows) }; within = r.names_in }

    -- its labels stand on it
    standing : OnLine source (suc p.lines) (names_at source l.names)
    standing = rw names_said (on_line source p.at (suc p.lines) number (names_rise this.text))

    module _ (ne : is_end (task_at source l.task) ≡ false) {labels' : Labelled}
        (s : labels'.source ≡ labels.source) (m : labels'.room ≡ labels.room) (g : Grown labels labels')
        (d : (k : ℕ) → OnLine source k (names_at source l.names) → labels'.table ≡ some_recorded labels.table (names_at source l.names) p.address k) where
      goes : is_end (asked this) ≡ false
      goes = rw task_said at ne

      -- the labels with this line's
      abbrev now : Table
      now = record_some this p.address (line_of this.text).names labels.table

      abbrev with_now : Labelled
      with_now = with_table now labels'.cells labels

      stored : labels' ≡ with_now
      stored = same_labels labels labels' s m (rw (names_said, some_from this p.address (line_of this.text).names labels.table) at (d (suc p.lines) standing))

      -- no room for a label
      pub stops_full : ((k : ℕ) → OnLine source k (names_at source l.names) → all_recorded labels.table (names_at source l.names) p.address k ≡ None)
          → Stopping z labels base cells p (refused 6 (p.lines + 1)) labels' cells
      unfolding answer_after
      stops_full f =
          let o = rw (names_said, record_from this p.address (line_of this.text).names labels.table) at (f (suc p.lines) standing) in
          rw (add-one p.lines)
          (stopping (refused 6 (suc p.lines)) now
          (rw left (pass_full z base p.address labels.table this rest goes o)) (rw left (stop_full z base p.address labels.table this rest goes o)) stored g)

      module _ (f : (k : ℕ) → OnLine source k (names_at source l.names) → all_recorded labels.table (names_at source l.names) p.address k ≡ Some labels'.table) where
        all_now : labelled p.address labels.table this ≡ Some now
        all_now =
            let o = rw (names_said, record_from this p.address (line_of this.text).names labels.table) at (f (suc p.lines) standing) in
            o ∙ ap Some (sym (record_some_lem this p.address (line_of this.text).names labels.table labels'.table o))

        module _ (n : ℕ) (sized : n ≡ size_of z source l.task) (later : ℕ) (says_later : later ≡ after_by base p.address (record { task = l.task; size = n })) where
          abbrev keeps : Kept
          keeps = record { task = l.task; size = n }

          later_is : later ≡ address_after z base p.address (asked this)
          later_is = says_later ∙ after_kept z source base p.address keeps sized ∙ ap (address_after z base p.address) task_said

          -- the address is too high
          pub stops_out : address_limit ≤ later → Stopping z labels base cells p (refused 5 (p.lines + 1)) labels' cells
          unfolding answer_after
          stops_out h =
              let f = le-ltb (address_after z base p.address (asked this)) address_limit (rw later_is at h) in
              rw (add-one p.lines)
              (stopping (refused 5 (suc p.lines)) now
              (rw left (pass_out z base p.address labels.table this rest goes now all_now f))
              (rw left (stop_out z base p.address labels.table this rest goes now all_now f))
              stored g)

          -- the line is taken
          module _ (w : Small z) (h : later < address_limit) where
            fits_kept : Fits keeps
            fits_kept = fits w n sized

            abbrev put : Put
            put = record { address = p.address; task = asked this }

            abbrev cells' : List ℕ
            cells' = with_kept cells p.lines keeps

            in_limit : ltb (address_after z base p.address (asked this)) address_limit ≡ true
            in_limit = lt-ltb (address_after z base p.address (asked this)) address_limit (rw later_is at h)

            puts_now : puts_of source base cells' (suc p.lines) ≡ puts ++ (put ∷ [])
            puts_now = rw (← needs.stands.address, task_said) at (puts_more cells p.lines keeps in_cells fits_kept source base)

            -- where the pass then stands
            abbrev there : Progress
            there = record { at = suc (line_end source p.at); address = later; values = p.values + data_words l.task; lines = suc p.lines }

            rows_now : RoomFor (2 * length rest) with_now
            rows_now =
                let c = rw (names_said, length-map) at (names_most source l) in
                record { room = omega (arith, ap length left, some_most this p.address (line_of this.text).names labels.table, c, needs.stands.rows) }

            values_now : p.values + data_words l.task ≡ length (flat_map data_places (puts_of source base cells' (suc p.lines)))
            values_now =
                let w = rw task_said at (data_places_lem source p.address l.task) in
                rw (puts_now, flat_more data_places puts put) (omega (arith, needs.stands.values, w))

            stands_there : Stands z with_now base cells' there
            stands_there =
                record {
                  short = needs.stands.short;
                  kept = lines_more cells p.lines keeps in_cells fits_kept z source needs.stands.kept (record { within = r.task_in; sized = sized });
                  address = says_later ∙ rw needs.stands.address (sym (address_more cells p.lines keeps in_cells fits_kept base));
                  number = λ h. number_next source p.at (omega (arith, length-drop p.at source)) ∙ ap suc number;
                  values = values_now;
                  rows = rows_now;
                  few = omega (arith, ap length left, needs.stands.few);
                  room = omega (arith, ap length left, needs.stands.room, with_length cells p.lines (head_cell keeps) (tail_cell l.task));
                }

            going : Going z labels base cells p there with_now cells'
            going =
                record {
                  stands = stands_there;
                  answer = rw (left, pass_more z base p.address labels.table this rest goes now all_now in_limit, answer_more puts put, ← later_is, ← puts_now);
                  stop = rw (left, stop_more z base p.address labels.table this rest goes now all_now in_limit, after_before puts put, ← later_is, ← puts_now);
                  inside = needs.inside;
                  starts = refl;
                  lines = refl;
                  labels_now = refl;
                  grown = rw stored at g;
                  cells_past = record { long = with_length cells p.lines (head_cell keeps) (tail_cell l.task); past = with_past cells p.lines (head_cell keeps) (tail_cell l.task) };
                }

            -- as the code says it
            pub goes_on : (next more : ℕ) (after : List ℕ) → next ≡ suc (line_end source p.at) → more ≡ data_words l.task → after ≡ cells'
                → Going z labels base cells p (record { at = next; address = later; values = p.values + more; lines = p.lines + 1 }) labels' after
            goes_on next more after d e f = rw (stored, d, e, f, add-one p.lines) going
