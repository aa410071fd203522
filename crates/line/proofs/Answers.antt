-- What the code's answers say of a line, step by step: steps 5 and 6, step 4, then steps 1 to 3 by the line's outline. Assumes nothing.
use Rattle.std.specs.Prelude.{Option, None, Some, IfSome, Result}
use mathlib.Core.Path.{◌≡◌, refl, sym, ap, ◌∙◌}
use mathlib.Core.Bool.{Bool, true, false, false≢true}
use mathlib.Core.List.{List, [], append-nil}
use Prim.Native.Nat.{ℕ, suc, ◌+◌, ◌-◌, ◌≤◌, ◌<◌}
use native.Mathlib.Omega.{arith}
use lib.Dec.{eqb}
use lib.ListN.{length, take, drop, get_or}
use lib.Seq.{length-take-le}
use Rattle.rules.specs.Text.{Text, bytes, uppers, leading, trim_end, trim, pieces, starts, nth}
use Rattle.rules.specs.Line.{Name, name, Line as Said, line as line_with, reading_in, number_in, is_data, data_line, rest_line, after_label, label_line, trimmed_line, line_of}
use Rattle.text.specs.declared.Span.{Span}
use Rattle.text.specs.Pieces.{until}
use Rattle.text.specs.Spans.{part, span_text, PartIn, SpanIn, trimmed_span}
use Rattle.text.proofs.Find.{Indexed, indexed, unindexed}
use Rattle.text.proofs.Spans.{part_rest, part_front, length_part}
use Rattle.text.proofs.Trim.{leading_le, trim_end_le, take_trim_end}
use Rattle.numeral.specs.Number.{number_of}
use Rattle.numeral.specs.declared.Failure.{Failure}
use Rattle.outline.specs.Lines.{line_from}
use Rattle.outline.specs.Outline.{OutlineLineGives}
use Rattle.outline.specs.declared.Outline.{Outline}
use Rattle.outline.proofs.Lines.{line_end_le, line_length}
use Rattle.outline.proofs.Defines.{colon_trimmed}
use Rattle.line.specs.Line.{names_of, task_at, TaskIn, Says, from, ReadLineGives}
use Rattle.line.specs.Steps.{Trimmed, Whole, span_from, line_by, org_of, SplitLabelGives}
use Rattle.line.specs.declared.Split.{Split}
use Rattle.line.specs.declared.Task.{Task}
use Rattle.line.specs.declared.Task.TheVariants.{Skipped, End, LabelOnly, Instruction}
use Rattle.line.specs.declared.Line.{Line}
use Rattle.line.proofs.Parts.{kept_is, trim_kept, Trims, trims}
use Rattle.line.proofs.Clauses.{rest_data, rest_instruction, after_some, after_none, label_none, label_some, first_none, first_note, first_end, first_org, first_label}
use Rattle.line.proofs.Texts.{index_front, index_past, data_part}
use Rattle.line.proofs.Shift.{label_later}
use Rattle.line.proofs.Data.{org_is, org_in}

-- what is said by another name
says_same : {source : Text} {x y : Said} {r : Line} → x ≡ y → Says source y r → Says source x r
says_same e s = record { says = s.says ∙ sym e; names_in = s.names_in; task_in = s.task_in }

-- the label of step 4 alone
module _ {source : Text} {o : Option Span} {k : Task} (h : IfSome o (SpanIn source)) (t : TaskIn source k) where
  says_one : Says source (line_with (names_of source o) (task_at source k)) (line_by o None k)
  says_one = record { says = ap (λ (ns : List Name). line_with ns (task_at source k)) (append-nil (names_of source o)); names_in = record { first = h; second = Prim.tt }; task_in = t }

-- ---- steps 5 and 6
module _ {source : Text} (o : Option Span) {s : Span} (tr : Trimmed source s) (h : IfSome o (SpanIn source)) where
  pub says_data : {r : Line} → is_data (span_text source s) ≡ true → Says source (data_line (names_of source o) s.start (span_text source s)) r → Says source (rest_line (names_of source o) s.start (span_text source s)) r
  says_data c g = says_same (rest_data (names_of source o) s.start (span_text source s) c) g

  pub says_instruction : {r : Line} → is_data (span_text source s) ≡ false → r ≡ line_by o None (Instruction s) → Says source (rest_line (names_of source o) s.start (span_text source s)) r
  says_instruction c q = rw q (says_same (rest_instruction (names_of source o) s.start (span_text source s) c) (says_one {k = Instruction s} h tr.placed))

  -- with neither in the whole line
  pub says_undefined : {y : Bool} {r : Line} → (is_data (span_text source s) ≡ true → y ≡ true) → y ≡ false → r ≡ line_by o None (Instruction s) → Says source (rest_line (names_of source o) s.start (span_text source s)) r
  says_undefined {y} q c e = says_instruction (go (is_data (span_text source s)) refl) e
    where
      go : (x : Bool) → is_data (span_text source s) ≡ x → is_data (span_text source s) ≡ false
      go true d = absurd (false≢true (sym c ∙ q d))
      go false d = d

-- ---- step 4
-- no colon: the whole text goes on without a label
pub split_whole : {source : Text} {a e k : ℕ} → Whole source a e k → e ≤ k → SplitLabelGives source a e (record { label = None; rest = span_from a e })
split_whole {source} {a} {e} w h =
    record {
      label_in = Prim.tt;
      rest_in = w.trimmed;
      from_start = omega arith;
      to_end = omega arith;
      done = λ o. absurd (omega (arith, w.filled));
      on = λ o. label_none a (part source a e) (unindexed 58 (part source a e) (w.nowhere h)).cut;
    }

-- the text's first colon at k, and n bytes left of what is before it
pub record Labelled (source : Text) (a e k n : ℕ) : Type 0 where
  pub whole : Whole source a e k
  pub colon : k < e
  pub size : n ≡ length (trim_end (part source a k))

module _ {source : Text} {a e k n : ℕ} (x : Labelled source a e k n) where
  abbrev text : Text
  text = part source a e

  trimmed : Trimmed source (span_from a e)
  trimmed = x.whole.trimmed

  found : Indexed 58 text (k - a)
  found = indexed 58 text (k - a) (x.whole.first x.colon)

  before_in : PartIn source a k
  before_in = record { ordered = x.whole.after; inside = omega (arith, x.colon, trimmed.placed) }

  label_le : n ≤ k - a
  label_le = omega (arith, x.size, trim_end_le (part source a k), length_part source a k before_in)

  pub label_in : PartIn source a (a + n)
  label_in = record { ordered = omega arith; inside = omega (arith, label_le, before_in) }

  pub after_in : PartIn source (k + 1) e
  after_in = record { ordered = omega (arith, x.colon); inside = trimmed.placed.inside }

  before_text : take (k - a) text ≡ part source a k
  before_text = let m : a + (k - a) ≡ k = omega (arith, before_in) in part_front source a e (k - a) (omega (arith, x.colon)) ∙ rw m

  label_text_lem : trim (take (k - a) text) ≡ part source a (a + n)
  label_text_lem =
      trim_kept (k - a) text trimmed.no_blank
      ∙ rw before_text (sym (take_trim_end (part source a k)) ∙ rw (← x.size) (part_front source a k n label_le))

  after_text : drop (suc (k - a)) text ≡ part source (k + 1) e
  after_text = let m : a + suc (k - a) ≡ k + 1 = omega (arith, before_in) in part_rest source a e (suc (k - a)) ∙ rw m

  after_label_lem : (r : Span) → Trims source (k + 1) e r → label_line a text ≡ after_label (name a (part source a (a + n))) r.start (part source r.start r.end)
  after_label_lem r rest =
      let l : length (take (k - a) text) ≡ k - a = length-take-le (k - a) text (omega (arith, found.within)) in
      let m : a + (k - a) + 1 ≡ k + 1 = omega (arith, before_in) in
      label_some a text found.cut ∙ rw (l, m, after_text, label_text_lem, rest.text, rest.starts)

  pub split_label : {r : Span} → r ≡ trimmed_span source (k + 1) e → SplitLabelGives source a e (record { label = Some (span_from a (a + n)); rest = r })
  split_label {r} q =
      let rest : Trims source (k + 1) e r = trims source (k + 1) e after_in r q in
      let l : length (part source r.start r.end) ≡ r.end - r.start = length_part source r.start r.end rest.trimmed.placed in
      record {
        label_in = label_in;
        rest_in = rest.trimmed;
        from_start = omega (arith, rest.starts, before_in);
        to_end = rest.to_end;
        done = λ o. after_label_lem r rest ∙ after_none _ _ _ (omega arith);
        on = λ o. after_label_lem r rest ∙ after_some _ _ _ (omega arith);
      }

module _ {source : Text} {a e : ℕ} {s : Split} (g : SplitLabelGives source a e s) where
  pub says_label : {l : Line} → s.rest.start ≡ s.rest.end → l ≡ line_by s.label None LabelOnly → Says source (label_line a (part source a e)) l
  says_label c q = rw q (says_same (g.done c) (says_one {k = LabelOnly} g.label_in Prim.tt))

  pub says_labelled : {l : Line} → (s.rest.start ≡ s.rest.end → ⊥) → Says source (rest_line (names_of source s.label) s.rest.start (span_text source s.rest)) l → Says source (label_line a (part source a e)) l
  says_labelled c r = says_same (g.on (omega (arith, g.rest_in.placed))) r

  -- DC. or DS. in the rest is in the text
  pub rest_told : {y : Bool} → (is_data (part source a e) ≡ true → y ≡ true) → is_data (span_text source s.rest) ≡ true → y ≡ true
  rest_told q d = q (data_part source a e s.rest.start s.rest.end g.from_start g.to_end d)

-- ---- steps 1 to 3
module _ {source : Text} {at : ℕ} {o : Outline} (g : OutlineLineGives source at o) (h : at ≤ length source) where
  line_in : PartIn source at o.end
  line_in = record { ordered = omega (arith, g.ends); inside = omega (arith, g.ends, line_end_le source at h) }

  -- the text and what is after it
  pub text_in : PartIn source o.start o.end
  text_in = record { ordered = omega (arith, g.starts, g.ends, leading_le (line_from source at), line_length source at); inside = line_in.inside }

-- the line that starts at `at`, with n bytes left of its text
pub record Outlined (source : Text) (at : ℕ) (o : Outline) (n : ℕ) : Type 0 where
  pub outline : OutlineLineGives source at o
  pub within : at ≤ length source
  pub size : n ≡ length (trim_end (part source o.start o.end))

module _ {source : Text} {at : ℕ} {o : Outline} {n : ℕ} (x : Outlined source at o n) where
  abbrev line : Text
  line = line_from source at

  abbrev inner : Text
  inner = part source o.start (o.start + n)

  line_part : part source at o.end ≡ line
  line_part = let m : o.end - at ≡ until (eqb 10) (drop at source) = omega (arith, x.outline.ends) in rw m

  rest_text : drop (leading line) line ≡ part source o.start o.end
  rest_text = rw x.outline.starts (rw line_part at (part_rest source at o.end (leading line)))

  kept : n ≡ length (trim line)
  kept = kept_is line (leading line) n refl (rw rest_text x.size)

  trims_line : Trims source at o.end (span_from o.start (o.start + n))
  trims_line = trims source at o.end (line_in x.outline x.within) (span_from o.start (o.start + n)) (rw (line_part, x.outline.starts, kept))

  pub inner_trimmed : Trimmed source (span_from o.start (o.start + n))
  inner_trimmed = trims_line.trimmed

  line_is : line_of line ≡ trimmed_line (leading line) inner
  unfolding line_of
  line_is = rw (trims_line.text, line_part)

  -- a line without labels
  plain : (k : Task) {r : Line} → r ≡ line_by None None k → trimmed_line (leading line) inner ≡ line_with [] (task_at source k) → TaskIn source k → ReadLineGives source at r
  plain k q e t = rw q (says_same (ap (from at) (line_is ∙ e)) (record { says = refl; names_in = record { first = Prim.tt; second = Prim.tt }; task_in = t }))

  pub says_empty : {r : Line} → length inner ≡ 0 → r ≡ line_by None None Skipped → ReadLineGives source at r
  says_empty z q = plain Skipped q (first_none (leading line) inner z) Prim.tt

  -- what stands from the text on, and the colon in it
  abbrev rest : Text
  rest = part source o.start o.end

  front_le : n ≤ length rest
  front_le = omega (arith, x.size, trim_end_le rest)

  front : inner ≡ take n rest
  front = sym (part_front source o.start o.end n (omega (arith, front_le, length_part source o.start o.end (text_in x.outline x.within))))

  colon_is : o.colon ≡ o.start + until (eqb 58) rest
  colon_is = let e = rw rest_text at (colon_trimmed line) in omega (arith, x.outline.colons, x.outline.starts)

  -- DC. or DS. in the text is in the line
  pub line_told : is_data inner ≡ true → o.defines ≡ true
  line_told d =
      let l : at ≤ o.start = omega (arith, x.outline.starts) in
      x.outline.directive ∙ (rw line_part at (data_part source at o.end o.start (o.start + n) l trims_line.to_end d))

  module _ (z : length inner ≡ 0 → ⊥) where
    inner_some : 0 < length inner
    inner_some = omega (arith, z)

    pub line_whole : Whole source o.start (o.start + n) o.colon
    line_whole =
        record {
          trimmed = inner_trimmed;
          filled = omega (arith, inner_some, length_part source o.start (o.start + n) inner_trimmed.placed);
          after = omega (arith, colon_is);
          first = λ l. let i : until (eqb 58) rest ≡ o.colon - o.start = omega (arith, colon_is) in rw front (index_front 58 n rest (omega (arith, colon_is)) front_le ∙ ap Some i);
          nowhere = λ l. rw front (index_past 58 n rest (omega (arith, colon_is)));
        }

    pub says_note : {r : Line} → get_or inner 0 0 ≡ 59 → r ≡ line_by None None Skipped → ReadLineGives source at r
    says_note e q = plain Skipped q (first_note (leading line) inner inner_some e) Prim.tt

    module _ (d : get_or inner 0 0 ≡ 59 → ⊥) {u : Bool} (p : u ≡ starts (bytes "END") (uppers inner)) where
      pub says_end : {r : Line} → u ≡ true → r ≡ line_by None None End → ReadLineGives source at r
      says_end e q = plain End q (first_end (leading line) inner inner_some d (sym p ∙ e)) Prim.tt

      module _ (e : u ≡ false) {v : Bool} (g : v ≡ starts (bytes "ORG") (uppers inner)) where
        pub says_org : {m : Result ℕ Failure} {k : Task} {r : Line} → v ≡ true → m ≡ number_of (reading_in (nth 1 (pieces inner))) → k ≡ org_of m → r ≡ line_by None None k → ReadLineGives source at r
        unfolding number_in
        says_org c w y q =
            plain _ q (first_org (leading line) inner inner_some d (sym p ∙ e) (sym g ∙ c) ∙ rw (y, w) (ap (line_with []) (sym (org_is source (reading_in (nth 1 (pieces inner))))))) (rw (y, w) (org_in source (reading_in (nth 1 (pieces inner)))))

        pub says_rest : {r : Line} → v ≡ false → Says source (label_line o.start inner) r → ReadLineGives source at r
        says_rest c s =
            let l = first_label (leading line) inner inner_some d (sym p ∙ e) (sym g ∙ c) in
            says_same (ap (from at) (line_is ∙ l) ∙ label_later at (leading line) inner ∙ ap (λ (i : ℕ). label_line i inner) (sym x.outline.starts)) s
