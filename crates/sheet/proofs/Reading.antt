-- The walk over the kept lines: what it owes to each call, and the totals of the lines before. Assumes nothing.
use Rattle.std.specs.Prelude.{Option, None, Some}
use mathlib.Core.Path.{◌≡◌, refl, sym, ap, ap₂, ◌∙◌}
use mathlib.Core.List.{List, [], ◌∷◌, flat_map}
use Prim.Native.Nat.{ℕ, ◌+◌, ◌*◌, ◌^◌, ◌≤◌, ◌<◌}
use native.Mathlib.Numerals.{add-one}
use native.Mathlib.Omega.{arith}
use lib.ListN.{length, length-take, length-drop}
use Rattle.rules.specs.Limits.{max_source}
use Rattle.rules.specs.Text.{Text}
use Rattle.rules.specs.Line.{instruction_of, size}
use Rattle.rules.specs.Label.{Table}
use Rattle.rules.specs.Encode.{mnemonics, encode}
use Rattle.rules.specs.Assemble.{code_contents_by, code_places_by}
use Rattle.requests.specs.Sheet.{Totals as Said, no_totals, how_many, marked_in, read_classes, plus}
use Rattle.label.specs.Labelled.{Labelled}
use Rattle.text.specs.declared.Span.{Span}
use Rattle.text.specs.Spans.{span_text, SpanIn}
use Rattle.line.specs.declared.Task.{Task}
use Rattle.line.specs.declared.Task.TheVariants.{Skipped, End, Org, NoOrg, LabelOnly, Instruction, Value, Space}
use Rattle.cells.specs.Cells.{after_by, kept_at}
use Rattle.cells.specs.Puts.{address_at, put_at, puts_of}
use Rattle.cells.specs.declared.Kept.{Kept}
use Rattle.cells.proofs.Tasks.{after_kept}
use Rattle.first.specs.declared.Pass.{Pass}
use Rattle.first.proofs.Callers.{bounded}
use Rattle.encode.specs.Code.{code_of}
use Rattle.encode.specs.Near.{Near}
use Rattle.encode.specs.declared.Code.{Code}
use Rattle.encode.specs.declared.Code.TheVariants.{Word, Value as WithValue, Label}
use Rattle.encode.proofs.Callers.{encode_places}
use Rattle.sheet.specs.Totals.{said, weight}
use Rattle.sheet.specs.Lines.{counted_code, put_of, tally_of, AddLineNeeds, ReadTotalsNeeds}
use Rattle.sheet.specs.declared.Totals.{Totals}
use Rattle.sheet.proofs.Tallies.{tally_more, OneLine, code_line, skipped_line, end_line, org_line, no_org_line, label_line_lem, value_line, space_line}

-- ---- one line
-- an instruction's text and its code
module _ {t : Said} {labels : Labelled} {a : ℕ} {task : Task} (n : AddLineNeeds t labels a task) {s : Span} (e : task ≡ Instruction s) where
  pub span_in : SpanIn labels.source s
  span_in = rw e at n.within

  pub code_needs : Near labels.table a × (length (span_text labels.source s) ≤ max_source)
  code_needs = (n.near, rw (length-take, length-drop) (omega (arith, n.short, span_in)))

pub code_added : (ls : Table) (source : Text) (a : ℕ) (s : Span) {c : Option Code} → c ≡ code_of (encode ls a (instruction_of (span_text source s))) → OneLine ls source a (Instruction s) (counted_code c)
unfolding code_places_by code_contents_by
code_added ls source a s {c} f = code_line ls source a s c (rw f (encode_places mnemonics ls a (instruction_of (span_text source s))))

pub code_more : (ls : Table) (source : Text) (a : ℕ) (task : Task) (s : Span) → task ≡ Instruction s → (t : Said) (c : Option Code) → OneLine ls source a (Instruction s) (counted_code c)
    → {v : Said} → v ≡ plus t (counted_code c) → v ≡ plus t (tally_of ls (put_of source a task ∷ []))
code_more ls source a task s e t c q r = rw e (r ∙ ap (plus t) q)

-- no line has more than four of anything
code_four : (c : Option Code) → weight (counted_code c) ≤ 4
code_four None = omega arith
code_four (Some (Word w)) = omega arith
code_four (Some (WithValue w v)) = omega arith
code_four (Some (Label w x)) = omega arith

tally_four : (ls : Table) (source : Text) (a : ℕ) (k : Task) → weight (tally_of ls (put_of source a k ∷ [])) ≤ 4
tally_four ls source a Skipped = rw (← skipped_line ls source a) (omega arith)
tally_four ls source a End = rw (← end_line ls source a) (omega arith)
tally_four ls source a (Org v) = rw (← org_line ls source a v) (omega arith)
tally_four ls source a NoOrg = rw (← no_org_line ls source a) (omega arith)
tally_four ls source a LabelOnly = rw (← label_line_lem ls source a) (omega arith)
tally_four ls source a (Instruction s) =
    let c = code_of (encode ls a (instruction_of (span_text source s))) in
    rw (← code_added ls source a s {c = c} refl) (code_four c)
tally_four ls source a (Value n v) = rw (← value_line ls source a n v) (omega arith)
tally_four ls source a (Space n) = rw (← space_line ls source a n) (omega arith)

-- ---- before line k
pub record Counted (labels : Labelled) (cells : List ℕ) (pass : Pass) (totals : Totals) (address k : ℕ) : Type 0 where
  pub among : k ≤ pass.lines
  pub here : address ≡ address_at pass.base cells k
  pub is : said totals ≡ tally_of labels.table (puts_of labels.source pass.base cells k)
  pub low : weight (said totals) ≤ 4 * k

sum_low : (t u : Said) → weight (plus t u) ≤ weight t + weight u
unfolding plus
sum_low t u = omega arith

pub counted_start : (labels : Labelled) (cells : List ℕ) (pass : Pass) {t : Totals} → said t ≡ no_totals → Counted labels cells pass t pass.base 0
unfolding address_at puts_of tally_of read_classes how_many marked_in flat_map
counted_start labels cells pass e = record { among = omega arith; here = refl; is = e; low = omega (arith, ap weight e) }

module _ {labels : Labelled} {cells : List ℕ} {pass : Pass} {t : Totals} {address k : ℕ} (n : ReadTotalsNeeds labels cells pass) (w : Counted labels cells pass t address k)
    (l : k < pass.lines) {kept : Kept} (e : kept ≡ kept_at cells k) where
  pub line_needs : AddLineNeeds (said t) labels address kept.task
  line_needs =
      let h = n.holds in
      rw (w.here, e)
      (record {
        near = record { labels_below = (bounded h).labels_below; address_below = ((bounded h).puts k l).here };
        short = (bounded h).short;
        within = (h.lines.line k l).within;
        low = omega (arith, w.low, n.few);
      })

  pub after_fits : after_by pass.base address kept < 2 ^ 32
  after_fits =
      let h = n.holds in
      let b = (bounded h).puts k l in
      rw (w.here, e, after_kept size labels.source pass.base (address_at pass.base cells k) (kept_at cells k) (h.lines.line k l).sized) (omega (arith, b.after))

  pub counted_on : {v : Totals} {a : ℕ} → said v ≡ plus (said t) (tally_of labels.table (put_of labels.source address kept.task ∷ []))
      → a ≡ after_by pass.base address kept → Counted labels cells pass v a (k + 1)
  unfolding address_at puts_of
  counted_on {v} r x =
      let ls = labels.table in
      let source = labels.source in
      let at : put_of source address kept.task ≡ put_at source pass.base cells k = rw (w.here, e) in
      let two : said v ≡ plus (tally_of ls (puts_of source pass.base cells k)) (tally_of ls (put_at source pass.base cells k ∷ [])) =
      r ∙ ap₂ plus w.is (ap (λ x. tally_of ls (x ∷ [])) at) in
      rw (add-one k)
      (record {
        among = omega arith;
        here = x ∙ rw (w.here, e);
        is = two ∙ sym (tally_more ls (puts_of source pass.base cells k) (put_at source pass.base cells k));
        low = omega (arith, ap weight r, sum_low (said t) (tally_of ls (put_of source address kept.task ∷ [])), w.low, tally_four ls source address kept.task);
      })
