-- A line that is read: the code of its task, and the verdict that is shown of it. Assumes nothing.
use Rattle.std.specs.Prelude.{Option, None, Some}
use Prim.Native.Nat.{ℕ, ◌-◌, ◌≤◌}
use mathlib.Core.Path.{◌≡◌, refl, ap}
use mathlib.Core.List.{List}
use native.Mathlib.Omega.{arith}
use lib.Dec.{eqb}
use lib.ListN.{length, take, drop}
use Rattle.rules.specs.Text.{Text}
use Rattle.rules.specs.Number.{Reading, read, failed, no_digits, bad_digit, out_of_range}
use Rattle.rules.specs.Number.{Failure as Fault}
use Rattle.rules.specs.Line.{instruction_of}
use Rattle.rules.specs.Directive.{line_reading}
use Rattle.rules.specs.Label.{Table}
use Rattle.rules.specs.Encode.{Mnemonic, encode_by}
use Rattle.rules.specs.Assemble.{places_at, data_contents, data_places, code_contents_by, code_places_by}
use Rattle.requests.specs.Explain.{not_instruction, unknown_mnemonic, wrong_count, wrong_kinds, bad_number, not_recorded, out_of_reach, emitted, because, why_task}
use Rattle.requests.specs.Explain.{Verdict as Said}
use Rattle.text.specs.declared.Span.{Span}
use Rattle.text.specs.Spans.{span_text}
use Rattle.text.specs.Pieces.{until}
use Rattle.label.specs.Labelled.{Labelled}
use Rattle.outline.specs.Lines.{line_end, line_from}
use Rattle.outline.proofs.Lines.{line_end_le}
use Rattle.numeral.specs.Number.{failure_of}
use Rattle.line.specs.Line.{task_at}
use Rattle.line.specs.declared.Task.{Task}
use Rattle.line.specs.declared.Task.TheVariants.{Instruction}
use Rattle.encode.specs.Code.{code_of, places_of}
use Rattle.encode.specs.declared.Code.{Code}
use Rattle.encode.proofs.Callers.{encode_places}
use Rattle.directive.specs.Directive.{line_number_of}
use Rattle.listing.specs.Writer.{Adds}
use Rattle.listing.specs.declared.writer.Writer.{Writer}
use Rattle.explain.specs.Verdict.{verdict_of, failure_verdict}
use Rattle.explain.specs.Lines.{verdict_on}
use Rattle.explain.specs.declared.Verdict.{Verdict}
use Rattle.whytext.specs.Verdicts.{said_of}
use Rattle.printout.specs.Printout.{row_text, reason_of, places_of_put, read_row, unread_row}
use Rattle.printout.specs.Rows.{shown_verdict, put_of, line_at, LineNeeds}

-- ---- the code of a task
module _ (names : List Mnemonic) (t : Table) (source : Text) (a : ℕ) where
  pub instruction_code : (task : Task) (s : Span) (r : Option Code) → task ≡ Instruction s → r ≡ code_of (encode_by names t a (instruction_of (span_text source s)))
      → places_of a r ≡ places_of_put names t (put_of source a task)
  unfolding places_of_put data_places data_contents places_at code_places_by code_contents_by
  instruction_code task s r e f = rw (e, f) (encode_places names t a (instruction_of (span_text source s)))

-- ---- the verdict that is shown
failed_back : (f : Fault) → said_of (failure_verdict (failure_of f)) ≡ because (bad_number f)
failed_back no_digits = refl
failed_back bad_digit = refl
failed_back out_of_range = refl

said_back : (v : Said) → said_of (verdict_of v) ≡ v
said_back emitted = refl
said_back (because not_instruction) = refl
said_back (because unknown_mnemonic) = refl
said_back (because wrong_count) = refl
said_back (because wrong_kinds) = refl
said_back (because (bad_number no_digits)) = refl
said_back (because (bad_number bad_digit)) = refl
said_back (because (bad_number out_of_range)) = refl
said_back (because not_recorded) = refl
said_back (because out_of_reach) = refl

reason_back : (o : Option (Reading ℕ)) (v : Said) → said_of (shown_verdict (line_number_of o) (verdict_of v)) ≡ reason_of o v
unfolding reason_of
reason_back None v = said_back v
reason_back (Some (read n)) v = said_back v
reason_back (Some (failed f)) v = failed_back f

-- ---- the row of a line
-- it ends within the source
module _ {source : Text} {line : ℕ} {span : Span} {w : Writer} (n : LineNeeds source line span w) where
  pub line_within : span.end ≤ length source
  line_within = rw n.ends (line_end_le source span.start n.inside)

module _ (source : Text) (span : Span) (e : span.end ≡ line_end source span.start) where
  part_line : span_text source span ≡ line_from source span.start
  part_line = let z : line_end source span.start - span.start ≡ until (eqb 10) (drop span.start source) = omega arith in rw e (ap (λ (n : ℕ). take n (drop span.start source)) z)

  pub unread_row_lem : (line : ℕ) {w v : Writer} → Adds (unread_row (record { number = line; start = span.start; text = span_text source span })) w v
      → Adds (unread_row (line_at source line span.start)) w v
  unread_row_lem line p = rw part_line at p

pub read_row_lem : (names : List Mnemonic) (labels : Labelled) (address : ℕ) (task : Task) (line : ℕ) (span : Span) → span.end ≡ line_end labels.source span.start
    → (code : Option Code) (verdict reason : Verdict) → places_of address code ≡ places_of_put names labels.table (put_of labels.source address task) → verdict ≡ verdict_on names labels address task
    → reason ≡ shown_verdict (line_number_of (line_reading (span_text labels.source span))) verdict
    → {w v : Writer} → Adds (row_text line address (places_of address code) (said_of reason) (span_text labels.source span)) w v
    → Adds (read_row names labels.table (put_of labels.source address task) (line_at labels.source line span.start)) w v
unfolding read_row
read_row_lem names labels address task line span e code verdict reason places told shown p =
    let shows : said_of reason ≡ reason_of (line_reading (span_text labels.source span)) (why_task names labels.table address (task_at labels.source task)) = rw (shown, told) (reason_back _ _) in
    rw (places, shows, part_line labels.source span e) at p
