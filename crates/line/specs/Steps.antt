-- What the steps hand to each other: a line's text and its colon, labels so far, the label and what is after it. Assumes nothing.
use Rattle.std.specs.Prelude.{◌≡◌, ℕ, ◌-◌, ◌≤◌, ◌<◌, cond, List, [], ◌∷◌, ◌++◌, length, take, drop, Option, None, Some, IfSome, Result, Ok, Err}
use Rattle.rules.specs.Text.{Text, bytes, uppers, leading, pieces, contains, nth}
use Rattle.rules.specs.Line.{Name, line as line_with, label_only, value_reading_in, data_size, data_task, nonempty, data_line, rest_line, label_line}
use Rattle.rules.specs.Directive.{directive_of}
use Rattle.text.specs.declared.Span.{Span}
use Rattle.text.specs.Find.{index_of}
use Rattle.text.specs.Spans.{part, span_text, SpanIn}
use Rattle.numeral.specs.Number.{number_of}
use Rattle.numeral.specs.declared.Failure.{Failure}
use Rattle.line.specs.Line.{names_of}
use Rattle.line.specs.declared.Task.{Task}
use Rattle.line.specs.declared.Task.TheVariants.{Org, NoOrg, Value, Space}
use Rattle.line.specs.declared.Line.{Line}
use Rattle.line.specs.declared.DataHead.{DataHead}
use Rattle.line.specs.declared.Split.{Split}

-- a part of the source that no blank leads
pub record Trimmed (source : Text) (s : Span) : Type 0 where
  pub placed : SpanIn source s
  pub no_blank : leading (span_text source s) ≡ 0

abbrev pub span_from : ℕ → ℕ → Span
span_from a e = record { start = a; end = e }

-- a line's text, which is not empty, and its first colon; it has none where that is not before its end
pub record Whole (source : Text) (a e colon : ℕ) : Type 0 where
  pub trimmed : Trimmed source (span_from a e)
  pub filled : a < e
  pub after : a ≤ colon
  pub first : colon < e → index_of 58 (part source a e) ≡ Some (colon - a)
  pub nowhere : e ≤ colon → index_of 58 (part source a e) ≡ None

-- a piece as a text: none is empty
abbrev pub piece_in : Text → Option Text
piece_in [] = None
piece_in (b ∷ s) = Some (b ∷ s)

-- a line by its labels and its task
abbrev pub line_by : Option Span → Option Span → Task → Line
line_by a b k = record { names = record { first = a; second = b }; task = k }

-- ORG by its number
abbrev pub org_of : Result ℕ Failure → Task
org_of (Ok v) = Org v
org_of (Err x) = NoOrg

-- data of size n by its number
abbrev pub data_by : ℕ → Result ℕ Failure → Task
data_by n (Ok v) = Value n v
data_by n (Err x) = Space n

-- the data of a text t whose directive is d
abbrev pub data_of : Text → Text → Task
data_of t d = cond (contains (bytes "DC.") (uppers t)) (data_by (data_size (uppers t)) (number_of (value_reading_in (nth 1 (pieces d))))) (Space (data_size (uppers t)))

-- step 5 on t: a label of so many bytes in front, and from where on the directive stands, as far as its pieces count
pub record PieceHeadGives (t : Text) (h : DataHead) : Type 0 where
  pub label_in : h.label ≤ length t
  pub directive_in : h.directive ≤ length t
  pub directs : pieces (directive_of t) ≡ pieces (drop h.directive t)
  pub says : (ns : List Name) (i : ℕ) → data_line ns i t ≡ line_with (ns ++ nonempty i (take h.label t)) (data_task t (drop h.directive t))

-- step 4 on the text from a to before e: the label, and the rest that goes on
pub record SplitLabelGives (source : Text) (a e : ℕ) (r : Split) : Type 0 where
  pub label_in : IfSome r.label (SpanIn source)
  pub rest_in : Trimmed source r.rest
  pub from_start : a ≤ r.rest.start
  pub to_end : r.rest.end ≤ e
  pub done : r.rest.start ≡ r.rest.end → label_line a (part source a e) ≡ line_with (names_of source r.label) label_only
  pub on : r.rest.start < r.rest.end → label_line a (part source a e) ≡ rest_line (names_of source r.label) r.rest.start (span_text source r.rest)
