-- Parts of a text by position: from a to before e. Assumes nothing.
use Rattle.std.specs.Prelude.{ℕ, ◌+◌, ◌-◌, ◌≤◌, List, ◌++◌, length, take, drop}
use Rattle.rules.specs.Text.{Text, leading, trim}
use Rattle.text.specs.declared.Span.{Span}

-- the part of a text from a to before e
abbrev pub part : Text → ℕ → ℕ → Text
part t a e = take (e - a) (drop a t)

abbrev pub span_text : Text → Span → Text
span_text t s = part t s.start s.end

-- the part of a text from a to before e, without its outer blanks
abbrev pub trimmed_span : Text → ℕ → ℕ → Span
trimmed_span t a e = record { start = a + leading (part t a e); end = a + leading (part t a e) + length (trim (part t a e)) }

-- from a to before e lies in the text
pub record PartIn (t : Text) (a e : ℕ) : Type 0 where
  pub ordered : a ≤ e
  pub inside : e ≤ length t

abbrev pub SpanIn : Text → Span → Type 0
SpanIn t s = PartIn t s.start s.end

-- a text put over another from position n on
unfoldable pub over_from : ℕ → List ℕ → List ℕ → List ℕ
over_from n new old = take n old ++ (new ++ drop (n + length new) old)
