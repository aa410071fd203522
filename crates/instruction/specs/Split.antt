-- The operands of a joined tail: their texts, and where the first, the second and the last of them stand. Assumes nothing.
use Rattle.std.specs.Prelude.{ℕ, zero, suc, ◌+◌, ◌<◌, ◌≤◌, ◌≡◌, cond, List, [], ◌∷◌, map, eqb, length}
use Rattle.rules.specs.Text.{Text, leading, trim, cut_at, drop_empty, first_text, other_texts, last_text}
use Rattle.text.specs.declared.Span.{Span}
use Rattle.text.specs.Spans.{span_text}
use Rattle.instruction.specs.declared.Operands.{Operands}

-- "cut at commas, trimmed, empties removed"
unfoldable pub operands_in : Text → List Text
operands_in t = drop_empty (map trim (cut_at 44 t))

-- from a to before b
abbrev pub span : ℕ → ℕ → Span
span a b = record { start = a; end = b }

-- the place of a text at i, unless it is empty, before others
unfoldable pub keep_span : ℕ → Text → List Span → List Span
keep_span i [] ss = ss
keep_span i (b ∷ s) ss = span i (i + length (b ∷ s)) ∷ ss

-- the places of texts that follow each other from position i on, one byte between them: trimmed, empties removed
unfoldable pub spans : ℕ → List Text → List Span
spans i [] = []
spans i (p ∷ ps) = keep_span (i + leading p) (trim p) (spans (i + length p + 1) ps)

-- the last of s and ss
unfoldable pub last_span : Span → List Span → Span
last_span s [] = s
last_span s (u ∷ ss) = last_span u ss

-- the code's answer by its fields
abbrev pub operands : ℕ → Span → Span → Span → Operands
operands n s u v = record { count = n; first = s; second = u; last = v }

-- a lone operand counts as the second and the last too; where there is none, all are empty
unfoldable pub summary : List Span → Operands
summary [] = operands 0 (span 0 0) (span 0 0) (span 0 0)
summary (s ∷ []) = operands 1 s s s
summary (s ∷ u ∷ ss) = operands (2 + length ss) s u (last_span u ss)

-- where the operands of t stand
unfoldable pub operands_at : Text → Operands
operands_at t = summary (spans 0 (cut_at 44 t))

-- one operand after n others
abbrev pub next_operand : ℕ → Operands → Span → Operands
next_operand zero o s = operands 1 s s s
next_operand (suc zero) o s = operands 2 o.first s s
next_operand (suc (suc n)) o s = operands (o.count + 1) o.first o.second s

-- one operand more, unless it is empty
unfoldable pub with_span : Operands → Span → Operands
with_span o s = cond (eqb s.start s.end) o (next_operand o.count o s)

-- the text p stands in t at s, and is not empty
pub record StandsAt (t : Text) (s : Span) (p : Text) : Type 0 where
  pub some : s.start < s.end
  pub within : s.end ≤ length t
  pub text : span_text t s ≡ p

-- what an answer o says of a text t with the operands ps
pub record OperandsOf (t : Text) (o : Operands) (ps : List Text) : Type 0 where
  pub count : o.count ≡ length ps
  pub first : 0 < o.count → StandsAt t o.first (first_text ps)
  pub second : 1 < o.count → StandsAt t o.second (first_text (other_texts ps))
  pub last : 1 < o.count → StandsAt t o.last (last_text (first_text ps) (other_texts ps))

-- of two or more, each of the three places is a part of the text
pub record PlacesIn (t : Text) (o : Operands) : Type 0 where
  pub first : (o.first.start < o.first.end) × (o.first.end ≤ length t)
  pub second : (o.second.start < o.second.end) × (o.second.end ≤ length t)
  pub last : (o.last.start < o.last.end) × (o.last.end ≤ length t)
