-- What a call from C that tells a verdict owes: its answer as numbers. Assumes nothing.
use Rattle.std.specs.Prelude.{ℕ}
use Rattle.rules.specs.Answer.{Answer, accepted, refused}
use Rattle.requests.specs.Explain.{Verdict as Said}
use Rattle.explain.specs.Verdict.{verdict_of, verdict_number}
use Rattle.explain.specs.declared.Verdict.{Verdict}

-- what it returns, and what it leaves in the two numbers that the caller lends: 255 is no verdict's number
pub data Explains : Answer Said → ℕ → ℕ → ℕ → Type 0 where
  of_line : (v : Said) → Explains (accepted v) 0 (verdict_number (verdict_of v)) 0
  not_told : (n p : ℕ) → Explains (refused n p) n 255 p

-- ---- an answer that is a verdict, as numbers: the verdict's, or 255, which is none's
abbrev pub told_verdict : Answer Verdict → ℕ
told_verdict (accepted v) = verdict_number v
told_verdict (refused n p) = 255

-- the refusal's place, or 0
abbrev pub refused_place : Answer Verdict → ℕ
refused_place (accepted v) = 0
refused_place (refused n p) = p
