-- From a call's answer to the text that is printed: a line's verdict, the rows of all lines, or a refusal. Assumes nothing.
use Rattle.std.specs.Prelude.{ℕ, ◌≡◌, ◌≤◌, Option, None, Some, Result, Ok, Err, IfOk, List, [], ◌∷◌, map, length, drop}
use mathlib.Core.Path.{refl, ap, ◌∙◌}
use native.Mathlib.Omega.{arith}
use lib.ListN.{length-append, length-map}
use lib.Seq.{take_at}
use Rattle.rules.specs.Limits.{max_lines}
use Rattle.rules.specs.Number.{no_digits, bad_digit, out_of_range}
use Rattle.rules.specs.Answer.{Answer, accepted, refused, and_then}
use Rattle.rules.specs.Assemble.{pass_at_by}
use Rattle.requests.specs.Explain.{not_instruction, unknown_mnemonic, wrong_count, wrong_kinds, bad_number, not_recorded, out_of_reach, emitted, because, explain_all_by, explain_by}
use Rattle.requests.specs.Explain.{Verdict as Said}
use Rattle.answer.specs.Refusal.{number_of, place_of, answer_of}
use Rattle.answer.specs.declared.Refusal.{Refusal}
use Rattle.explain.specs.Verdict.{verdict_of, verdicts_of, explained_of, count_of, put_over, written_over}
use Rattle.explain.specs.declared.Verdict.{Verdict}
use Rattle.station.specs.Refused.{answer_by}
use Rattle.station.proofs.Refusing.{answer_by_refusal}
use Rattle.station.proofs.ScriptInput.{RefusesLong, checks_long}
use Rattle.whytext.specs.WhyLine.{verdict_text, told_text, line_text, all_text, lines_text, why_text}
use Rattle.whytext.specs.Verdicts.{said_of, line_of, rows_of, rows_by, explained_text, counted_text, counted_by}
use Rattle.whytext.specs.declared.LineAt.{LineAt}

-- ---- a script over the limit
pub why_refuses_long : (a : Option LineAt) → RefusesLong (why_text a)
unfolding why_text line_text lines_text told_text all_text explain_by explain_all_by and_then pass_at_by
why_refuses_long (Some a) t h = rw (checks_long t _ h)
why_refuses_long None t h = rw (checks_long t _ h)

-- ---- a line
said_back : (v : Said) → said_of (verdict_of v) ≡ v
said_back emitted = refl
said_back (because not_instruction) = refl
said_back (because unknown_mnemonic) = refl
said_back (because wrong_count) = refl
said_back (because wrong_kinds) = refl
said_back (because (bad_number no_digits)) = refl
said_back (because (bad_number bad_digit)) = refl
said_back (because (bad_number out_of_range)) = refl
said_back (because not_recorded) = refl
said_back (because out_of_reach) = refl

pub line_back : (v : Said) → line_of (verdict_of v) ≡ verdict_text v
unfolding line_of
line_back v = ap verdict_text (said_back v)

pub explained_text_lem : (a : Answer Said) → explained_text (explained_of a) ≡ told_text a
unfolding told_text
explained_text_lem (accepted v) = line_back v
explained_text_lem (refused n p) = refl

-- ---- every line that is read
lines_back : (vs : List Said) → map line_of (verdicts_of vs) ≡ map verdict_text vs
lines_back [] = refl
lines_back (v ∷ vs) = rw (line_back v, lines_back vs)

pub counted_text_lem : (a : Answer (List Said)) (old : List Verdict) → counted_text (count_of a) (written_over a old) ≡ all_text a
unfolding all_text rows_of put_over
counted_text_lem (accepted vs) old = rw (take_at (verdicts_of vs) _ (length vs) (length-map vs _), lines_back vs)
counted_text_lem (refused n p) old = refl

-- a verdict stands for itself
pub counted_by_verdicts : (a : Answer ℕ) (vs : List Verdict) → counted_by (λ v. v) a vs ≡ counted_text a vs
unfolding rows_of rows_by
counted_by_verdicts (accepted n) vs = refl
counted_by_verdicts (refused n p) vs = refl

-- what a call answers and writes, by its own refusals
pub counted_by_call : (a : Answer (List Said)) (old : List Verdict) (r : Result ℕ Refusal) → answer_of r ≡ count_of a → {x : List Verdict} → x ≡ written_over a old
    → counted_by (λ v. v) (answer_by number_of place_of r) x ≡ all_text a
counted_by_call a old r e w = rw (answer_by_refusal r, e, w) (counted_by_verdicts (count_of a) (written_over a old) ∙ counted_text_lem a old)

-- as many verdicts as the answer says stand in the slice
pub rows_fit : (a : Answer (List Said)) (r : Result ℕ Refusal) → answer_of r ≡ count_of a → IfOk r (λ n. n ≤ max_lines)
    → (old : List Verdict) {x : List Verdict} → x ≡ written_over a old → IfOk r (λ n. (n ≤ length x) × (n ≤ max_lines))
unfolding put_over
rows_fit (accepted vs) (Ok n) e few old w = let q : n ≡ length vs = cc in (rw w (omega (arith, q, length-append (verdicts_of vs) (drop (length (verdicts_of vs)) old), length-map vs verdict_of)), few)
rows_fit (refused m p) (Ok n) e few old w = absurd cc
rows_fit a (Err f) e few old w = few
