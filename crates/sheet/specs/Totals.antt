-- Totals and answers as the code has them, read as the rules'; and what a sum needs. Assumes nothing.
use Rattle.std.specs.Prelude.{List, ℕ, ◌+◌, ◌^◌, ◌<◌, get_or, Result, Ok, Err}
use Rattle.rules.specs.Answer.{Answer, accepted, refused}
use Rattle.requests.specs.Sheet.{totals}
use Rattle.requests.specs.Sheet.{Totals as Said}
use Rattle.answer.specs.Refusal.{number_of, place_of}
use Rattle.answer.specs.declared.Refusal.{Refusal}
use Rattle.sheet.specs.declared.Totals.{Totals}

-- what the twelve numbers say
abbrev pub said : Totals → Said
said t =
    totals t.skipped t.org t.label t.defined t.worded t.wordless t.ended t.words t.marked
    t.labels t.accepted t.refused

-- and twelve numbers in one list
abbrev pub lent_totals : List ℕ → Said
lent_totals ns =
    totals (get_or ns 0 0) (get_or ns 1 0) (get_or ns 2 0) (get_or ns 3 0) (get_or ns 4 0) (get_or ns 5 0) (get_or ns 6 0) (get_or ns 7 0) (get_or ns 8 0) (get_or ns 9 0) (get_or ns 10 0)
    (get_or ns 11 0)

-- and an answer
abbrev pub answered : Result Totals Refusal → Answer Said
answered (Ok t) = accepted (said t)
answered (Err e) = refused (number_of e) (place_of e)

-- the eleven that are added up, together: each is at most that
abbrev pub weight : Said → ℕ
weight t =
    t.skipped_lines + t.org_lines + t.label_lines + t.data_lines + t.word_lines + t.wordless_lines + t.end_lines + t.words + t.marked
    + t.accepted_sources + t.refused_sources

-- each sum has 64 bits
pub record SumFits (t u : Totals) : Type 0 where
  pub of_skipped : t.skipped + u.skipped < 2 ^ 64
  pub of_org : t.org + u.org < 2 ^ 64
  pub of_label : t.label + u.label < 2 ^ 64
  pub of_data : t.defined + u.defined < 2 ^ 64
  pub of_word : t.worded + u.worded < 2 ^ 64
  pub of_wordless : t.wordless + u.wordless < 2 ^ 64
  pub of_end : t.ended + u.ended < 2 ^ 64
  pub of_words : t.words + u.words < 2 ^ 64
  pub of_marked : t.marked + u.marked < 2 ^ 64
  pub of_accepted : t.accepted + u.accepted < 2 ^ 64
  pub of_refused : t.refused + u.refused < 2 ^ 64
