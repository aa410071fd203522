-- Verdicts as the code has them, and what they are of a script. Assumes nothing.
use Rattle.std.proofs.Common.{ℕ, ◌≡◌, ◌+◌, ◌<◌, ◌≤◌, List, [], ◌∷◌, ◌++◌, map, length, drop, take, get_or, set, refl, sym, ap, ◌∙◌, arith, append-nil, flat_map}
use Rattle.std.specs.Prelude.{Option, None, Some, Result, Ok, Err, IfOk}
use Rattle.std.proofs.lemmas.List.{take_more}
use Rattle.std.proofs.lemmas.List.Concat.{flat_map-append}
use lib.ListN.{length-map}
use lib.Seq.{take_at}
use Rattle.rules.specs.Text.{Text}
use Rattle.rules.specs.Number.{no_digits, bad_digit, out_of_range}
use Rattle.rules.specs.Answer.{Answer, accepted, refused}
use Rattle.answer.specs.Refusal.{answer_of}
use Rattle.answer.specs.declared.Refusal.{Refusal}
use Rattle.requests.specs.Explain.{not_instruction, unknown_mnemonic, wrong_count, wrong_kinds, bad_number, not_recorded, out_of_reach, emitted, because, explain_all_by, explain_by}
use Rattle.requests.specs.Explain.{Verdict as Said}
use Rattle.explain.specs.Verdict.{verdict_of, verdicts_of, explained_of, count_of, put_over, written_over}
use Rattle.explain.specs.declared.Verdict.{Verdict}
use Rattle.whytext.specs.WhyLine.{verdict_text, rows_text}
use Rattle.whytext.specs.Verdicts.{said_of, line_of, rows_of}
use Rattle.cli_lines.specs.Lines.{by_names, answer_map, verdicts_on, first_line, verdicts_text}
use Rattle.cli_lines.specs.State.{Explains}

-- ---- their texts
lines_of : (vs : List Verdict) → map line_of vs ≡ map verdict_text (map said_of vs)
unfolding line_of
lines_of [] = refl
lines_of (v ∷ vs) = ap (λ (l : List Text). verdict_text (said_of v) ∷ l) (lines_of vs)

pub rows_said : (vs : List Verdict) → rows_of vs ≡ verdicts_text None (map said_of vs)
unfolding rows_of verdicts_text
rows_said vs = ap (rows_text 1) (lines_of vs)

pub lines_said : (k : ℕ) (vs : List Verdict) → flat_map line_of vs ≡ verdicts_text (Some k) (map said_of vs)
unfolding line_of verdicts_text
lines_said k [] = refl
lines_said k (v ∷ vs) = ap (λ (s : Text). verdict_text (said_of v) ++ s) (lines_said k vs)

pub lines_more : (k : ℕ) (vs : List Verdict) (d : Verdict) → k < length vs → flat_map line_of (take (k + 1) vs) ≡ flat_map line_of (take k vs) ++ line_of (get_or vs k d)
lines_more k vs d h =
    ap (flat_map line_of) (take_more vs k d h) ∙ flat_map-append line_of (take k vs) (get_or vs k d ∷ [])
    ∙ ap (λ (s : Text). flat_map line_of (take k vs) ++ s) (append-nil (line_of (get_or vs k d)))

-- ---- verdicts as the code has them
said_back : (v : Said) → said_of (verdict_of v) ≡ v
said_back emitted = refl
said_back (because not_instruction) = refl
said_back (because unknown_mnemonic) = refl
said_back (because wrong_count) = refl
said_back (because wrong_kinds) = refl
said_back (because (bad_number no_digits)) = refl
said_back (because (bad_number bad_digit)) = refl
said_back (because (bad_number out_of_range)) = refl
said_back (because not_recorded) = refl
said_back (because out_of_reach) = refl

all_back : (vs : List Said) → map said_of (verdicts_of vs) ≡ vs
all_back [] = refl
all_back (v ∷ vs) = rw (said_back v, all_back vs) refl

-- ---- what they are of a script
first_of : (xs : List Verdict) (v : Verdict) → 0 < length xs → take 1 (set xs 0 v) ≡ v ∷ []
first_of [] v h = absurd (omega arith)
first_of (x ∷ xs) v h = refl

module _ (base : ℕ) (o : Option Text) (s : Text) where
  module _ (k : ℕ) where
    abbrev one : Answer Said
    one = by_names o (λ names. explain_by names base s k)

    pub one_written : (v : Verdict) (xs : List Verdict) → accepted v ≡ explained_of one → 0 < length xs → verdicts_on (Some k) base o s ≡ accepted (map said_of (take 1 (set xs 0 v)))
    unfolding verdicts_on
    one_written v xs e h = go one e
      where
        go : (a : Answer Said) → accepted v ≡ explained_of a → answer_map (λ u. u ∷ []) a ≡ accepted (map said_of (take 1 (set xs 0 v)))
        go (accepted w) q = let r : v ≡ verdict_of w = cc in rw (first_of xs v h, r) (ap (λ (u : Said). accepted (u ∷ [])) (sym (said_back w)))
        go (refused n p) q = absurd cc

    pub one_refused : (n p : ℕ) → refused n p ≡ explained_of one → verdicts_on (Some k) base o s ≡ refused n p
    unfolding verdicts_on
    one_refused n p e = go one e
      where
        go : (a : Answer Said) → refused n p ≡ explained_of a → answer_map (λ u. u ∷ []) a ≡ refused n p
        go (accepted w) q = absurd cc
        go (refused m r) q = cc

  abbrev all : Answer (List Said)
  all = by_names o (λ names. explain_all_by names base s)

  pub all_written : (n : ℕ) (old vs : List Verdict) → accepted n ≡ count_of all → vs ≡ written_over all old → verdicts_on None base o s ≡ accepted (map said_of (take n vs))
  unfolding verdicts_on put_over
  all_written n old vs e w = go all e w
    where
      go : (a : Answer (List Said)) → accepted n ≡ count_of a → vs ≡ written_over a old → a ≡ accepted (map said_of (take n vs))
      go (accepted us) q r =
          let c : n ≡ length us = cc in
          let t : map said_of (take n vs) ≡ us = rw (c, r, take_at (verdicts_of us) (drop (length (verdicts_of us)) old) (length us) (length-map us _)) (all_back us) in
          ap (λ (l : List Said). accepted l) (sym t)
      go (refused m p) q r = absurd cc

  pub all_refused : (n p : ℕ) → refused n p ≡ count_of all → verdicts_on None base o s ≡ refused n p
  unfolding verdicts_on
  all_refused n p e = go all e
    where
      go : (a : Answer (List Said)) → refused n p ≡ count_of a → a ≡ refused n p
      go (accepted us) q = absurd cc
      go (refused m r) q = cc

  pub all_explained : (r : Result ℕ Refusal) (old vs : List Verdict) → answer_of r ≡ count_of all → vs ≡ written_over all old → Explains (verdicts_on None base o s) r vs
  all_explained (Ok n) old vs e w = all_written n old vs e w
  all_explained (Err x) old vs e w = all_refused _ _ e

pub from_one : (r : Result ℕ Refusal) → IfOk r (λ n. first_line None ≤ 4096)
from_one (Ok n) = omega arith
from_one (Err e) = tt
