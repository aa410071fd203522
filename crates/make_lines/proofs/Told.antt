-- From what a call answers to what is told of it. Assumes nothing.
use Rattle.std.proofs.Common.{ℕ, ◌≡◌, List, [], ◌∷◌, map, length, drop, take, refl, sym, ap, ◌∙◌}
use Rattle.std.specs.Prelude.{Option, None, Some}
use lib.ListN.{length-map}
use lib.Seq.{take_at}
use Rattle.rules.specs.Text.{Text}
use Rattle.rules.specs.Number.{no_digits, bad_digit, out_of_range}
use Rattle.rules.specs.Answer.{Answer, accepted, refused}
use Rattle.requests.specs.Explain.{not_instruction, unknown_mnemonic, wrong_count, wrong_kinds, bad_number, not_recorded, out_of_reach, emitted, because, explain_all_by, explain_by}
use Rattle.requests.specs.Explain.{Verdict as Said}
use Rattle.explain.specs.Verdict.{verdict_of, verdicts_of, explained_of, count_of, put_over, written_over}
use Rattle.explain.specs.declared.Verdict.{Verdict}
use Rattle.station.specs.Puts.{texts}
use Rattle.whytext.specs.WhyLine.{verdict_text, rows_text, all_text}
use Rattle.whytext.specs.Verdicts.{said_of, line_of, counted_text}
use Rattle.whytext.proofs.Told.{line_back, counted_text_lem}
use Rattle.jsontext.specs.Lines.{explained}
use Rattle.outcome.specs.Made.{made, refuses, of_which, told_text}
use Rattle.make_lines.specs.Lines.{by_names, why_answer, entry_text, json_answer}

-- ---- refusals
explained_not : (a : Answer Said) (n p : ℕ) → refused n p ≡ explained_of a → a ≡ refused n p
explained_not (accepted v) n p e = absurd cc
explained_not (refused m q) n p e = cc

counted_not : (a : Answer (List Said)) (n p : ℕ) → refused n p ≡ count_of a → a ≡ refused n p
counted_not (accepted vs) n p e = absurd cc
counted_not (refused m q) n p e = cc

-- ---- verdicts as the code has them
said_back : (v : Said) → said_of (verdict_of v) ≡ v
said_back emitted = refl
said_back (because not_instruction) = refl
said_back (because unknown_mnemonic) = refl
said_back (because wrong_count) = refl
said_back (because wrong_kinds) = refl
said_back (because (bad_number no_digits)) = refl
said_back (because (bad_number bad_digit)) = refl
said_back (because (bad_number out_of_range)) = refl
said_back (because not_recorded) = refl
said_back (because out_of_reach) = refl

all_back : (vs : List Said) → map said_of (verdicts_of vs) ≡ vs
all_back [] = refl
all_back (v ∷ vs) = rw (said_back v, all_back vs) refl

module _ (base : ℕ) (name : Text) (o : Option Text) (s : Text) where
  -- ---- one line
  module _ (k : ℕ) where
    abbrev one : Answer Said
    one = by_names o (λ names. explain_by names base s k)

    pub one_told : (h : Text → Text) (v : Verdict) (x y : Text) → accepted v ≡ explained_of one → y ≡ line_of v → x ≡ h y → told_text (texts h (why_answer (Some k) base o s)) ≡ made x
    unfolding why_answer
    one_told h v x y e f g = go one e
      where
        go : (a : Answer Said) → accepted v ≡ explained_of a → told_text (texts h (texts verdict_text a)) ≡ made x
        go (accepted w) q = let r : v ≡ verdict_of w = cc in rw (g, f, r, line_back w) refl
        go (refused n p) q = absurd cc

    pub one_stopped : (h : Text → Text) (n p : ℕ) → refused n p ≡ explained_of one → told_text (texts h (why_answer (Some k) base o s)) ≡ refuses (of_which n) n p
    unfolding why_answer
    one_stopped h n p e = rw (explained_not one n p e) refl

    pub entry_told : (v : Verdict) (x : Text) → accepted v ≡ explained_of one → x ≡ entry_text (explained name k (said_of v ∷ [])) → told_text (json_answer (Some k) base name o s) ≡ made x
    unfolding json_answer
    entry_told v x e f = go one e
      where
        go : (a : Answer Said) → accepted v ≡ explained_of a → told_text (texts (λ w. entry_text (explained name k (w ∷ []))) a) ≡ made x
        go (accepted w) q = let r : v ≡ verdict_of w = cc in rw (f, r, said_back w) refl
        go (refused n p) q = absurd cc

    pub entry_stopped : (n p : ℕ) → refused n p ≡ explained_of one → told_text (json_answer (Some k) base name o s) ≡ refuses (of_which n) n p
    unfolding json_answer
    entry_stopped n p e = rw (explained_not one n p e) refl

  -- ---- all lines
  abbrev all : Answer (List Said)
  all = by_names o (λ names. explain_all_by names base s)

  pub all_told : (h : Text → Text) (n : ℕ) (old vs : List Verdict) (x y : Text) → accepted n ≡ count_of all → vs ≡ written_over all old → y ≡ counted_text (accepted n) vs → x ≡ h y
      → told_text (texts h (why_answer None base o s)) ≡ made x
  unfolding why_answer all_text
  all_told h n old vs x y e w f g = go all e w
    where
      go : (a : Answer (List Said)) → accepted n ≡ count_of a → vs ≡ written_over a old → told_text (texts h (texts (λ us. rows_text 1 (map verdict_text us)) a)) ≡ made x
      go (accepted us) q r =
          let t : y ≡ counted_text (count_of (accepted us)) (written_over (accepted us) old) =
          f ∙ ap (λ (z : Answer ℕ). counted_text z vs) q ∙ ap (λ (z : List Verdict). counted_text (count_of (accepted us)) z) r
          in
          ap (λ (z : Text). made (h z)) (sym (t ∙ counted_text_lem (accepted us) old)) ∙ ap made (sym g)
      go (refused m p) q r = absurd cc

  pub all_stopped : (h : Text → Text) (n p : ℕ) → refused n p ≡ count_of all → told_text (texts h (why_answer None base o s)) ≡ refuses (of_which n) n p
  unfolding why_answer
  all_stopped h n p e = rw (counted_not all n p e) refl

  pub entries_told : (n : ℕ) (old vs : List Verdict) (x : Text) → accepted n ≡ count_of all → vs ≡ written_over all old → x ≡ entry_text (explained name 1 (map said_of (take n vs)))
      → told_text (json_answer None base name o s) ≡ made x
  unfolding json_answer put_over
  entries_told n old vs x e w f = go all e w
    where
      go : (a : Answer (List Said)) → accepted n ≡ count_of a → vs ≡ written_over a old → told_text (texts (λ us. entry_text (explained name 1 us)) a) ≡ made x
      go (accepted us) q r =
          let c : n ≡ length us = cc in
          let t : map said_of (take n vs) ≡ us = rw (c, r, take_at (verdicts_of us) (drop (length (verdicts_of us)) old) (length us) (length-map us _)) (all_back us) in
          rw (f, t) refl
      go (refused m p) q r = absurd cc

  pub entries_stopped : (n p : ℕ) → refused n p ≡ count_of all → told_text (json_answer None base name o s) ≡ refuses (of_which n) n p
  unfolding json_answer
  entries_stopped n p e = rw (counted_not all n p e) refl
