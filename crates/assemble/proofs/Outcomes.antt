-- From what the passes answer to what a call gives. Assumes nothing.
use Rattle.std.proofs.Common.{◌≡◌, ℕ, ◌≤◌, List, [], refl, sym, ◌∙◌}
use borrow.Author.Tests.{le-leb}
use Rattle.rules.specs.Limits.{address_limit}
use Rattle.rules.specs.Text.{Text}
use Rattle.std.specs.Prelude.{Some}
use Rattle.rules.specs.Line.{lines_of, size}
use Rattle.rules.specs.Encode.{encode_by}
use Rattle.requests.specs.Branches.{checked, loaded, under, assemble_under, assemble_under_answer, assemble_under_slices}
use Rattle.branches.specs.Branch.{names_in}
use Rattle.rules.specs.Answer.{Answer, accepted, refused, refuse_if, and_then}
use Rattle.rules.specs.Assemble.{Sizes, Pass as Passed, Place, Slices, checks, first_pass_by, pass_at_by, encoded, assemble_by, write_list}
use Rattle.answer.specs.declared.Refusal.{Refusal}
use Rattle.answer.specs.Refusal.{number_of, place_of}
use Rattle.source.specs.Clear.{Clear}
use Rattle.source.proofs.Callers.{checks_clear, stopped}
use Rattle.label.specs.Labelled.{Labelled}
use Rattle.first.specs.Pass.{pass_in, IsDone, HoldsBy}
use Rattle.first.specs.declared.Pass.{Pass}
use Rattle.first.proofs.Callers.{pass_clear, holds}
use Rattle.assemble.proofs.Lists.{refusal, refusal_keeps}
use Rattle.assemble.specs.Assembled.{called, list_by, Starting, Refuses}

-- ---- refusals 1 to 4
pub check_refuses : (s : Text) (base n : ℕ) (e : Refusal) → refused (number_of e) (place_of e) ≡ checks s (accepted n) → Refuses s base e
unfolding pass_at_by
check_refuses s base n e h z = sym (stopped s n _ _ h _)

pub refuses_4 : {s : Text} {base : ℕ} → Clear s → address_limit ≤ base → (z : Sizes) → pass_at_by z base s ≡ refused 4 0
unfolding pass_at_by refuse_if
refuses_4 {s} {base} c h z = checks_clear s c _ ∙ rw (le-leb address_limit base h)

-- ---- a refusal of the first pass
module _ (z : Sizes) (f : Passed → Answer (List Place)) (base : ℕ) (s : Text) (x : Slices) {r p : ℕ} (e : pass_at_by z base s ≡ refused r p) where
  stops : list_by z f base s ≡ refused r p
  unfolding and_then
  stops = rw e

  pub refuses : refused r p ≡ called (list_by z f base s) x
  refuses = refusal _ x r p stops

  pub keeps : x ≡ write_list (list_by z f base s) x
  keeps = refusal_keeps _ x r p stops

-- ---- the first pass, and from an accepted one to the second
module _ {s : Text} {base : ℕ} (b : Starting s base) (z : Sizes) where
  pub passes : {a : Answer Passed} → a ≡ first_pass_by z base base [] (lines_of s) → pass_at_by z base s ≡ a
  passes e = pass_clear z s base (checks_clear s b.clear) b.low ∙ sym e

  pub goes_on : (f : Passed → Answer (List Place)) {q : Passed} → accepted q ≡ first_pass_by z base base [] (lines_of s) → list_by z f base s ≡ f q
  unfolding and_then
  goes_on f e = rw (passes e)

pub done_holds : {z : Sizes} {labels : Labelled} {base : ℕ} {cells : List ℕ} {p : Pass} → Starting labels.source base
    → accepted (pass_in labels cells p) ≡ first_pass_by z base base [] (lines_of labels.source) → IsDone z labels base cells p → HoldsBy z labels cells p
done_holds {z} {labels} b e d = holds labels (sym (passes b z e)) refl d

-- ---- under a branch table
module _ (t : Text) (base : ℕ) (s : Text) (x : Slices) where
  module _ (r p : ℕ) (e : refused r p ≡ checked t) where
    table_refused : assemble_under t base s ≡ refused r p
    unfolding under loaded and_then
    table_refused = rw (← e)

    pub under_refused : refused r p ≡ assemble_under_answer t base s x
    unfolding assemble_under_answer
    under_refused = refusal _ x r p table_refused

    pub under_keeps : x ≡ assemble_under_slices t base s x
    unfolding assemble_under_slices
    under_keeps = refusal_keeps _ x r p table_refused

  module _ (n : ℕ) (e : accepted n ≡ checked t) where
    table_accepted : list_by size (encoded (encode_by (names_in (Some t)))) base s ≡ assemble_under t base s
    unfolding under loaded and_then names_in assemble_by
    table_accepted = rw (← e)

    pub under_answer : called (list_by size (encoded (encode_by (names_in (Some t)))) base s) x ≡ assemble_under_answer t base s x
    unfolding assemble_under_answer
    under_answer = rw table_accepted

    pub under_slices : write_list (list_by size (encoded (encode_by (names_in (Some t)))) base s) x ≡ assemble_under_slices t base s x
    unfolding assemble_under_slices
    under_slices = rw table_accepted
