-- The walk over the kept lines: what it owes to each call, and the verdict on a line among all. Assumes nothing.
use Rattle.std.specs.Prelude.{Option, None, Some, slice_get}
use mathlib.Core.Path.{◌≡◌, refl, sym, ap, ◌∙◌}
use mathlib.Core.Bool.{Bool, true, false, cond}
use mathlib.Core.List.{List, [], ◌∷◌, map, ◌++◌}
use Prim.Native.Nat.{ℕ, zero, suc, ◌+◌, ◌-◌, ◌^◌, ◌≤◌, ◌<◌}
use native.Mathlib.Omega.{arith}
use borrow.Author.Tests.{lt-ltb, le-ltb}
use lib.Dec.{ltb}
use lib.ListN.{length, get_or, length-append, length-map, length-take, length-drop}
use Rattle.rules.specs.Limits.{max_source}
use Rattle.rules.specs.Text.{Text, cut_at}
use Rattle.rules.specs.Line.{size}
use Rattle.rules.specs.Encode.{Mnemonic}
use Rattle.rules.specs.Answer.{accepted, refused, and_then}
use Rattle.rules.specs.Assemble.{Put, pass_at_by}
use Rattle.requests.specs.Explain.{because, not_instruction, why_task, verdicts, verdict_at, told_line, explain_all_by, explain_by}
use Rattle.requests.specs.Explain.{Verdict as Said}
use Rattle.label.specs.Labelled.{Labelled}
use Rattle.text.specs.declared.Span.{Span}
use Rattle.text.specs.Spans.{span_text, SpanIn}
use Rattle.line.specs.declared.Task.{Task}
use Rattle.line.specs.declared.Task.TheVariants.{Instruction}
use Rattle.cells.specs.Cells.{after_by, kept_at}
use Rattle.cells.specs.Puts.{address_at, put_at, puts_of}
use Rattle.cells.specs.declared.Kept.{Kept}
use Rattle.cells.proofs.Puts.{puts_length, put_at_lem}
use Rattle.cells.proofs.Tasks.{after_kept}
use Rattle.first.specs.Pass.{pass_in, Holds}
use Rattle.first.specs.declared.Pass.{Pass}
use Rattle.first.proofs.Callers.{bounded}
use Rattle.explain.specs.Verdict.{explained_of}
use Rattle.explain.specs.Lines.{verdict_on, WhyTaskNeeds, Walks, verdicts_to}
use Rattle.explain.specs.declared.Verdict.{Verdict}
use Rattle.explain.specs.declared.Verdict.TheVariants.{NotInstruction}

-- ---- what is owed
module _ {labels : Labelled} {cells : List ℕ} {pass : Pass} (h : Holds labels cells pass) where
  pub after_low : (j : ℕ) → j < pass.lines → after_by pass.base (address_at pass.base cells j) (kept_at cells j) < 2 ^ 32
  after_low j l =
      let b = (bounded h).puts j l in
      rw (after_kept size labels.source pass.base (address_at pass.base cells j) (kept_at cells j) (h.lines.line j l).sized) (omega (arith, b.after))

  pub walks : (k : ℕ) → k ≤ pass.lines → Walks cells pass.base k
  walks k l = record { room = omega (arith, h.lines.room); low = λ j m. after_low j (omega arith) }

  pub task_needs : (k : ℕ) → k < pass.lines → {a : ℕ} {kept : Kept} → a ≡ address_at pass.base cells k → kept ≡ kept_at cells k → WhyTaskNeeds labels a kept.task
  task_needs k l e f =
      rw (e, f)
      (record {
        near = record { labels_below = (bounded h).labels_below; address_below = ((bounded h).puts k l).here };
        short = (bounded h).short;
        within = (h.lines.line k l).within;
      })

-- an instruction's text
module _ {labels : Labelled} {a : ℕ} {task : Task} (n : WhyTaskNeeds labels a task) {s : Span} (e : task ≡ Instruction s) where
  pub span_in : SpanIn labels.source s
  span_in = rw e at n.within

  pub text_short : length (span_text labels.source s) ≤ max_source
  text_short = rw (length-take, length-drop) (omega (arith, n.short, span_in))

-- ---- the verdicts on all lines
mapped_at : {A B : Type 0} (f : A → B) (xs : List A) (es : List B) (j : ℕ) (d : A) → j < length xs → slice_get (map f xs ++ es) j ≡ Some (f (get_or xs j d))
mapped_at f [] es j d h = absurd (omega arith)
mapped_at f (x ∷ xs) es zero d h = refl
mapped_at f (x ∷ xs) es (suc j) d h = mapped_at f xs es j d (omega arith)

next_at : {A : Type 0} (xs es : List A) (j : ℕ) → length xs ≡ j → slice_get (xs ++ es) j ≡ slice_get es 0
next_at [] es zero e = refl
next_at [] es (suc j) e = absurd (omega arith)
next_at (x ∷ xs) es zero e = absurd (omega arith)
next_at (x ∷ xs) es (suc j) e = next_at xs es j (omega arith)

past_end : {A : Type 0} (xs : List A) (j : ℕ) → length xs ≤ j → slice_get xs j ≡ None
past_end [] j h = refl
past_end (x ∷ xs) zero h = absurd (omega arith)
past_end (x ∷ xs) (suc j) h = past_end xs j (omega arith)

module _ (names : List Mnemonic) (labels : Labelled) (cells : List ℕ) (pass : Pass) where
  -- the last one, where END is read
  abbrev pub ending : List Said
  ending = cond (ltb pass.lines (length (cut_at 10 labels.source))) (because not_instruction ∷ []) []

  abbrev pub all : List Said
  all = verdicts names labels.source (pass_in labels cells pass)

  pub verdicts_are : all ≡ verdicts_to names labels cells pass pass.lines ++ ending
  unfolding verdicts
  verdicts_are = rw (puts_length labels.source pass.base cells pass.lines)

  pub kept_count : (k : ℕ) → length (verdicts_to names labels cells pass k) ≡ k
  kept_count k = length-map (puts_of labels.source pass.base cells k) _ ∙ puts_length labels.source pass.base cells k

  pub with_end : pass.lines < length (cut_at 10 labels.source) → all ≡ verdicts_to names labels cells pass pass.lines ++ (because not_instruction ∷ [])
  with_end h = verdicts_are ∙ rw (lt-ltb pass.lines (length (cut_at 10 labels.source)) h)

  pub without_end : length (cut_at 10 labels.source) ≤ pass.lines → all ≡ verdicts_to names labels cells pass pass.lines ++ []
  without_end h = verdicts_are ∙ rw (le-ltb pass.lines (length (cut_at 10 labels.source)) h)

-- ---- one line among them
module _ (names : List Mnemonic) {labels : Labelled} {cells : List ℕ} {pass : Pass} (h : Holds labels cells pass) where
  abbrev said : List Said
  said = all names labels cells pass

  explained : (line : ℕ) → explain_by names pass.base labels.source line ≡ told_line line (verdict_at line said)
  unfolding explain_by explain_all_by and_then
  explained line = rw h.passed

  pub told_none : (line : ℕ) → line ≡ 0 → refused 13 line ≡ explained_of (explain_by names pass.base labels.source line)
  unfolding told_line verdict_at
  told_none line e = rw (explained line, e)

  module _ (line : ℕ) (e : line ≡ 0 → ⊥) where
    from_one : suc (line - 1) ≡ line
    from_one = omega arith

    told_at : (o : Option Said) → slice_get said (line - 1) ≡ o → explain_by names pass.base labels.source line ≡ told_line line o
    unfolding verdict_at
    told_at o q = explained line ∙ ap (told_line line) (ap (λ (n : ℕ). verdict_at n said) (sym from_one) ∙ q)

    pub told_kept : line - 1 < pass.lines → {r : Verdict} → r ≡ verdict_on names labels (address_at pass.base cells (line - 1)) (kept_at cells (line - 1)).task
        → accepted r ≡ explained_of (explain_by names pass.base labels.source line)
    unfolding told_line
    told_kept l q =
        let u : Put = put_at labels.source pass.base cells (line - 1) in
        let f : Put → Said = λ (v : Put). why_task names labels.table v.address v.task in
        let g = mapped_at f (puts_of labels.source pass.base cells pass.lines) (ending names labels cells pass) (line - 1) u (rw puts_length l) in
        rw (told_at _ (ap (λ (vs : List Said). slice_get vs (line - 1)) (verdicts_are names labels cells pass) ∙ g), put_at_lem labels.source pass.base cells pass.lines (line - 1) u l) (ap accepted q)

    beyond : (es : List Said) → said ≡ verdicts_to names labels cells pass pass.lines ++ es → pass.lines + length es ≤ line - 1 → refused 13 line ≡ explained_of (explain_by names pass.base labels.source line)
    unfolding told_line
    beyond es f l =
        let short : length (verdicts_to names labels cells pass pass.lines ++ es) ≤ line - 1 = rw (length-append, kept_count names labels cells pass pass.lines) l in
        rw (told_at None (rw f (past_end (verdicts_to names labels cells pass pass.lines ++ es) (line - 1) short)))

    pub told_past : pass.lines < line - 1 → refused 13 line ≡ explained_of (explain_by names pass.base labels.source line)
    told_past l = go (ltb pass.lines (length (cut_at 10 labels.source))) refl
      where
        go : (y : Bool) → ltb pass.lines (length (cut_at 10 labels.source)) ≡ y → refused 13 line ≡ explained_of (explain_by names pass.base labels.source line)
        go true k = beyond (because not_instruction ∷ []) (verdicts_are names labels cells pass ∙ rw k) (omega arith)
        go false k = beyond [] (verdicts_are names labels cells pass ∙ rw k) (omega arith)

    module _ (m : pass.lines ≤ line - 1) {n : ℕ} (q : n ≡ length (cut_at 10 labels.source)) where
      pub told_missing : n ≤ line - 1 → line - 1 ≤ pass.lines → refused 13 line ≡ explained_of (explain_by names pass.base labels.source line)
      told_missing k l = beyond [] (without_end names labels cells pass (omega arith)) (omega arith)

      pub told_end : line - 1 ≤ pass.lines → line - 1 < n → accepted NotInstruction ≡ explained_of (explain_by names pass.base labels.source line)
      unfolding told_line
      told_end l k =
          let z : pass.lines ≡ line - 1 = omega arith in
          let f = with_end names labels cells pass (omega arith) in
          rw (told_at (Some (because not_instruction))
          (ap (λ (vs : List Said). slice_get vs (line - 1)) f ∙ next_at (verdicts_to names labels cells pass pass.lines) (because not_instruction ∷ []) (line - 1) (kept_count names labels cells pass pass.lines ∙ z)))

-- ---- by the first pass
pub line_refused : (names : List Mnemonic) (source : Text) (base : ℕ) {n p : ℕ} → refused n p ≡ pass_at_by size base source → (line : ℕ) → refused n p ≡ explained_of (explain_by names base source line)
unfolding explain_by explain_all_by and_then
line_refused names source base e line = rw (← e)
