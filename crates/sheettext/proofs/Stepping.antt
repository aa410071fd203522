-- Steps by where a file's reader stands: a script's, also over the limit, and a sheet's. Assumes nothing.
use Rattle.std.specs.Prelude.{Result, Err}
use Prim.Native.Nat.{ℕ, ◌<◌, ◌≤◌}
use mathlib.Core.Path.{◌≡◌, refl, sym, ap, ◌∙◌}
use mathlib.Core.Bool.{Bool, true, false, false≢true, cond}
use mathlib.Core.List.{List}
use native.Mathlib.Omega.{arith}
use borrow.Author.Tests.{lt-ltb, le-ltb, ltb-true, ltb-false}
use lib.Dec.{ltb}
use lib.ListN.{length, take, length-replicate}
use lib.Seq.{take_all}
use Rattle.rules.specs.Limits.{max_source}
use Rattle.rules.specs.Text.{Text}
use Rattle.rules.specs.Answer.{Answer, refused}
use Rattle.rules.specs.Assemble.{pass_at_by}
use Rattle.requests.specs.Sheet.{Totals as Said, answer_sheet, source_sheet, add_source, add_sheet}
use Rattle.station.specs.Reads.{Reads}
use Rattle.station.specs.declared.input.Input.{Input}
use Rattle.station.proofs.ScriptInput.{checks_long}
use Rattle.sheet.specs.declared.Totals.{Totals}
use Rattle.sheettext.specs.declared.Stop.{Stop}
use Rattle.sheettext.specs.Back.{Read, is_sheet, sheet_in}
use Rattle.sheettext.specs.Steps.{Outcome, unread, outcome_of, unless_unread, over_long, script_step, sheet_answer, sheet_step}

-- ---- a script over the limit
long_sheet : (t : Text) → max_source < length t → source_sheet t ≡ answer_sheet t (refused 1 (length t))
unfolding source_sheet pass_at_by
long_sheet t h = ap (answer_sheet t) (checks_long t _ h)

long_alike : (u : Said) (s t : Text) → max_source < length s → max_source < length t → add_source u s ≡ add_source u t
unfolding add_source answer_sheet
long_alike u s t h k = rw (long_sheet s h, long_sheet t k)

long_over : max_source < length over_long
unfolding over_long
long_over = rw length-replicate (omega arith)

module _ (u : Said) (i : Input) (buffer : List ℕ) where
  same_front : (t : Text) → Reads t buffer i → (k : 32768 ≤ length buffer) → i.total ≤ 32768 → take i.total buffer ≡ t
  same_front t r k h = sym r.front ∙ take_all (length buffer) t (omega (arith, r.total))

  whole : (t : Text) → (i.failed ≡ false → i.total ≤ 32768 → 32768 ≤ length buffer) → Reads t buffer i → script_step u i buffer ≡ unless_unread i (outcome_of (add_source u t))
  unfolding script_step unless_unread
  whole t k r = go i.failed refl (ltb max_source i.total) refl
    where
      go : (g : Bool) → i.failed ≡ g → (x : Bool) → ltb max_source i.total ≡ x
          → cond g unread (outcome_of (add_source u (cond x over_long (take i.total buffer)))) ≡ cond g unread (outcome_of (add_source u t))
      go true f x e = refl
      go false f true e = let h = ltb-true max_source i.total e in ap outcome_of (long_alike u over_long t long_over (omega (arith, r.total)))
      go false f false e =
          let h = ltb-false max_source i.total e in
          ap (λ (s : Text). outcome_of (add_source u s)) (same_front t r (k f h) h)

  -- what `add_script` owes
  abbrev Owed : Outcome → Type 0
  Owed o = (o ≡ script_step u i buffer) × ((t : Text) → Reads t buffer i → script_step u i buffer ≡ unless_unread i (outcome_of (add_source u t)))

  pub script_unread : i.failed ≡ true → Owed unread
  unfolding script_step unless_unread
  script_unread e = (rw e, λ t. whole t (λ g h. absurd (false≢true (sym g ∙ e))))

  pub script_long : i.failed ≡ false → max_source < i.total → {o : Outcome} → o ≡ outcome_of (add_source u over_long) → Owed o
  unfolding script_step unless_unread
  script_long e h p = (rw (e, lt-ltb max_source i.total h) p, λ t. whole t (λ g k. absurd (omega arith)))

  pub script_read : 32768 ≤ length buffer → i.failed ≡ false → i.total ≤ max_source → {o : Outcome} → o ≡ outcome_of (add_source u (take i.total buffer)) → Owed o
  unfolding script_step unless_unread
  script_read l e h p = (rw (e, le-ltb max_source i.total h) p, λ t. whole t (λ g k. l))

  -- a sheet's text
  sheet_whole : (t : Text) → (i.failed ≡ false → length buffer ≡ 32768) → Reads t buffer i → sheet_step u i buffer ≡ unless_unread i (sheet_answer u (sheet_in (take 32768 t)))
  unfolding sheet_step unless_unread
  sheet_whole t k r = go i.failed refl
    where
      go : (g : Bool) → i.failed ≡ g → cond g unread (sheet_answer u (sheet_in (take i.total buffer))) ≡ cond g unread (sheet_answer u (sheet_in (take 32768 t)))
      go true f = refl
      go false f = ap (λ (s : Text). sheet_answer u (sheet_in s)) (sym (rw (k f) at r.front))

  abbrev OwedSheet : Outcome → Type 0
  OwedSheet o = (o ≡ sheet_step u i buffer) × ((t : Text) → Reads t buffer i → sheet_step u i buffer ≡ unless_unread i (sheet_answer u (sheet_in (take 32768 t))))

  pub sheet_unread : i.failed ≡ true → OwedSheet unread
  unfolding sheet_step unless_unread
  sheet_unread e = (rw e, λ t. sheet_whole t (λ g. absurd (false≢true (sym g ∙ e))))

  pub sheet_long : length buffer ≡ 32768 → i.failed ≡ false → 32768 < i.total → {o : Outcome} → o ≡ sheet_answer u (sheet_in buffer) → OwedSheet o
  unfolding sheet_step unless_unread
  sheet_long l e h p =
      let all : take i.total buffer ≡ buffer = take_all i.total buffer (omega arith) in
      (rw (e, all) p, λ t. sheet_whole t (λ g. l))

  pub sheet_read : length buffer ≡ 32768 → i.failed ≡ false → {o : Outcome} → o ≡ sheet_answer u (sheet_in (take i.total buffer)) → OwedSheet o
  unfolding sheet_step unless_unread
  sheet_read l e p = (rw e p, λ t. sheet_whole t (λ g. l))

-- ---- a sheet's answer
pub sheet_added : (u v : Said) {r : Read} → is_sheet v ≡ r → {o : Outcome} {a : Answer Said} → a ≡ add_sheet u v → o ≡ outcome_of a → o ≡ sheet_answer u r
unfolding sheet_answer
sheet_added u v e p q = rw (← e) (q ∙ ap outcome_of p)

-- ---- a step by its two matches
pub stopped_so : {R : Type 0} {step : Result Totals (Stop R)} {x : Stop R} → step ≡ Err x → (y : Stop R) → x ≡ y → step ≡ Err y
stopped_so {R} e y f = e ∙ ap (λ (z : Stop R). Err z) f

-- ---- at the end of the names
pub ended_unread : (i : Input) (o : Outcome) → i.failed ≡ true → unread ≡ unless_unread i o
unfolding unless_unread
ended_unread i o e = rw e

pub ended_so : (i : Input) (o : Outcome) → i.failed ≡ false → o ≡ unless_unread i o
unfolding unless_unread
ended_so i o e = rw e
