-- One sheet or script more. Assumes nothing.
use Rattle.std.proofs.Common.{ℕ, ◌+◌, ◌≡◌, refl, sym, ap, ◌∙◌, false, List, [], ◌∷◌, ◌++◌, length, take, arith}
use Rattle.std.specs.Prelude.{suc}
use Rattle.rules.specs.Text.{Text}
use Rattle.rules.specs.Answer.{Answer, accepted, refused, and_then}
use Rattle.requests.specs.Sheet.{Totals, no_totals, add_source, add_sheet, add_all, plant_sheet}
use Rattle.station.specs.declared.input.Input.{Input}
use Rattle.sheettext.specs.Back.{Read, is_sheet, wrong, sheet_in}
use Rattle.sheettext.specs.Steps.{Outcome, unread, outcome_of, unless_unread, script_step, sheet_answer, sheet_step}
use Rattle.sheettext.specs.Steps as Step
use Rattle.outcome.specs.Made.{Made, refuses, no_sheet}
use Rattle.outcome.specs.declared.Which.{Which}
use Rattle.outcome.specs.declared.Which.TheVariants.{Sheet, Script}
use Rattle.make_sheet.specs.Stated.{PlantSheet}
use Rattle.make_sheet.specs.Series.{Sum, summed, halts, sum_of, sheet_sum, with_sheet, with_script, with_sheets, with_scripts, sum_all}

-- ---- the last of some
pub sheets_more : (k : ℕ) (ss : List Text) (s : Text) (o : Sum) (m : ℕ) → m ≡ k + length ss → with_sheets k (ss ++ (s ∷ [])) o ≡ with_sheet m s (with_sheets k ss o)
unfolding with_sheets
sheets_more k [] s o m e = let same : m ≡ k = omega arith in rw same
sheets_more k (x ∷ ss) s o m e = sheets_more (suc k) ss s (with_sheet k x o) m (omega arith)

pub scripts_more : (ss : List Text) (s : Text) (o : Sum) → with_scripts (ss ++ (s ∷ [])) o ≡ with_script s (with_scripts ss o)
unfolding with_scripts
scripts_more [] s o = refl
scripts_more (x ∷ ss) s o = scripts_more ss s (with_script x o)

pub sheets_none : with_sheets 0 [] (summed no_totals) ≡ summed no_totals
unfolding with_sheets
sheets_none = refl

pub scripts_none : (t : Totals) → with_scripts [] (summed t) ≡ summed t
unfolding with_scripts
scripts_none t = refl

pub all_summed : (ss ts : List Text) (t u : Totals) → with_sheets 0 ss (summed no_totals) ≡ summed t → with_scripts ts (summed t) ≡ summed u → sum_all ss ts ≡ summed u
unfolding sum_all
all_summed ss ts t u e f = ap (with_scripts ts) e ∙ f

-- ---- a step of `sheettext`, as this crate tells it
abbrev pub told : Which → Outcome → Sum
told w (Step.summed t) = summed t
told w (Step.stops n p) = halts (refuses w n p)
told w (Step.no_sheet n) = halts (no_sheet n)
told w unread = halts (no_sheet 0)

told_answer : (w : Which) (a : Answer Totals) → sum_of w a ≡ told w (outcome_of a)
unfolding sum_of outcome_of
told_answer w (accepted t) = refl
told_answer w (refused n p) = refl

told_sheet : (k : ℕ) (t : Totals) (r : Read) → sheet_sum k t r ≡ told (Sheet k) (sheet_answer t r)
unfolding sheet_sum sheet_answer
told_sheet k t (is_sheet u) = told_answer (Sheet k) (add_sheet t u)
told_sheet k t (wrong n) = refl

was_read : (i : Input) (o : Outcome) → i.failed ≡ false → unless_unread i o ≡ o
unfolding unless_unread
was_read i o e = rw e

-- what the sheet, or the script, comes to
pub sheet_told : (k : ℕ) (s : Text) (t : Totals) (i : Input) {o x : Outcome} → i.failed ≡ false → o ≡ x
    → x ≡ unless_unread i (sheet_answer t (sheet_in (take 32768 s))) → with_sheet k s (summed t) ≡ told (Sheet k) o
unfolding with_sheet
sheet_told k s t i e p q = told_sheet k t (sheet_in (take 32768 s)) ∙ ap (told (Sheet k)) (sym (p ∙ (q ∙ was_read i _ e)))

pub script_told : (s : Text) (t : Totals) (i : Input) {o x : Outcome} → i.failed ≡ false → o ≡ x
    → x ≡ unless_unread i (outcome_of (add_source t s)) → with_script s (summed t) ≡ told Script o
unfolding with_script
script_told s t i e p q = told_answer Script (add_source t s) ∙ ap (told Script) (sym (p ∙ (q ∙ was_read i _ e)))

-- of a file that was read to its end a sheet's text may be none, a script's any
answered : (a : Answer Totals) → (unread ≡ outcome_of a → ⊥) × ((n : ℕ) → Step.no_sheet n ≡ outcome_of a → ⊥)
unfolding outcome_of
answered (accepted t) = (λ e. absurd (cc), λ n e. absurd (cc))
answered (refused m p) = (λ e. absurd (cc), λ n e. absurd (cc))

sheet_answered : (t : Totals) (r : Read) → unread ≡ sheet_answer t r → ⊥
unfolding sheet_answer
sheet_answered t (is_sheet u) e = (answered (add_sheet t u)).0 e
sheet_answered t (wrong n) e = absurd (cc)

module _ (t : Totals) (i : Input) (buffer : List ℕ) (read : i.failed ≡ false) where
  pub sheet_read : unread ≡ sheet_step t i buffer → ⊥
  unfolding sheet_step
  sheet_read e = sheet_answered t _ (e ∙ was_read i _ read)

  pub script_read : unread ≡ script_step t i buffer → ⊥
  unfolding script_step
  script_read e = (answered _).0 (e ∙ was_read i _ read)

  pub script_is_any : (n : ℕ) → Step.no_sheet n ≡ script_step t i buffer → ⊥
  unfolding script_step
  script_is_any n e = (answered _).1 n (e ∙ was_read i _ read)

-- ---- with no sheets
halted : (ts : List Text) (m : Made) → with_scripts ts (halts m) ≡ halts m
unfolding with_scripts with_script
halted [] m = refl
halted (s ∷ ts) m = halted ts m

scripts_all : (ts : List Text) (t : Totals) → with_scripts ts (summed t) ≡ sum_of Script (add_all t ts)
unfolding with_scripts with_script sum_of add_all and_then
scripts_all [] t = refl
scripts_all (s ∷ ts) t = go (add_source t s) (scripts_all ts)
  where
    go : (a : Answer Totals) → ((u : Totals) → with_scripts ts (summed u) ≡ sum_of Script (add_all u ts))
        → with_scripts ts (sum_of Script a) ≡ sum_of Script (and_then a (λ u. add_all u ts))
    go (accepted u) ih = ih u
    go (refused n p) ih = halted ts (refuses Script n p)

pub plant_scripts : PlantSheet
unfolding PlantSheet sum_all with_sheets plant_sheet
plant_scripts ts = scripts_all ts no_totals
