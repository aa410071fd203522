-- A file more, by the front of it that is kept. Assumes nothing.
use Rattle.std.proofs.Common.{◌≡◌, ℕ, ◌<◌, refl, sym, ap, ◌∙◌, Bool, true, false, leb, length, take, min, take_all, take-take, length-take-le, arith}
use borrow.Author.Tests.{leb-true, leb-false}
use Rattle.rules.specs.Limits.{max_source}
use Rattle.rules.specs.Text.{Text}
use Rattle.rules.specs.Answer.{Answer, refused}
use Rattle.rules.specs.Assemble.{pass_at_by}
use Rattle.requests.specs.Sheet.{Totals, answer_sheet, source_sheet, add_source, add_sheet}
use Rattle.station.proofs.ScriptInput.{checks_long}
use Rattle.sheettext.specs.Back.{is_sheet, wrong, sheet_in}
use Rattle.cli_error.specs.Fault.{no_sheet}
use Rattle.cli_error.proofs.Columns.{front_of}
use Rattle.cli_run.specs.Input.{Named}
use Rattle.cli_totals.specs.Series.{halts, sum_of, sheet_sum, with_file}
use Rattle.cli_totals.specs.declared.adding.Kind.TheVariants.{Sheet, Script}

-- ---- a script over the limit is refused whatever its bytes
long_sheet : (s : Text) → max_source < length s → source_sheet s ≡ answer_sheet s (refused 1 (length s))
unfolding source_sheet pass_at_by
long_sheet s h = ap (answer_sheet s) (checks_long s _ h)

long_alike : (t : Totals) (s x : Text) → max_source < length s → max_source < length x → add_source t s ≡ add_source t x
unfolding add_source answer_sheet
long_alike t s x h k = rw (long_sheet s h, long_sheet x k)

source_front : (t : Totals) (s : Text) → add_source t (take 32769 s) ≡ add_source t s
source_front t s = go (leb (length s) 32769) refl
  where
    go : (y : Bool) → leb (length s) 32769 ≡ y → add_source t (take 32769 s) ≡ add_source t s
    go true e = ap (add_source t) (take_all 32769 s (leb-true (length s) 32769 e))
    go false e =
        let long = leb-false (length s) 32769 e in
        let front = length-take-le 32769 s (omega arith) in
        long_alike t (take 32769 s) s (omega arith) (omega arith)

-- ---- by what is kept of the file
module _ (b : Named) (t : Totals) {name kept : Text} (n : name ≡ b.name) (f : kept ≡ take 32769 b.text) where
  -- of at most 32,768 bytes
  module _ {m : ℕ} (g : m ≡ min (length kept) 32768) where
    sheet_front : take m kept ≡ take 32768 b.text
    sheet_front = ap (λ (k : ℕ). take k kept) g ∙ (front_of kept 32768 ∙ (ap (take 32768) f ∙ take-take 32768 32769 b.text (omega arith)))

    pub sheet_read : {u : Totals} {x : Answer Totals} → is_sheet u ≡ sheet_in (take m kept) → x ≡ add_sheet t u → with_file Sheet t b ≡ sum_of name x
    unfolding with_file sheet_sum
    sheet_read {u} {x} e h =
        ap (sheet_sum b.name t) (sym (e ∙ ap sheet_in sheet_front)) ∙ (ap (sum_of b.name) (sym h) ∙ ap (λ (k : Text). sum_of k x) (sym n))

    pub sheet_wrong : {l : ℕ} → wrong l ≡ sheet_in (take m kept) → with_file Sheet t b ≡ halts (no_sheet name l)
    unfolding with_file sheet_sum
    sheet_wrong {l} e = ap (sheet_sum b.name t) (sym (e ∙ ap sheet_in sheet_front)) ∙ ap (λ (k : Text). halts (no_sheet k l)) (sym n)

  pub script_read : {x : Answer Totals} → x ≡ add_source t kept → with_file Script t b ≡ sum_of name x
  unfolding with_file
  script_read {x} h =
      ap (sum_of b.name) (sym (h ∙ (ap (add_source t) f ∙ source_front t b.text))) ∙ ap (λ (m : Text). sum_of m x) (sym n)
