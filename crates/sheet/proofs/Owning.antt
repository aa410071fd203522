-- A source's own totals, from what the first pass left to the source's sheet. Assumes nothing.
use mathlib.Core.Path.{◌≡◌, sym, ap, ◌∙◌}
use mathlib.Core.List.{List, []}
use Prim.Native.Nat.{ℕ, ◌-◌}
use native.Mathlib.Omega.{arith}
use lib.ListN.{length}
use Rattle.rules.specs.Text.{Text, cut_at}
use Rattle.rules.specs.Line.{size, lines_of}
use Rattle.rules.specs.Answer.{accepted, refused}
use Rattle.rules.specs.Assemble.{checks, first_pass_by, pass_at_by, pass_at}
use Rattle.requests.specs.Sheet.{Totals as Said, totals, one_refused, accepted_sheet, answer_sheet, source_sheet, plus}
use Rattle.promises.proofs.SheetClasses.{read_few}
use Rattle.source.proofs.Callers.{checks_clear, stopped}
use Rattle.label.specs.Labelled.{Labelled}
use Rattle.cells.specs.Puts.{puts_of}
use Rattle.cells.proofs.Puts.{puts_length}
use Rattle.first.specs.Pass.{pass_in, IsDone}
use Rattle.first.specs.declared.Pass.{Pass}
use Rattle.first.proofs.Callers.{pass_clear}
use Rattle.sheet.specs.Totals.{said}
use Rattle.sheet.specs.Lines.{ReadTotalsGives}
use Rattle.sheet.specs.Source.{PassTotalsNeeds, Starting}
use Rattle.sheet.specs.declared.Totals.{Totals}
use Rattle.sheet.proofs.Tallies.{sheet_is}

-- ---- an accepted pass
module _ {labels : Labelled} {cells : List ℕ} {pass : Pass} {lines : ℕ} (n : PassTotalsNeeds labels cells pass lines) where
  module _ {t : Totals} (g : ReadTotalsGives labels cells pass t) where
    pub pass_sheet : (m : ℕ) → m ≡ length labels.table → {v : Totals} → said v ≡ plus (said t) (totals 0 0 0 0 0 0 (lines - pass.lines) 0 0 m 1 0)
        → said v ≡ accepted_sheet labels.source (pass_in labels cells pass)
    pass_sheet m e h =
        let k = puts_length labels.source pass.base cells pass.lines in
        let ended : lines - pass.lines ≡ length (cut_at 10 labels.source) - length (puts_of labels.source pass.base cells pass.lines) = rw (k, n.lines_are) in
        rw (h, g.is) (sheet_is labels.source (pass_in labels cells pass) (lines - pass.lines) m ended e)

-- ---- by the first pass's answer
by_refusal : (s : Text) {n k : ℕ} → refused n k ≡ pass_at 0 s → one_refused ≡ source_sheet s
unfolding source_sheet answer_sheet
by_refusal s e = rw (← e)

module _ {source : Text} {lines : ℕ} (n : Starting source lines) where
  passes : pass_at_by size 0 source ≡ first_pass_by size 0 0 [] (lines_of source)
  passes = pass_clear size source 0 (checks_clear source n.clear) (omega arith)

  pub pass_refused : {m k : ℕ} → refused m k ≡ first_pass_by size 0 0 [] (lines_of source) → one_refused ≡ source_sheet source
  pass_refused e = by_refusal source (e ∙ sym passes)

  module _ {labels : Labelled} {cells : List ℕ} {p : Pass} (s : labels.source ≡ source) (e : accepted (pass_in labels cells p) ≡ first_pass_by size 0 0 [] (lines_of source)) (d : IsDone size labels 0 cells p) where
    passed : pass_at 0 source ≡ accepted (pass_in labels cells p)
    passed = sym (e ∙ sym passes)

    pub pass_needs : PassTotalsNeeds labels cells p lines
    pass_needs =
        let f = read_few source (pass_in labels cells p) passed in
        record {
          holds = record { passed = rw (d.base, s) (rw (d.base, s) at passed); lines = d.kept; values = d.values };
          lines_are = rw s n.lines_are;
          read = omega (arith, f, puts_length labels.source p.base cells p.lines, n.lines_are);
          few = omega (arith, n.lines_are, n.clear.few);
        }

    pub pass_counted : {u : Said} → u ≡ accepted_sheet labels.source (pass_in labels cells p) → u ≡ source_sheet source
    unfolding source_sheet answer_sheet
    pass_counted h = h ∙ ap (λ (t : Text). accepted_sheet t (pass_in labels cells p)) s ∙ sym (ap (answer_sheet source) passed)

-- ---- by refusals 1 to 3
pub check_refused : (s : Text) {n k : ℕ} → refused n k ≡ checks s (accepted (length (cut_at 10 s))) → one_refused ≡ source_sheet s
unfolding pass_at_by
check_refused s e = by_refusal s (stopped s _ _ _ e _)
