-- The printout: the labels under the rows, and a source's by the first pass. Assumes nothing.
use Rattle.std.specs.Prelude.{Option, None, Some, Result, Ok, Err}
use Prim.Native.Nat.{ℕ, ◌+◌, ◌≤◌}
use mathlib.Core.Path.{◌≡◌, refl, sym, ap, ◌∙◌}
use mathlib.Core.List.{List, [], ◌∷◌}
use native.Mathlib.Omega.{arith}
use lib.ListN.{length, take}
use Rattle.rules.specs.Text.{Text, cut_at}
use Rattle.rules.specs.Line.{size}
use Rattle.rules.specs.Label.{Table}
use Rattle.rules.specs.Encode.{Mnemonic}
use Rattle.rules.specs.Answer.{Answer, accepted, refused, and_then}
use Rattle.rules.specs.Assemble.{pass_at_by}
use Rattle.requests.specs.Symbols.{in_order, symbols}
use Rattle.promises.specs.Symbols.{EachListFits}
use Rattle.promises.proofs.SymbolsFit.{each_list_fits}
use Rattle.requests.specs.Branches.{checked}
use Rattle.answer.specs.Refusal.{number_of, place_of, answer_of}
use Rattle.answer.specs.declared.Refusal.{Refusal}
use Rattle.branches.specs.Branch.{names_in}
use Rattle.branches.proofs.Callers.{under_refused, under_accepted}
use Rattle.label.specs.Labelled.{Labelled}
use Rattle.outline.specs.Lines.{lines_from}
use Rattle.outline.proofs.Lines.{lines_all, lines_count}
use Rattle.first.specs.Pass.{pass_in, Holds}
use Rattle.first.specs.declared.Pass.{Pass}
use Rattle.first.proofs.Bounds.{InLimits, within}
use Rattle.listing.specs.Writer.{Begins, Adds}
use Rattle.listing.specs.declared.writer.Writer.{Writer}
use Rattle.listing.proofs.Adding.{adds_both}
use Rattle.std.specs.Borrow.{Bor, MutBor}
use Rattle.std.specs.Option.{option_copied}
use Rattle.station.specs.Printed.{Printed}
use Rattle.station.proofs.Puts.{line_of}
use Rattle.symtext.specs.Symlist.{symbols_text, told_text as told}
use Rattle.symtext.proofs.Told.{lines_fit}
use Rattle.printout.specs.Printout.{under_rows, page_text, printout_by, printout_of, told_text}
use Rattle.printout.specs.Rows.{LinesNeeds, RowsGive}
use Rattle.printout.proofs.Keeping.{all_rows}

-- no labels, and nothing under the rows
pub none_under : (t : Table) (s : Text) → length t ≡ 0 → under_rows t s ≡ []
unfolding under_rows
none_under [] s e = refl
none_under (x ∷ t) s e = absurd (omega arith)

-- some labels: byte 10, and the text that stands in front of d
pub labels_add : (t : Table) → (length t ≡ 0 → ⊥) → {s : Text} {k : ℕ} {o d : List ℕ} {w v u : Writer} → Printed s k o d → Adds (10 ∷ []) w v → Adds (take k d) v u
    → Adds (under_rows t s) w u
unfolding under_rows
labels_add [] z p f g = absurd (z refl)
labels_add (l ∷ t) z p f g = adds_both f (rw p.front at g)

-- ---- the pass that the labels and the cells hold
module _ {labels : Labelled} {cells : List ℕ} {pass : Pass} (h : Holds labels cells pass) where
  limits : InLimits size pass.base labels.source (pass_in labels cells pass)
  limits = within size pass.base labels.source (pass_in labels cells pass) h.passed

  lines : length (lines_from labels.source 1 0) ≡ length (cut_at 10 labels.source)
  lines = ap length (sym (lines_all labels.source)) ∙ lines_count labels.source

  pub page_needs : {x : MutBor (List ℕ)} {w : Writer} → Begins x w → 401410 ≤ length x.now → LinesNeeds labels.source 1 0 w
  page_needs b l = record { numbers = omega (arith, limits.few, lines); near = omega arith; room = omega (arith, b.len, ap length b.now, limits.few, limits.short, lines) }

  pub labels_room : {s : Text} {x : MutBor (List ℕ)} {w v : Writer} → Begins x w → 401410 ≤ length x.now → RowsGive labels.source 1 0 s w v → v.len + 131073 ≤ length v.out.now
  labels_room b l g = omega (arith, b.len, ap length b.now, g.adds.room, g.low, limits.few, limits.short, lines)

-- the labels' lines
pub symbols_short : {labels : Labelled} {cells : List ℕ} {pass : Pass} → Holds labels cells pass → length (symbols_text pass.base labels.source) ≤ 131072
unfolding symbols_text told symbols and_then EachListFits
symbols_short {labels} {cells} {pass} h =
    let w = within size pass.base labels.source (pass_in labels cells pass) h.passed in
    let list = in_order (pass_in labels cells pass).labels in
    let is : symbols pass.base labels.source ≡ accepted list = rw h.passed in
    let fits = each_list_fits pass.base labels.source list is in
    rw is (omega (arith, lines_fit list (λ m i. (fits.entry i).line), fits.names, fits.count, w.short))

module _ (names : List Mnemonic) (labels : Labelled) (cells : List ℕ) (pass : Pass) where
  pub page_adds : {w v u : Writer} → RowsGive labels.source 1 0 (all_rows names labels cells pass) w v → Adds (under_rows labels.table (symbols_text pass.base labels.source)) v u
      → Adds (page_text names pass.base labels.source (pass_in labels cells pass)) w u
  unfolding page_text
  page_adds g p = adds_both g.adds p

-- ---- by the first pass
module _ (names : List Mnemonic) (base : ℕ) (source : Text) where
  pub refusal_put : {n k : ℕ} → refused n k ≡ pass_at_by size base source → printout_by names base source ≡ refused n k
  unfolding printout_by and_then
  refusal_put e = rw (← e)

  pub page_put : {labels : Labelled} {cells : List ℕ} {p : Pass} → Holds labels cells p → p.base ≡ base → labels.source ≡ source
      → printout_by names base source ≡ accepted (page_text names p.base labels.source (pass_in labels cells p))
  unfolding printout_by and_then
  page_put h e f = rw (← e, ← f, h.passed)

-- ---- under the branch table that may be lent, by what loading it answered
module _ (base : ℕ) (s : Text) where
  pub none_lent : (o : Option (Bor Text)) → ((t : Bor Text) → o ≡ Some t → ⊥) → printout_of (option_copied o) base s ≡ printout_by (names_in (option_copied o)) base s
  unfolding printout_of names_in
  none_lent None h = refl
  none_lent (Some t) h = absurd (h t refl)

  module _ {o : Option Text} {t : Text} {r : Result ℕ Refusal} (is : o ≡ Some t) (e : answer_of r ≡ checked t) where
    pub table_refused : (x : Refusal) → r ≡ Err x → printout_of o base s ≡ refused (number_of x) (place_of x)
    unfolding printout_of
    table_refused x f = rw (is, under_refused (λ names. printout_by names base s) t e x f)

    pub table_lent : (n : ℕ) → r ≡ Ok n → printout_of o base s ≡ printout_by (names_in o) base s
    unfolding printout_of
    table_lent n f = rw is (under_accepted (λ names. printout_by names base s) t e n f)

-- ---- what is printed is the printout, or the line of the refusal
pub printout_told : (a : Answer Text) → line_of a ≡ told_text a
unfolding told_text
printout_told (accepted t) = refl
printout_told (refused n p) = refl
