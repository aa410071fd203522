-- The sheets so far are added, and nothing is said.
use Rattle.std.proofs.Common.{◌≡◌, map, take}
use Rattle.sheet.specs.Totals.{said}
use Rattle.make_sheet.specs.Served.{SheetsAdded}
use Rattle.make_sheet.proofs.add_sheets.Given as goal

abbrev pub invariant-loop-k : goal.invariant-loop-k
invariant-loop-k g l =
    record { sheets : SheetsAdded (g.F.Opening.holds l.files) (take l.k (map (λ s. s.now) l.sheets)) (said l.totals); silent : l.errors ≡ l.initial.errors }
