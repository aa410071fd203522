-- For each name that is whole its script is added.
use Rattle.std.proofs.Common.{◌≡◌}
use Rattle.std.specs.Io.KnownBytes.{Consumes}
use Rattle.rules.specs.Text.{Text}
use Rattle.sheet.specs.Totals.{said}
use Rattle.make_sheet.specs.Reading.{Adding}
use Rattle.make_sheet.proofs.names.add_names.Given as goal

abbrev pub invariant-loop : goal.invariant-loop
invariant-loop g l =
    record {
      read : (s : Text) × Consumes (g.R.Read.remaining l.initial.from) (g.R.Read.remaining l.from) s
          × Adding (g.F.Opening.holds l.files) (said l.fn.totals) s l.name l.fed.held (said l.fed.totals);
      silent : l.errors ≡ l.initial.errors;
    }
