-- The sheets so far are added.
use Rattle.std.proofs.Common.{drop}
use Rattle.sheet.specs.Totals.{said}
use Rattle.cli_io.specs.World.{name_of}
use Rattle.cli_totals.specs.Sheeted.{texts}
use Rattle.cli_totals.proofs.Chaining.{Sheeting}
use Rattle.cli_totals.proofs.answer_sheet.Given as goal

abbrev pub invariant-loop-k : goal.invariant-loop-k
invariant-loop-k g l =
    Sheeting g.H.Host.world l.args.json (name_of l.args.file) (texts l.sheets) l.initial.host (texts (drop l.k l.sheets)) (said l.totals) l.host
