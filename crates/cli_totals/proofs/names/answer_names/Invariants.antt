-- The names that were read are added.
use Rattle.std.proofs.Common.{◌≡◌, ◌-◌, ◌^◌}
use Rattle.sheet.specs.Totals.{said}
use Rattle.cli_io.specs.World.{name_of}
use Rattle.cli_totals.proofs.Chaining.{Naming}
use Rattle.cli_totals.proofs.names.answer_names.Given as goal

abbrev pub invariant-loop : goal.invariant-loop
invariant-loop g l =
    record {
      open_still : g.H.Host.named l.stream ≡ name_of l.args.file;
      so : Naming g.H.Host.world l.args.json (name_of l.args.file) (2 ^ 64 - 1) (said l.fn.totals) l.initial.host l.counter l.name l.fed.held (said l.fed.totals) l.host;
    }
