-- The files so far were added.
use Rattle.std.proofs.Common.{map, drop}
use Rattle.cli_run.specs.From.{from_of}
use Rattle.cli_io.proofs.Folding.{Added}
use Rattle.cli_io.proofs.several.add_sources.Given as goal

abbrev pub invariant-loop-source : goal.invariant-loop-source
invariant-loop-source g l =
    Added g.H.Host.world (λ s f. g.S.Several.answers s f) l.initial.work (map from_of l.sources) l.initial.host (map from_of (drop l.source-index l.sources)) l.work l.host
