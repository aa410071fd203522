-- Each file is added, or the call ends with it.
use Rattle.std.proofs.Common.{map, arith}
use Rattle.cli_run.specs.From.{from_of}
use Rattle.cli_io.proofs.Folding.{none_added, one_added, ended_at, all_added, left_more, left_none}
use Rattle.cli_io.proofs.several.add_sources.Goals as goal

pub loop-source-init : goal.loop-source-init
loop-source-init g c = none_added g.H.Host.world (λ s f. g.S.Several.answers s f) c.args.work (map from_of c.args.sources.now) c.args.host.now

pub loop-source-preserved : goal.loop-source-preserved
loop-source-preserved g c =
    one_added g.H.Host.world (λ s f. g.S.Several.answers s f) c.args.work (map from_of c.args.sources.now) c.args.host.now _ _ _
    (left_more from_of c.args.sources.now c.loop-source.source-index _ c.loop-source-test.true) c.loop-source.work c.loop-source.host c.add_source.new.host c.loop-source.invariant c.add_source.new.work c.in-Ok.ensures.goes_on

pub returns-in-Err : goal.returns-in-Err
returns-in-Err g c =
    ended_at g.H.Host.world (λ s f. g.S.Several.answers s f) c.args.work (map from_of c.args.sources.now) c.args.host.now _ _ _
    (left_more from_of c.args.sources.now c.loop-source.source-index _ c.loop-source-test.true) c.loop-source.work c.loop-source.host c.add_source.new.host c.loop-source.invariant c.in-Err.answer c.in-Err.ensures.stops

pub returns : goal.returns
returns g c =
    all_added g.H.Host.world (λ s f. g.S.Several.answers s f) c.args.work (map from_of c.args.sources.now) c.args.host.now _
    (left_none from_of c.args.sources.now c.loop-source.source-index (omega (arith, c.loop-source-test.false))) c.loop-source.work c.loop-source.host c.finish.result c.loop-source.invariant (λ f p. c.finish.ensures f p)
