-- Each file is added.
use Rattle.std.proofs.Common.{arith, map, ap, ◌∙◌, [], ◌∷◌, ◌++◌}
use Rattle.std.proofs.lemmas.List.{map-append}
use Rattle.cli_run.specs.From.{from_of}
use Rattle.cli_args.proofs.Gathered.{names_first, names_next, names_last}
use Rattle.cli_args.proofs.naming.named_sources.Goals as goal

pub loop-k-init : goal.loop-k-init
loop-k-init c = names_first (λ s. s.now) c.args.operands.now _ (ap (map from_of) c.new-sources.ensures.items)

pub loop-k-preserved : goal.loop-k-preserved
loop-k-preserved c =
    names_next (λ s. s.now) c.args.operands.now c.loop-k.k _ c.loop-k.was c.loop-k.invariant _ c.loop-k-test.true _ _
    (ap (map from_of) c.in_ok-push.ensures.items ∙ map-append from_of _ _ ∙ ap (λ x. map from_of c.loop-k.sources.items ++ x ∷ []) c.source_of.ensures)
    c.was_after-was.ensures

pub returns : goal.returns
returns c = names_last (λ s. s.now) c.args.operands.now c.loop-k.k _ c.loop-k.was c.loop-k.invariant (omega (arith, c.loop-k-test.false))
