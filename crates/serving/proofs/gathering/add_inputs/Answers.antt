-- Each input is one more, or halts the call.
use Rattle.std.proofs.Common.{refl, ap, ◌∙◌, subst, option_map}
use Rattle.serving.specs.Said.{called}
use Rattle.serving.specs.Gathering.{Gathering}
use Rattle.serving.proofs.Steps.{nothing_yet, names_more, names_split, halted_so}
use Rattle.serving.proofs.gathering.add_inputs.Goals as goal

pub loop-name-init : goal.loop-name-init
loop-name-init g c =
    (refl, λ a p. nothing_yet (g.F.Opening.holds c.args.files.now) (λ s b. g.M.MakeNamed.promised c.args.work.now s a b) (λ b. g.M.MakeNamed.accepts c.args.work.now a b) c.args.joining c.args.begun c.requires.none.0 c.requires.none.1 c.requires.none.2)

pub returns-in_err-gathered-clause-halts : goal.returns-in_err-gathered-clause-halts
returns-in_err-gathered-clause-halts g c = λ a p.
    halted_so (g.F.Opening.holds c.args.files.now) (λ s b. g.M.MakeNamed.promised c.args.work.now s a b) (λ b. g.M.MakeNamed.accepts c.args.work.now a b) c.args.joining _ (called c.args.names) _ _ _ (ap g.E.Write.contents c.loop-name.invariant.0) _ _ _ _ _ _ _ c.from_residual.ensures.1 (c.loop-name.invariant.1 a p) (names_split (option_map (λ s. s.now)) c.args.inputs.now c.loop-name.name-index _ c.loop-name-test.true) (c.in_err-gathered.ensures.halts a p)

pub loop-name-preserved : goal.loop-name-preserved
loop-name-preserved g c = (
  c.in_ok-gathered.ensures.quiet ∙ c.loop-name.invariant.0,
  λ a p. subst (λ ns. Gathering (g.F.Opening.holds c.args.files.now) (λ s b. g.M.MakeNamed.promised c.args.work.now s a b) (λ b. g.M.MakeNamed.accepts c.args.work.now a b) c.args.joining ns c.in_ok-gathered.gathered)
      (names_more (option_map (λ s. s.now)) c.args.inputs.now c.loop-name.name-index _ c.loop-name-test.true) (c.in_ok-gathered.ensures.more a _ p (c.loop-name.invariant.1 a p)),
)
