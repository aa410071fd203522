-- A value more. Assumes nothing.
use Rattle.std.proofs.Common.{◌≡◌, ◌∙◌, ◌-◌, suc, sym, arith}
use Rattle.make_runs.proofs.Trying.{value_again, value_keeps, accepts_words, tried_more}
use Rattle.make_runs.specs.Runs.{runs_of}
use Rattle.make_runs.proofs.rows.add_tried.Goals as goal

pub add-requires : goal.add-requires
add-requires g c = accepts_words _ c.args.addresses.now c.args.words.now _ _ (value_keeps _ _ _ _ _ _ c.set_value.ensures ∙ c.loop-value.invariant.1 ∙ sym c.requires.long) c.requires.accepts

pub loop-value-preserved : goal.loop-value-preserved
loop-value-preserved g c =
    let i = c.loop-value.invariant in
    let a = c.args in (
      λ v. rw (c.set_value.ensures, value_again) (i.0 v),
      value_keeps _ _ _ _ _ _ c.set_value.ensures ∙ i.1,
      omega arith,
      λ h. tried_more a.work.now a.tries a.addresses.now a.words.now (λ ts. g.R.Rows.holds ts c.add.new.self) c.loop-value.value c.loop-value.words c.set_value.new.words (omega arith) (i.0 c.loop-value.value)
          c.set_value.ensures (c.in_ok-add.ensures.ok _ (i.3 h)),
    )

pub returns-clause-ok : goal.returns-clause-ok
unfolding runs_of
returns-clause-ok g c = λ h.
    let e : suc c.args.tries.to - c.args.tries.from ≡ c.loop-value.value - c.args.tries.from = omega arith in
    rw e (c.loop-value.invariant.3 h)
