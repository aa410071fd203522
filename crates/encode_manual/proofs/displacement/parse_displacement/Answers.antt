-- `displacement::parse_displacement`: the label's if it fits, else the number. Assumes nothing.
use mathlib.Core.Path.{sym, ◌∙◌}
use borrow.Author.Rules.{sfits_of}
use mir.Facts.{to_z-of_z}
use Rattle.requests.specs.ManualCall.{fits}
use Rattle.encode_manual.specs.Displacement.{branching_in}
use Rattle.encode_manual.proofs.Displaced.{by_label, past_label, of_no_label, of_label}
use Rattle.encode_manual.proofs.displacement.parse_displacement.Goals as goal

pub returns-in_default : goal.returns-in_default
returns-in_default c = rw (of_no_label _ c.args.address c.args.s.now (sym c.find.ensures ∙ c.in_default.is)) c.written.ensures

pub returns-then-is_ok : goal.returns-then-is_ok
returns-then-is_ok c = rw (of_label _ c.args.address c.args.s.now (sym c.find.ensures ∙ c.in-Some.is))
    (by_label (fits (branching_in c.args.room)) _ _ (rw (to_z-of_z (sfits_of c.distance.type_inv), c.distance.ensures) at c.placed-near.ensures) (sym c.is_ok.ensures.value ∙ c.if-is_ok.true))

pub returns : goal.returns
returns c = c.or.ensures ∙ rw (of_label _ c.args.address c.args.s.now (sym c.find.ensures ∙ c.in-Some.is))
    (past_label (fits (branching_in c.args.room)) _ _ (rw (to_z-of_z (sfits_of c.distance.type_inv), c.distance.ensures) at c.placed-near.ensures) (sym c.is_ok.ensures.value ∙ c.if-is_ok.false) c.written-2.ensures)
