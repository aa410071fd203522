-- `take_line` records the labels, and keeps the line if the address after it is low. Assumes nothing.
use Rattle.std.proofs.Common.{arith}
use Rattle.first.proofs.Naming.{not_ok}
use Rattle.first.proofs.Passing.{naming, stops_full, stops_out, in_cells, fits, values_most, words_most, goes_on}
use Rattle.first.proofs.take_line.Goals as goal

pub record_names-requires : goal.record_names-requires
record_names-requires g c = naming _ _ _ _ _ c.requires.needs _ c.requires.reads

pub returns-in_default : goal.returns-in_default
returns-in_default g c = stops_full _ _ _ _ _ c.requires.needs _ c.requires.reads c.requires.goes_on c.record_names.ensures.source c.record_names.ensures.room c.record_names.ensures.grown c.record_names.ensures.some (not_ok _ c.in_default.not-Ok c.record_names.ensures.full)

pub returns-then-from-after : goal.returns-then-from-after
returns-then-from-after g c =
    stops_out _ _ _ _ _ c.requires.needs _ c.requires.reads c.requires.goes_on c.record_names.ensures.source c.record_names.ensures.room c.record_names.ensures.grown c.record_names.ensures.some c.in-Ok.ensures.recorded _
    (rw c.record_names.ensures.source at rw c.source.ensures at c.size_of.ensures) _ c.address_after-after.ensures (let h = c.if-from-after.true in omega (arith, c.from.ensures))

pub keep_line-requires : goal.keep_line-requires
keep_line-requires g c = (
  in_cells _ _ _ _ _ c.requires.needs _ c.requires.reads,
  fits _ _ _ _ _ c.requires.needs _ c.requires.reads g.met.S.Sizing.small _ (rw c.record_names.ensures.source at rw c.source.ensures at c.size_of.ensures),
)

pub overflow_add-result : goal.overflow_add-result
overflow_add-result g c = omega (arith, values_most _ _ _ _ _ c.requires.needs.stands, words_most c.args.line.task c.data_words.ensures)

pub returns : goal.returns
returns g c =
    goes_on _ _ _ _ _ c.requires.needs _ c.requires.reads c.requires.goes_on c.record_names.ensures.source c.record_names.ensures.room c.record_names.ensures.grown c.record_names.ensures.some c.in-Ok.ensures.recorded _
    (rw c.record_names.ensures.source at rw c.source.ensures at c.size_of.ensures) _ c.address_after-after.ensures g.met.S.Sizing.small (let h = c.if-from-after.false in omega (arith, c.from.ensures)) _ _ _
    c.requires.ends c.data_words.ensures c.keep_line.ensures
