-- The mover moves it, or refuses.
use Rattle.std.proofs.Common.{◌≡◌, arith}
use Rattle.std.proofs.lemmas.List.{with_items_is}
use Rattle.std.proofs.lemmas.Result.{err_from_is_err_and}
use mir.Facts.{to_z-of_z}
use Rattle.rules.specs.Assemble.{slices}
use Rattle.station.specs.Station.{filled_by}
use Rattle.make_lists.proofs.Moves.{list_stays, list_moves}
use Rattle.make_lists.proofs.moving.move_list.Goals as goal

pub returns-in_err-relocate-clause-answers : goal.returns-in_err-relocate-clause-answers
returns-in_err-relocate-clause-answers c = λ l e f.
    let p = err_from_is_err_and c.from_residual.result c.from_residual.ensures.1 in
    let x : slices c.deref_mut.result.now c.deref_mut-2.result.now c.deref.result.now ≡ filled_by l = rw (c.deref_mut.ensures.value, c.deref_mut-2.ensures.value, c.deref.ensures.value) f in
    rw (p.1, p.2) (list_stays c.args.distance l _ _ e x (rw (to_z-of_z c.ranges.distance) at c.in_err-relocate.ensures.answer))

pub returns-clause-answers : goal.returns-clause-answers
returns-clause-answers c = λ l e f.
    let z = to_z-of_z c.ranges.distance in
    let x : slices c.deref_mut.result.now c.deref_mut-2.result.now c.deref.result.now ≡ filled_by l = rw (c.deref_mut.ensures.value, c.deref_mut-2.ensures.value, c.deref.ensures.value) f in
    let a = with_items_is c.args.list.addresses c.relocate.new.addresses (omega arith) in
    let b = with_items_is c.args.list.words c.relocate.new.words (omega arith) in
    let h = list_moves c.args.distance l _ _ e x (rw z at c.in_ok-relocate.ensures.answer) (rw z at c.in_ok-relocate.ensures.slices) in
    rw (a, b, ← c.deref.ensures.value) (rw c.in_ok-relocate.ensures.count at h)
