-- The mover moves it, or refuses.
use Rattle.std.proofs.Common.{◌≡◌, arith}
use Rattle.std.proofs.lemmas.List.{with_items_is}
use mir.Facts.{to_z-of_z}
use Rattle.rules.specs.Assemble.{slices}
use Rattle.station.specs.Station.{filled_by}
use Rattle.cli_lists.proofs.Moves.{list_stays, list_moves}
use Rattle.cli_lists.proofs.moving.move_places.Goals as goal

pub returns-in-Err-clause-answers : goal.returns-in-Err-clause-answers
returns-in-Err-clause-answers c = λ l h.
    let x : slices c.deref_mut.result.now c.deref_mut-2.result.now c.deref.result.now ≡ filled_by l = rw (c.deref_mut.ensures.value, c.deref_mut-2.ensures.value, c.deref.ensures.value) h.places in
    list_stays c.args.distance l _ _ h.count x (rw (to_z-of_z c.ranges.distance) at c.in-Err.ensures.answer)

pub returns-in-Ok-clause-answers : goal.returns-in-Ok-clause-answers
returns-in-Ok-clause-answers c = λ l h.
    let z = to_z-of_z c.ranges.distance in
    let x : slices c.deref_mut.result.now c.deref_mut-2.result.now c.deref.result.now ≡ filled_by l = rw (c.deref_mut.ensures.value, c.deref_mut-2.ensures.value, c.deref.ensures.value) h.places in
    let a = with_items_is c.args.list.addresses c.relocate.new.addresses (omega arith) in
    let b = with_items_is c.args.list.words c.relocate.new.words (omega arith) in
    let m = list_moves c.args.distance l _ _ h.count x (rw z at c.in-Ok.ensures.answer) (rw z at c.in-Ok.ensures.slices) in
    rw (a, b, ← c.deref.ensures.value) (rw c.in-Ok.ensures.count at m)
