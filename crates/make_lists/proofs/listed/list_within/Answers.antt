-- What the call answers with so many places lent.
use Rattle.std.proofs.Common.{arith, ◌≤◌}
use Rattle.std.proofs.lemmas.List.{with_items_is}
use Rattle.std.proofs.lemmas.Result.{err_from_is_err_and}
use Rattle.rules.specs.Assemble.{slices}
use Rattle.make_lists.proofs.Places.{list_held, list_refused}
use Rattle.make_lists.proofs.listed.list_within.Goals as goal

pub returns-in_err-count-clause-answers : goal.returns-in_err-count-clause-answers
returns-in_err-count-clause-answers g c =
    let p = err_from_is_err_and c.from_residual-in_err-count.result c.from_residual-in_err-count.ensures.1 in
    let x = slices c.deref_mut.result.now c.deref_mut-2.result.now c.deref_mut-3.result.now in
    rw (p.1, p.2) (list_refused c.args.room x (omega (arith, c.in_ok-addresses.ensures.len)) (omega (arith, c.in_ok-words.ensures.len)) (omega (arith, c.in_ok-marks.ensures.len)) _ _ _ c.in_err-count.ensures.answer)

pub returns-clause-fits : goal.returns-clause-fits
returns-clause-fits g c =
    let x = slices c.deref_mut.result.now c.deref_mut-2.result.now c.deref_mut-3.result.now in
    let y = slices c.assemble.new.addresses c.assemble.new.words c.assemble.new.marks in
    let h = list_held c.args.room x (omega (arith, c.in_ok-addresses.ensures.len)) (omega (arith, c.in_ok-words.ensures.len)) (omega (arith, c.in_ok-marks.ensures.len)) _ _ y c.in_ok-count.ensures.answer c.in_ok-count.ensures.slices in
    let n : c.in_ok-count.count ≤ c.args.room = h.1 in
    let a = with_items_is c.in_ok-addresses.addresses c.assemble.new.addresses (omega arith) in
    let b = with_items_is c.in_ok-words.words c.assemble.new.words (omega arith) in
    let d = with_items_is c.in_ok-marks.marks c.assemble.new.marks (omega arith) in
    record { most = omega arith; room = record { addresses = rw a (omega (arith, c.in_ok-addresses.ensures.len)); words = rw b (omega (arith, c.in_ok-words.ensures.len)); marks = rw d (omega (arith, c.in_ok-marks.ensures.len)) } }

pub returns-clause-answers : goal.returns-clause-answers
returns-clause-answers g c =
    let x = slices c.deref_mut.result.now c.deref_mut-2.result.now c.deref_mut-3.result.now in
    let y = slices c.assemble.new.addresses c.assemble.new.words c.assemble.new.marks in
    let h = list_held c.args.room x (omega (arith, c.in_ok-addresses.ensures.len)) (omega (arith, c.in_ok-words.ensures.len)) (omega (arith, c.in_ok-marks.ensures.len)) _ _ y c.in_ok-count.ensures.answer c.in_ok-count.ensures.slices in
    let a = with_items_is c.in_ok-addresses.addresses c.assemble.new.addresses (omega arith) in
    let b = with_items_is c.in_ok-words.words c.assemble.new.words (omega arith) in
    let d = with_items_is c.in_ok-marks.marks c.assemble.new.marks (omega arith) in
    rw (a, b, d) h.0
