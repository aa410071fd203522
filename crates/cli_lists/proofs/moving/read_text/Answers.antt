-- The text is read whole, or its first wrong line is known.
use Rattle.std.proofs.Common.{arith, refl}
use Rattle.std.proofs.lemmas.List.{with_items_is}
use Rattle.rules.specs.Assemble.{slices}
use Rattle.listing.proofs.RoundTrip.{length_places}
use Rattle.cli_lists.proofs.Moves.{text_held, text_wrong}
use Rattle.cli_lists.proofs.moving.read_text.Goals as goal

pub returns-in-Ok : goal.returns-in-Ok
returns-in-Ok c =
    let x = slices c.deref_mut.result.now c.deref_mut-2.result.now c.deref_mut-3.result.now in
    let y = slices c.read_list.new.addresses c.read_list.new.words c.read_list.new.marks in
    let p = c.in_ok-addresses.ensures.len in
    let q = c.in_ok-words.ensures.len in
    let r = c.in_ok-marks.ensures.len in
    let h = text_held _ c.args.text.now x (omega (arith, p)) (omega (arith, q)) (omega (arith, r)) refl (omega arith) _ y c.in-Ok.ensures.answer c.in-Ok.ensures.filled in
    let a = with_items_is c.in_ok-addresses.addresses c.read_list.new.addresses (omega arith) in
    let b = with_items_is c.in_ok-words.words c.read_list.new.words (omega arith) in
    let d = with_items_is c.in_ok-marks.marks c.read_list.new.marks (omega arith) in
    (h.0, h.1, record { count = length_places _ _; places = rw (a, b, d) h.2 })

pub returns-in-Err : goal.returns-in-Err
returns-in-Err c =
    let x = slices c.deref_mut.result.now c.deref_mut-2.result.now c.deref_mut-3.result.now in
    let p = c.in_ok-addresses.ensures.len in
    let q = c.in_ok-words.ensures.len in
    let r = c.in_ok-marks.ensures.len in
    text_wrong _ c.args.text.now x (omega (arith, p)) (omega (arith, q)) (omega (arith, r)) refl (omega arith) _ c.in-Err.ensures.answer
