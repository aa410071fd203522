-- `push_number` writes the spaces that are left, and the digits. Assumes nothing.
use Rattle.std.proofs.Common.{arith, rules}
use Rattle.printout.proofs.Columns.{padded_length, digits_few, digits_room, number_adds}
use Rattle.printout.proofs.push_number.Goals as goal

pub slice_bounds-push_bytes-count : goal.slice_bounds-push_bytes-count
slice_bounds-push_bytes-count c = digits_few _ c.requires.0 c.new-number.ensures c.push_decimal.ensures.text

pub slice_bounds-push_bytes-start : goal.slice_bounds-push_bytes-start
slice_bounds-push_bytes-start c = digits_few _ c.requires.0 c.new-number.ensures c.push_decimal.ensures.text

pub push_bytes-requires-2 : goal.push_bytes-requires-2
push_bytes-requires-2 c = digits_room _ c.requires.0 c.new-number.ensures c.push_decimal.ensures.text (search rules) c.push_bytes.ensures c.requires.1

pub returns : goal.returns
returns c =
    let p = number_adds _ c.requires.0 c.new-number.ensures c.push_decimal.ensures.text (search rules) c.push_bytes.ensures c.push_bytes-2.ensures in
    record { text = p; len = omega (arith, p.len, padded_length c.args.line c.requires.0) }
