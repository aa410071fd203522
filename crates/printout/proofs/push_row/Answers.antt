-- `push_row` writes the front, the line, and what stands after it. Assumes nothing.
use Rattle.printout.proofs.Columns.{row_adds}
use Rattle.printout.proofs.push_row.Goals as goal

pub returns : goal.returns
returns c =
    let row = row_adds _ _ _ _ _ c.requires.0 c.push_front.ensures.text c.push_bytes.ensures (c.push_end.ensures c.args.address) in
    record { text = row.0; upper_bound = row.1 }
