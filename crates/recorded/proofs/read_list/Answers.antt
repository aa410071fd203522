-- `read_list` meets its contract: in each slice the parts of the rows that are left are still to be put. Assumes nothing.
use Rattle.std.proofs.Common.{◌+◌, ◌*◌, ◌∙◌, arith}
use Rattle.rules.specs.Assemble.{holding}
use Rattle.recorded.proofs.Bytes.{one_byte, two_bytes}
use Rattle.recorded.proofs.Rows.{part_more, part_all, row_address, row_word, row_mark}
use Rattle.recorded.proofs.read_list.Goals as goal

pub loop-i-preserved : goal.loop-i-preserved
loop-i-preserved c =
    let l = c.loop-i in
    let t = c.args.rows.now in
    let word = two_bytes t (7 * l.i + 4) (7 * l.i + 5) (omega arith) (omega arith) in (
      part_more _ t _ l.i _ _ _ l.invariant.0 (omega arith) (omega arith) (c.number_at.ensures ∙ row_address t (7 * l.i)),
      part_more _ t _ l.i _ _ _ l.invariant.1 (omega arith) (omega arith) (c.small_number.ensures ∙ word ∙ row_word t (7 * l.i)),
      part_more _ t _ l.i _ _ _ l.invariant.2 (omega arith) (omega arith) (one_byte t (7 * l.i + 6) (omega arith) ∙ row_mark t (7 * l.i)),
    )

pub returns : goal.returns
unfolding holding
returns c =
    let inv = c.loop-i.invariant in
    rw (part_all _ _ _ _ _ _ inv.0 (omega arith), part_all _ _ _ _ _ _ inv.1 (omega arith), part_all _ _ _ _ _ _ inv.2 (omega arith))
