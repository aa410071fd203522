-- `write_lines` goes from line to line until the END line or the source's end. Assumes nothing.
use Rattle.std.proofs.Common.{arith}
use Rattle.outline.proofs.Lines.{line_end_le}
use Rattle.tidied.proofs.Copying.{copying_start, adding_room, copying_last, copying_end, copying_more}
use Rattle.tidied.proofs.write_lines.Goals as goal
use Rattle.tidied.proofs.write_lines.Goals.{then-is_end-via-then-is_end, then-is_end-via-else-is_end+then-end-source}

pub loop-at-init : goal.loop-at-init
loop-at-init c = copying_start _ _ c.requires.empty c.requires.room

pub slice_bounds-trimmed-end : goal.slice_bounds-trimmed-end
slice_bounds-trimmed-end c = omega (arith, c.outline_line-o.ensures.ends, line_end_le c.args.source.now c.loop-at.at c.loop-at.invariant.upto)

pub add_line-requires : goal.add_line-requires
add_line-requires c = adding_room c.loop-at.invariant c.outline_line-o.ensures.ends c.read_line-line.ensures c.trimmed-s.ensures (c.way_of-way.ensures _)

pub loop-at-preserved : goal.loop-at-preserved
loop-at-preserved c = copying_more c.loop-at.invariant c.outline_line-o.ensures.ends c.read_line-line.ensures c.trimmed-s.ensures (c.way_of-way.ensures _) c.add_line.ensures (c.is_end.ensures _) c.if-is_end.false c.if-end-source.false

pub returns-then-is_end : goal.returns-then-is_end
returns-then-is_end c =
    elim c.then-is_end.branch [
      | then-is_end-via-then-is_end w ↦ copying_last c.loop-at.invariant c.outline_line-o.ensures.ends c.read_line-line.ensures c.trimmed-s.ensures (c.way_of-way.ensures _) c.add_line.ensures (c.is_end.ensures _) w.if-is_end.true
      | then-is_end-via-else-is_end+then-end-source w ↦ copying_end c.loop-at.invariant c.outline_line-o.ensures.ends c.read_line-line.ensures c.trimmed-s.ensures (c.way_of-way.ensures _) c.add_line.ensures w.if-end-source.true
    ]
