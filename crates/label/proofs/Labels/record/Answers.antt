-- `record` writes the row that `row_hashed` found, or the next while there is room. Assumes nothing.
use Rattle.std.proofs.Common.{arith, ◌≡◌, ◌≤◌, ◌+◌, ◌<◌, length, sym, ◌∙◌}
use Rattle.rules.specs.Limits.{max_labels}
use Rattle.label.specs.Table.{cell_of, table_of, row_of}
use Rattle.label.specs.Record.{span_name}
use Rattle.label.proofs.Chain.{hash_is_below}
use Rattle.label.proofs.Search.{row_cells}
use Rattle.label.proofs.Record.{Keeps, again, next, full}
use Rattle.label.proofs.Table.{table_length}
use Rattle.label.proofs.Labels.record.Goals as goal
use Rattle.label.proofs.Labels.record.Goals.{After-row_hashed, After-write_row, After-self-1}

within : (c : After-row_hashed) → c.args.end ≤ length c.self.inside.source.now
within c = rw (← c.self.view_is) at c.requires.within

row : (c : After-row_hashed) → c.row_hashed.result ≡ row_of (span_name c.self.inside.source.now c.args.start c.args.end) (table_of c.self.inside.source.now c.self.inside.cells.now c.self.inside.count)
row c = rw (← c.self.view_is) at c.row_hashed.ensures

room : (c : After-row_hashed) → c.self.inside.count < max_labels → cell_of (c.self.inside.count + 1) ≤ length c.self.inside.cells.now
room c l =
    let fits = rw (table_length c.self.inside.source.now c.self.inside.cells.now c.self.inside.count) at (rw (← c.self.view_is) at c.requires.room) in
    omega (arith, fits l, c.self.invariant.held.rows)

keeps : (c : After-write_row) → Keeps c.args.address c.self.invariant.held c.requires.ordered (within (goal.at.invariant_of-self c).After-row_hashed) c.self.inside.count c.write_row.new.cells
keeps c = let p = (goal.at.invariant_of-self c).After-row_hashed in again _ c.self.invariant.held _ (within p) (sym c.in-Some.is ∙ row p) c.write_row.ensures

keeps_next : (c : After-self-1) → Keeps c.args.address c.self.invariant.held c.requires.ordered (within (goal.at.invariant_of-self-in-None c).After-row_hashed) (c.self.inside.count + 1) c.link_row.new.cells
keeps_next c =
    let p = (goal.at.invariant_of-self-in-None c).After-row_hashed in
    next _ c.self.invariant.held _ (within p) (sym c.in-None.is ∙ row p) (omega arith) (room p (omega arith)) c.hash_of-hash.ensures c.write_row-in-None.ensures c.link_row.ensures

pub write_row-requires : goal.write_row-requires
write_row-requires c = omega (arith, row_cells _ _ _ _ _ (sym c.in-Some.is ∙ row (goal.at.write_row-requires c).After-row_hashed) c.self.invariant.held)

pub invariant_of-self : goal.invariant_of-self
invariant_of-self c = record { held = (keeps c).holds }

pub returns-then-row-ge-MAX_LABELS-clause-full : goal.returns-then-row-ge-MAX_LABELS-clause-full
returns-then-row-ge-MAX_LABELS-clause-full c =
    let p = (goal.at.returns-then-row-ge-MAX_LABELS-clause-full c).After-row_hashed in
    rw (← c.self.view_is) (full c.args.address c.self.invariant.held c.requires.ordered (within p) (sym c.in-None.is ∙ row p) c.if-row-ge-MAX_LABELS.true)

pub write_row-requires-in-None : goal.write_row-requires-in-None
write_row-requires-in-None c = omega (arith, room (goal.at.write_row-requires-in-None c).After-row_hashed (omega arith))

pub link_row-requires-clause-link : goal.link_row-requires-clause-link
link_row-requires-clause-link c = omega (arith, room (goal.at.link_row-requires-clause-link c).After-row_hashed (omega arith), c.write_row-in-None.auto.cells)

pub link_row-requires-clause-head : goal.link_row-requires-clause-head
link_row-requires-clause-head c = hash_is_below _ c.hash_of-hash.ensures

pub invariant_of-self-in-None : goal.invariant_of-self-in-None
invariant_of-self-in-None c = record { held = (keeps_next c).holds }

pub returns-in-Some-clause-recorded : goal.returns-in-Some-clause-recorded
returns-in-Some-clause-recorded c = rw (← c.self.view_is) (keeps c).table

pub returns-in-Some-clause-room_for : goal.returns-in-Some-clause-room_for
returns-in-Some-clause-room_for c = rw (← c.self.view_is) (keeps c).room

pub returns-else-row-ge-MAX_LABELS-clause-recorded : goal.returns-else-row-ge-MAX_LABELS-clause-recorded
returns-else-row-ge-MAX_LABELS-clause-recorded c = rw (← c.self.view_is) (keeps_next c).table

pub returns-else-row-ge-MAX_LABELS-clause-room_for : goal.returns-else-row-ge-MAX_LABELS-clause-room_for
returns-else-row-ge-MAX_LABELS-clause-room_for c = rw (← c.self.view_is) (keeps_next c).room

pub returns-else-row-ge-MAX_LABELS-clause-written : goal.returns-else-row-ge-MAX_LABELS-clause-written
returns-else-row-ge-MAX_LABELS-clause-written c = rw (← c.self.view_is) (keeps_next c).written
