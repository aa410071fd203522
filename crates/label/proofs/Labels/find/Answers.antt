-- `find` reads the address in the row that `find_row` found. Assumes nothing.
use Rattle.std.proofs.Common.{arith, sym, ◌∙◌}
use Rattle.label.proofs.Search.{row_cells, row_address, no_address}
use Rattle.label.proofs.Labels.find.Goals as goal
use Rattle.label.proofs.Labels.find.Goals.{In_ok-row}

pub returns-in_err-row : goal.returns-in_err-row
returns-in_err-row c = c.from_residual.ensures ∙ no_address _ _ (sym c.in_err-row.was ∙ c.find_row.ensures)

pub read_row-requires : goal.read_row-requires
read_row-requires c =
    let d : In_ok-row = (goal.at.read_row-requires c).In_ok-row in
    omega (arith, row_cells _ _ _ _ _ (rw (← c.self.view_is) at (sym d.in_ok-row.was ∙ d.find_row.ensures)) c.self.invariant.held)

pub returns : goal.returns
returns c =
    let d : In_ok-row = (goal.at.returns c).In_ok-row in
    rw (← c.self.view_is, c.read_row.ensures) (row_address _ _ _ _ _ (rw (← c.self.view_is) at (sym d.in_ok-row.was ∙ d.find_row.ensures)))
