-- `row_hashed` looks at one row of the hash after the other, and at a row's bytes one after the other. Assumes nothing.
use Rattle.std.proofs.Common.{arith, ap}
use Rattle.label.specs.declared.Row.{Row}
use Rattle.label.proofs.Search.{linked_start, linked_none, other_length, bytes_start, bytes_all, row_nearer}
use Rattle.label.proofs.Labels.row_hashed.Goals as goal

pub names-init : goal.names-init
names-init c = linked_start c.self.invariant.held c.requires

pub names-smaller-then-row-name : goal.names-smaller-then-row-name
names-smaller-then-row-name c = row_nearer c.names.invariant c.self.invariant.held (omega arith)

pub names-preserved-then-row-name : goal.names-preserved-then-row-name
names-preserved-then-row-name c = other_length c.names.invariant c.self.invariant.held (omega arith) (λ e. omega (arith, ap (λ (r : Row). r.length) c.read_row-row.ensures))

pub loop-i-init : goal.loop-i-init
loop-i-init c = rw c.read_row-row.ensures (bytes_start c.names.invariant c.self.invariant.held (omega arith) (omega (arith, ap (λ (r : Row). r.length) c.read_row-row.ensures)))

pub names-smaller : goal.names-smaller
names-smaller c = row_nearer c.names.invariant c.self.invariant.held (omega arith)

pub returns-in-names : goal.returns-in-names
returns-in-names c = rw (← c.self.view_is) (bytes_all c.loop-i.invariant (omega arith))

pub returns : goal.returns
returns c = rw (← c.self.view_is) (linked_none c.names.invariant (omega arith))
