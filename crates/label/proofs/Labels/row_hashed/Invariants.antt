-- `row_hashed` looks at one row of the hash after the other, and at a row's bytes one after the other. Assumes nothing.
use Rattle.std.proofs.Common.{get_or}
use Rattle.label.proofs.Search.{Linked, Bytes}
use Rattle.label.proofs.Labels.row_hashed.Given as goal

abbrev pub invariant-names : goal.invariant-names
invariant-names l = Linked l.self-inside.source.now l.self-inside.cells.now l.self-inside.count l.name l.link

abbrev pub decreases-names : goal.decreases-names
decreases-names l = get_or l.self-inside.cells.now l.link 0

abbrev pub invariant-loop-i : goal.invariant-loop-i
invariant-loop-i l = Bytes l.self-inside.source.now l.self-inside.cells.now l.self-inside.count l.name l.row.start l.k l.link l.i
