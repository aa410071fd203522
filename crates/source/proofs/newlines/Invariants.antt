use Rattle.std.proofs.Common.{◌≡◌, ◌≤◌, take, nat_eq, count_by}
use Rattle.source.proofs.newlines.Given as goal

abbrev pub invariant-loop-b : goal.invariant-loop-b
invariant-loop-b l = (l.n ≡ count_by (λ b. nat_eq b 10) (take l.b-index l.s)) × (l.n ≤ l.b-index)
