-- `read_list` meets its contract: in each slice the parts of the rows that are left are still to be put. Assumes nothing.
use Rattle.recorded.proofs.Rows.{Column}
use Rattle.recorded.proofs.read_list.Given as goal

abbrev pub invariant-loop-i : goal.invariant-loop-i
invariant-loop-i l =
    Column (λ p. p.address) l.rows l.count l.i l.initial.a l.a × Column (λ p. p.word) l.rows l.count l.i l.initial.w l.w × Column (λ p. p.mark) l.rows l.count l.i l.initial.m l.m
