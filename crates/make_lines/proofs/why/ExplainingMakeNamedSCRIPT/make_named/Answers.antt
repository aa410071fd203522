-- What is kept is enough. Assumes nothing.
use Rattle.std.proofs.Common.{refl, sym, arith}
use Rattle.answer.specs.Refusal.{number_of, place_of}
use Rattle.make_lines.specs.Lines.{why_answer}
use Rattle.make_lines.proofs.Front.{why_loads, both_read, too_long}
use Rattle.make_lines.proofs.why.ExplainingMakeNamedSCRIPT.make_named.Goals as goal

pub returns-then-input-gt-MAX_SOURCE : goal.returns-then-input-gt-MAX_SOURCE
returns-then-input-gt-MAX_SOURCE c = λ a b p q.
    let w = c.args.self.now in
    let r = c.long_script-refusal.result in
    rw (too_long (why_answer w.line w.base) (why_loads w.line w.base) w.lent a b c.args.table.now c.args.front.now c.args.branches c.args.input c.min.result p q (omega arith) (omega arith) (omega arith) (number_of r) (place_of r) c.long_script-refusal.ensures)
    (sym c.stop_of.ensures)

pub returns-in-Ok : goal.returns-in-Ok
returns-in-Ok c = λ a b p q.
    let w = c.args.self.now in
    (rw (← (both_read (why_answer w.line w.base) (why_loads w.line w.base) w.lent a b c.args.table.now c.args.front.now c.args.branches c.args.input c.min.result p q (omega arith) (omega arith) (omega arith) (omega arith))) c.in-Ok.ensures, refl)

pub returns-in-Err : goal.returns-in-Err
returns-in-Err c = λ a b p q.
    let w = c.args.self.now in
    rw (← (both_read (why_answer w.line w.base) (why_loads w.line w.base) w.lent a b c.args.table.now c.args.front.now c.args.branches c.args.input c.min.result p q (omega arith) (omega arith) (omega arith) (omega arith))) c.in-Err.ensures
