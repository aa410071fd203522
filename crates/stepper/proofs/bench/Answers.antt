-- `stepper::bench` meets its contract. Assumes nothing.
use borrow.Author.Rules.{rules}
use Rattle.machine.specs.Bench.{registers_after, memory_after}
use Rattle.stepper.proofs.Checks.{runs, stops}
use Rattle.stepper.proofs.bench.Goals as goal

pub returns-in_err-check-clause-answer : goal.returns-in_err-check-clause-answer
returns-in_err-check-clause-answer c = rw (stops _ _ _ c.args.a.now c.args.pc c.args.limit _ _ c.in_err-check.ensures.answer) (search rules)

pub returns-in_err-check-clause-registers : goal.returns-in_err-check-clause-registers
unfolding registers_after
returns-in_err-check-clause-registers c = rw (stops _ _ _ c.args.a.now c.args.pc c.args.limit _ _ c.in_err-check.ensures.answer)

pub returns-in_err-check-clause-memory : goal.returns-in_err-check-clause-memory
unfolding memory_after
returns-in_err-check-clause-memory c = rw (stops _ _ _ c.args.a.now c.args.pc c.args.limit _ _ c.in_err-check.ensures.answer)

pub returns-clause-answer : goal.returns-clause-answer
returns-clause-answer c = rw (runs _ _ _ c.args.a.now c.args.pc c.args.limit _ c.in_ok-check.ensures.answer, c.fill_and_run.ensures.ran)

pub returns-clause-registers : goal.returns-clause-registers
unfolding registers_after
returns-clause-registers c = rw (runs _ _ _ c.args.a.now c.args.pc c.args.limit _ c.in_ok-check.ensures.answer) c.fill_and_run.ensures.registers

pub returns-clause-memory : goal.returns-clause-memory
unfolding memory_after
returns-clause-memory c = rw (runs _ _ _ c.args.a.now c.args.pc c.args.limit _ c.in_ok-check.ensures.answer) c.fill_and_run.ensures.memory
