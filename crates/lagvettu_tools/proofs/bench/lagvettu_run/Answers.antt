-- `lagvettu_run` meets its contract. Assumes nothing.
use Rattle.lagvettu_tools.proofs.RunNumbers.{run_numbers, refusal_numbers}
use Rattle.lagvettu_tools.proofs.bench.lagvettu_run.Goals as goal

pub returns-in-Ok : goal.returns-in-Ok
returns-in-Ok c =
    record {
      numbers = run_numbers _ c.in-Ok.ensures.answer c.end_number.ensures c.flags_number.ensures;
      registers = c.bench.ensures.registers;
      memory = c.bench.ensures.memory;
    }

pub returns-in-Err : goal.returns-in-Err
returns-in-Err c =
    record {
      numbers = rw (c.number.ensures, c.place.ensures) (refusal_numbers _ c.in-Err.ensures.answer);
      registers = c.bench.ensures.registers;
      memory = c.bench.ensures.memory;
    }
