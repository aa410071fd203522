-- The manual's fields come to these operation words. Assumes nothing.
use native.Mathlib.Omega.{arith}
use Rattle.manual.specs.Manual.{join, move_size, size_field, opmode, mode, register, layout, operation_word}
use Rattle.manual.specs.OperationWords.{OperationWords}

pub operation_words : OperationWords
unfolding operation_word layout join move_size size_field opmode mode register
operation_words =
    record {
      moveq = λ z n. omega arith;
      move_data = λ v n. omega arith;
      load = λ n m. omega arith;
      store = λ n m. omega arith;
      copy = λ n m. omega arith;
      load_address = λ x n. omega arith;
      store_address = λ x n. omega arith;
      movea = λ x n. omega arith;
      muls_data = λ v n. omega arith;
      muls = λ n m. omega arith;
      add = λ n m. omega arith;
      sub = λ n m. omega arith;
      cmp = λ n m. omega arith;
      cmp_data = λ v n. omega arith;
      tst = λ n. omega arith;
      subq = λ k n. omega arith;
      asl = λ k n. omega arith;
      nop = omega arith;
      jmp = λ x. omega arith;
      dbra = λ n d. omega arith;
      branch = λ c d. omega arith;
    }
