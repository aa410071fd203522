-- The samples hold, by computation. Assumes nothing.
use mathlib.Core.Path.{refl}
use Rattle.rules.specs.Number.{modulo}
use Rattle.machine.specs.Form.{listed}
use Rattle.machine.specs.Decode.{decode_of}
use Rattle.manual.specs.Manual.{sign_by}
use Rattle.machine.specs.Flags.{fits_in, added, compared, shifted, holds}
use Rattle.machine.specs.Machine.{act_of, reaches, judged_as, judge_of, run_of}
use Rattle.machine.specs.Bench.{misplaced}
use Rattle.machine.specs.Samples.{Words, WordsRun, Marks, Runs, run_at, run_below}

pub words : Words
unfolding listed decode_of
words =
    record {
      moveq = refl;
      load = refl;
      store = refl;
      eight = refl;
      one = refl;
      muls = refl;
      nop = refl;
      halt = refl;
      back = refl;
      long_branch = refl;
      minus_one = refl;
      plus = refl;
      minus = refl;
      plus_by01 = refl;
      minus_by01 = refl;
      subroutine = refl;
      movea = refl;
      load_label = refl;
      cmpi = refl;
      jmp = refl;
      dbra = refl;
    }

pub words_run : WordsRun
unfolding listed decode_of run_at run_below
words_run = refl

pub marks : Marks
unfolding modulo sign_by fits_in added compared shifted
marks =
    record {
      add_over = refl;
      add_carry = refl;
      add_both = refl;
      sub_over = refl;
      sub_borrow = refl;
      sub_both = refl;
      compare_keeps_x = refl;
      compare_sets_no_x = refl;
      shift_over = refl;
      shift_out_later = refl;
      shift_carry = refl;
      shift_eight = refl;
      minus_by_minus = refl;
      least_by_least = refl;
      minus_by_plus = refl;
    }

pub runs : Runs
unfolding listed decode_of modulo sign_by fits_in added compared shifted holds act_of reaches judged_as judge_of run_of misplaced
runs =
    record {
      halts = refl;
      halts_first = refl;
      spent = refl;
      no_step = refl;
      odd_start = refl;
      outside_start = refl;
      word_after = refl;
      compare_keeps_x = refl;
      bytes = refl;
      last_place = refl;
      odd_place = refl;
      outside_place = refl;
    }
