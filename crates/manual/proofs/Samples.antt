-- The samples hold, by computation. Assumes nothing.
use mathlib.Core.Path.{refl}
use Rattle.manual.specs.Manual.{join, byte, sixteen_bits, move_size, size_field, opmode, mode, register, halves, extension, condition, quick, layout, displacement_word, extensions, operation_word, manual_words}
use Rattle.manual.specs.Samples.{Samples}

pub samples : Samples
unfolding join byte sixteen_bits move_size size_field opmode mode register halves extension condition quick layout displacement_word extensions operation_word manual_words
samples =
    record {
      moveq = refl;
      load = refl;
      store = refl;
      copy = refl;
      muls_data = refl;
      muls = refl;
      add = refl;
      sub = refl;
      cmp = refl;
      tst = refl;
      subq = refl;
      asl = refl;
      nop = refl;
      back = refl;
      forth = refl;
      plus = refl;
      minus = refl;
      by_zero = refl;
      by_minus_one = refl;
      move_data = refl;
      load_label = refl;
      store_label = refl;
      movea = refl;
      cmpi = refl;
      jmp = refl;
      dbra = refl;
    }
