-- The texts of the examples, by computing. Assumes nothing.
use mathlib.Core.Path.{refl}
use Rattle.rules.specs.Text.{bytes, starts, after}
use Rattle.rules.specs.Number.{digit_value, digits, some_digits, ranged, below, without, unsigned_reading, hex_tail, value_of}
use Rattle.rules.specs.Answer.{refuse_if, refuse_at}
use Rattle.rules.specs.Relocate.{first_index}
use Rattle.listing.specs.Listing.{digit_byte, digits_of, decimal_places_by, decimal, mark_byte, place_text, refused_text}
use Rattle.listing.specs.Reading.{digit_in, hex_in, place_in, is_line, read_lines, places_in}
use Rattle.station.specs.Station.{wrong_line_text, hexadecimal_in}
use Rattle.machine.specs.Bench.{short_list, misplaced, bench_answer, bench_of}
use Rattle.benchtext.specs.Arguments.{decimal_in, number_at, placed_at, is_option, argued, is_whole, whole}
use Rattle.benchtext.specs.BenchText.{with_value, value_for, words_for, run_line, row_of, rows_of, parsed_row, parsed_rows, row_text, row_count, rows_text, bench_text}
use Rattle.benchtext.specs.Examples.{Examples}

pub examples : Examples
unfolding bytes starts after digit_value digits some_digits ranged below without unsigned_reading hex_tail value_of refuse_if refuse_at first_index digit_byte digits_of decimal_places_by decimal mark_byte place_text refused_text digit_in hex_in place_in is_line read_lines places_in wrong_line_text hexadecimal_in short_list misplaced bench_answer bench_of decimal_in number_at placed_at is_option argued is_whole whole with_value value_for words_for run_line row_of rows_of parsed_row parsed_rows row_text row_count rows_text bench_text
examples =
    record {
      odd = refl;
      above = refl;
      one_line = refl;
      no_list = refl;
      no_end = refl;
      all = refl;
      values = refl;
      none = refl;
      no_limit = refl;
      too_long = refl;
      hexadecimal_limit = refl;
      nine_registers = refl;
      downwards = refl;
      seventeen_bits = refl;
      no_start = refl;
      late_option = refl;
    }
