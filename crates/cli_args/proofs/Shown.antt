-- The examples, by computing. Assumes nothing.
use Rattle.std.proofs.Common.{refl}
use Rattle.rules.specs.Text.{bytes, after, starts}
use Rattle.rules.specs.Number.{hex_tail, value_of, unsigned_reading, some_digits, digits, digit_value, ranged, below, without}
use Rattle.cli_args.specs.Number.{decimal, address, distance, digits_number}
use Rattle.cli_args.specs.Given.{steps, found_in, is_dashed, char_bytes, named_option}
use Rattle.cli_args.specs.Asked.{values_of, last_of, tries_of, operands_of, registers_in, operand_at, froms}
use Rattle.cli_args.specs.Examples.{Examples}

pub examples : Examples
unfolding after starts steps found_in is_dashed char_bytes named_option values_of last_of tries_of operands_of registers_in operand_at froms decimal address distance digits_number hex_tail bytes value_of unsigned_reading some_digits digits digit_value ranged below without
examples =
    record {
      nothing = refl;
      lists = refl;
      output_first = refl;
      no_output = refl;
      minus_base = refl;
      empty_base = refl;
      help_value = refl;
      too_many = refl;
      option_as_file = refl;
      first_wrong = refl;
      no_prefix = refl;
      no_minus = refl;
      second_minus = refl;
      a8 = refl;
      no_distance = refl;
      no_limit = refl;
      bad_distance = refl;
      plus_limit = refl;
      no_sheet = refl;
      tries_cut = refl;
      tries_dashes = refl;
      distance_x = refl;
      distance_dashes = refl;
      cluster = refl;
      cluster_h = refl;
      tries_attached = refl;
      json_value = refl;
      file = refl;
      dash = refl;
      moved = refl;
      checked = refl;
      whys = refl;
      swept = refl;
      sheets = refl;
      late_help = refl;
      move_output = refl;
      move_output_equals = refl;
      tries_then_option = refl;
      empty_output = refl;
      empty_branches = refl;
      empty_sheet = refl;
      two_equals = refl;
      json_equals = refl;
      version_value = refl;
      dashes_equals = refl;
      dash_equals = refl;
      three_dashes = refl;
      long_output = refl;
      tries_equals = refl;
      wrong_before_tries = refl;
      file_before_option = refl;
      base_as_distance = refl;
      base_value_as_distance = refl;
      output_then_nothing = refl;
      late_output = refl;
      file_of_dash = refl;
      dash_as_address = refl;
      dashes_twice = refl;
      two_bytes = refl;
      broken_option = refl;
      broken_file = refl;
      broken_output = refl;
      broken_sheet = refl;
    }
