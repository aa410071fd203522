-- The examples of lines that ask for a sum, and of lines that ask for none. Assumes nothing.
use mathlib.Core.Path.{refl}
use Rattle.rules.specs.Text.{bytes}
use Rattle.promises_rust.specs.RustStr.{is_whitespace, trim_start, trim_end, trim, extend, split_by, split_whitespace, filter, is_empty, get, splitn_2, to_upper, to_uppercase, starts_with, contains}
use Rattle.promises_rust.specs.RustLists.{behind_colon, names_data, value_piece, stands_alone, line_value, is_sum, asks_for_a_sum, lines_without_sums, lines_with_sums, SumsAsked}

pub sums_asked : SumsAsked
unfolding bytes is_whitespace trim_start trim_end trim extend split_by split_whitespace filter is_empty get splitn_2 to_upper to_uppercase starts_with contains behind_colon names_data value_piece stands_alone line_value is_sum asks_for_a_sum lines_without_sums lines_with_sums
sums_asked = record { no_line = refl; each_line = refl }
