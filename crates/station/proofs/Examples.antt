-- The texts of the examples, by computing. Assumes nothing.
use mathlib.Core.Path.{refl}
use mathlib.Core.List.{flat_map}
use Rattle.rules.specs.Text.{bytes, starts}
use Rattle.rules.specs.Number.{digit_value, modulo}
use Rattle.rules.specs.Answer.{refuse_if, refuse_at}
use Rattle.rules.specs.Assemble.{short}
use Rattle.rules.specs.Relocate.{far, outside, moved_address, added_word, added_pair, added_high, moved_word, first_in, first_index, bad_mark, first_bad_mark, move_addresses, move_words, move_answer, move_by, move_slices}
use Rattle.rules.specs.Tally.{list_in, held}
use Rattle.listing.specs.Listing.{digit_byte, digits_of, decimal_places_by, decimal, mark_byte, place_text, list_text, refused_text}
use Rattle.listing.specs.Reading.{digit_in, hex_in, place_in, is_line, read_lines, places_in}
use Rattle.station.specs.Station.{answer_text, wrong_line_text, filled_by, moved_slices_text, parsed_text, moved_text}
use Rattle.station.specs.Examples.{Examples}

pub examples : Examples
unfolding flat_map bytes starts modulo refuse_if refuse_at short far outside moved_address added_word added_pair added_high moved_word first_in first_index bad_mark first_bad_mark move_addresses move_words move_answer move_by move_slices list_in held digit_byte digits_of decimal_places_by decimal mark_byte place_text list_text refused_text digit_value digit_in hex_in place_in is_line read_lines places_in answer_text wrong_line_text filled_by moved_slices_text parsed_text moved_text
examples =
    record {
      there = refl;
      back = refl;
      empty = refl;
      far = refl;
      pair = refl;
      mark = refl;
      no_low = refl;
      below = refl;
      above = refl;
      no_end = refl;
      lower_case = refl;
    }
