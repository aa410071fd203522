-- The texts of the examples, by computing. Assumes nothing.
use mathlib.Core.Path.{refl}
use mathlib.Core.List.{flat_map}
use Rattle.rules.specs.Text.{bytes, starts}
use Rattle.rules.specs.Number.{digit_value}
use Rattle.listing.specs.Listing.{digit_byte, digits_of, decimal_places_by, decimal, mark_byte, place_text, list_text, refused_text}
use Rattle.listing.specs.Reading.{digit_in, hex_in, place_in, is_line, read_lines}
use Rattle.listing.specs.Examples.{Examples}

pub examples : Examples
unfolding bytes starts flat_map digit_byte digits_of decimal_places_by decimal mark_byte place_text list_text refused_text digit_value digit_in hex_in place_in is_line read_lines
examples =
    record {
      station = refl;
      empty = refl;
      highest = refl;
      pair = refl;
      no_digit = refl;
      refused = refl;
      refused_far = refl;
      read = refl;
      read_pair = refl;
      one_too_many = refl;
      nothing = refl;
      lower_case = refl;
      seven_digits = refl;
      no_end = refl;
      blank_line = refl;
    }
