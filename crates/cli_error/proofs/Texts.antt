-- The texts of the examples, by computing. Assumes nothing.
use mathlib.Core.Path.{refl}
use Rattle.rules.specs.Text.{bytes, starts, contains, cut_at, cut_where, on_first, nth}
use Rattle.text.specs.Breaks.{breaks}
use Rattle.listing.specs.Listing.{decimal, digits_of, decimal_places_by, digit_byte}
use Rattle.cli_error.specs.Refusals.{row_of, counted, words, padded, refusal_row}
use Rattle.cli_error.specs.Reason.{mark, reason_of}
use Rattle.cli_error.specs.Shown.{line_index, spoken_index, shown_byte, shown_bytes, shown_text}
use Rattle.cli_error.specs.Messages.{refused_row, refused_text, not_a_list_text, not_a_sheet_text, failed_text, wrong_use_text, usage_text, accepted_row}
use Rattle.cli_error.specs.Examples.{Examples}

pub examples : Examples
unfolding bytes starts contains cut_at cut_where on_first nth breaks decimal digits_of decimal_places_by digit_byte row_of counted words padded refusal_row mark reason_of line_index spoken_index shown_byte shown_bytes shown_text refused_row refused_text not_a_list_text not_a_sheet_text failed_text wrong_use_text usage_text accepted_row
examples =
    record {
      refused = refl;
      placeless = refl;
      line = refl;
      offset = refl;
      index = refl;
      no_line = refl;
      length = refl;
      table = refl;
      list = refl;
      sheet = refl;
      failed = refl;
      wrong_use = refl;
      command = refl;
      accepted = refl;
      help = refl;
    }
