-- What `symlist` prints for some scripts, by computing. Assumes nothing.
use mathlib.Core.Path.{refl}
use mathlib.Core.List.{flat_map}
use Rattle.rules.specs.Text.{bytes, blank, upper, uppers, leading, trim_start, keep_end, trim_end, trim, on_first, cut_where, cut_at, drop_empty, pieces, join_more, joined, in_front, first_cut, same, starts, contains, after, nth, first_text, other_texts, last_text}
use Rattle.rules.specs.Number.{digit_value, digits, some_digits, ranged, below, within, modulo, without, unsigned_reading, hex_tail, by_prefix, reading32, value_of}
use Rattle.rules.specs.Line.{numbered, lines_of, reading_in, number_in, value_reading, value_reading_in, operands_of, instruction_of, data_size, data_value, sized, data_task, is_directive, data_pieces, nonempty, data_line, is_data, rest_line, after_label, label_line, org_task, trimmed_line, line_of, is_l, is_plain, is_long, instruction_size, size}
use Rattle.rules.specs.Label.{find, recorded, has_room, record_all}
use Rattle.rules.specs.Answer.{refuse_if, refuse_at, and_then}
use Rattle.rules.specs.Assemble.{address_after, is_end, leaving, step_by, putting, first_pass_by, first_high, checks, pass_at_by}
use Rattle.requests.specs.Symbols.{put_in_order, in_order, symbols}
use Rattle.listing.specs.Listing.{digit_byte, digits_of, decimal_places_by, decimal, refused_text}
use Rattle.symtext.specs.Symlist.{line_text, told_text, symbols_text}
use Rattle.promises_texts.specs.Examples.{LabelExamples}

pub label_examples : LabelExamples
unfolding flat_map bytes blank upper uppers leading trim_start keep_end trim_end trim on_first cut_where cut_at drop_empty pieces join_more joined in_front first_cut same starts contains after nth first_text other_texts last_text digit_value digits some_digits ranged below within modulo without unsigned_reading hex_tail by_prefix reading32 value_of numbered lines_of reading_in number_in value_reading value_reading_in operands_of instruction_of data_size data_value sized data_task is_directive data_pieces nonempty data_line is_data rest_line after_label label_line org_task trimmed_line line_of is_l is_plain is_long instruction_size size find recorded has_room record_all refuse_if refuse_at and_then address_after is_end leaving step_by putting first_pass_by first_high checks pass_at_by put_in_order in_order symbols digit_byte digits_of decimal_places_by decimal refused_text line_text told_text symbols_text
label_examples =
    record {
      script = refl;
      blanks = refl;
      empty = refl;
      like_a_row = refl;
      again = refl;
      two_of_a_line = refl;
      none = refl;
      letters = refl;
      refused = refl;
    }
