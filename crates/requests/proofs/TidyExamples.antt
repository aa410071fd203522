-- The examples of the tidy copy hold by computation. Assumes nothing.
use mathlib.Core.Path.{refl}
use Rattle.rules.specs.Text.{bytes, blank, upper, uppers, leading, trim_start, keep_end, trim_end, trim, on_first, cut_where, cut_at, drop_empty, pieces, join_more, joined, in_front, first_cut, starts, contains, after, nth, first_text, other_texts}
use Rattle.rules.specs.Number.{digit_value, digits, some_digits, ranged, below, without, unsigned_reading, hex_tail, by_prefix, reading32, value_of}
use Rattle.rules.specs.Line.{reading_in, number_in, value_reading, value_reading_in, operands_of, instruction_of, data_size, data_value, sized, data_task, is_directive, data_pieces, nonempty, data_line, is_data, rest_line, after_label, label_line, org_task, trimmed_line, line_of}
use Rattle.requests.specs.Tidy.{squeezed, around_colon, tidy_rest, tidy_as, tidy_line, before, tidy_lines, part_more, parted, tidy}
use Rattle.requests.specs.TidyExamples.{examples, TidyExamples}

pub tidy_examples : TidyExamples
unfolding bytes blank upper uppers leading trim_start keep_end trim_end trim on_first cut_where cut_at drop_empty pieces join_more joined in_front first_cut starts contains after nth first_text other_texts digit_value digits some_digits ranged below without unsigned_reading hex_tail by_prefix reading32 value_of reading_in number_in value_reading value_reading_in operands_of instruction_of data_size data_value sized data_task is_directive data_pieces nonempty data_line is_data rest_line after_label label_line org_task trimmed_line line_of squeezed around_colon tidy_rest tidy_as tidy_line before tidy_lines part_more parted tidy examples TidyExamples
tidy_examples = refl
