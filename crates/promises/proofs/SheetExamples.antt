-- The sheet's examples hold by computation. Assumes nothing.
use Rattle.rules.specs.Option.{bind, or_else}
use mathlib.Core.Path.{refl}
use mathlib.Core.List.{flat_map}
use Rattle.rules.specs.Text.{bytes, blank, upper, uppers, leading, trim_start, keep_end, trim_end, trim, on_first, cut_where, cut_at, drop_empty, pieces, join_more, joined, in_front, first_cut, same, starts, contains, after, nth, first_text, other_texts, last_text}
use Rattle.rules.specs.Number.{digit_value, digits, some_digits, ranged, below, within, without, unsigned_reading, signed_reading, hex_tail, by_prefix, reading32, reading16, reading8, immediate, value_of, number16, imm8, imm16, modulo}
use Rattle.rules.specs.Line.{numbered, lines_of, reading_in, number_in, value_reading, value_reading_in, operands_of, instruction_of, data_size, data_value, sized, data_task, is_directive, data_pieces, nonempty, data_line, is_data, rest_line, after_label, label_line, org_task, trimmed_line, line_of, is_l, is_plain, is_long, instruction_size, size}
use Rattle.rules.specs.Label.{find, recorded, has_room, record_all}
use Rattle.rules.specs.Encode.{branches, other_mnemonics, mnemonics, operation_in, R, register_digit, data_register, address_register, closed, indirect, two, one, one_or_more, reach, written_reading, written_signed, displacement, all_digits, is_some, jumps, with_label, registers_row, high_row, low_row, from_indirect, to_indirect, from_label, to_label, move_rows, movea_row, muls_rows, cmp_rows, moveq_row, quick_row, tst_row, jump_row, dbra_row, branch_row, encode_operation, encode_by}
use Rattle.rules.specs.Answer.{refuse_if, refuse_at, and_then}
use Rattle.rules.specs.Assemble.{address_after, is_end, leaving, step_by, putting, first_pass_by, places_at, data_contents, code_contents_by, data_places, code_places_by, second_pass_by, first_high, checks, pass_at_by}
use Rattle.requests.specs.Sheet.{class_number, word_class, class_of, read_classes, classes, how_many, marked_in, numbers_in, accepted_sheet, answer_sheet, source_sheet, plus, sources, any_over, add_source, add_all, plant_sheet, mean_of}
use Rattle.promises.specs.SheetExamples.{of_lines, of_limits, SheetExamples}

pub sheet_examples : SheetExamples
unfolding bind or_else flat_map bytes blank upper uppers leading trim_start keep_end trim_end trim on_first cut_where cut_at drop_empty pieces join_more joined in_front first_cut same starts contains after nth first_text other_texts last_text digit_value digits some_digits ranged below within without unsigned_reading signed_reading hex_tail by_prefix reading32 reading16 reading8 immediate value_of number16 imm8 imm16 modulo reading_in number_in value_reading value_reading_in operands_of instruction_of data_size data_value sized data_task is_directive data_pieces nonempty data_line is_data rest_line after_label label_line org_task trimmed_line line_of is_l is_plain is_long instruction_size size find recorded has_room record_all branches other_mnemonics mnemonics operation_in R register_digit data_register address_register closed indirect two one one_or_more reach written_reading written_signed displacement all_digits is_some jumps with_label registers_row high_row low_row from_indirect to_indirect from_label to_label move_rows movea_row muls_rows cmp_rows moveq_row quick_row tst_row jump_row dbra_row branch_row encode_operation encode_by refuse_if refuse_at and_then numbered lines_of address_after is_end leaving step_by putting first_pass_by places_at data_contents code_contents_by data_places code_places_by second_pass_by first_high checks pass_at_by class_number word_class class_of read_classes classes how_many marked_in numbers_in accepted_sheet answer_sheet source_sheet plus sources any_over add_source add_all plant_sheet mean_of of_lines of_limits
sheet_examples = record { lines_agree = refl; limits_agree = refl; of_none = refl; of_series = refl; of_mean = refl }
