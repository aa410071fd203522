-- The examples of the rules, of readings and of byte −1 hold by computation. Assumes nothing.
use Rattle.rules.specs.Option.{bind, or_else}
use mathlib.Core.Path.{refl}
use mathlib.Core.List.{flat_map}
use Rattle.rules.specs.Text.{bytes, blank, upper, uppers, leading, trim_start, keep_end, trim_end, trim, on_first, cut_where, cut_at, drop_empty, pieces, join_more, joined, in_front, first_cut, same, starts, contains, after, nth, first_text, other_texts, last_text}
use Rattle.rules.specs.Number.{digit_value, digits, some_digits, ranged, below, within, without, unsigned_reading, signed_reading, hex_tail, by_prefix, reading32, reading16, reading8, immediate, value_of, number16, imm8, imm16, modulo}
use Rattle.rules.specs.Line.{numbered, lines_of, reading_in, number_in, value_reading, value_reading_in, operands_of, instruction_of, data_size, data_value, sized, data_task, is_directive, data_pieces, nonempty, data_line, is_data, rest_line, after_label, label_line, org_task, trimmed_line, line_of, is_l, is_plain, is_long, instruction_size, size}
use Rattle.rules.specs.Directive.{piece_directive, directive_of, data_reading, after_colon, trimmed_reading, line_reading}
use Rattle.rules.specs.Label.{find, recorded, has_room, record_all}
use Rattle.rules.specs.Encode.{branches, other_mnemonics, mnemonics, operation_in, R, register_digit, data_register, address_register, closed, indirect, two, one, one_or_more, reach, written_reading, written_signed, displacement, all_digits, is_some, jumps, with_label, registers_row, high_row, low_row, from_indirect, to_indirect, from_label, to_label, move_rows, movea_row, muls_rows, cmp_rows, moveq_row, quick_row, tst_row, jump_row, dbra_row, branch_row, encode_operation, encode_by}
use Rattle.rules.specs.Answer.{refuse_if, refuse_at, and_then}
use Rattle.rules.specs.Assemble.{address_after, is_end, leaving, step_by, putting, first_pass_by, places_at, data_contents, code_contents_by, data_places, code_places_by, second_pass_by, first_high, checks, pass_at_by, assemble_by, short, room, assemble_answer, over, holding, write_list, assemble_slices}
use Rattle.promises.specs.Readings.{samples32, samples16, samples8, samples_of_lines, ReadingExamples}
use Rattle.promises.specs.Examples.{P1, P2, P3, P4, P5, P6, P7, P8, P9, P10, P11, examples, ExamplesHold, minus_one, MinusOneIsEmitted}

pub examples_hold : ExamplesHold
unfolding bind or_else flat_map bytes blank upper uppers leading trim_start keep_end trim_end trim on_first cut_where cut_at drop_empty pieces join_more joined in_front first_cut same starts contains after nth first_text other_texts last_text digit_value digits some_digits ranged below within without unsigned_reading signed_reading hex_tail by_prefix reading32 reading16 reading8 immediate value_of number16 imm8 imm16 modulo reading_in number_in value_reading value_reading_in operands_of instruction_of data_size data_value sized data_task is_directive data_pieces nonempty data_line is_data rest_line after_label label_line org_task trimmed_line line_of is_l is_plain is_long instruction_size size find recorded has_room record_all branches other_mnemonics mnemonics operation_in R register_digit data_register address_register closed indirect two one one_or_more reach written_reading written_signed displacement all_digits is_some jumps with_label registers_row high_row low_row from_indirect to_indirect from_label to_label move_rows movea_row muls_rows cmp_rows moveq_row quick_row tst_row jump_row dbra_row branch_row encode_operation encode_by refuse_if refuse_at and_then numbered lines_of address_after is_end leaving step_by putting first_pass_by places_at data_contents code_contents_by data_places code_places_by second_pass_by first_high checks pass_at_by assemble_by short room assemble_answer over holding write_list assemble_slices P1 P2 P3 P4 P5 P6 P7 P8 P9 P10 P11 examples ExamplesHold
examples_hold = refl

pub minus_one_is_emitted : MinusOneIsEmitted
unfolding bind or_else flat_map bytes blank upper uppers leading trim_start keep_end trim_end trim on_first cut_where cut_at drop_empty pieces joined in_front first_cut same starts contains nth first_text other_texts digit_value digits some_digits ranged below within without unsigned_reading signed_reading hex_tail by_prefix reading32 value_of modulo reading_in number_in operands_of instruction_of is_data rest_line after_label label_line org_task trimmed_line line_of instruction_size size find recorded has_room record_all branches other_mnemonics mnemonics operation_in one_or_more reach written_reading written_signed displacement branch_row encode_operation encode_by refuse_if refuse_at and_then numbered lines_of address_after is_end leaving step_by putting first_pass_by places_at data_contents code_contents_by data_places code_places_by second_pass_by first_high checks pass_at_by assemble_by join_more after minus_one MinusOneIsEmitted
minus_one_is_emitted = refl

pub reading_examples : ReadingExamples
unfolding bytes blank upper uppers leading trim_start keep_end trim_end trim on_first cut_where drop_empty pieces join_more joined in_front first_cut starts contains after nth digit_value digits some_digits ranged below within without unsigned_reading signed_reading hex_tail by_prefix reading32 reading16 reading8 immediate reading_in value_reading value_reading_in is_directive piece_directive directive_of data_reading after_colon trimmed_reading line_reading samples32 samples16 samples8 samples_of_lines
reading_examples = record { of_32_bits = refl; of_immediates_16 = refl; of_immediates_8 = refl; lines_agree = refl }
