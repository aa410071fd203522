-- The examples of the manual's call hold by computation. Assumes nothing.
use Rattle.rules.specs.Option.{bind, or_else}
use mathlib.Core.Path.{refl}
use mathlib.Core.List.{flat_map}
use Rattle.rules.specs.Text.{bytes, blank, upper, uppers, leading, trim_start, keep_end, trim_end, trim, on_first, cut_where, cut_at, drop_empty, pieces, join_more, joined, in_front, first_cut, same, starts, contains, after, nth, first_text, other_texts, last_text}
use Rattle.rules.specs.Number.{digit_value, digits, some_digits, ranged, below, within, without, unsigned_reading, signed_reading, hex_tail, by_prefix, reading32, reading16, reading8, immediate, value_of, imm8, imm16}
use Rattle.rules.specs.Line.{numbered, lines_of, reading_in, number_in, value_reading, value_reading_in, operands_of, instruction_of, data_size, data_value, sized, data_task, is_directive, data_pieces, nonempty, data_line, is_data, rest_line, after_label, label_line, org_task, trimmed_line, line_of}
use Rattle.rules.specs.Label.{find, recorded, has_room, record_all}
use Rattle.rules.specs.Encode.{register_digit, data_register, address_register, closed, indirect as indirect_register, two, one, all_digits, is_some}
use Rattle.rules.specs.Forms.{kind_of, kind_number, same_kind}
use Rattle.rules.specs.Answer.{refuse_if, refuse_at, and_then}
use Rattle.rules.specs.Assemble.{address_after, is_end, leaving, step_by, putting, first_pass_by, places_at, data_contents, code_contents_by, data_places, code_places_by, second_pass_by, first_high, checks, pass_at_by}
use Rattle.manual.specs.Manual.{join, byte, sixteen_bits, move_size, size_field, opmode, mode, register, halves, extension, condition, quick, layout, displacement_word, extensions, operation_word, manual_words}
use Rattle.requests.specs.ManualCall.{addressed, branched, heads, same_suffix, head_in, other_text, number32, imm32, one_to_eight, quickly, no_operand, registers, jump_to, move_long, form_of, form, as_if_there, form_size, signed_digits, listed, displacements, fits, first_that, with_address, form_contents, range_fault, form_fault, manual_size, manual_encode, manual_fault}
use Rattle.requests.specs.ManualAssemble.{task_fault, faultless, encoded_manual, assemble_manual}
use Rattle.promises.specs.ManualExamples.{suffixes, unencoded, ranges, minus_one, lines, words, words01, ManualExamples}

pub manual_examples : ManualExamples
unfolding bind or_else flat_map bytes blank upper uppers leading trim_start keep_end trim_end trim on_first cut_where cut_at drop_empty pieces join_more joined in_front first_cut same starts contains after nth first_text other_texts last_text digit_value digits some_digits ranged below within without unsigned_reading signed_reading hex_tail by_prefix reading32 reading16 reading8 immediate value_of imm8 imm16 numbered lines_of reading_in number_in value_reading value_reading_in operands_of instruction_of data_size data_value sized data_task is_directive data_pieces nonempty data_line is_data rest_line after_label label_line org_task trimmed_line line_of find recorded has_room record_all register_digit data_register address_register closed indirect_register two one all_digits is_some kind_of kind_number same_kind refuse_if refuse_at and_then address_after is_end leaving step_by putting first_pass_by places_at data_contents code_contents_by data_places code_places_by second_pass_by first_high checks pass_at_by join byte sixteen_bits move_size size_field opmode mode register halves extension condition quick layout displacement_word extensions operation_word manual_words addressed branched heads same_suffix head_in other_text number32 imm32 one_to_eight quickly no_operand registers jump_to move_long form_of form as_if_there form_size signed_digits listed displacements fits first_that with_address form_contents range_fault form_fault manual_size manual_encode manual_fault task_fault faultless encoded_manual assemble_manual suffixes unencoded ranges minus_one lines words words01
manual_examples = record { of_suffixes = refl; of_unencoded = refl; of_ranges = refl; of_minus_one = refl; lines_agree = refl; of_words = refl }
