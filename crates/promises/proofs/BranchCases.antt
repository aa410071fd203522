-- The odd branch tables hold by computation. Assumes nothing.
use Rattle.rules.specs.Option.{bind, or_else}
use mathlib.Core.Path.{refl}
use mathlib.Core.List.{flat_map}
use Rattle.rules.specs.Text.{bytes, blank, upper, uppers, leading, trim_start, keep_end, trim_end, trim, on_first, cut_where, cut_at, drop_empty, pieces, join_more, joined, in_front, first_cut, same, starts, contains, after, nth, first_text, other_texts, last_text}
use Rattle.rules.specs.Number.{digit_value, digits, some_digits, ranged, below, within, without, unsigned_reading, signed_reading, hex_tail, by_prefix, reading32, reading16, reading8, immediate, value_of, number16, imm8, imm16, modulo}
use Rattle.rules.specs.Line.{numbered, lines_of, reading_in, number_in, operands_of, instruction_of, data_size, data_value, sized, data_task, is_directive, data_pieces, nonempty, data_line, is_data, rest_line, after_label, label_line, org_task, trimmed_line, line_of, is_l, is_plain, is_long, instruction_size, size}
use Rattle.rules.specs.Label.{find, recorded, has_room, record_all}
use Rattle.rules.specs.Encode.{branches, other_mnemonics, mnemonics, operation_in, register_digit, data_register, address_register, closed, indirect, one_or_more, reach, written_reading, written_signed, displacement, is_some, branch_row, encode_operation, encode_by}
use Rattle.rules.specs.Forms.{kind_of, kind_number, same_kind, kind_for, counted, forms_of, stand, form_with}
use Rattle.rules.specs.Answer.{refuse_if, refuse_at, and_then}
use Rattle.rules.specs.Assemble.{address_after, is_end, leaving, step_by, putting, first_pass_by, places_at, data_contents, code_contents_by, data_places, code_places_by, second_pass_by, first_high, checks, pass_at_by, assemble_by}
use Rattle.requests.specs.Explain.{meets, failing, unless_found, unless_reached, fault, met, one_met, fault_in, unless, why_kinds, why_forms, why_operation, why, why_task, verdicts, verdict_at, told_line, explain_all_by, explain_by}
use Rattle.requests.specs.Branches as Table
use Rattle.requests.specs.Branches.{is_row, four_of, condition_of, keep_name, unpadded, broken, any_lower, earlier, misnamed, check_from, checked, row_of, rows_from, rows, loaded, names_with, under}
use Rattle.promises.specs.BranchCases.{of_commands, of_order, of_names, cases, ours, BranchCasesHold}

pub branch_cases_hold : BranchCasesHold
unfolding bind or_else flat_map bytes blank upper uppers leading trim_start keep_end trim_end trim on_first cut_where cut_at drop_empty pieces join_more joined in_front first_cut same starts contains after nth first_text other_texts last_text digit_value digits some_digits ranged below within without unsigned_reading signed_reading hex_tail by_prefix reading32 reading16 reading8 immediate value_of number16 imm8 imm16 modulo numbered lines_of reading_in number_in operands_of instruction_of data_size data_value sized data_task is_directive data_pieces nonempty data_line is_data rest_line after_label label_line org_task trimmed_line line_of is_l is_plain is_long instruction_size size find recorded has_room record_all branches other_mnemonics mnemonics operation_in register_digit data_register address_register closed indirect one_or_more reach written_reading written_signed displacement is_some branch_row encode_operation encode_by kind_of kind_number same_kind kind_for counted forms_of stand form_with refuse_if refuse_at and_then address_after is_end leaving step_by putting first_pass_by places_at data_contents code_contents_by data_places code_places_by second_pass_by first_high checks pass_at_by assemble_by meets failing unless_found unless_reached fault met one_met fault_in unless why_kinds why_forms why_operation why why_task verdicts verdict_at told_line explain_all_by explain_by is_row four_of condition_of keep_name unpadded broken any_lower earlier misnamed check_from checked row_of rows_from rows loaded names_with under of_commands of_order of_names cases ours Table.is_end
branch_cases_hold = record { tables = refl; list = refl; verdicts = refl; no_row = refl }
