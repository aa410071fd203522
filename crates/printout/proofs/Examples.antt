-- The examples hold by computing. Assumes nothing.
use Rattle.rules.specs.Option.{bind, or_else}
use mathlib.Core.Path.{refl}
use mathlib.Core.List.{flat_map}
use Rattle.rules.specs.Text.{bytes, blank, upper, uppers, leading, trim_start, keep_end, trim_end, trim, on_first, cut_where, cut_at, drop_empty, pieces, join_more, joined, in_front, first_cut, same, starts, contains, after, nth, first_text, other_texts, last_text}
use Rattle.rules.specs.Number.{digit_value, digits, some_digits, ranged, below, within, modulo, without, unsigned_reading, signed_reading, hex_tail, by_prefix, reading32, reading16, reading8, immediate, value_of, number16, imm8, imm16}
use Rattle.rules.specs.Line.{numbered, lines_of, reading_in, number_in, value_reading, value_reading_in, operands_of, instruction_of, data_size, data_value, sized, data_task, is_directive, data_pieces, nonempty, data_line, is_data, rest_line, after_label, label_line, org_task, trimmed_line, line_of, is_l, is_plain, is_long, instruction_size, size}
use Rattle.rules.specs.Directive.{piece_directive, directive_of, data_reading, after_colon, trimmed_reading, line_reading}
use Rattle.rules.specs.Label.{find, recorded, has_room, record_all}
use Rattle.rules.specs.Encode.{branches, other_mnemonics, mnemonics, operation_in, R, register_digit, data_register, address_register, closed, indirect, two, one, one_or_more, reach, written_reading, written_signed, displacement, all_digits, is_some, jumps, with_label, registers_row, high_row, low_row, from_indirect, to_indirect, from_label, to_label, move_rows, movea_row, muls_rows, cmp_rows, moveq_row, quick_row, tst_row, jump_row, dbra_row, branch_row, encode_operation, encode_by}
use Rattle.rules.specs.Forms.{kind_of, kind_number, same_kind, kind_for, counted, forms_of, stand, form_with}
use Rattle.rules.specs.Answer.{refuse_if, refuse_at, and_then}
use Rattle.rules.specs.Assemble.{address_after, is_end, leaving, step_by, putting, first_pass_by, places_at, data_contents, code_contents_by, data_places, code_places_by, first_high, checks, pass_at_by}
use Rattle.requests.specs.Explain.{meets, failing, unless_found, unless_reached, fault, met, one_met, fault_in, unless, why_kinds, why_forms, why_operation, why, why_task}
use Rattle.requests.specs.Symbols.{put_in_order, in_order, symbols}
use Rattle.requests.specs.Branches as B
use Rattle.listing.specs.Listing.{digit_byte, digits_of, decimal_places_by, decimal, refused_text}
use Rattle.symtext.specs.Symlist as S
use Rattle.whytext.specs.WhyLine.{verdict_text}
use Rattle.printout.specs.Printout.{padded, word_text, words_text, front_text, end_text, row_text, reason_of, places_of_put, read_row, unread_row, rows_from, under_rows, page_text, printout_by, told_text, printout_text, printout_under}
use Rattle.printout.specs.Examples.{Examples}

pub examples : Examples
unfolding bind or_else flat_map bytes blank upper uppers leading trim_start keep_end trim_end trim on_first cut_where cut_at drop_empty pieces join_more joined in_front first_cut same starts contains after nth first_text other_texts last_text digit_value digits some_digits ranged below within modulo without unsigned_reading signed_reading hex_tail by_prefix reading32 reading16 reading8 immediate value_of number16 imm8 imm16 numbered lines_of reading_in number_in value_reading value_reading_in operands_of instruction_of data_size data_value sized data_task is_directive data_pieces nonempty data_line is_data rest_line after_label label_line org_task trimmed_line line_of is_l is_plain is_long instruction_size size piece_directive directive_of data_reading after_colon trimmed_reading line_reading find recorded has_room record_all branches other_mnemonics mnemonics operation_in R register_digit data_register address_register closed indirect two one one_or_more reach written_reading written_signed displacement all_digits is_some jumps with_label registers_row high_row low_row from_indirect to_indirect from_label to_label move_rows movea_row muls_rows cmp_rows moveq_row quick_row tst_row jump_row dbra_row branch_row encode_operation encode_by kind_of kind_number same_kind kind_for counted forms_of stand form_with refuse_if refuse_at and_then address_after is_end leaving step_by putting first_pass_by places_at data_contents code_contents_by data_places code_places_by first_high checks pass_at_by meets failing unless_found unless_reached fault met one_met fault_in unless why_kinds why_forms why_operation why why_task put_in_order in_order symbols B.is_end B.is_row B.four_of B.condition_of B.keep_name B.unpadded B.broken B.any_lower B.earlier B.misnamed B.check_from B.checked B.row_of B.rows_from B.rows B.loaded B.names_with B.under digit_byte digits_of decimal_places_by decimal refused_text S.line_text S.told_text S.symbols_text verdict_text padded word_text words_text front_text end_text row_text reason_of places_of_put read_row unread_row rows_from under_rows page_text printout_by told_text printout_text printout_under
examples = record { p1 = refl; without_words = refl; empty = refl; tabled = refl; too_high = refl; no_table = refl }
