-- Such lines as the promise of branches speaks of are there, of each of the eleven and of DBRA, by computation. Assumes nothing.
use Rattle.rules.specs.Option.{bind}
use mathlib.Core.Path.{◌≡◌, refl}
use mathlib.Core.List.{[], ◌∷◌}
use native.Mathlib.Omega.{arith}
use lib.IntN.{negsuc}
use Rattle.rules.specs.Text.{Text, bytes, blank, upper, uppers, leading, trim_start, keep_end, trim_end, trim, on_first, cut_where, cut_at, drop_empty, pieces, join_more, joined, in_front, first_cut, same, starts, contains, after, nth, first_text, other_texts, last_text}
use Rattle.rules.specs.Number.{digit_value}
use Rattle.rules.specs.Line.{Instruction, instruction, numbered, lines_of, operands_of, instruction_of, is_data, rest_line, after_label, label_line, trimmed_line, line_of, is_l, is_plain, is_long, instruction_size, size}
use Rattle.rules.specs.Label.{find, recorded, has_room, record_all}
use Rattle.rules.specs.Encode.{register_digit, data_register, address_register, closed, indirect, two, one, is_some, encode}
use Rattle.rules.specs.Forms.{kind_of, kind_number, same_kind}
use Rattle.rules.specs.Answer.{accepted, refuse_if, refuse_at, and_then}
use Rattle.rules.specs.Assemble.{Sizes, Pass, address_after, is_end, leaving, step_by, putting, first_pass_by, second_pass_by, first_high, checks, pass_at_by, pass_at, assemble_by, assemble}
use Rattle.manual.specs.Manual.{Condition, T, CC, CS, NE, EQ, PL, MI, GE, LT, GT, LE, displacement_word, extensions, manual_words}
use Rattle.requests.specs.ManualCall.{branched, heads, same_suffix, head_in, other_text, form_of, form, as_if_there, form_size, signed_digits, listed, displacements, fits, first_that, range_fault, form_fault, manual_size, manual_fault}
use Rattle.requests.specs.ManualAssemble.{task_fault, faultless, encoded_manual, assemble_manual}
use Rattle.promises.specs.Refusals.{IsLine, start}
use Rattle.promises.specs.Nearest.{FoundIsLast}
use Rattle.promises.specs.ManualWritten.{branch_named}
use Rattle.promises.specs.Lands.{Aims, Accepts, back, back_said, loop, loop_said, EveryBranchIsAsked}
use Rattle.promises.proofs.Compared.{clash}
use Rattle.promises.proofs.Records.{found_is_last}

-- what the first pass comes to for a script of one line with the label X in front
abbrev one_line : Instruction → Pass
one_line i = record { labels = record { name = bytes "X"; start = 0; address = 0; line = 1 } ∷ []; puts = record { address = 0; task = instruction i } ∷ [] }

-- such a script, in both calls
record Passed (s : Text) (i : Instruction) : Type 0 where
  line : IsLine s 0 s
  asks : (line_of s).task ≡ instruction i
  rules : pass_at 0 s ≡ accepted (one_line i)
  manual : pass_at_by manual_size 0 s ≡ accepted (one_line i)
  list : Accepts assemble_manual s

passed : (c : Condition) → Passed (back c) (back_said c)
unfolding bind bytes blank upper uppers leading trim_start keep_end trim_end trim on_first cut_where cut_at drop_empty pieces join_more joined in_front first_cut same starts contains after nth first_text other_texts last_text digit_value operands_of instruction_of is_data rest_line after_label label_line trimmed_line line_of numbered lines_of is_l is_plain is_long instruction_size size find recorded has_room record_all register_digit data_register address_register closed indirect two one is_some kind_of kind_number same_kind refuse_if refuse_at and_then address_after is_end leaving step_by putting first_pass_by first_high checks pass_at_by displacement_word extensions manual_words branched heads same_suffix head_in other_text form_of form as_if_there form_size signed_digits listed displacements fits first_that range_fault form_fault manual_size manual_fault task_fault faultless encoded_manual assemble_manual branch_named
passed T = record { line = refl; asks = refl; rules = refl; manual = refl; list = (_, refl) }
passed CC = record { line = refl; asks = refl; rules = refl; manual = refl; list = (_, refl) }
passed CS = record { line = refl; asks = refl; rules = refl; manual = refl; list = (_, refl) }
passed NE = record { line = refl; asks = refl; rules = refl; manual = refl; list = (_, refl) }
passed EQ = record { line = refl; asks = refl; rules = refl; manual = refl; list = (_, refl) }
passed PL = record { line = refl; asks = refl; rules = refl; manual = refl; list = (_, refl) }
passed MI = record { line = refl; asks = refl; rules = refl; manual = refl; list = (_, refl) }
passed GE = record { line = refl; asks = refl; rules = refl; manual = refl; list = (_, refl) }
passed LT = record { line = refl; asks = refl; rules = refl; manual = refl; list = (_, refl) }
passed GT = record { line = refl; asks = refl; rules = refl; manual = refl; list = (_, refl) }
passed LE = record { line = refl; asks = refl; rules = refl; manual = refl; list = (_, refl) }

loop_passed : Passed loop loop_said
unfolding bind bytes blank upper uppers leading trim_start keep_end trim_end trim on_first cut_where cut_at drop_empty pieces join_more joined in_front first_cut same starts contains after nth first_text other_texts last_text digit_value operands_of instruction_of is_data rest_line after_label label_line trimmed_line line_of numbered lines_of is_l is_plain is_long instruction_size size find recorded has_room record_all register_digit data_register address_register closed indirect two one is_some kind_of kind_number same_kind refuse_if refuse_at and_then address_after is_end leaving step_by putting first_pass_by first_high checks pass_at_by displacement_word extensions manual_words branched heads same_suffix head_in other_text form_of form as_if_there form_size signed_digits listed displacements fits first_that range_fault form_fault manual_size manual_fault task_fault faultless encoded_manual assemble_manual
loop_passed = record { line = refl; asks = refl; rules = refl; manual = refl; list = (_, refl) }

-- the label is 2 bytes back
aims : (z : Sizes) (s : Text) (i : Instruction) → Passed s i → pass_at_by z 0 s ≡ accepted (one_line i) → Aims z 0 s 0 0 i (bytes "X") 0 (negsuc 1)
unfolding FoundIsLast find same bytes
aims z s i k h =
    record { names = []; reached = start; line = s; is = k.line; asks = k.asks; last = (found_is_last z 0 s (one_line i) h (bytes "X") 0).0 refl; leads = refl }

accepts : (s : Text) (i : Instruction) → pass_at 0 s ≡ accepted (one_line i) → Accepts assemble s
unfolding assemble_by and_then
accepts s i h = (second_pass_by encode (one_line i), rw h)

pub every_branch_is_asked : EveryBranchIsAsked
every_branch_is_asked =
    record {
      rules = λ c. (accepts (back c) (back_said c) (passed c).rules, aims size (back c) (back_said c) (passed c) (passed c).rules);
      manual = λ c. ((passed c).list, aims manual_size (back c) (back_said c) (passed c) (passed c).manual);
      branch = λ c. (
        record { condition = c; named = refl; others = []; operands = refl; near = omega arith },
        record { condition = c; named = refl; others = []; operands = refl; near = (omega arith, (λ e. clash cc), (λ e. clash cc)) },
      );
      loop = (
        loop_passed.list,
        aims manual_size loop loop_said loop_passed loop_passed.manual,
        record { named = refl; first = bytes "D0"; others = []; operands = refl; near = omega arith },
      );
    }
