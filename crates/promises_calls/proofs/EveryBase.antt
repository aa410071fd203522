-- Such lines are there at every base. Assumes nothing.
use Rattle.rules.specs.Option.{bind}
use Prim.Native.Nat.{ℕ, ◌+◌, ◌^◌, ◌<◌}
use mathlib.Core.Path.{◌≡◌, refl, sym, ap, ◌∙◌}
use mathlib.Core.Bool.{true, false}
use mathlib.Core.List.{List, [], ◌∷◌, ◌++◌}
use native.Mathlib.Omega.{arith}
use borrow.Author.Tests.{lt-leb, lt-ltb, le-ltb}
use lib.Dec.{leb, ltb}
use lib.IntN.{pos, negsuc, ◌+ℤ◌}
use Rattle.rules.specs.Limits.{address_limit}
use Rattle.rules.specs.Text.{Text, bytes, blank, upper, uppers, leading, trim_start, keep_end, trim_end, trim, on_first, cut_where, cut_at, drop_empty, pieces, join_more, joined, in_front, first_cut, same, starts, contains, after, nth, first_text, other_texts, last_text}
use Rattle.rules.specs.Number.{digit_value}
use Rattle.rules.specs.Line.{Instruction, instruction, numbered, lines_of, operands_of, instruction_of, is_data, rest_line, after_label, label_line, trimmed_line, line_of, is_l, is_plain, is_long, instruction_size, size}
use Rattle.rules.specs.Label.{find, recorded, has_room, record_all}
use Rattle.rules.specs.Encode.{other_mnemonics, operation_in, is_some, register_digit, data_register, address_register, closed, indirect, two, one, encode_by, encode}
use Rattle.rules.specs.Forms.{kind_of, kind_number, same_kind}
use Rattle.rules.specs.Answer.{Answer, accepted, refused, refuse_if, refuse_at, and_then}
use Rattle.rules.specs.Assemble.{Sizes, Encoder, Pass, Place, address_after, is_end, leaving, step_by, putting, first_pass_by, second_pass_by, first_high, checks, pass_at_by, pass_at, assemble_by}
use Rattle.manual.specs.Manual.{Condition, T, CC, CS, NE, EQ, PL, MI, GE, LT, GT, LE, displacement_word, extensions, manual_words}
use Rattle.requests.specs.ManualCall.{branched, heads, same_suffix, head_in, other_text, form_of, form, as_if_there, form_size, manual_size}
use Rattle.requests.specs.ManualAssemble.{assemble_manual}
use Rattle.requests.specs.Branches as Table
use Rattle.requests.specs.Branches.{is_row, four_of, condition_of, keep_name, unpadded, broken, any_lower, earlier, misnamed, check_from, checked, row_of, rows_from, rows, loaded}
use Rattle.promises.specs.Refusals.{IsLine, start}
use Rattle.promises.specs.Nearest.{head, FoundIsLast}
use Rattle.promises.specs.ManualMovedLists.{FaultsAtEveryBase}
use Rattle.promises.specs.ManualWritten.{branch_named}
use Rattle.promises.specs.Branches.{Accepted, LoadAcceptsExactly}
use Rattle.promises.specs.BranchCalls.{ListsUnder}
use Rattle.promises.specs.Lands.{Aims, Accepts, back, back_said, loop, loop_said}
use Rattle.promises.proofs.Compared.{clash}
use Rattle.promises.proofs.Records.{found_is_last}
use Rattle.promises.proofs.ManualMovedLists.{faults_at_every_base}
use Rattle.promises.proofs.Branches.{load_accepts_exactly}
use Rattle.promises.proofs.BranchCalls.{lists_under}
use Rattle.promises.proofs.LandsExamples.{every_branch_is_asked}
use Rattle.promises_calls.specs.EveryBase.{AcceptsAt, bhs_table, bhs_names, bhs_line, bhs_said, BhsAsked, AskedAtEveryBase}

-- what the first pass comes to for a script of one line with the label X in front
abbrev one_line : ℕ → Instruction → Pass
one_line base i = record { labels = record { name = bytes "X"; start = 0; address = base; line = 1 } ∷ []; puts = record { address = base; task = instruction i } ∷ [] }

record PassedAt (base : ℕ) (s : Text) (i : Instruction) : Type 0 where
  line : IsLine s 0 s
  asks : (line_of s).task ≡ instruction i
  rules : pass_at base s ≡ accepted (one_line base i)
  manual : pass_at_by manual_size base s ≡ accepted (one_line base i)

module _ (base : ℕ) (h : base + 2 < 2 ^ 30) where
  low : leb address_limit base ≡ false
  low = lt-leb address_limit base (omega arith)

  next_low : ltb (base + 2) address_limit ≡ true
  next_low = lt-ltb (base + 2) address_limit (omega arith)

  passed : (c : Condition) → PassedAt base (back c) (back_said c)
  unfolding bind bytes blank upper uppers leading trim_start keep_end trim_end trim on_first cut_where cut_at drop_empty pieces join_more joined in_front first_cut same starts contains after nth first_text other_texts last_text operands_of instruction_of is_data rest_line after_label label_line trimmed_line line_of numbered lines_of is_l is_plain is_long instruction_size size find recorded has_room record_all register_digit data_register address_register closed indirect two one is_some kind_of kind_number same_kind refuse_if refuse_at and_then address_after is_end leaving step_by putting first_pass_by first_high checks pass_at_by displacement_word extensions manual_words branched heads same_suffix head_in other_text form_of form as_if_there form_size manual_size branch_named
  passed T = record { line = refl; asks = refl; rules = rw (low, first_pass_by, next_low); manual = rw (low, first_pass_by, next_low) }
  passed CC = record { line = refl; asks = refl; rules = rw (low, first_pass_by, next_low); manual = rw (low, first_pass_by, next_low) }
  passed CS = record { line = refl; asks = refl; rules = rw (low, first_pass_by, next_low); manual = rw (low, first_pass_by, next_low) }
  passed NE = record { line = refl; asks = refl; rules = rw (low, first_pass_by, next_low); manual = rw (low, first_pass_by, next_low) }
  passed EQ = record { line = refl; asks = refl; rules = rw (low, first_pass_by, next_low); manual = rw (low, first_pass_by, next_low) }
  passed PL = record { line = refl; asks = refl; rules = rw (low, first_pass_by, next_low); manual = rw (low, first_pass_by, next_low) }
  passed MI = record { line = refl; asks = refl; rules = rw (low, first_pass_by, next_low); manual = rw (low, first_pass_by, next_low) }
  passed GE = record { line = refl; asks = refl; rules = rw (low, first_pass_by, next_low); manual = rw (low, first_pass_by, next_low) }
  passed LT = record { line = refl; asks = refl; rules = rw (low, first_pass_by, next_low); manual = rw (low, first_pass_by, next_low) }
  passed GT = record { line = refl; asks = refl; rules = rw (low, first_pass_by, next_low); manual = rw (low, first_pass_by, next_low) }
  passed LE = record { line = refl; asks = refl; rules = rw (low, first_pass_by, next_low); manual = rw (low, first_pass_by, next_low) }

  bhs_rules : pass_at base bhs_line ≡ accepted (one_line base bhs_said)
  unfolding bind bytes blank upper uppers leading trim_start keep_end trim_end trim on_first cut_where cut_at drop_empty pieces join_more joined in_front first_cut same starts contains after nth first_text other_texts last_text operands_of instruction_of is_data rest_line after_label label_line trimmed_line line_of numbered lines_of is_l is_plain is_long instruction_size size find recorded has_room record_all is_some refuse_if refuse_at and_then address_after is_end leaving step_by putting first_pass_by first_high checks pass_at_by
  bhs_rules = rw (low, first_pass_by, next_low)

loop_passed : (base : ℕ) → base + 4 < 2 ^ 30 → pass_at_by manual_size base loop ≡ accepted (one_line base loop_said)
unfolding bind bytes digit_value blank upper uppers leading trim_start keep_end trim_end trim on_first cut_where cut_at drop_empty pieces join_more joined in_front first_cut same starts contains after nth first_text other_texts last_text operands_of instruction_of is_data rest_line after_label label_line trimmed_line line_of numbered lines_of is_l is_plain is_long instruction_size size find recorded has_room record_all register_digit data_register address_register closed indirect two one is_some kind_of kind_number same_kind refuse_if refuse_at and_then address_after is_end leaving step_by putting first_pass_by first_high checks pass_at_by displacement_word extensions manual_words branched heads same_suffix head_in other_text form_of form as_if_there form_size manual_size
loop_passed base h =
    let low : leb address_limit base ≡ false = lt-leb address_limit base (omega arith) in
    let next_low : ltb (base + 4) address_limit ≡ true = lt-ltb (base + 4) address_limit (omega arith) in
    rw (low, first_pass_by, next_low)

loop_line : IsLine loop 0 loop × ((line_of loop).task ≡ instruction loop_said)
unfolding bytes blank upper uppers leading trim_start keep_end trim_end trim on_first cut_where cut_at drop_empty pieces join_more joined in_front first_cut same starts contains after nth first_text other_texts last_text operands_of instruction_of is_data rest_line after_label label_line trimmed_line line_of
loop_line = (refl, refl)

bhs_is : IsLine bhs_line 0 bhs_line × ((line_of bhs_line).task ≡ instruction bhs_said)
unfolding bytes blank upper uppers leading trim_start keep_end trim_end trim on_first cut_where cut_at drop_empty pieces join_more joined in_front first_cut same starts contains after nth first_text other_texts last_text operands_of instruction_of is_data rest_line after_label label_line trimmed_line line_of
bhs_is = (refl, refl)

-- two bytes back
two_back : (base : ℕ) → pos (base + 2) +ℤ negsuc 1 ≡ pos base
two_back base = rw (le-ltb (base + 2) 2 (omega arith)) (ap pos (omega arith))

aims : (z : Sizes) (base : ℕ) (s : Text) (i : Instruction) → IsLine s 0 s → (line_of s).task ≡ instruction i → pass_at_by z base s ≡ accepted (one_line base i)
    → Aims z base s 0 base i (bytes "X") base (negsuc 1)
unfolding FoundIsLast find same bytes
aims z base s i l k h =
    record {
      names = [];
      reached = start;
      line = s;
      is = l;
      asks = k;
      last = (found_is_last z base s (one_line base i) h (bytes "X") base).0 refl;
      leads = two_back base;
    }

accepts : (e : Encoder) (base : ℕ) (s : Text) (i : Instruction) → pass_at base s ≡ accepted (one_line base i) → AcceptsAt (assemble_by size e) base s
unfolding assemble_by and_then
accepts e base s i h = (second_pass_by e (one_line base i), rw h)

-- the manual's call accepts at a base what it accepts at 0
manual_accepts : (base : ℕ) (s : Text) (p q : Pass) → pass_at_by manual_size base s ≡ accepted p → pass_at_by manual_size 0 s ≡ accepted q → Accepts assemble_manual s
    → AcceptsAt assemble_manual base s
unfolding FaultsAtEveryBase
manual_accepts base s p q h g a = go (assemble_manual base s) refl
  where
    go : (r : Answer (List Place)) → assemble_manual base s ≡ r → AcceptsAt assemble_manual base s
    go (accepted l) e = (l, e)
    go (refused n k) e = let u = sym a.1 ∙ faults_at_every_base s base 0 p q h g n k e in clash cc

bhs_loaded : (c : ℕ) → c < 16 → loaded (bhs_table c) ≡ accepted (bhs_names c)
unfolding bytes blank same other_mnemonics operation_in is_some refuse_if and_then Table.is_end is_row four_of condition_of keep_name unpadded broken any_lower earlier misnamed check_from checked row_of rows_from rows loaded
bhs_loaded c h = let e : ltb 15 c ≡ false = le-ltb 15 c (omega arith) in rw e

bhs_asked : (c : ℕ) → c < 16 → (base : ℕ) → base + 2 < 2 ^ 30 → BhsAsked c base
unfolding LoadAcceptsExactly ListsUnder
bhs_asked c k base h =
    let t : Accepted (bhs_table c) (bhs_names c) = (load_accepts_exactly (bhs_table c) (bhs_names c)).0 (bhs_loaded c k) in
    let a = accepts (encode_by (other_mnemonics ++ bhs_names c)) base bhs_line bhs_said (bhs_rules base h) in
    record {
      table = t;
      accepts = (a.0, lists_under (bhs_table c) (bhs_names c) t base bhs_line ∙ a.1);
      aims = aims size base bhs_line bhs_said bhs_is.0 bhs_is.1 (bhs_rules base h);
      named = record { condition = c; row = head refl; others = []; operands = refl; near = omega arith };
    }

pub asked_at_every_base : AskedAtEveryBase
asked_at_every_base =
    record {
      rules = λ base h c. let k = passed base h c in (accepts encode base (back c) (back_said c) k.rules, aims size base (back c) (back_said c) k.line k.asks k.rules);
      manual = λ base h c.
          let k = passed base h c in (
            manual_accepts base (back c) (one_line base (back_said c)) (one_line 0 (back_said c)) k.manual (passed 0 (omega arith) c).manual (every_branch_is_asked.manual c).0,
            aims manual_size base (back c) (back_said c) k.line k.asks k.manual,
          );
      loops = λ base h. (
        manual_accepts base loop (one_line base loop_said) (one_line 0 loop_said) (loop_passed base h) (loop_passed 0 (omega arith)) every_branch_is_asked.loop.0,
        aims manual_size base loop loop_said loop_line.0 loop_line.1 (loop_passed base h),
      );
      under_tables = bhs_asked;
    }
