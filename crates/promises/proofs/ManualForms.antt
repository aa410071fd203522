-- Every listed form has a line, by computation. Assumes nothing.
use Rattle.std.specs.Prelude.{Option, None}
use Rattle.rules.specs.Option.{bind}
use Prim.Native.Nat.{ℕ}
use mathlib.Core.Path.{◌≡◌, refl}
use mathlib.Core.List.{List, [], ◌∷◌, ◌++◌}
use native.Mathlib.Omega.{arith}
use lib.IntN.{ℤ, pos}
use Rattle.rules.specs.Text.{Text, bytes, blank, upper, uppers, leading, trim_start, keep_end, trim_end, trim, on_first, cut_where, cut_at, drop_empty, pieces, join_more, joined, in_front, first_cut, same, starts, contains, after, nth, first_text, other_texts}
use Rattle.rules.specs.Number.{digit_value, digits, some_digits, ranged, below, within, without, unsigned_reading, signed_reading, hex_tail, by_prefix, reading16, reading8, immediate, value_of, imm8, imm16}
use Rattle.rules.specs.Line.{Instruction as Said, instruction, instruction_of, operands_of, is_data, rest_line, after_label, label_line, trimmed_line, line_of}
use Rattle.rules.specs.Label.{Table, find}
use Rattle.rules.specs.Encode.{written_reading, written_signed}
use Rattle.manual.specs.Manual.{Instruction}
use Rattle.promises.specs.ListedForms.{X, Branch, BRA, BCC, BCS, BNE, BEQ, BGE, BLT, BGT, BLE, branch_name, InReach, label, signed_number, Written, moveq, load, store, copy, muls_data, muls, add, sub, cmp, tst, subq, asl, nop, branch, LineSays, EveryFormHasALine}

-- a line from its form
abbrev said : Text → Option Text → List Text → Said
said m f ps = record { mnemonic = m; suffix = f; operands = ps }

line : {ls : Table} {a : ℕ} {l m : Text} {f : Option Text} {ps : List Text} {i : Instruction}
    → Written ls a m f ps i → (line_of l).task ≡ instruction (said m f ps) → LineSays ls a l i
line {m = m} {f = f} {ps = ps} w e = record { said = said m f ps; read = e; written = w }

-- X stands 14 bytes past the program counter
x_in_reach : InReach X 0 (bytes "X") (pos 14)
unfolding find same bytes
x_in_reach = record { target = 16; found = refl; leads = refl; near = omega arith }

-- two constructors are apart
apart : ◌≡◌ {A = ℕ} 0 1 → ⊥
apart e = omega arith

-- -2 names no label
not_in_reach : (y : ℤ) → InReach X 0 (bytes "-2") y → ⊥
unfolding find same bytes
not_in_reach y r = apart (cc r.found)

-- the line of a branch with one operand
abbrev pub BranchLine : Branch → Text → Type 0
BranchLine c s = (line_of (branch_name c ++ (32 ∷ s))).task ≡ instruction (said (branch_name c) None (s ∷ []))

-- the two lines of each branch
pub branch_lines : (c : Branch) → BranchLine c (bytes "X") × BranchLine c (bytes "-2")
unfolding bytes blank upper uppers leading trim_start keep_end trim_end trim on_first cut_where cut_at drop_empty pieces join_more joined in_front first_cut starts contains nth first_text other_texts instruction_of operands_of is_data rest_line after_label label_line trimmed_line line_of branch_name
branch_lines BRA = (refl, refl)
branch_lines BCC = (refl, refl)
branch_lines BCS = (refl, refl)
branch_lines BNE = (refl, refl)
branch_lines BEQ = (refl, refl)
branch_lines BGE = (refl, refl)
branch_lines BLT = (refl, refl)
branch_lines BGT = (refl, refl)
branch_lines BLE = (refl, refl)

pub every_form_has_a_line : EveryFormHasALine
unfolding bytes blank upper uppers leading trim_start keep_end trim_end trim on_first cut_where cut_at drop_empty pieces join_more joined in_front first_cut starts contains nth first_text other_texts instruction_of operands_of is_data rest_line after_label label_line trimmed_line line_of after digit_value digits some_digits ranged below within without unsigned_reading signed_reading hex_tail by_prefix reading16 reading8 immediate value_of imm8 imm16 written_reading written_signed bind
every_form_has_a_line =
    record {
      moveq = line (moveq {s = bytes "#3"} refl (omega arith)) refl;
      labelled = line (moveq {s = bytes "#$-80"} refl (omega arith)) refl;
      load = line (load (omega arith) (omega arith)) refl;
      store = line (store (omega arith) (omega arith)) refl;
      copy = line (copy (omega arith) (omega arith)) refl;
      muls_data = line (muls_data {s = bytes "#0xFFFF"} refl (omega arith)) refl;
      muls = line (muls (omega arith) (omega arith)) refl;
      add = line (add (omega arith) (omega arith)) refl;
      sub = line (sub (omega arith) (omega arith)) refl;
      cmp = line (cmp (omega arith) (omega arith)) refl;
      tst = line (tst (omega arith)) refl;
      subq = line (subq {s = bytes "#8"} refl (omega arith) (omega arith) (omega arith)) refl;
      asl = line (asl {s = bytes "#1"} refl (omega arith) (omega arith) (omega arith)) refl;
      nop = line nop refl;
      branch = λ c. line (branch c (label x_in_reach) (λ e. apart cc) (λ e. apart cc)) (branch_lines c).0;
      branch_back = λ c. line (branch c (signed_number not_in_reach refl) (λ e. apart cc) (λ e. apart cc)) (branch_lines c).1;
    }
