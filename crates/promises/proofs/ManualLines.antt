-- The lines of the forms that are equal to the manual's are the manual's words. Assumes nothing.
use Rattle.std.specs.Prelude.{Option, Some}
use Rattle.rules.specs.Option.{bind, or_else}
use Prim.Native.Nat.{ℕ, ◌+◌}
use mathlib.Core.Path.{◌≡◌, refl, ap}
use mathlib.Core.List.{List, [], ◌∷◌, map, flat_map, append-nil}
use native.Mathlib.Omega.{arith}
use Rattle.rules.specs.Text.{Text, bytes, same}
use Rattle.rules.specs.Label.{Table}
use Rattle.rules.specs.Encode.{literal, branch as branch_on, branches, other_mnemonics, mnemonics, operation_in, R, two, one, one_or_more, registers_row, high_row, low_row, from_indirect, to_indirect, move_rows, muls_rows, cmp_rows, moveq_row, quick_row, tst_row, branch_row, encode_operation, encode_by, encode}
use Rattle.rules.specs.Assemble.{places_at, data_contents, data_places, second_pass_by, code_contents_by, code_places_by}
use Rattle.rules.proofs.Readings.{all_some}
use Rattle.manual.specs.Manual.{InByte, join, move_size, size_field, opmode, mode, register, extension, condition, Instruction, layout, extensions, operation_word, manual_words}
use Rattle.promises.specs.ListedForms.{Branch, BRA, BCC, BCS, BNE, BEQ, BGE, BLT, BGT, BLE, condition_of, branch_name, Written, moveq, load, store, copy, muls_data, muls, add, sub, cmp, tst, subq, asl, nop, branch, emitted, marked_zero, LinesAreTheManuals}
use Rattle.promises.proofs.ManualLaws.{data_register_lem, operand, imm8_byte, byte_modulo, quick_modulo, displaced, displaced_byte, no_word}

-- one word for another
one_word : {v w : ℕ} → v ≡ w → Some (literal v ∷ []) ≡ Some (literal w ∷ [])
one_word e = ap (λ w. Some (literal w ∷ [])) e

-- a branch's mnemonic has the manual's condition
branch_operation : (c : Branch) → operation_in mnemonics (branch_name c) ≡ Some (branch_on (condition (condition_of c)))
unfolding operation_in mnemonics other_mnemonics branches same bytes branch_name condition_of condition
branch_operation BRA = refl
branch_operation BCC = refl
branch_operation BCS = refl
branch_operation BNE = refl
branch_operation BEQ = refl
branch_operation BGE = refl
branch_operation BLT = refl
branch_operation BGT = refl
branch_operation BLE = refl

-- the stations' call encodes such a form as the manual's words, none of them a label's address
pub encoded : {ls : Table} {a : ℕ} {m : Text} {f : Option Text} {ps : List Text} {i : Instruction} → Written ls a m f ps i
    → encode ls a (record { mnemonic = m; suffix = f; operands = ps }) ≡ Some (map literal (manual_words i))
unfolding encode_by operation_in mnemonics other_mnemonics branches same bytes bind or_else encode_operation registers_row high_row low_row from_indirect to_indirect move_rows muls_rows cmp_rows moveq_row quick_row tst_row branch_row two one one_or_more R branch_name manual_words operation_word layout join extensions extension mode register move_size size_field opmode condition
encoded (moveq {s} {z} {n} e h) =
    rw (e, data_register_lem n h, byte_modulo z (all_some InByte (imm8_byte s) e)) (one_word (omega arith))
encoded (load {n} {m} h k) = simp operand (one_word (omega arith))
encoded (store {n} {m} h k) = simp operand (one_word (omega arith))
encoded (copy {n} {m} h k) = simp operand (one_word (omega arith))
encoded (muls_data {s} {v} {n} e h) =
    rw (e, data_register_lem n h) (ap (λ w. Some (literal w ∷ literal v ∷ [])) (omega arith))
encoded (muls {n} {m} h k) = simp operand (one_word (omega arith))
encoded (add {n} {m} h k) = simp operand (one_word (omega arith))
encoded (sub {n} {m} h k) = simp operand (one_word (omega arith))
encoded (cmp {n} {m} h k) = simp operand (one_word (omega arith))
encoded (tst {n} h) = simp operand (one_word (omega arith))
encoded (subq {s} {k} {n} e l u h) = rw (e, data_register_lem n h, quick_modulo k u) (one_word (omega arith))
encoded (asl {s} {k} {n} e l u h) = rw (e, data_register_lem n h, quick_modulo k u) (one_word (omega arith))
encoded nop = refl
encoded (branch c {s} {z} d h k) =
    rw (branch_operation c, displaced d, byte_modulo z (displaced_byte d), no_word z h k) (one_word (omega arith))

-- cells that are no label's address get mark 0
pub zero_places : (a : ℕ) (ws : List ℕ) → places_at a (map literal ws) ≡ marked_zero a ws
unfolding places_at marked_zero
zero_places a [] = refl
zero_places a (w ∷ ws) = rw (zero_places (a + 2) ws)

pub lines_are_the_manuals : LinesAreTheManuals
unfolding emitted second_pass_by flat_map data_places data_contents code_places_by code_contents_by places_at
lines_are_the_manuals ls a l i r = rw (r.read, encoded r.written, zero_places a (manual_words i), append-nil)
