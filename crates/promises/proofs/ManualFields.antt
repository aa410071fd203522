-- In the manual's words of a listed line each field holds its value, and the fields make sixteen bits. Assumes nothing.
use Rattle.std.specs.Prelude.{Option}
use Prim.Native.Nat.{ℕ, ◌^◌, ◌<◌}
use mathlib.Core.List.{List}
use native.Mathlib.Omega.{arith}
use lib.IntN.{ℤ}
use Rattle.rules.specs.Text.{Text}
use Rattle.rules.specs.Label.{Table}
use Rattle.rules.proofs.Readings.{all_some, imm16_all}
use Rattle.manual.specs.Manual.{InByte, byte, widths, Layout, move_size, size_field, opmode, mode, register, extension, Condition, T, CC, CS, NE, EQ, PL, MI, GE, LT, GT, LE, condition, Instruction, layout, extensions}
use Rattle.promises.specs.ListedForms.{condition_of, Written, moveq, load, store, copy, muls_data, muls, add, sub, cmp, tst, subq, asl, nop, branch, Words, FieldsHold}
use Rattle.promises.proofs.ManualLaws.{imm8_byte, bytes_read_back, quick_reads_back, displaced_byte, no_word}

-- a condition has four bits
pub condition_fits : (c : Condition) → condition c < 16
unfolding condition
condition_fits T = omega arith
condition_fits CC = omega arith
condition_fits CS = omega arith
condition_fits NE = omega arith
condition_fits EQ = omega arith
condition_fits PL = omega arith
condition_fits MI = omega arith
condition_fits GE = omega arith
condition_fits LT = omega arith
condition_fits GT = omega arith
condition_fits LE = omega arith

-- a byte has eight
pub byte_fits : (z : ℤ) → InByte z → byte z < 256
byte_fits z h = (bytes_read_back z h).0

-- form by form
held : {ls : Table} {a : ℕ} {m : Text} {f : Option Text} {ps : List Text} {i : Instruction} → Written ls a m f ps i
    → Layout (layout i) × Words (extensions i)
unfolding layout widths mode register move_size size_field opmode extensions extension
held (moveq {s} {z} e h) = omega (arith, byte_fits z (all_some InByte (imm8_byte s) e))
held (load h k) = omega arith
held (store h k) = omega arith
held (copy h k) = omega arith
held (muls_data {s} e h) = omega (arith, all_some (λ v. v < 2 ^ 16) (imm16_all s) e)
held (muls h k) = omega arith
held (add h k) = omega arith
held (sub h k) = omega arith
held (cmp h k) = omega arith
held (tst h) = omega arith
held (subq {k = k} e l u h) = omega (arith, (quick_reads_back k l u).0)
held (asl {k = k} e l u h) = omega (arith, (quick_reads_back k l u).0)
held nop = omega arith
held (branch c {z = z} d h k) = rw (no_word z h k) (omega (arith, byte_fits z (displaced_byte d), condition_fits (condition_of c)))

pub fields_hold : FieldsHold
fields_hold ls a l i r = held r.written
