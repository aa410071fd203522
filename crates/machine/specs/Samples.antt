-- Words, flags and runs worked out by hand from the manual and docs/BENCH.md: what a slip in a definition would change. Assumes nothing.
use Rattle.std.specs.Prelude.{ℕ, zero, suc, ◌+◌, ◌*◌, ◌≡◌, Bool, true, false, List, [], ◌∷◌}
use Rattle.machine.specs.Flags.{added, compared, subtracted, shifted}
use Rattle.machine.specs.Decode.{decode_of}
use Rattle.machine.specs.Machine.{State, Run, product, run_of}
use Rattle.machine.specs.Bench.{clear, placed, misplaced}
use Rattle.machine.specs.declared.Flags.{Flags}
use Rattle.machine.specs.declared.Form.TheVariants.{Nop, Moveq, Load, Store, Subq, Asl, Branch, MulsImmediate}
use Rattle.machine.specs.declared.Decoded.{Decoded}
use Rattle.machine.specs.declared.Decoded.TheVariants.{Is, Halt, Other}
use Rattle.machine.specs.declared.End.{End}
use Rattle.machine.specs.declared.End.TheVariants.{OnHalt, OnWord, OnAccess, OnLimit}

pub record Words : Type 0 where
  pub moveq : decode_of 0x72FF ≡ Is (Moveq 255 1)
  pub load : decode_of 0x2612 ≡ Is (Load 2 3)
  pub store : decode_of 0x2A84 ≡ Is (Store 4 5)
  pub eight : decode_of 0x5182 ≡ Is (Subq 8 2)
  pub one : decode_of 0xE383 ≡ Is (Asl 1 3)
  pub muls : decode_of 0xC3FC ≡ Is (MulsImmediate 1)
  pub nop : decode_of 0x4E71 ≡ Is Nop
  pub halt : decode_of 0x4E72 ≡ Halt
  pub back : decode_of 0x66FE ≡ Is (Branch 6 254)
  pub long_branch : decode_of 0x6600 ≡ Other
  pub minus_one : decode_of 0x66FF ≡ Other
  pub plus : decode_of 0x6A04 ≡ Other
  pub minus : decode_of 0x6B04 ≡ Other
  pub plus_by01 : decode_of 0x6804 ≡ Other
  pub minus_by01 : decode_of 0x6904 ≡ Other
  pub subroutine : decode_of 0x6104 ≡ Other
  pub movea : decode_of 0x287C ≡ Other
  pub load_label : decode_of 0x2439 ≡ Other
  pub cmpi : decode_of 0x0C85 ≡ Other
  pub jmp : decode_of 0x4EF9 ≡ Other
  pub dbra : decode_of 0x51CE ≡ Other

-- docs/BENCH.md: "4,927" words are run, of all of 16 bits: of the n below h times 256, and of the h below
abbrev one : Decoded → ℕ
one (Is f) = 1
one Halt = 0
one Other = 0

unfoldable pub run_at : ℕ → ℕ → ℕ
run_at h zero = 0
run_at h (suc n) = one (decode_of (h * 256 + n)) + run_at h n

unfoldable pub run_below : ℕ → ℕ
run_below zero = 0
run_below (suc h) = run_at h 256 + run_below h

abbrev pub WordsRun : Type 0
WordsRun = run_below 256 ≡ 4927

-- X, N, Z, V, C
abbrev pub flags : Bool → Bool → Bool → Bool → Bool → Flags
flags x n z v c = record { x = x; n = n; z = z; v = v; c = c }

pub record Marks : Type 0 where
  pub add_over : added 32768 1 0x7FFF ≡ flags false true false true false
  pub add_carry : added 32768 1 0xFFFF ≡ flags true false true false true
  pub add_both : added 32768 0x8000 0x8000 ≡ flags true false true true true
  pub sub_over : subtracted 32768 1 0x8000 ≡ flags false false false true false
  pub sub_borrow : subtracted 0x80000000 1 0 ≡ flags true true false false true
  pub sub_both : subtracted 32768 0x8000 0x7FFF ≡ flags true true false true true
  pub compare_keeps_x : compared true 32768 7 7 ≡ flags true false true false false
  pub compare_sets_no_x : compared false 32768 1 0 ≡ flags false true false false true
  pub shift_over : shifted 1 0x40000000 ≡ flags false true false true false
  -- $80000000 by 2: C 0, V 1
  pub shift_out_later : shifted 2 0x80000000 ≡ flags false false true true false
  pub shift_carry : shifted 1 0xC0000000 ≡ flags true true false false true
  pub shift_eight : shifted 8 0xFF000000 ≡ flags true false true true true
  pub minus_by_minus : product 0xFFFF 0xFFFF ≡ 1
  pub least_by_least : product 0x8000 0x8000 ≡ 0x40000000
  pub minus_by_plus : product 0xFFFF 2 ≡ 0xFFFFFFFE

abbrev zeros : List ℕ
zeros = 0 ∷ 0 ∷ 0 ∷ 0 ∷ 0 ∷ 0 ∷ 0 ∷ 0 ∷ []

abbrev pub at : List ℕ → Flags → ℕ → List ℕ → State
at d f pc mem = record { d = d; a = zeros; flags = f; pc = pc; mem = mem }

abbrev pub over : End → ℕ → State → Run
over e n s = record { end = e; steps = n; state = s }

-- MOVEQ #3,D0; SUBQ.L #1,D0; BNE -4; SIMHALT
abbrev pub countdown : List ℕ
countdown = 0x70 ∷ 3 ∷ 0x53 ∷ 0x80 ∷ 0x66 ∷ 0xFC ∷ 0x4E ∷ 0x72 ∷ []

pub record Runs : Type 0 where
  pub halts : run_of 100 (at zeros clear 0 countdown) ≡ over OnHalt 7 (at zeros (flags false false true false false) 6 countdown)
  pub halts_first : run_of 7 (at zeros clear 0 countdown) ≡ over OnHalt 7 (at zeros (flags false false true false false) 6 countdown)
  pub spent : run_of 6 (at zeros clear 0 countdown) ≡ over OnLimit 6 (at zeros (flags false false true false false) 4 countdown)
  pub no_step : run_of 0 (at zeros clear 0 countdown) ≡ over OnLimit 0 (at zeros clear 0 countdown)
  pub odd_start : run_of 0 (at zeros clear 1 countdown) ≡ over OnAccess 0 (at zeros clear 1 countdown)
  pub outside_start : run_of 9 (at zeros clear 16384 countdown) ≡ over OnAccess 0 (at zeros clear 16384 countdown)
  pub word_after : run_of 9 (at zeros clear 8 countdown) ≡ over OnWord 0 (at zeros clear 8 countdown)
  -- CMP.W D0,D1; SIMHALT, with X set: "X is kept by MOVE, MOVEQ, MULS, TST, CMP"
  pub compare_keeps_x : run_of 9 (at zeros (flags true false false false false) 0 (0xB2 ∷ 0x40 ∷ 0x4E ∷ 0x72 ∷ []))
      ≡ over OnHalt 1 (at zeros (flags true false true false false) 2 (0xB2 ∷ 0x40 ∷ 0x4E ∷ 0x72 ∷ []))
  -- "A word's high byte stands at its address, the low one at address + 1"
  pub bytes : placed (7 ∷ 7 ∷ 7 ∷ 7 ∷ []) 2 0x1234 ≡ 7 ∷ 7 ∷ 0x12 ∷ 0x34 ∷ []
  pub last_place : misplaced 16382 ≡ false
  pub odd_place : misplaced 16381 ≡ true
  pub outside_place : misplaced 16384 ≡ true
