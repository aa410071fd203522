-- What each form's step does, in the words of the 68000's manual and in plain integers: which register or which bytes of memory get which
-- value, that all else stays, where the program goes on, and each of the flags X, N, Z, V, C. Of the machine (crates/machine) only its state,
-- its forms, `act_of`, and of the last statement `state_at` and `run_of`, are named here: signed numbers, remainders, ranges and conditions
-- are this file's own. Assumes nothing.
use Rattle.std.specs.Prelude.{ℕ, ◌+◌, ◌-◌, ◌*◌, ◌/◌, ◌%◌, ◌^◌, ◌<◌, ◌≤◌, ◌≡◌, ◌↔◌, true, false, cond, ltb}
use Rattle.std.specs.Prelude.{List, length, get_or, ℤ, pos, neg_ℤ, ◌+ℤ◌, ◌-ℤ◌, ◌*ℤ◌, ◌≤ℤ◌, ◌<ℤ◌}
use Rattle.machine.specs.Machine.{State, act_of, run_of}
use Rattle.machine.specs.Bench.{state_at}
use Rattle.machine.specs.declared.Flags.{Flags}
use Rattle.machine.specs.declared.Form.{Form}
use Rattle.machine.specs.declared.Form.TheVariants.{Nop, Moveq, MoveWord, Load, Store, Add, Sub, Cmp, Muls, MulsImmediate, Tst, Subq, Asl, Branch}

-- ---- numbers
-- a number of so many bits in two's complement: itself below the half, else less 2 to the count of its bits
unfoldable pub signed_as : ℕ → ℕ → ℤ
signed_as bits n = cond (ltb n (2 ^ (bits - 1))) (pos n) (pos n -ℤ pos (2 ^ bits))

-- an integer that so many bits hold as a signed number: from -2^(bits - 1) to 2^(bits - 1) - 1
pub record InRange (bits : ℕ) (z : ℤ) : Type 0 where
  pub least : neg_ℤ (pos (2 ^ (bits - 1))) ≤ℤ z
  pub most : z <ℤ pos (2 ^ (bits - 1))

-- n is the integer z modulo m: it is below m, and a multiple of m away
pub record Reduced (m : ℕ) (z : ℤ) (n : ℕ) : Type 0 where
  pub below : n < m
  pub times : ℤ
  pub away : z ≡ pos n +ℤ times *ℤ pos m

-- the low word of a long
abbrev pub low_word : ℕ → ℕ
low_word n = n % 2 ^ 16

-- ---- the state
abbrev pub Dn : State → ℕ → ℕ
Dn s n = get_or s.d n 0

abbrev pub An : State → ℕ → ℕ
An s n = get_or s.a n 0

abbrev pub byte_in : State → ℕ → ℕ
byte_in s p = get_or s.mem p 0

-- the word and the long that begin at p, the high byte first
abbrev pub word_in : State → ℕ → ℕ
word_in s p = byte_in s p * 2 ^ 8 + byte_in s (p + 1)

abbrev pub long_in : State → ℕ → ℕ
long_in s p = byte_in s p * 2 ^ 24 + byte_in s (p + 1) * 2 ^ 16 + byte_in s (p + 2) * 2 ^ 8 + byte_in s (p + 3)

-- eight data and eight address registers of 32 bits, 16,384 bytes of memory, a program counter of 32 bits
pub record PlainState (s : State) : Type 0 where
  pub data_count : length s.d ≡ 8
  pub address_count : length s.a ≡ 8
  pub data_longs : (n : ℕ) → Dn s n < 2 ^ 32
  pub address_longs : (n : ℕ) → An s n < 2 ^ 32
  pub memory : length s.mem ≡ 16384
  pub memory_bytes : (p : ℕ) → byte_in s p < 2 ^ 8
  pub counter : s.pc < 2 ^ 32

-- ---- what stays from s to t
-- all but Dm and the flags; the program goes on so many bytes further
pub record OnlyDm (m : ℕ) (by : ℕ) (s t : State) : Type 0 where
  pub others : (i : ℕ) → ¬ (i ≡ m) → Dn t i ≡ Dn s i
  pub long : Dn t m < 2 ^ 32
  pub count : length t.d ≡ length s.d
  pub addresses : t.a ≡ s.a
  pub memory : t.mem ≡ s.mem
  pub next : t.pc ≡ (s.pc + by) % 2 ^ 32

-- all but the flags
pub record OnlyFlags (by : ℕ) (s t : State) : Type 0 where
  pub registers : t.d ≡ s.d
  pub addresses : t.a ≡ s.a
  pub memory : t.mem ≡ s.mem
  pub next : t.pc ≡ (s.pc + by) % 2 ^ 32

-- ---- flags
-- "N: set if the result is negative, cleared otherwise. Z: set if the result is zero, cleared otherwise", of a result r of so many bits
pub record ByResult (bits r : ℕ) (f : Flags) : Type 0 where
  pub negative : (f.n ≡ true) ↔ (signed_as bits r <ℤ pos 0)
  pub zero : (f.z ≡ true) ↔ (r ≡ 0)

-- "X: not affected. V: always cleared. C: always cleared"
pub record Cleared (old new : Flags) : Type 0 where
  pub x : new.x ≡ old.x
  pub v : new.v ≡ false
  pub c : new.c ≡ false

-- "V: set if an overflow is generated, cleared otherwise", of the exact signed result z
abbrev pub OverflowBy : ℕ → ℤ → Flags → Type 0
OverflowBy bits z f = (f.v ≡ true) ↔ (¬ InRange bits z)

-- ---- the forms, from s to t
-- NOP: "No operation occurs. .. Condition codes: not affected"
pub record NopStep (s t : State) : Type 0 where
  pub rest : OnlyFlags 2 s t
  pub flags : t.flags ≡ s.flags

-- MOVEQ #b,Dm: "the data in an 8-bit field .. sign extended to a long operand"
pub record MoveqStep (b m : ℕ) (s t : State) : Type 0 where
  pub result : signed_as 32 (Dn t m) ≡ signed_as 8 b
  pub rest : OnlyDm m 2 s t
  pub marks : ByResult 32 (Dn t m) t.flags
  pub cleared : Cleared s.flags t.flags

-- MOVE.W Dn,Dm: the low word of Dm is that of Dn, its high word stays
pub record MoveWordStep (n m : ℕ) (s t : State) : Type 0 where
  pub result : low_word (Dn t m) ≡ low_word (Dn s n)
  pub high : Dn t m / 2 ^ 16 ≡ Dn s m / 2 ^ 16
  pub rest : OnlyDm m 2 s t
  pub marks : ByResult 16 (low_word (Dn t m)) t.flags
  pub cleared : Cleared s.flags t.flags

-- MOVE.L (An),Dm: Dm is the long at the address in An
pub record LoadStep (n m : ℕ) (s t : State) : Type 0 where
  pub result : Dn t m ≡ long_in s (An s n)
  pub rest : OnlyDm m 2 s t
  pub marks : ByResult 32 (Dn t m) t.flags
  pub cleared : Cleared s.flags t.flags

-- MOVE.L Dn,(Am): the long at the address in Am is Dn, as four bytes, and no other byte changes
pub record StoreStep (n m : ℕ) (s t : State) : Type 0 where
  pub result : long_in t (An s m) ≡ Dn s n
  pub bytes : (p : ℕ) → byte_in t p < 2 ^ 8
  pub others : (p : ℕ) → ¬ ((An s m ≤ p) × (p < An s m + 4)) → byte_in t p ≡ byte_in s p
  pub count : length t.mem ≡ length s.mem
  pub registers : t.d ≡ s.d
  pub addresses : t.a ≡ s.a
  pub next : t.pc ≡ (s.pc + 2) % 2 ^ 32
  pub marks : ByResult 32 (Dn s n) t.flags
  pub cleared : Cleared s.flags t.flags

-- ADD.W Dn,Dm: "Source + Destination → Destination", of low words; the high word of Dm stays. "X: set the same as the carry bit.
-- C: set if a carry is generated, cleared otherwise"
pub record AddStep (n m : ℕ) (s t : State) : Type 0 where
  pub result : Reduced (2 ^ 16) (pos (low_word (Dn s m)) +ℤ pos (low_word (Dn s n))) (low_word (Dn t m))
  pub high : Dn t m / 2 ^ 16 ≡ Dn s m / 2 ^ 16
  pub rest : OnlyDm m 2 s t
  pub marks : ByResult 16 (low_word (Dn t m)) t.flags
  pub overflow : OverflowBy 16 (signed_as 16 (low_word (Dn s m)) +ℤ signed_as 16 (low_word (Dn s n))) t.flags
  pub carry : (t.flags.c ≡ true) ↔ (2 ^ 16 ≤ low_word (Dn s m) + low_word (Dn s n))
  pub extend : t.flags.x ≡ t.flags.c

-- SUB.W Dn,Dm: "Destination - Source → Destination", of low words. "X: set to the value of the carry bit. C: set if a borrow is generated,
-- cleared otherwise"
pub record SubStep (n m : ℕ) (s t : State) : Type 0 where
  pub result : Reduced (2 ^ 16) (pos (low_word (Dn s m)) -ℤ pos (low_word (Dn s n))) (low_word (Dn t m))
  pub high : Dn t m / 2 ^ 16 ≡ Dn s m / 2 ^ 16
  pub rest : OnlyDm m 2 s t
  pub marks : ByResult 16 (low_word (Dn t m)) t.flags
  pub overflow : OverflowBy 16 (signed_as 16 (low_word (Dn s m)) -ℤ signed_as 16 (low_word (Dn s n))) t.flags
  pub borrow : (t.flags.c ≡ true) ↔ (low_word (Dn s m) < low_word (Dn s n))
  pub extend : t.flags.x ≡ t.flags.c

-- CMP.W Dn,Dm: "Destination - Source", of low words; "the destination is not changed". "X: not affected", the others as of SUB.W
pub record CmpStep (n m : ℕ) (s t : State) : Type 0 where
  pub difference : ℕ
  pub is : Reduced (2 ^ 16) (pos (low_word (Dn s m)) -ℤ pos (low_word (Dn s n))) difference
  pub rest : OnlyFlags 2 s t
  pub marks : ByResult 16 difference t.flags
  pub overflow : OverflowBy 16 (signed_as 16 (low_word (Dn s m)) -ℤ signed_as 16 (low_word (Dn s n))) t.flags
  pub borrow : (t.flags.c ≡ true) ↔ (low_word (Dn s m) < low_word (Dn s n))
  pub extend : t.flags.x ≡ s.flags.x

-- MULS.W: "Source × Destination → Destination", of two signed words, the signed long product in all of Dm; "V: set if overflow", which
-- 32 bits never have
pub record MulsStep (source m by : ℕ) (s t : State) : Type 0 where
  pub result : signed_as 32 (Dn t m) ≡ signed_as 16 source *ℤ signed_as 16 (low_word (Dn s m))
  pub rest : OnlyDm m by s t
  pub marks : ByResult 32 (Dn t m) t.flags
  pub cleared : Cleared s.flags t.flags

-- TST.L Dn: "Destination tested → Condition codes"
pub record TstStep (n : ℕ) (s t : State) : Type 0 where
  pub rest : OnlyFlags 2 s t
  pub marks : ByResult 32 (Dn s n) t.flags
  pub cleared : Cleared s.flags t.flags

-- SUBQ.L #k,Dn: "Destination - Immediate data → Destination", flags as of SUB
pub record SubqStep (k n : ℕ) (s t : State) : Type 0 where
  pub result : Reduced (2 ^ 32) (pos (Dn s n) -ℤ pos k) (Dn t n)
  pub rest : OnlyDm n 2 s t
  pub marks : ByResult 32 (Dn t n) t.flags
  pub overflow : OverflowBy 32 (signed_as 32 (Dn s n) -ℤ pos k) t.flags
  pub borrow : (t.flags.c ≡ true) ↔ (Dn s n < k)
  pub extend : t.flags.x ≡ t.flags.c

-- the long v after k shifts of one bit to the left, each of which takes its highest bit out and puts 0 in
abbrev pub shifted_by : ℕ → ℕ → ℕ
shifted_by k v = v * 2 ^ k % 2 ^ 32

-- ASL.L #k,Dn: "X: set according to the last bit shifted out of the operand. V: set if the most significant bit is changed at any time
-- during the shift operation, cleared otherwise", which is that the exact signed v * 2^k does not fit. "C: set according to the last bit
-- shifted out of the operand"
pub record AslStep (k n : ℕ) (s t : State) : Type 0 where
  pub result : Dn t n ≡ shifted_by k (Dn s n)
  pub rest : OnlyDm n 2 s t
  pub marks : ByResult 32 (Dn t n) t.flags
  pub overflow : OverflowBy 32 (signed_as 32 (Dn s n) *ℤ pos (2 ^ k)) t.flags
  pub unchanged : (t.flags.v ≡ false) ↔ ((i : ℕ) → i ≤ k → (2 ^ 31 ≤ shifted_by i (Dn s n)) ↔ (2 ^ 31 ≤ Dn s n))
  pub last : (t.flags.c ≡ true) ↔ (2 ^ 31 ≤ shifted_by (k - 1) (Dn s n))
  pub extend : t.flags.x ≡ t.flags.c

-- the conditions that a branch may have, by their four bits: the bench has BRA, BCC, BCS, BNE, BEQ, BGE, BLT, BGT and BLE
pub data HasBranch : ℕ → Type 0 where
  bra : HasBranch 0b0000
  bcc : HasBranch 0b0100
  bcs : HasBranch 0b0101
  bne : HasBranch 0b0110
  beq : HasBranch 0b0111
  bge : HasBranch 0b1100
  blt : HasBranch 0b1101
  bgt : HasBranch 0b1110
  ble : HasBranch 0b1111

-- when such a condition is met, by the manual's table of the flags
pub data Met (f : Flags) : ℕ → Type 0 where
  T : Met f 0b0000
  CC : f.c ≡ false → Met f 0b0100
  CS : f.c ≡ true → Met f 0b0101
  NE : f.z ≡ false → Met f 0b0110
  EQ : f.z ≡ true → Met f 0b0111
  GE : f.n ≡ f.v → Met f 0b1100
  LT : ¬ (f.n ≡ f.v) → Met f 0b1101
  GT : f.z ≡ false → f.n ≡ f.v → Met f 0b1110
  LE_zero : f.z ≡ true → Met f 0b1111
  LE_less : ¬ (f.n ≡ f.v) → Met f 0b1111

-- Bcc.B: "If condition true, then PC + d → PC", where the PC is the branch's own address plus 2 and d its signed byte; else it goes on.
-- "Condition codes: not affected"
pub record BranchStep (k b : ℕ) (s t : State) : Type 0 where
  pub taken : Met s.flags k → Reduced (2 ^ 32) (pos (s.pc + 2) +ℤ signed_as 8 b) t.pc
  pub passed : ¬ Met s.flags k → t.pc ≡ (s.pc + 2) % 2 ^ 32
  pub registers : t.d ≡ s.d
  pub addresses : t.a ≡ s.a
  pub memory : t.mem ≡ s.mem
  pub flags : t.flags ≡ s.flags

-- ---- each form's step is the manual's
unfoldable pub NopIsTheManuals : Type 0
NopIsTheManuals = (s : State) → PlainState s → NopStep s (act_of Nop s)

unfoldable pub MoveqIsTheManuals : Type 0
MoveqIsTheManuals = (s : State) (b m : ℕ) → PlainState s → b < 2 ^ 8 → m < 8 → MoveqStep b m s (act_of (Moveq b m) s)

unfoldable pub MoveWordIsTheManuals : Type 0
MoveWordIsTheManuals = (s : State) (n m : ℕ) → PlainState s → n < 8 → m < 8 → MoveWordStep n m s (act_of (MoveWord n m) s)

-- MOVE.L from and to (An), where the four bytes are in memory
unfoldable pub LoadIsTheManuals : Type 0
LoadIsTheManuals = (s : State) (n m : ℕ) → PlainState s → n < 8 → m < 8 → An s n + 4 ≤ 16384 → LoadStep n m s (act_of (Load n m) s)

unfoldable pub StoreIsTheManuals : Type 0
StoreIsTheManuals = (s : State) (n m : ℕ) → PlainState s → n < 8 → m < 8 → An s m + 4 ≤ 16384 → StoreStep n m s (act_of (Store n m) s)

unfoldable pub AddIsTheManuals : Type 0
AddIsTheManuals = (s : State) (n m : ℕ) → PlainState s → n < 8 → m < 8 → AddStep n m s (act_of (Add n m) s)

unfoldable pub SubIsTheManuals : Type 0
SubIsTheManuals = (s : State) (n m : ℕ) → PlainState s → n < 8 → m < 8 → SubStep n m s (act_of (Sub n m) s)

unfoldable pub CmpIsTheManuals : Type 0
CmpIsTheManuals = (s : State) (n m : ℕ) → PlainState s → n < 8 → m < 8 → CmpStep n m s (act_of (Cmp n m) s)

unfoldable pub MulsIsTheManuals : Type 0
MulsIsTheManuals = (s : State) (n m : ℕ) → PlainState s → n < 8 → m < 8 → MulsStep (low_word (Dn s n)) m 2 s (act_of (Muls n m) s)

-- MULS.W #: the source is the word after the instruction's first, and the program goes on after it
unfoldable pub MulsImmediateIsTheManuals : Type 0
MulsImmediateIsTheManuals = (s : State) (m : ℕ) → PlainState s → m < 8 → MulsStep (word_in s (s.pc + 2)) m 4 s (act_of (MulsImmediate m) s)

unfoldable pub TstIsTheManuals : Type 0
TstIsTheManuals = (s : State) (n : ℕ) → PlainState s → n < 8 → TstStep n s (act_of (Tst n) s)

unfoldable pub SubqIsTheManuals : Type 0
SubqIsTheManuals = (s : State) (k n : ℕ) → PlainState s → 1 ≤ k → k ≤ 8 → n < 8 → SubqStep k n s (act_of (Subq k n) s)

unfoldable pub AslIsTheManuals : Type 0
AslIsTheManuals = (s : State) (k n : ℕ) → PlainState s → 1 ≤ k → k ≤ 8 → n < 8 → AslStep k n s (act_of (Asl k n) s)

-- a byte $00 would be the manual's branch by 16 bits
unfoldable pub BranchIsTheManuals : Type 0
BranchIsTheManuals = (s : State) (k b : ℕ) → PlainState s → HasBranch k → 0 < b → b < 2 ^ 8 → BranchStep k b s (act_of (Branch k b) s)

-- what the statements above take of a state stands of every state in a run: of the one that it starts from, where the caller's address
-- registers and start address are longs and the list's words are words, of what a step leaves, and so of what a run does
pub record StatesStayPlain : Type 0 where
  pub start : (n : ℕ) (xs ws a : List ℕ) (pc : ℕ) → length a ≡ 8 → ((i : ℕ) → get_or a i 0 < 2 ^ 32) → ((i : ℕ) → get_or ws i 0 < 2 ^ 16)
      → pc < 2 ^ 32 → PlainState (state_at n xs ws a pc)
  pub step : (f : Form) (s : State) → PlainState s → PlainState (act_of f s)
  pub run : (limit : ℕ) (s : State) → PlainState s → PlainState (run_of limit s).state
