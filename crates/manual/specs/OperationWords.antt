-- The operation words as sums, the form that code computes: by the manual's fields they come to these. Assumes nothing.
use Rattle.std.specs.Prelude.{ℕ, ◌+◌, ◌*◌, ◌≡◌, ℤ}
use Rattle.manual.specs.Manual.{byte, word, long, direct, indirect, immediate, absolute, Condition, condition, quick, MOVEQ, MOVE, MULS, ADD, SUB, CMP, TST, SUBQ, ASL, NOP, Bcc, MOVEA, CMPI, JMP, DBRA, operation_word}

-- register n in bits 9 to 11 is 512 * n
pub record OperationWords : Type 0 where
  pub moveq : (z : ℤ) (n : ℕ) → operation_word (MOVEQ z n) ≡ 0x7000 + 512 * n + byte z
  pub move_data : (v n : ℕ) → operation_word (MOVE long (immediate v) (direct n)) ≡ 0x203C + 512 * n
  pub load : (n m : ℕ) → operation_word (MOVE long (indirect n) (direct m)) ≡ 0x2010 + 512 * m + n
  pub store : (n m : ℕ) → operation_word (MOVE long (direct n) (indirect m)) ≡ 0x2080 + 512 * m + n
  pub copy : (n m : ℕ) → operation_word (MOVE word (direct n) (direct m)) ≡ 0x3000 + 512 * m + n
  pub load_address : (x n : ℕ) → operation_word (MOVE long (absolute x) (direct n)) ≡ 0x2039 + 512 * n
  pub store_address : (x n : ℕ) → operation_word (MOVE long (direct n) (absolute x)) ≡ 0x23C0 + n
  pub movea : (x n : ℕ) → operation_word (MOVEA long (immediate x) n) ≡ 0x207C + 512 * n
  pub muls_data : (v n : ℕ) → operation_word (MULS (immediate v) n) ≡ 0xC1FC + 512 * n
  pub muls : (n m : ℕ) → operation_word (MULS (direct n) m) ≡ 0xC1C0 + 512 * m + n
  pub add : (n m : ℕ) → operation_word (ADD word (direct n) m) ≡ 0xD040 + 512 * m + n
  pub sub : (n m : ℕ) → operation_word (SUB word (direct n) m) ≡ 0x9040 + 512 * m + n
  pub cmp : (n m : ℕ) → operation_word (CMP word (direct n) m) ≡ 0xB040 + 512 * m + n
  pub cmp_data : (v n : ℕ) → operation_word (CMPI long v (direct n)) ≡ 0x0C80 + n
  pub tst : (n : ℕ) → operation_word (TST long (direct n)) ≡ 0x4A80 + n
  pub subq : (k n : ℕ) → operation_word (SUBQ long k (direct n)) ≡ 0x5180 + n + 512 * quick k
  pub asl : (k n : ℕ) → operation_word (ASL long k n) ≡ 0xE180 + n + 512 * quick k
  pub nop : operation_word NOP ≡ 0x4E71
  pub jmp : (x : ℕ) → operation_word (JMP (absolute x)) ≡ 0x4EF9
  pub dbra : (n : ℕ) (d : ℤ) → operation_word (DBRA n d) ≡ 0x51C8 + n
  pub branch : (c : Condition) (d : ℤ) → operation_word (Bcc c d) ≡ 0x6000 + 256 * condition c + byte d
