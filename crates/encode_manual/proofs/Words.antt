-- The words of each instruction that the forms say, as the code puts them together. Assumes nothing.
use Prim.Native.Nat.{ℕ, ◌+◌, ◌/◌, ◌%◌}
use mathlib.Core.Path.{◌≡◌, ap}
use mathlib.Core.List.{List, [], ◌∷◌}
use lib.IntN.{ℤ}
use Rattle.rules.specs.Encode.{R}
use Rattle.manual.specs.Manual.{word, long, direct, indirect, immediate, absolute, byte, quick, halves, extension, extensions, MOVEQ, MOVE, MULS, ADD, SUB, CMP, TST, SUBQ, ASL, NOP, CMPI, JMP, operation_word, manual_words}
use Rattle.manual.specs.OperationWords.{OperationWords}
use Rattle.manual.proofs.OperationWords.{operation_words}
use Rattle.requests.specs.ManualCall.{load, store, point, jump, addressed}

pub record Words : Type 0 where
  pub moveq : (z : ℤ) (n : ℕ) → manual_words (MOVEQ z n) ≡ (0x7000 + R n + byte z) ∷ []
  pub move_data : (v n : ℕ) → manual_words (MOVE long (immediate v) (direct n)) ≡ (0x203C + R n) ∷ v / 65536 ∷ v % 65536 ∷ []
  pub load_from : (n m : ℕ) → manual_words (MOVE long (indirect n) (direct m)) ≡ (0x2010 + R m + n) ∷ []
  pub store_to : (n m : ℕ) → manual_words (MOVE long (direct n) (indirect m)) ≡ (0x2080 + R m + n) ∷ []
  pub copy : (n m : ℕ) → manual_words (MOVE word (direct n) (direct m)) ≡ (0x3000 + R m + n) ∷ []
  pub muls_data : (v n : ℕ) → manual_words (MULS (immediate v) n) ≡ (0xC1FC + R n) ∷ v ∷ []
  pub muls : (n m : ℕ) → manual_words (MULS (direct n) m) ≡ (0xC1C0 + R m + n) ∷ []
  pub add : (n m : ℕ) → manual_words (ADD word (direct n) m) ≡ (0xD040 + R m + n) ∷ []
  pub sub : (n m : ℕ) → manual_words (SUB word (direct n) m) ≡ (0x9040 + R m + n) ∷ []
  pub cmp : (n m : ℕ) → manual_words (CMP word (direct n) m) ≡ (0xB040 + R m + n) ∷ []
  pub cmp_data : (v n : ℕ) → manual_words (CMPI long v (direct n)) ≡ (0x0C80 + n) ∷ v / 65536 ∷ v % 65536 ∷ []
  pub tst : (n : ℕ) → manual_words (TST long (direct n)) ≡ (0x4A80 + n) ∷ []
  pub subq : (k n : ℕ) → manual_words (SUBQ long k (direct n)) ≡ (0x5180 + n + R (quick k)) ∷ []
  pub asl : (k n : ℕ) → manual_words (ASL long k n) ≡ (0xE180 + n + R (quick k)) ∷ []
  pub nop : manual_words NOP ≡ 0x4E71 ∷ []
  pub jmp : (x : ℕ) → manual_words (JMP (absolute x)) ≡ 0x4EF9 ∷ x / 65536 ∷ x % 65536 ∷ []

-- an operation word in front of the words after it
before : {v w : ℕ} (ws : List ℕ) → v ≡ w → v ∷ ws ≡ w ∷ ws
before ws e = ap (λ (x : ℕ). x ∷ ws) e

pub the_words : Words
unfolding manual_words extensions extension halves R
the_words =
    let o : OperationWords = operation_words in
    record {
      moveq = λ z n. before _ (o.moveq z n);
      move_data = λ v n. before _ (o.move_data v n);
      load_from = λ n m. before _ (o.load n m);
      store_to = λ n m. before _ (o.store n m);
      copy = λ n m. before _ (o.copy n m);
      muls_data = λ v n. before _ (o.muls_data v n);
      muls = λ n m. before _ (o.muls n m);
      add = λ n m. before _ (o.add n m);
      sub = λ n m. before _ (o.sub n m);
      cmp = λ n m. before _ (o.cmp n m);
      cmp_data = λ v n. before _ (o.cmp_data v n);
      tst = λ n. before _ (o.tst n);
      subq = λ k n. before _ (o.subq k n);
      asl = λ k n. before _ (o.asl k n);
      nop = before _ o.nop;
      jmp = λ x. before _ (o.jmp x);
    }

-- the operation word before a label's address, whatever the address; w is what the code has
module _ {w : ℕ} where
  pub load_word : (n : ℕ) → w ≡ 0x2039 + R n → (x : ℕ) → operation_word (addressed (load n) x) ≡ w
  unfolding addressed R
  load_word n e x = rw (operation_words.load_address x n, e)

  pub store_word : (n : ℕ) → w ≡ 0x23C0 + n → (x : ℕ) → operation_word (addressed (store n) x) ≡ w
  unfolding addressed
  store_word n e x = rw (operation_words.store_address x n, e)

  pub point_word : (n : ℕ) → w ≡ 0x207C + R n → (x : ℕ) → operation_word (addressed (point n) x) ≡ w
  unfolding addressed R
  point_word n e x = rw (operation_words.movea x n, e)

pub jump_word : (x : ℕ) → operation_word (addressed jump x) ≡ 0x4EF9
unfolding addressed
jump_word x = operation_words.jmp x
