-- What the bench runs: the stations' forms that are proved equal to the manual, "less byte −1". The forms as the manual's instructions, and their words by
-- its bit fields; byte 0 of a branch is none of these forms. Assumes nothing.
use Rattle.std.specs.Prelude.{ℕ, ◌<◌, ◌≤◌, ◌≡◌, Bool, true, false, cond, [], ◌∷◌, ltb, leb, eqb, get_or}
use Rattle.manual.specs.Manual.{Instruction, Condition, direct, indirect, immediate, word, long, T, CC, CS, NE, EQ, PL, MI, GE, LT, GT, LE, MOVEQ, MOVE, MULS, ADD, SUB, CMP, TST, SUBQ, ASL, NOP, Bcc, operation_word, sign_of}
use Rattle.machine.specs.declared.Form.{Form}
use Rattle.machine.specs.declared.Form.TheVariants.{Nop, Moveq, MoveWord, Load, Store, Add, Sub, Cmp, Muls, MulsImmediate, Tst, Subq, Asl, Branch}

-- the manual's conditions by their four bits; those that the manual's definitions do not have stand as T
unfoldable pub condition_at : ℕ → Condition
condition_at k = get_or (T ∷ T ∷ T ∷ T ∷ CC ∷ CS ∷ NE ∷ EQ ∷ T ∷ T ∷ PL ∷ MI ∷ GE ∷ LT ∷ GT ∷ LE ∷ []) k T

-- the conditions of the branches that are equal to the manual's, those "except BPL and BMI": 0, 4 to 7 and 12 to 15
unfoldable pub listed : ℕ → Bool
listed k = cond (eqb k 0) true (cond (ltb k 4) false (cond (ltb k 8) true (leb 12 k)))

-- the instruction of a form whose next word is v, which only MULS # reads
unfoldable pub manual : ℕ → Form → Instruction
manual v Nop = NOP
manual v (Moveq b m) = MOVEQ (sign_of b) m
manual v (MoveWord n m) = MOVE word (direct n) (direct m)
manual v (Load n m) = MOVE long (indirect n) (direct m)
manual v (Store n m) = MOVE long (direct n) (indirect m)
manual v (Add n m) = ADD word (direct n) m
manual v (Sub n m) = SUB word (direct n) m
manual v (Cmp n m) = CMP word (direct n) m
manual v (Muls n m) = MULS (direct n) m
manual v (MulsImmediate m) = MULS (immediate v) m
manual v (Tst n) = TST long (direct n)
manual v (Subq k n) = SUBQ long k (direct n)
manual v (Asl k n) = ASL long k n
manual v (Branch k b) = Bcc (condition_at k) (sign_of b)

-- the form's word, by the manual's fields; the next word is no part of it
unfoldable pub word_of : Form → ℕ
word_of f = operation_word (manual 0 f)

-- what a form's numbers may be: registers, bytes, "SUBQ.L and ASL.L with 1 to 8", listed branches with a byte that is neither 0 nor −1
abbrev pub Valid : Form → Type 0
Valid Nop = Unit
Valid (Moveq b m) = (b < 256) × (m < 8)
Valid (MoveWord n m) = (n < 8) × (m < 8)
Valid (Load n m) = (n < 8) × (m < 8)
Valid (Store n m) = (n < 8) × (m < 8)
Valid (Add n m) = (n < 8) × (m < 8)
Valid (Sub n m) = (n < 8) × (m < 8)
Valid (Cmp n m) = (n < 8) × (m < 8)
Valid (Muls n m) = (n < 8) × (m < 8)
Valid (MulsImmediate m) = m < 8
Valid (Tst n) = n < 8
Valid (Subq k n) = (0 < k) × (k ≤ 8) × (n < 8)
Valid (Asl k n) = (0 < k) × (k ≤ 8) × (n < 8)
Valid (Branch k b) = (k < 16) × (listed k ≡ true) × (0 < b) × (b < 255)
