-- Decoding is the inverse of the manual's words. Assumes nothing.
use Prim.Native.Nat.{ℕ, zero, suc, ◌+◌, ◌-◌, ◌*◌, ◌/◌, ◌%◌, ◌<◌, ◌≤◌}
use mathlib.Core.Logic.{◌↔◌}
use mathlib.Core.Path.{◌≡◌, refl, sym, ◌∙◌}
use mathlib.Core.Bool.{Bool, true, false, cond, not, ◌||◌, false≢true}
use mathlib.Core.List.{List, [], ◌∷◌}
use native.Mathlib.Omega.{arith}
use lib.Dec.{eqb, ltb}
use lib.ListN.{get_or}
use lib.IntN.{sub_ℕ, pos}
use borrow.Author.Tests.{eq-eqb, ne_eqb, eqb-true, eqb-false, lt-ltb}
use Rattle.machine.specs.Form.{Valid, word_of, manual, listed, condition_at}
use Rattle.manual.specs.Manual.{join, layout, operation_word, quick, condition, byte, sign_of}
use Rattle.manual.specs.Manual as M
use Rattle.machine.specs.Decode.{decode_of, rows, branch}
use Rattle.machine.specs.declared.Form.{Form}
use Rattle.machine.specs.declared.Form.TheVariants.{Nop, Moveq, MoveWord, Load, Store, Add, Sub, Cmp, Muls, MulsImmediate, Tst, Subq, Asl, Branch}
use Rattle.machine.specs.declared.Decoded.{Decoded}
use Rattle.machine.specs.declared.Decoded.TheVariants.{Is, Halt, Other}

-- a word of four fields: four bits, three, six, three
record Fields (w k m n : ℕ) : Type 0 where
  top : w / 4096 ≡ k
  high : w / 512 % 8 ≡ m
  low : w % 8 ≡ n

fields : (w k m j n : ℕ) → w ≡ k * 4096 + m * 512 + j * 8 + n → m < 8 → j < 64 → n < 8 → Fields w k m n
fields w k m j n e p q r =
    let q9 : w / 512 ≡ k * 8 + m = omega arith in
    let q12 : w / 512 / 8 ≡ k = omega arith in
    record { top = omega arith; high = omega arith; low = omega arith }

-- the three bits of SUBQ and ASL
quick_mod : (k : ℕ) → k ≤ 8 → quick k ≡ k % 8
unfolding quick
quick_mod k h = go (eqb k 8) refl
  where
    go : (x : Bool) → eqb k 8 ≡ x → cond x 0 k ≡ k % 8
    go true e = let q : k ≡ 8 = eqb-true k 8 e in omega arith
    go false e = let q = eqb-false k 8 e in omega arith

quick_back : (k : ℕ) → 0 < k → k ≤ 8 → (k % 8 + 7) % 8 + 1 ≡ k
quick_back k h l = go (eqb k 8) refl
  where
    go : (x : Bool) → eqb k 8 ≡ x → (k % 8 + 7) % 8 + 1 ≡ k
    go true e = let q : k ≡ 8 = eqb-true k 8 e in rw q
    go false e = let q = eqb-false k 8 e in let r : k % 8 ≡ k = omega arith in rw r (omega arith)

pub byte_back : (b : ℕ) → b < 256 → byte (sign_of b) ≡ b
unfolding byte sign_of M.sign_by
byte_back b h = go (ltb b 128) refl
  where
    go : (x : Bool) → ltb b 128 ≡ x → byte (cond x (pos b) (sub_ℕ b 256)) ≡ b
    go true e = refl
    go false e = rw (lt-ltb b 256 h) (omega arith)

-- a test that antt computes below n holds of every number below n
abbrev every : (ℕ → Bool) → ℕ → Bool
every t zero = true
every t (suc n) = cond (t n) (every t n) false

every_at : (t : ℕ → Bool) (n k : ℕ) → every t n ≡ true → k < n → t k ≡ true
every_at t zero k a h = absurd (omega arith)
every_at t (suc n) k a h = go (t n) refl (eqb k n) refl (λ u l. every_at t n k u l)
  where
    go : (y : Bool) → t n ≡ y → (x : Bool) → eqb k n ≡ x → (every t n ≡ true → k < n → t k ≡ true) → t k ≡ true
    go y d true e ih = let u = a in rw (eqb-true k n e) (left y d)
      where
        left : (y : Bool) → t n ≡ y → t n ≡ true
        left true d = d
        left false d = let u = rw d at a in absurd (false≢true u)
    go true d false e ih = let q = eqb-false k n e in ih (rw d at a) (omega arith)
    go false d false e ih = let u = rw d at a in absurd (false≢true u)

-- a listed condition is the manual's
right : ℕ → Bool
right k = not (listed k) || eqb (condition (condition_at k)) k

rights : every right 16 ≡ true
unfolding right listed condition_at condition
rights = refl

condition_back : (k : ℕ) → k < 16 → listed k ≡ true → condition (condition_at k) ≡ k
unfolding right
condition_back k h l = eqb-true _ _ (rw l at (every_at right 16 k rights h))

-- a form's word decodes to the form
is_move_word : (w n m : ℕ) → w ≡ 0x3000 + m * 512 + n → n < 8 → m < 8 → decode_of w ≡ Is (MoveWord n m)
unfolding decode_of
is_move_word w n m e h k = let f = fields w 3 m 0 n (omega arith) k (omega arith) h in rw (f.top, f.low, f.high, eq-eqb w (0x3000 + m * 512 + n) e)

is_load : (w n m : ℕ) → w ≡ 0x2010 + m * 512 + n → n < 8 → m < 8 → decode_of w ≡ Is (Load n m)
unfolding decode_of
is_load w n m e h k = let f = fields w 2 m 2 n (omega arith) k (omega arith) h in rw (f.top, f.low, f.high, eq-eqb w (0x2010 + m * 512 + n) e)

is_store : (w n m : ℕ) → w ≡ 0x2080 + m * 512 + n → n < 8 → m < 8 → decode_of w ≡ Is (Store n m)
unfolding decode_of
is_store w n m e h k =
    let f = fields w 2 m 16 n (omega arith) k (omega arith) h in
    rw (f.top, f.low, f.high, ne_eqb w (0x2010 + m * 512 + n) (λ d. omega arith), eq-eqb w (0x2080 + m * 512 + n) e)

is_subq : (w k n : ℕ) → w ≡ 0x5180 + k % 8 * 512 + n → 0 < k → k ≤ 8 → n < 8 → decode_of w ≡ Is (Subq k n)
unfolding decode_of
is_subq w k n e p q h =
    let f = fields w 5 (k % 8) 48 n (omega arith) (omega arith) (omega arith) h in
    rw (f.top, f.low, f.high, eq-eqb w (0x5180 + k % 8 * 512 + n) e, quick_back k p q)

is_moveq : (w b m : ℕ) → w ≡ 0x7000 + m * 512 + b → b < 256 → m < 8 → decode_of w ≡ Is (Moveq b m)
unfolding decode_of
is_moveq w b m e h k =
    let f = fields w 7 m (b / 8) (b % 8) (omega arith) k (omega arith) (omega arith) in
    let l : w % 256 ≡ b = omega arith in
    rw (f.top, f.high, l, eq-eqb w (0x7000 + m * 512 + b) e)

is_branch_lem : (w k b : ℕ) → w ≡ 0x6000 + k * 256 + b → k < 16 → listed k ≡ true → 0 < b → b < 255 → decode_of w ≡ Is (Branch k b)
unfolding decode_of
is_branch_lem w k b e p l g h =
    let t : w / 4096 ≡ 6 = omega arith in
    let q8 : w / 256 ≡ 96 + k = omega arith in
    let q12 : w / 256 / 16 ≡ 6 = omega arith in
    let c : w / 256 % 16 ≡ k = omega arith in
    let d : w % 256 ≡ b = omega arith in
    rw (t, c, d, l, ne_eqb b 0 (λ z. omega arith), ne_eqb b 255 (λ z. omega arith))

is_add : (w n m : ℕ) → w ≡ 0xD040 + m * 512 + n → n < 8 → m < 8 → decode_of w ≡ Is (Add n m)
unfolding decode_of
is_add w n m e h k = let f = fields w 13 m 8 n (omega arith) k (omega arith) h in rw (f.top, f.low, f.high, eq-eqb w (0xD040 + m * 512 + n) e)

is_sub : (w n m : ℕ) → w ≡ 0x9040 + m * 512 + n → n < 8 → m < 8 → decode_of w ≡ Is (Sub n m)
unfolding decode_of
is_sub w n m e h k = let f = fields w 9 m 8 n (omega arith) k (omega arith) h in rw (f.top, f.low, f.high, eq-eqb w (0x9040 + m * 512 + n) e)

is_cmp : (w n m : ℕ) → w ≡ 0xB040 + m * 512 + n → n < 8 → m < 8 → decode_of w ≡ Is (Cmp n m)
unfolding decode_of
is_cmp w n m e h k = let f = fields w 11 m 8 n (omega arith) k (omega arith) h in rw (f.top, f.low, f.high, eq-eqb w (0xB040 + m * 512 + n) e)

is_muls : (w n m : ℕ) → w ≡ 0xC1C0 + m * 512 + n → n < 8 → m < 8 → decode_of w ≡ Is (Muls n m)
unfolding decode_of
is_muls w n m e h k = let f = fields w 12 m 56 n (omega arith) k (omega arith) h in rw (f.top, f.low, f.high, eq-eqb w (0xC1C0 + m * 512 + n) e)

is_muls_immediate : (w m : ℕ) → w ≡ 0xC1FC + m * 512 → m < 8 → decode_of w ≡ Is (MulsImmediate m)
unfolding decode_of
is_muls_immediate w m e k =
    let f = fields w 12 m 63 4 (omega arith) k (omega arith) (omega arith) in
    rw (f.top, f.low, f.high, ne_eqb w (0xC1C0 + m * 512 + 4) (λ d. omega arith), eq-eqb w (0xC1FC + m * 512) e)

is_tst : (w n : ℕ) → w ≡ 0x4A80 + n → n < 8 → decode_of w ≡ Is (Tst n)
unfolding decode_of
is_tst w n e h = let f = fields w 4 5 16 n (omega arith) (omega arith) (omega arith) h in rw (f.top, f.low, eq-eqb w (0x4A80 + n) e)

is_asl : (w k n : ℕ) → w ≡ 0xE180 + k % 8 * 512 + n → 0 < k → k ≤ 8 → n < 8 → decode_of w ≡ Is (Asl k n)
unfolding decode_of
is_asl w k n e p q h =
    let f = fields w 14 (k % 8) 48 n (omega arith) (omega arith) (omega arith) h in
    rw (f.top, f.low, f.high, eq-eqb w (0xE180 + k % 8 * 512 + n) e, quick_back k p q)

pub complete : (f : Form) → Valid f → decode_of (word_of f) ≡ Is f
unfolding decode_of word_of manual operation_word layout join M.opmode M.mode M.register M.move_size M.size_field
complete Nop v = refl
complete (Moveq b m) v = is_moveq (word_of (Moveq b m)) b m (rw (byte_back b v.0) (omega arith)) v.0 v.1
complete (MoveWord n m) v = is_move_word (word_of (MoveWord n m)) n m (omega arith) v.0 v.1
complete (Load n m) v = is_load (word_of (Load n m)) n m (omega arith) v.0 v.1
complete (Store n m) v = is_store (word_of (Store n m)) n m (omega arith) v.0 v.1
complete (Add n m) v = is_add (word_of (Add n m)) n m (omega arith) v.0 v.1
complete (Sub n m) v = is_sub (word_of (Sub n m)) n m (omega arith) v.0 v.1
complete (Cmp n m) v = is_cmp (word_of (Cmp n m)) n m (omega arith) v.0 v.1
complete (Muls n m) v = is_muls (word_of (Muls n m)) n m (omega arith) v.0 v.1
complete (MulsImmediate m) v = is_muls_immediate (word_of (MulsImmediate m)) m (omega arith) v
complete (Tst n) v = is_tst (word_of (Tst n)) n (omega arith) v
complete (Subq k n) v = is_subq (word_of (Subq k n)) k n (rw (quick_mod k v.1) (omega arith)) v.0 v.1 v.2
complete (Asl k n) v = is_asl (word_of (Asl k n)) k n (rw (quick_mod k v.1) (omega arith)) v.0 v.1 v.2
complete (Branch k b) v = is_branch_lem (word_of (Branch k b)) k b (rw (byte_back b (omega arith), condition_back k v.0 v.1) (omega arith)) v.0 v.1 v.2 v.3

-- what a word decodes to has that word
abbrev Sound : ℕ → Decoded → Type 0
Sound w (Is f) = Valid f × (word_of f ≡ w)
Sound w Halt = w ≡ 0x4E72
Sound w Other = Unit

one_sound : (w v : ℕ) (a b : Decoded) → (w ≡ v → Sound w a) → Sound w b → Sound w (cond (eqb w v) a b)
one_sound w v a b x y = go (eqb w v) refl
  where
    go : (t : Bool) → eqb w v ≡ t → Sound w (cond t a b)
    go true e = x (eqb-true w v e)
    go false e = y

-- SUBQ's and ASL's three bits, read and written back
quicked : (r : ℕ) → r < 8 → quick ((r + 7) % 8 + 1) ≡ r
quicked r h = quick_mod _ (omega arith) ∙ go (eqb r 0) refl
  where
    go : (x : Bool) → eqb r 0 ≡ x → ((r + 7) % 8 + 1) % 8 ≡ r
    go true e = rw (eqb-true r 0 e)
    go false e =
        let q = eqb-false r 0 e in
        let a : (r + 7) / 8 ≡ 1 = omega arith in
        let b : (r + 7) % 8 ≡ r - 1 = omega arith in
        omega arith

-- each row at its own highest four bits
abbrev Rows : ℕ → ℕ → List Decoded → Type 0
Rows w i [] = Unit
Rows w i (x ∷ xs) = (w / 4096 ≡ i → Sound w x) × Rows w (suc i) xs

row_at : (w i k : ℕ) (xs : List Decoded) → Rows w i xs → w / 4096 ≡ i + k → Sound w (get_or xs k Other)
row_at w i k [] a e = tt
row_at w i zero (x ∷ xs) a e = a.0 (omega arith)
row_at w i (suc k) (x ∷ xs) a e = row_at w (suc i) k xs a.1 (omega arith)

one_test : (w v : ℕ) (a : Decoded) → (w ≡ v → Sound w a) → Sound w (cond (eqb w v) a Other)
one_test w v a x = one_sound w v a Other x tt

branch_sound : (w : ℕ) → w / 4096 ≡ 6 → Sound w (branch w)
unfolding word_of manual operation_word layout join
branch_sound w e = go (listed (w / 256 % 16)) refl (eqb (w % 256) 0) refl (eqb (w % 256) 255) refl
  where
    go : (x : Bool) → listed (w / 256 % 16) ≡ x → (y : Bool) → eqb (w % 256) 0 ≡ y → (z : Bool) → eqb (w % 256) 255 ≡ z
        → Sound w (cond x (cond y Other (cond z Other (Is (Branch (w / 256 % 16) (w % 256))))) Other)
    go false p y q z r = tt
    go true p true q z r = tt
    go true p false q true r = tt
    go true p false q false r =
        let a = eqb-false (w % 256) 0 q in
        let b = eqb-false (w % 256) 255 r in
        ((omega arith, p, omega arith, omega arith), rw (byte_back (w % 256) (omega arith), condition_back (w / 256 % 16) (omega arith) p) (omega arith))

rows_sound : (w : ℕ) → Rows w 0 (rows w)
unfolding word_of manual operation_word layout join M.opmode M.mode M.register M.move_size M.size_field
rows_sound w = (
  (λ e. tt),
  (
    (λ e. tt),
    (
      (λ e. one_sound w _ _ _ (λ q. ((omega arith, omega arith), omega arith)) (one_test w _ _ (λ q. ((omega arith, omega arith), omega arith)))),
      (
        (λ e. one_test w _ _ (λ q. ((omega arith, omega arith), omega arith))),
        (
          (λ e. one_sound w _ _ _ (λ q. (omega arith, omega arith)) (one_sound w _ _ _ (λ q. (tt, sym q)) (one_test w _ _ (λ q. q)))),
          (
            (λ e. one_test w _ _ (λ q. ((omega arith, omega arith, omega arith), rw (quicked (w / 512 % 8) (omega arith)) (omega arith)))),
            (
              branch_sound w,
              (
                (λ e. one_test w _ _ (λ q. ((omega arith, omega arith), rw (byte_back (w % 256) (omega arith)) (omega arith)))),
                (
                  (λ e. tt),
                  (
                    (λ e. one_test w _ _ (λ q. ((omega arith, omega arith), omega arith))),
                    (
                      (λ e. tt),
                      (
                        (λ e. one_test w _ _ (λ q. ((omega arith, omega arith), omega arith))),
                        (
                          (λ e. one_sound w _ _ _ (λ q. ((omega arith, omega arith), omega arith)) (one_test w _ _ (λ q. (omega arith, omega arith)))),
                          (
                            (λ e. one_test w _ _ (λ q. ((omega arith, omega arith), omega arith))),
                            (
                              (λ e. one_test w _ _ (λ q. ((omega arith, omega arith, omega arith), rw (quicked (w / 512 % 8) (omega arith)) (omega arith)))),
                              ((λ e. tt), tt),
                            ),
                          ),
                        ),
                      ),
                    ),
                  ),
                ),
              ),
            ),
          ),
        ),
      ),
    ),
  ),
)

pub sound : (w : ℕ) → Sound w (decode_of w)
unfolding decode_of
sound w = row_at w 0 (w / 4096) (rows w) (rows_sound w) (omega arith)

-- a word decodes to a form exactly if it is that form's word
pub inverse : (w : ℕ) (f : Form) → (decode_of w ≡ Is f) ↔ (Valid f × (word_of f ≡ w))
inverse w f = ((λ e. rw e at (sound w)), (λ p. rw p.1 at (complete f p.0)))

halt_word : decode_of 0x4E72 ≡ Halt
unfolding decode_of
halt_word = refl

-- its word does not depend on the next one
pub word_same : (v : ℕ) (f : Form) → operation_word (manual v f) ≡ word_of f
unfolding word_of manual operation_word layout M.mode M.register
word_same v Nop = refl
word_same v (Moveq b m) = refl
word_same v (MoveWord n m) = refl
word_same v (Load n m) = refl
word_same v (Store n m) = refl
word_same v (Add n m) = refl
word_same v (Sub n m) = refl
word_same v (Cmp n m) = refl
word_same v (Muls n m) = refl
word_same v (MulsImmediate m) = refl
word_same v (Tst n) = refl
word_same v (Subq k n) = refl
word_same v (Asl k n) = refl
word_same v (Branch k b) = refl

-- and to the halt exactly if it is the halt's
pub halts : (w : ℕ) → (decode_of w ≡ Halt) ↔ (w ≡ 0x4E72)
halts w = ((λ e. rw e at (sound w)), (λ e. rw e halt_word))
