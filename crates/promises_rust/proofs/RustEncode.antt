-- Each encoder of the Rust gives the words of the rules: labels as they are found, addresses modulo 65,536. Assumes nothing.
use Rattle.std.specs.Prelude.{Option, None, Some, option_map}
use Rattle.std.proofs.lemmas.Option.{none-some}
use Rattle.rules.specs.Option.{bind, or_else}
use Prim.Native.Nat.{ℕ, suc, ◌+◌, ◌/◌, ◌%◌, ◌^◌, ◌<◌}
use mathlib.Core.Path.{◌≡◌, refl, sym, ap, ◌∙◌}
use mathlib.Core.Bool.{Bool, true, false, not, ◌&&◌, ◌||◌, cond, false≢true}
use mathlib.Core.List.{List, [], ◌∷◌}
use native.Mathlib.Omega.{arith}
use lib.ListN.{length, drop}
use lib.Dec.{eqb}
use lib.IntN.{ℤ}
use borrow.Author.Tests.{ne_eqb}
use Rattle.rules.specs.Text.{Text, bytes, same, after}
use Rattle.rules.specs.Number.{imm8, imm16}
use Rattle.rules.specs.Line.{Instruction as Said}
use Rattle.rules.specs.Label.{Table}
use Rattle.rules.specs.Encode.{Content, literal, address, long_address, moveq, move, movea, muls, tst, subq, asl, dbra, add, sub, cmp, jmp, branch, Mnemonic, branches, other_mnemonics, mnemonics, operation_in, R, register_digit, data_register, address_register, two, one, one_or_more, displacement, jumps, with_label, registers_row, high_row, low_row, from_indirect, to_indirect, from_label, to_label, move_rows, movea_row, muls_rows, cmp_rows, moveq_row, quick_row, tst_row, jump_row, dbra_row, branch_row, encode_operation, encode_by, encode}
use Rattle.rules.proofs.Readings.{All}
use Rattle.promises_rust.specs.RustStr.{when, is_empty, equals, starts_with, as_u16, i8_as_u16, HashMap, look_up, Arm, match}
use Rattle.promises_rust.specs.RustAssembler.{AssemblyInstruction, Code, no_ext, parse_immediate, parse_immediate_u16, parse_data_register, parse_address_register, parse_branch_displacement, encode_moveq, encode_move_with_ext, encode_movea_with_ext, encode_muls_with_ext, encode_branch, encode_add, encode_sub, encode_cmp_with_ext, encode_jump, encode_tst, encode_subq, encode_asl, encode_dbra, encode_instruction_with_ext, ◌or◌, ◌and◌, ◌<<◌}
use Rattle.promises_rust.specs.RustLists.{inst_at}
use Rattle.promises.proofs.Same.{same_eq}
use Rattle.promises_rust.proofs.RustText.{equals_is, after_is}
use Rattle.promises_rust.proofs.RustNumber.{Small, clash, imm8_is, imm8_small, imm16_is, imm16_none}
use Rattle.promises_rust.proofs.RustOperand.{Register, data_is, data_below, address_is, address_below, indirect_is, indirect_below, Agrees, displacement_is, displacement_small, jumps_is}
use Rattle.promises_rust.proofs.RustOpcode.{at_low, at_high, registers, moveq_word, branch_word, quick_word}

-- the words of contents, and of the Rust's answers
abbrev pub plain : List Content → List ℕ
plain [] = []
plain (literal w ∷ cs) = w ∷ plain cs
plain (address x ∷ cs) = x % 65536 ∷ plain cs
plain (long_address x ∷ cs) = x / 65536 % 65536 ∷ x % 65536 ∷ plain cs

abbrev pub ext_words : Option ℕ → List ℕ
ext_words None = []
ext_words (Some e) = e ∷ []

abbrev pub code_words : Code → List ℕ
code_words c = c.0 ∷ ext_words c.1

abbrev one_word : ℕ → List ℕ
one_word c = c ∷ []

-- an answer of the Rust and one of the rules have the same words
pub record Same {A : Type 0} (f : A → List ℕ) (x : Option A) (y : Option (List Content)) : Type 0 where
  pub words : option_map f x ≡ option_map plain y

module _ {A : Type 0} {f : A → List ℕ} where
  nothing : Same f None None
  nothing = record { words = refl }

  hit : {a : A} {cs : List Content} → f a ≡ plain cs → Same f (Some a) (Some cs)
  hit e = record { words = ap Some e }

  -- the same option taken on, whose value is known to be so
  on : {X : Type 0} (P : X → Type 0) {o p : Option X} {g : X → Option A} {h : X → Option (List Content)} → o ≡ p → All P p
      → ((x : X) → P x → Same f (g x) (h x)) → Same f (bind o g) (bind p h)
  unfolding bind
  on {X} P {o} {p} {g} {h} e a k = rw e (go p a)
    where
      go : (p : Option X) → All P p → Same f (bind p g) (bind p h)
      go None a = nothing
      go (Some x) a = k x a

  or_else_lem : {x x' : Option A} {y y' : Option (List Content)} → Same f x y → Same f x' y' → Same f (or_else x x') (or_else y y')
  unfolding or_else
  or_else_lem {x} {x'} {y} {y'} e e' = go x y e
    where
      go : (x : Option A) (y : Option (List Content)) → Same f x y → Same f (or_else x x') (or_else y y')
      go None None e = e'
      go None (Some c) e = absurd (none-some (plain c) e.words)
      go (Some a) None e = absurd (none-some (f a) (sym e.words))
      go (Some a) (Some c) e = e

  -- a last row that gives nothing
  last : {x : Option A} {y : Option (List Content)} → Same f x y → Same f (or_else x None) y
  unfolding or_else
  last {x} {y} e = go x e
    where
      go : (x : Option A) → Same f x y → Same f (or_else x None) y
      go None e = e
      go (Some a) e = e

  -- two options taken in the other order
  swap : {X Y : Type 0} (o : Option X) (p : Option Y) (g : X → Y → Option A) {y : Option (List Content)}
      → Same f (bind o (λ a. bind p (g a))) y → Same f (bind p (λ b. bind o (λ a. g a b))) y
  unfolding bind
  swap None None g e = e
  swap None (Some b) g e = e
  swap (Some a) None g e = e
  swap (Some a) (Some b) g e = e

  -- the counts of operands
  count_two : (F : List Text → Option A) (h : Text → Text → Option (List Content)) → ((s t : Text) → Same f (F (s ∷ t ∷ [])) (h s t))
      → (ps : List Text) → Same f (cond (not (eqb (length ps) 2)) None (F ps)) (two h ps)
  unfolding two
  count_two F h k [] = nothing
  count_two F h k (s ∷ []) = nothing
  count_two F h k (s ∷ t ∷ []) = k s t
  count_two F h k (s ∷ t ∷ u ∷ ps) = rw (ne_eqb (suc (suc (suc (length ps)))) 2 (λ e. omega arith)) nothing

  count_one : (F : List Text → Option A) (h : Text → Option (List Content)) → ((s : Text) → Same f (F (s ∷ [])) (h s))
      → (ps : List Text) → Same f (cond (not (eqb (length ps) 1)) None (F ps)) (one h ps)
  unfolding one
  count_one F h k [] = nothing
  count_one F h k (s ∷ []) = k s
  count_one F h k (s ∷ t ∷ ps) = rw (ne_eqb (suc (suc (length ps))) 1 (λ e. omega arith)) nothing

  count_more : (F : List Text → Option A) (h : Text → Option (List Content)) → ((s : Text) (ps : List Text) → Same f (F (s ∷ ps)) (h s))
      → (ps : List Text) → Same f (cond (is_empty ps) None (F ps)) (one_or_more h ps)
  unfolding one_or_more is_empty
  count_more F h k [] = nothing
  count_more F h k (s ∷ ps) = k s ps

-- an opcode; a code alone, with a value, with a label's address
opcode : {c w : ℕ} → c ≡ w → Same one_word (Some c) (Some (literal w ∷ []))
opcode e = hit (ap one_word e)

alone : {c w : ℕ} → c ≡ w → Same code_words (Some (c, None)) (Some (literal w ∷ []))
alone e = hit (ap one_word e)

valued : {c w v : ℕ} → c ≡ w → Same code_words (Some (c, Some v)) (Some (literal w ∷ literal v ∷ []))
valued {v = v} e = hit (ap (λ (x : ℕ). x ∷ v ∷ []) e)

-- a data register and an immediate, taken on
module _ {A : Type 0} {f : A → List ℕ} (s : Text) where
  data_on : {g : ℕ → Option A} {h : ℕ → Option (List Content)} → ((n : ℕ) → n < 8 → Same f (g n) (h n))
      → Same f (bind (parse_data_register s) g) (bind (data_register s) h)
  data_on k = on Register (data_is s) (data_below s) k

  value_on : {g : ℕ → Option A} {h : ℕ → Option (List Content)} → ((v : ℕ) → Same f (g v) (h v)) → Same f (bind (parse_immediate_u16 s) g) (bind (imm16 s) h)
  value_on k = on (λ v. Unit {0}) (imm16_is s) (any (imm16 s)) (λ v u. k v)
    where
      any : (o : Option ℕ) → All (λ v. Unit {0}) o
      any None = tt
      any (Some v) = tt

  quick_on : {g : ℤ → Option A} {h : ℤ → Option (List Content)} → ((z : ℤ) → Small z → Same f (g z) (h z)) → Same f (bind (parse_immediate s) g) (bind (imm8 s) h)
  quick_on k = on Small (imm8_is s) (imm8_small s) k

-- `#` is no register
hash_none : (s : Text) → starts_with s (bytes "#") ≡ true → data_register s ≡ None
unfolding data_register register_digit bytes
hash_none s e = rw (data_register, after_is (68 ∷ []) s, clash 35 68 [] [] s refl e)

bind_none : {X Y : Type 0} {o : Option X} (k : X → Option Y) → o ≡ None → bind o k ≡ None
unfolding bind
bind_none k e = rw e

-- rows by `#`: the one or the other of the rules' rows gives nothing
module _ (s : Text) where
  either : {x x' : Option Code} {y y' : Option (List Content)} → (starts_with s (bytes "#") ≡ true → y' ≡ None) → (starts_with s (bytes "#") ≡ false → y ≡ None)
      → Same code_words x y → Same code_words x' y' → Same code_words (cond (starts_with s (bytes "#")) x x') (or_else y y')
  unfolding or_else
  either {x} {x'} {y} {y'} p q e e' = go (starts_with s (bytes "#")) refl
    where
      only : (y : Option (List Content)) → Same code_words x y → Same code_words x (or_else y None)
      only None e = e
      only (Some c) e = e

      go : (b : Bool) → starts_with s (bytes "#") ≡ b → Same code_words (cond b x x') (or_else y y')
      go true b = rw (p b) (only y e)
      go false b = rw (q b) e'

  hashed : {x : Option Code} {y : Option (List Content)} → (starts_with s (bytes "#") ≡ false → y ≡ None) → Same code_words x y
      → Same code_words (when (starts_with s (bytes "#")) x) y
  hashed {x} {y} q e = go (starts_with s (bytes "#")) refl
    where
      go : (b : Bool) → starts_with s (bytes "#") ≡ b → Same code_words (when b x) y
      go true b = e
      go false b = rw (q b) nothing

-- a test below a `bind`, pulled out
pull : (b : Bool) (o : Option ℕ) (k h : ℕ → Option Code) {y : Option (List Content)} → Same code_words (cond b (bind o k) (bind o h)) y
    → Same code_words (bind o (λ n. cond b (k n) (h n))) y
pull true o k h e = e
pull false o k h e = e

-- ---- the rows that several encoders have
-- two registers; g makes an answer of one word
registers_same : {A : Type 0} {f : A → List ℕ} (g : ℕ → A) → ((c : ℕ) → f (g c) ≡ one_word c) → (w : ℕ) → w / 512 % 8 ≡ 0 → w % 8 ≡ 0 → (s u : Text)
    → Same f (bind (parse_data_register s) (λ n. bind (parse_data_register u) (λ m. Some (g (w or (as_u16 m << 9) or as_u16 n))))) (registers_row w s u)
unfolding registers_row
registers_same g p w d e s u = data_on s (λ n h. data_on u (λ m k. hit (p _ ∙ ap one_word (registers w n m h k d e))))

-- an immediate and a register in bits 9 to 11, taken in the other order
high_same : (w : ℕ) → w / 512 % 8 ≡ 0 → (s u : Text)
    → Same code_words (bind (parse_data_register u) (λ n. bind (parse_immediate_u16 s) (λ v. Some (w or (as_u16 n << 9), Some v)))) (high_row w s u)
unfolding high_row
high_same w d s u =
    swap (parse_immediate_u16 s) (parse_data_register u) (λ v n. Some (w or (as_u16 n << 9), Some v)) (value_on s (λ v. data_on u (λ n k. valued (at_high w n k d))))

-- a signed byte's low three bits in bits 9 to 11, and a register
quick_same : (w : ℕ) → w / 512 % 8 ≡ 0 → w % 8 ≡ 0 → (s u : Text)
    → Same one_word
    (bind (parse_immediate s) (λ z. bind (parse_data_register u) (λ n.
    let c = i8_as_u16 z in Some (w or (cond (eqb c 8) 0 (c and 7) << 9) or as_u16 n))))
    (quick_row w s u)
unfolding quick_row
quick_same w d e s u = quick_on s (λ z k. data_on u (λ n h. opcode (quick_word w n z h k d e)))

-- without a `#` no row of an immediate is taken, with one no row of two registers
no_high : (w : ℕ) (s u : Text) → starts_with s (bytes "#") ≡ false → high_row w s u ≡ None
unfolding high_row
no_high w s u e = bind_none _ (imm16_none s e)

no_registers : (w : ℕ) (s u : Text) → starts_with s (bytes "#") ≡ true → registers_row w s u ≡ None
unfolding registers_row
no_registers w s u e = bind_none _ (hash_none s e)

-- the encoders, on an instruction's operands
module _ (x : AssemblyInstruction) where
  abbrev inst : List Text → AssemblyInstruction
  inst ps = record { address = x.address; mnemonic = x.mnemonic; operands = ps; size = x.size }

  module _ (t : Table) where
    add_same : (ps : List Text) → Same one_word (encode_add (inst ps)) (encode_operation t x.address add ps)
    unfolding encode_add encode_operation
    add_same = count_two _ _ (registers_same (λ c. c) (λ c. refl) 0xD040 refl refl)

    sub_same : (ps : List Text) → Same one_word (encode_sub (inst ps)) (encode_operation t x.address sub ps)
    unfolding encode_sub encode_operation
    sub_same = count_two _ _ (registers_same (λ c. c) (λ c. refl) 0x9040 refl refl)

    moveq_same : (ps : List Text) → Same one_word (encode_moveq (inst ps)) (encode_operation t x.address moveq ps)
    unfolding encode_moveq encode_operation moveq_row
    moveq_same = count_two _ _ (λ s u. quick_on s (λ z k. data_on u (λ n h. opcode (moveq_word n z h k))))

    subq_same : (ps : List Text) → Same one_word (encode_subq (inst ps)) (encode_operation t x.address subq ps)
    unfolding encode_subq encode_operation
    subq_same = count_two _ _ (quick_same 0x5180 refl refl)

    asl_same : (ps : List Text) → Same one_word (encode_asl (inst ps)) (encode_operation t x.address asl ps)
    unfolding encode_asl encode_operation
    asl_same = count_two _ _ (quick_same 0xE180 refl refl)

    tst_same : (ps : List Text) → Same one_word (encode_tst (inst ps)) (encode_operation t x.address tst ps)
    unfolding encode_tst encode_operation tst_row
    tst_same = count_one _ _ (λ s. data_on s (λ n h. opcode (at_low 0x4A80 n h refl)))

    cmp_same : (ps : List Text) → Same code_words (encode_cmp_with_ext (inst ps)) (encode_operation t x.address cmp ps)
    unfolding encode_cmp_with_ext encode_operation cmp_rows low_row
    cmp_same = count_two _ _ (λ s u. either s
        (no_registers 0xB040 s u)
        (λ e. bind_none _ (imm16_none s e))
        (value_on s (λ v. data_on u (λ n h. valued (at_low 0x0C80 n h refl))))
        (registers_same (λ c. (c, None)) (λ c. refl) 0xB040 refl refl s u))

    muls_same : (ps : List Text) → Same code_words (encode_muls_with_ext (inst ps)) (encode_operation t x.address muls ps)
    unfolding encode_muls_with_ext encode_operation muls_rows
    muls_same = count_two _ _ (λ s u. last (pull (starts_with s (bytes "#")) (parse_data_register u) _ _ (either s
        (no_registers 0xC1C0 s u)
        (no_high 0xC1FC s u)
        (high_same 0xC1FC refl s u)
        (swap (parse_data_register s) (parse_data_register u) (λ n m. Some (0xC1C0 or (as_u16 m << 9) or as_u16 n, None))
        (registers_same (λ c. (c, None)) (λ c. refl) 0xC1C0 refl refl s u)))))

  -- those that look labels up
  module _ {m : HashMap} {t : Table} (g : Agrees m t) where
    label_on : (s : Text) {c w : ℕ} → c ≡ w → Same code_words (bind (look_up m s) (λ x. Some (c, Some (as_u16 x)))) (with_label t w s)
    unfolding with_label
    label_on s e = on (λ x. x < 2 ^ 30) (g.finds s) (g.low s) (λ x h. hit (ap (λ (y : ℕ). y ∷ x % 65536 ∷ []) e))

    move_same : (ps : List Text) → Same code_words (encode_move_with_ext m (inst ps)) (encode_operation t x.address move ps)
    unfolding encode_move_with_ext encode_operation move_rows from_indirect to_indirect from_label to_label
    move_same = count_two _ _ (λ s u. or_else_lem
        (hashed s (no_high 0x21FC s u) (high_same 0x21FC refl s u))
        (or_else_lem (on Register (indirect_is s) (indirect_below s) (λ n h. data_on u (λ k l. alone (registers 0x2010 n k h l refl refl))))
        (or_else_lem (data_on s (λ n h. on Register (indirect_is u) (indirect_below u) (λ k l. alone (registers 0x2080 n k h l refl refl))))
        (or_else_lem (registers_same (λ c. (c, None)) (λ c. refl) 0x3000 refl refl s u)
        (or_else_lem (data_on u (λ n h. label_on s (at_high 0x2078 n h refl)))
        (last (data_on s (λ n h. label_on u (at_low 0x23C0 n h refl)))))))))

    movea_same : (ps : List Text) → Same code_words (encode_movea_with_ext m (inst ps)) (encode_operation t x.address movea ps)
    unfolding encode_movea_with_ext encode_operation movea_row bind bytes
    movea_same = count_two _ _ (λ s u. last (go s u (starts_with s (35 ∷ [])) refl))
      where
        go : (s u : Text) (x : Bool) → starts_with s (35 ∷ []) ≡ x
            → Same code_words
            (when (starts_with s (35 ∷ []))
            (bind (parse_address_register u) (λ n. bind (look_up m (drop 1 s)) (λ x. Some (0x207C or (as_u16 n << 9), Some (as_u16 x))))))
            (bind (after (35 ∷ []) s) (λ l. bind (address_register u) (λ n. with_label t (0x207C + R n) l)))
        go s u true e = rw (after_is (35 ∷ []) s, e) (on Register (address_is u) (address_below u) (λ n h. label_on (drop 1 s) (at_high 0x207C n h refl)))
        go s u false e = rw (after_is (35 ∷ []) s, e) nothing

    jump_same : (ps : List Text) → Same one_word (encode_jump m (inst ps)) (encode_operation t x.address jmp ps)
    unfolding encode_jump encode_operation jump_row
    jump_same = count_one _ _ (λ s. rw (jumps_is g s) (go (jumps t s)))
      where
        go : (x : Bool) → Same one_word (cond x (Some 0x4EF8) None) (cond x (Some (literal 0x4EF8 ∷ [])) None)
        go true = opcode refl
        go false = nothing

    module _ (low : x.address < 2 ^ 30) where
      displaced_on : {A : Type 0} {f : A → List ℕ} (s : Text) {k : ℤ → Option A} {h : ℤ → Option (List Content)}
          → ((z : ℤ) → Small z → Same f (k z) (h z)) → Same f (bind (parse_branch_displacement m s x.address) k) (bind (displacement t x.address s) h)
      displaced_on s k = on Small (displacement_is g s x.address low) (displacement_small t x.address s) k

      dbra_same : (ps : List Text) → Same one_word (encode_dbra m (inst ps)) (encode_operation t x.address dbra ps)
      unfolding encode_dbra encode_operation dbra_row
      dbra_same = count_two _ _ (λ s u. data_on s (λ n h. displaced_on u (λ z k. opcode (at_low 0x51C8 n h refl))))

      branch_same : (c : ℕ) → c < 16 → (ps : List Text) → Same one_word (encode_branch m (inst ps) c) (encode_operation t x.address (branch c) ps)
      unfolding encode_branch encode_operation branch_row
      branch_same c l = count_more _ _ (λ s ps. displaced_on s (λ z k. opcode (branch_word c z l k)))

-- `match`: the arms, and the rules' list of mnemonics
infixr 5 ◌then_arm◌
data Arms (y : Text → Option (List Content)) : List (Arm Code) → Type 0 where
  done : Arms y []
  ◌then_arm◌ : {r : Arm Code} {rs : List (Arm Code)} → Same code_words r.result (y r.pattern) → Arms y rs → Arms y (r ∷ rs)

Misses : Text → List (Arm Code) → Type 0
Misses n [] = Unit {0}
Misses n (r ∷ rs) = (equals n r.pattern ≡ false) × Misses n rs

equal : (s t : Text) → equals s t ≡ true → s ≡ t
equal s t e = same_eq s t (sym (equals_is s t) ∙ e)

match_same : (y : Text → Option (List Content)) (n : Text) {rs : List (Arm Code)} → Arms y rs → (Misses n rs → y n ≡ None) → Same code_words (match n rs) (y n)
unfolding match Misses
match_same y n done k = rw (k tt) nothing
match_same y n (◌then_arm◌ {r = r} {rs = rs} w ws) k = go (equals n r.pattern) refl (match_same y n ws)
  where
    go : (x : Bool) → equals n r.pattern ≡ x → ((Misses n rs → y n ≡ None) → Same code_words (match n rs) (y n)) → Same code_words (match n (r ∷ rs)) (y n)
    go true e ih = rw (e, match, equal n r.pattern e) w
    go false e ih = rw (e, match) (ih (λ ms. k (e, ms)))

-- every mnemonic of the rules has an arm
has : Text → List (Arm Code) → Bool
has n [] = false
has n (r ∷ rs) = equals n r.pattern || has n rs

covered : List Mnemonic → List (Arm Code) → Bool
covered [] rs = true
covered (n ∷ ns) rs = has n.name rs && covered ns rs

missed : (n : Text) (rs : List (Arm Code)) → Misses n rs → has n rs ≡ false
unfolding Misses has
missed n [] ms = refl
missed n (r ∷ rs) ms = rw ms.0 (missed n rs ms.1)

missing : (n : Text) (rs : List (Arm Code)) → Misses n rs → (ns : List Mnemonic) → covered ns rs ≡ true → operation_in ns n ≡ None
unfolding operation_in covered
missing n rs ms [] c = refl
missing n rs ms (x ∷ ns) c = go (equals n x.name) refl (has x.name rs) refl (missing n rs ms ns)
  where
    go : (y : Bool) → equals n x.name ≡ y → (z : Bool) → has x.name rs ≡ z → (covered ns rs ≡ true → operation_in ns n ≡ None)
        → operation_in (x ∷ ns) n ≡ None
    go true e z f ih = absurd (false≢true (sym (missed n rs ms) ∙ ap (λ (q : Text). has q rs) (equal n x.name e) ∙ covers z f))
      where
        covers : (z : Bool) → has x.name rs ≡ z → has x.name rs ≡ true
        covers true f = f
        covers false f = absurd (false≢true (rw f at c))
    go false e true f ih = rw (← equals_is n x.name, e, operation_in) (ih (rw f at c))
    go false e false f ih = absurd (false≢true (rw f at c))

no_ext_same : {x : Option ℕ} {y : Option (List Content)} → Same one_word x y → Same code_words (no_ext x) y
no_ext_same {x} {y} e = go x e
  where
    go : (x : Option ℕ) → Same one_word x y → Same code_words (no_ext x) y
    go None e = record { words = e.words }
    go (Some c) e = record { words = e.words }

-- an instruction's words
module _ (a : ℕ) (low : a < 2 ^ 30) (i : Said) {m : HashMap} {t : Table} (g : Agrees m t) where
  abbrev x : AssemblyInstruction
  x = inst_at a i

  abbrev ps : List Text
  ps = i.operands

  by : (c : ℕ) → c < 16 → Same code_words (no_ext (encode_branch m x c)) (encode_operation t a (branch c) ps)
  by c h = no_ext_same (branch_same x g low c h ps)

  pub encode_same : Same code_words (encode_instruction_with_ext m x) (encode t a i)
  unfolding encode_instruction_with_ext encode_by bind covered has equals bytes operation_in mnemonics other_mnemonics branches same encode_operation
  encode_same = match_same (λ q. encode t a (record { mnemonic = q; suffix = i.suffix; operands = ps })) i.mnemonic
      (no_ext_same (moveq_same x t ps)
      then_arm move_same x g ps
      then_arm movea_same x g ps
      then_arm muls_same x t ps
      then_arm no_ext_same (tst_same x t ps)
      then_arm no_ext_same (subq_same x t ps)
      then_arm no_ext_same (asl_same x t ps)
      then_arm no_ext_same (dbra_same x g low ps)
      then_arm by 0 (omega arith)
      then_arm by 7 (omega arith)
      then_arm by 6 (omega arith)
      then_arm by 4 (omega arith)
      then_arm by 5 (omega arith)
      then_arm by 8 (omega arith)
      then_arm by 9 (omega arith)
      then_arm by 12 (omega arith)
      then_arm by 13 (omega arith)
      then_arm by 14 (omega arith)
      then_arm by 15 (omega arith)
      then_arm alone refl
      then_arm alone refl
      then_arm no_ext_same (add_same x t ps)
      then_arm no_ext_same (sub_same x t ps)
      then_arm cmp_same x t ps
      then_arm no_ext_same (jump_same x g ps)
      then_arm no_ext_same (jump_same x g ps)
      then_arm done)
      (λ ms. bind_none _ (missing i.mnemonic _ ms mnemonics refl))
