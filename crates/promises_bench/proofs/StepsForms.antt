-- Each form's step is the manual's. Assumes nothing.
use Prim.Native.Nat.{ℕ, zero, suc, ◌+◌, ◌*◌, ◌/◌, ◌%◌, ◌^◌, ◌<◌, ◌≤◌}
use mathlib.Core.Path.{◌≡◌, refl, sym, ◌∙◌}
use mathlib.Core.Bool.{Bool, true, false, cond, false≢true}
use mathlib.Core.List.{List, [], ◌∷◌}
use native.Mathlib.Omega.{arith}
use native.Mathlib.Nat.{mod-lt}
use lib.ListN.{length, get_or, set, replicate, length-set, length-replicate}
use lib.Seq.{get_or-set_same, get_or-set_other}
use lib.IntN.{ℤ, pos, sub_ℕ, ◌+ℤ◌, ◌-ℤ◌, ◌*ℤ◌}
use Rattle.rules.specs.Number.{modulo}
use Rattle.manual.specs.Manual.{sign_by}
use Rattle.machine.specs.Flags.{added, compared, shifted, holds}
use Rattle.machine.specs.Machine.{State, act_of, product, put, long_at, with_long, judge_of, run_of}
use Rattle.machine.specs.Bench.{fill_of, state_at}
use Rattle.machine.proofs.Running.{run_on, run_spent, run_halts, run_word, run_access}
use Rattle.machine.specs.declared.Flags.{Flags}
use Rattle.machine.specs.declared.Form.{Form}
use Rattle.machine.specs.declared.Judged.{Judged}
use Rattle.machine.specs.declared.Judged.TheVariants.{Runs, Halts, Unknown, Outside}
use Rattle.machine.specs.declared.Form.TheVariants.{Nop, Moveq, MoveWord, Load, Store, Add, Sub, Cmp, Muls, MulsImmediate, Tst, Subq, Asl, Branch}
use Rattle.promises_bench.specs.Steps.{signed_as, low_word, word_in, Dn, An, MulsStep, BranchStep, PlainState, OnlyDm, NopIsTheManuals, MoveqIsTheManuals, MoveWordIsTheManuals, LoadIsTheManuals, StoreIsTheManuals, AddIsTheManuals, SubIsTheManuals, CmpIsTheManuals, MulsIsTheManuals, MulsImmediateIsTheManuals, TstIsTheManuals, SubqIsTheManuals, AslIsTheManuals, BranchIsTheManuals, StatesStayPlain}
use Rattle.promises_bench.proofs.StepsMet.{met, branch_listed}
use Rattle.promises_bench.proofs.StepsShift.{last_bit, sign_stays}
use Rattle.promises_bench.proofs.StepsLaws.{signed_byte, signed_word, signed_long, signed_small, minus, reduced, overflow_word, overflow_long, word_marks, long_marks, read_long, fits_long, test_less, test_at_most, moveq_range, product_range}

-- four bytes put into memory
four_count : (mem : List ℕ) (p v : ℕ) → length (with_long mem p v) ≡ length mem
four_count mem p v = length-set _ _ _ ∙ length-set _ _ _ ∙ length-set _ _ _ ∙ length-set _ _ _

four_others : (mem : List ℕ) (p v q : ℕ) → ¬ ((p ≤ q) × (q < p + 4)) → get_or (with_long mem p v) q 0 ≡ get_or mem q 0
four_others mem p v q d =
    get_or-set_other _ (p + 3) q _ 0 (λ e. d (omega arith, omega arith))
    ∙ get_or-set_other _ (p + 2) q _ 0 (λ e. d (omega arith, omega arith))
    ∙ get_or-set_other _ (p + 1) q _ 0 (λ e. d (omega arith, omega arith))
    ∙ get_or-set_other _ p q _ 0 (λ e. d (omega arith, omega arith))

long_put : (d : List ℕ) (p v : ℕ) → ((q : ℕ) → get_or d q 0 < 4294967296) → v < 4294967296 → (q : ℕ) → get_or (set d p v) q 0 < 4294967296
long_put [] p v h l q = h q
long_put (x ∷ d) zero v h l zero = l
long_put (x ∷ d) zero v h l (suc q) = h (suc q)
long_put (x ∷ d) (suc p) v h l zero = h 0
long_put (x ∷ d) (suc p) v h l (suc q) = long_put d p v (λ i. h (suc i)) l q

byte_put : (mem : List ℕ) (p v : ℕ) → ((q : ℕ) → get_or mem q 0 < 256) → v < 256 → (q : ℕ) → get_or (set mem p v) q 0 < 256
byte_put [] p v h l q = h q
byte_put (x ∷ mem) zero v h l zero = l
byte_put (x ∷ mem) zero v h l (suc q) = h (suc q)
byte_put (x ∷ mem) (suc p) v h l zero = h 0
byte_put (x ∷ mem) (suc p) v h l (suc q) = byte_put mem p v (λ i. h (suc i)) l q

four_bytes : (mem : List ℕ) (p v : ℕ) → v < 4294967296 → ((q : ℕ) → get_or mem q 0 < 256) → (q : ℕ) → get_or (with_long mem p v) q 0 < 256
four_bytes mem p v l h =
    byte_put _ (p + 3) _
    (byte_put _ (p + 2) _ (byte_put _ (p + 1) _ (byte_put mem p _ h (omega arith)) (omega arith)) (omega arith)) (omega arith)

four_read : (mem : List ℕ) (p v : ℕ) → p + 4 ≤ length mem → v < 4294967296
    → get_or (with_long mem p v) p 0 * 16777216 + get_or (with_long mem p v) (p + 1) 0 * 65536 + get_or (with_long mem p v) (p + 2) 0 * 256
    + get_or (with_long mem p v) (p + 3) 0 ≡ v
four_read mem p v l h =
    let m1 = set mem p (v / 16777216) in
    let m2 = set m1 (p + 1) (v / 65536 % 256) in
    let m3 = set m2 (p + 2) (v / 256 % 256) in
    let l1 : length m1 ≡ length mem = length-set _ _ _ in
    let l2 : length m2 ≡ length m1 = length-set _ _ _ in
    let l3 : length m3 ≡ length m2 = length-set _ _ _ in
    let b3 : get_or (with_long mem p v) (p + 3) 0 ≡ v % 256 = get_or-set_same m3 (p + 3) _ 0 (omega arith) in
    let b2 : get_or (with_long mem p v) (p + 2) 0 ≡ v / 256 % 256 =
    get_or-set_other m3 (p + 3) (p + 2) _ 0 (λ e. omega arith) ∙ get_or-set_same m2 (p + 2) _ 0 (omega arith) in
    let b1 : get_or (with_long mem p v) (p + 1) 0 ≡ v / 65536 % 256 =
    get_or-set_other m3 (p + 3) (p + 1) _ 0 (λ e. omega arith) ∙ get_or-set_other m2 (p + 2) (p + 1) _ 0 (λ e. omega arith)
    ∙ get_or-set_same m1 (p + 1) _ 0 (omega arith) in
    let b0 : get_or (with_long mem p v) p 0 ≡ v / 16777216 =
    get_or-set_other m3 (p + 3) p _ 0 (λ e. omega arith) ∙ get_or-set_other m2 (p + 2) p _ 0 (λ e. omega arith)
    ∙ get_or-set_other m1 (p + 1) p _ 0 (λ e. omega arith) ∙ get_or-set_same mem p _ 0 (omega arith) in
    rw (b0, b1, b2, b3) (omega arith)

-- a register file with one register put
module _ (s : State) (m : ℕ) (p : PlainState s) (h : m < 8) where
  there : (v : ℕ) → get_or (set s.d m v) m 0 ≡ v
  there v = get_or-set_same s.d m v 0 (rw p.data_count h)

  -- whatever the flags: a long put into Dm
  put_only : (v by : ℕ) (f : Flags) → v < 4294967296
      → OnlyDm m by s (record { d = set s.d m v; a = s.a; flags = f; pc = (s.pc + by) % 2 ^ 32; mem = s.mem })
  put_only v by f l =
      record {
        others = λ i d. get_or-set_other s.d m i v 0 d;
        long = rw (there v) l;
        count = length-set s.d m v;
        addresses = refl;
        memory = refl;
        next = refl;
      }

  -- a word put into Dm
  word_there : (v : ℕ) → v < 65536 → low_word (get_or (set s.d m (Dn s m / 65536 * 65536 + v)) m 0) ≡ v
  word_there v l = rw (there (Dn s m / 65536 * 65536 + v)) (omega arith)

  word_high : (v : ℕ) → v < 65536 → get_or (set s.d m (Dn s m / 65536 * 65536 + v)) m 0 / 65536 ≡ Dn s m / 65536
  word_high v l = rw (there (Dn s m / 65536 * 65536 + v)) (omega arith)

  word_below : (v : ℕ) → v < 65536 → Dn s m / 65536 * 65536 + v < 4294967296
  word_below v l = let b = p.data_longs m in omega arith

pub nop_is_the_manuals : NopIsTheManuals
unfolding NopIsTheManuals act_of
nop_is_the_manuals s p = record { rest = record { registers = refl; addresses = refl; memory = refl; next = refl }; flags = refl }

pub moveq_is_the_manuals : MoveqIsTheManuals
unfolding MoveqIsTheManuals act_of
moveq_is_the_manuals s b m p l h =
    let v = modulo 4294967296 (sign_by 128 b) in
    let r : v < 4294967296 = (reduced 4294967296 (sign_by 128 b) (omega arith)).below in
    let e = there s m p h v in
    record {
      result = rw (e, signed_byte b) (read_long _ (moveq_range b l));
      rest = put_only s m p h v 2 _ r;
      marks = rw e (long_marks _ v r refl refl);
      cleared = record { x = refl; v = refl; c = refl };
    }

pub move_word_is_the_manuals : MoveWordIsTheManuals
unfolding MoveWordIsTheManuals act_of
move_word_is_the_manuals s n m p l h =
    let v = low_word (Dn s n) in
    let r : v < 65536 = omega arith in
    let e = word_there s m p h v r in
    record {
      result = e;
      high = word_high s m p h v r;
      rest = put_only s m p h _ 2 _ (word_below s m p h v r);
      marks = rw e (word_marks _ v r refl refl);
      cleared = record { x = refl; v = refl; c = refl };
    }

pub load_is_the_manuals : LoadIsTheManuals
unfolding LoadIsTheManuals act_of
load_is_the_manuals s n m p l h _ =
    let a = An s n in
    let v = long_at s.mem a in
    let b = p.memory_bytes a in
    let c = p.memory_bytes (a + 1) in
    let d = p.memory_bytes (a + 2) in
    let f = p.memory_bytes (a + 2 + 1) in
    let r : v < 4294967296 = omega arith in
    let e = there s m p h v in
    let g : a + 2 + 1 ≡ a + 3 = omega arith in
    record {
      result = e ∙ (rw g (omega arith));
      rest = put_only s m p h v 2 _ r;
      marks = rw e (long_marks _ v r refl refl);
      cleared = record { x = refl; v = refl; c = refl };
    }

pub add_is_the_manuals : AddIsTheManuals
unfolding AddIsTheManuals act_of added modulo
add_is_the_manuals s n m p l h =
    let d = low_word (Dn s m) in
    let b = low_word (Dn s n) in
    let v = (d + b) % 65536 in
    let r : v < 65536 = omega arith in
    let e = word_there s m p h v r in
    record {
      result = rw e (reduced 65536 (pos (d + b)) (omega arith));
      high = word_high s m p h v r;
      rest = put_only s m p h _ 2 _ (word_below s m p h v r);
      marks = rw e (word_marks _ v r refl refl);
      overflow = rw (signed_word d, signed_word b) (overflow_word (signed_as 16 d +ℤ signed_as 16 b));
      carry = test_at_most 65536 (d + b);
      extend = refl;
    }

pub sub_is_the_manuals : SubIsTheManuals
unfolding SubIsTheManuals act_of compared
sub_is_the_manuals s n m p l h =
    let d = low_word (Dn s m) in
    let b = low_word (Dn s n) in
    let z = reduced 65536 (sub_ℕ d b) (omega arith) in
    let v = modulo 65536 (sub_ℕ d b) in
    let r : v < 65536 = z.below in
    let e = word_there s m p h v r in
    record {
      result = rw (e, ← minus d b) z;
      high = word_high s m p h v r;
      rest = put_only s m p h _ 2 _ (word_below s m p h v r);
      marks = rw e (word_marks _ v r refl refl);
      overflow = rw (signed_word d, signed_word b) (overflow_word (signed_as 16 d -ℤ signed_as 16 b));
      borrow = test_less d b;
      extend = refl;
    }

pub cmp_is_the_manuals : CmpIsTheManuals
unfolding CmpIsTheManuals act_of compared
cmp_is_the_manuals s n m p l h =
    let d = low_word (Dn s m) in
    let b = low_word (Dn s n) in
    let z = reduced 65536 (sub_ℕ d b) (omega arith) in
    let v = modulo 65536 (sub_ℕ d b) in
    record {
      difference = v;
      is = rw (← minus d b) z;
      rest = record { registers = refl; addresses = refl; memory = refl; next = refl };
      marks = word_marks _ v z.below refl refl;
      overflow = rw (signed_word d, signed_word b) (overflow_word (signed_as 16 d -ℤ signed_as 16 b));
      borrow = test_less d b;
      extend = refl;
    }

-- MULS of any word
muls_is : (s : State) (m by a : ℕ) → PlainState s → m < 8 → a < 65536 → MulsStep a m by s (put s m (product a (low_word (Dn s m))) by)
muls_is s m by a p h l =
    let b = low_word (Dn s m) in
    let x : product a b ≡ modulo 4294967296 (signed_as 16 a *ℤ signed_as 16 b) = rw (signed_word a, signed_word b) in
    let v = modulo 4294967296 (signed_as 16 a *ℤ signed_as 16 b) in
    let r : v < 4294967296 = (reduced 4294967296 (signed_as 16 a *ℤ signed_as 16 b) (omega arith)).below in
    let e = there s m p h v in
    rw x
    (record {
      result = rw e (read_long _ (product_range a b l (omega arith)));
      rest = put_only s m p h v by _ r;
      marks = rw e (long_marks _ v r refl refl);
      cleared = record { x = refl; v = refl; c = refl };
    })

pub muls_is_the_manuals : MulsIsTheManuals
unfolding MulsIsTheManuals act_of
muls_is_the_manuals s n m p l h = muls_is s m 2 (low_word (Dn s n)) p h (omega arith)

pub muls_immediate_is_the_manuals : MulsImmediateIsTheManuals
unfolding MulsImmediateIsTheManuals act_of
muls_immediate_is_the_manuals s m p h =
    let b = p.memory_bytes (s.pc + 2) in
    let c = p.memory_bytes (s.pc + 2 + 1) in
    muls_is s m 4 (word_in s (s.pc + 2)) p h (omega arith)

pub tst_is_the_manuals : TstIsTheManuals
unfolding TstIsTheManuals act_of
tst_is_the_manuals s n p h =
    record {
      rest = record { registers = refl; addresses = refl; memory = refl; next = refl };
      marks = long_marks _ (Dn s n) (p.data_longs n) refl refl;
      cleared = record { x = refl; v = refl; c = refl };
    }

pub subq_is_the_manuals : SubqIsTheManuals
unfolding SubqIsTheManuals act_of compared
subq_is_the_manuals s k n p o q h =
    let d = Dn s n in
    let z = reduced 4294967296 (sub_ℕ d k) (omega arith) in
    let v = modulo 4294967296 (sub_ℕ d k) in
    let r : v < 4294967296 = z.below in
    let e = there s n p h v in
    record {
      result = rw (e, ← minus d k) z;
      rest = put_only s n p h v 2 _ r;
      marks = rw e (long_marks _ v r refl refl);
      overflow = rw (signed_long d, signed_small k q) (overflow_long (signed_as 32 d -ℤ pos k));
      borrow = test_less d k;
      extend = refl;
    }

pub store_is_the_manuals : StoreIsTheManuals
unfolding StoreIsTheManuals act_of
store_is_the_manuals s n m p l h within =
    let b = p.data_longs n in
    record {
      result = four_read s.mem (An s m) (Dn s n) (rw p.memory within) b;
      bytes = four_bytes s.mem (An s m) (Dn s n) b p.memory_bytes;
      others = four_others s.mem (An s m) (Dn s n);
      count = four_count s.mem (An s m) (Dn s n);
      registers = refl;
      addresses = refl;
      next = refl;
      marks = long_marks _ (Dn s n) b refl refl;
      cleared = record { x = refl; v = refl; c = refl };
    }

pub asl_is_the_manuals : AslIsTheManuals
unfolding AslIsTheManuals act_of shifted
asl_is_the_manuals s k n p o q h =
    let d = Dn s n in
    let v = d * 2 ^ k % 4294967296 in
    let r : v < 4294967296 = mod-lt (d * 2 ^ k) (omega arith) in
    let e = there s n p h v in
    record {
      result = e;
      rest = put_only s n p h v 2 _ r;
      marks = rw e (long_marks _ v r refl refl);
      overflow = rw (signed_long d) (overflow_long (signed_as 32 d *ℤ pos (2 ^ k)));
      unchanged = rw (signed_long d) (let f = fits_long (signed_as 32 d *ℤ pos (2 ^ k)) in let g = sign_stays k d (p.data_longs n) in ((λ e. g.0 (f.0 e)), (λ x. f.1 (g.1 x))));
      last = last_bit k d o q (p.data_longs n);
      extend = refl;
    }

not_taken : (n : ℕ) → modulo 4294967296 (pos (n + 2) +ℤ pos 0) ≡ (n + 2) % 4294967296
unfolding modulo
not_taken n = omega arith

pub branch_is_the_manuals : BranchIsTheManuals
unfolding BranchIsTheManuals act_of
branch_is_the_manuals s k b p h _ l = go (holds k s.flags) refl
  where
    go : (x : Bool) → holds k s.flags ≡ x
        → BranchStep k b s
        (record {
          d = s.d;
          a = s.a;
          flags = s.flags;
          pc = modulo 4294967296 (pos (s.pc + 2) +ℤ cond x (sign_by 128 b) (pos 0));
          mem = s.mem;
        })
    go true e =
        record {
          taken = λ m. rw (signed_byte b) (reduced 4294967296 (pos (s.pc + 2) +ℤ signed_as 8 b) (omega arith));
          passed = λ f. absurd (f ((met k s.flags (branch_listed k h)).0 e));
          registers = refl;
          addresses = refl;
          memory = refl;
          flags = refl;
        }
    go false e =
        record {
          taken = λ m. absurd (false≢true (sym e ∙ (met k s.flags (branch_listed k h)).1 m));
          passed = λ f. not_taken s.pc;
          registers = refl;
          addresses = refl;
          memory = refl;
          flags = refl;
        }

-- what a step leaves is plain
with_register : (s : State) (m v by : ℕ) (f : Flags) → PlainState s → v < 4294967296
    → PlainState (record { d = set s.d m v; a = s.a; flags = f; pc = (s.pc + by) % 2 ^ 32; mem = s.mem })
with_register s m v by f p l =
    record {
      data_count = length-set s.d m v ∙ p.data_count;
      address_count = p.address_count;
      data_longs = long_put s.d m v p.data_longs l;
      address_longs = p.address_longs;
      memory = p.memory;
      memory_bytes = p.memory_bytes;
      counter = mod-lt (s.pc + by) (omega arith);
    }

with_flags : (s : State) (by : ℕ) (f : Flags) → PlainState s
    → PlainState (record { d = s.d; a = s.a; flags = f; pc = (s.pc + by) % 2 ^ 32; mem = s.mem })
with_flags s by f p =
    record {
      data_count = p.data_count;
      address_count = p.address_count;
      data_longs = p.data_longs;
      address_longs = p.address_longs;
      memory = p.memory;
      memory_bytes = p.memory_bytes;
      counter = mod-lt (s.pc + by) (omega arith);
    }

long_modulo : (z : ℤ) → modulo 4294967296 z < 4294967296
long_modulo z = (reduced 4294967296 z (omega arith)).below

word_put : (s : State) (m v : ℕ) → PlainState s → v < 65536 → Dn s m / 65536 * 65536 + v < 4294967296
word_put s m v p l = let b = p.data_longs m in omega arith

long_there : (s : State) (a : ℕ) → PlainState s → long_at s.mem a < 4294967296
long_there s a p =
    let b = p.memory_bytes a in
    let c = p.memory_bytes (a + 1) in
    let d = p.memory_bytes (a + 2) in
    let f = p.memory_bytes (a + 2 + 1) in
    omega arith

pub step_plain : (f : Form) (s : State) → PlainState s → PlainState (act_of f s)
unfolding act_of
step_plain Nop s p = with_flags s 2 _ p
step_plain (Moveq b m) s p = with_register s m _ 2 _ p (long_modulo (sign_by 128 b))
step_plain (MoveWord n m) s p = with_register s m _ 2 _ p (word_put s m _ p (omega arith))
step_plain (Load n m) s p = with_register s m _ 2 _ p (long_there s (An s n) p)
step_plain (Store n m) s p =
    record {
      data_count = p.data_count;
      address_count = p.address_count;
      data_longs = p.data_longs;
      address_longs = p.address_longs;
      memory = four_count s.mem (An s m) (Dn s n) ∙ p.memory;
      memory_bytes = four_bytes s.mem (An s m) (Dn s n) (p.data_longs n) p.memory_bytes;
      counter = mod-lt (s.pc + 2) (omega arith);
    }
step_plain (Add n m) s p = with_register s m _ 2 _ p (word_put s m _ p (omega arith))
step_plain (Sub n m) s p =
    let z = reduced 65536 (sub_ℕ (low_word (Dn s m)) (low_word (Dn s n))) (omega arith) in
    with_register s m _ 2 _ p (word_put s m _ p z.below)
step_plain (Cmp n m) s p = with_flags s 2 _ p
step_plain (Muls n m) s p = with_register s m _ 2 _ p (long_modulo _)
step_plain (MulsImmediate m) s p = with_register s m _ 4 _ p (long_modulo _)
step_plain (Tst n) s p = with_flags s 2 _ p
step_plain (Subq k n) s p = with_register s n _ 2 _ p (long_modulo _)
step_plain (Asl k n) s p = with_register s n _ 2 _ p (mod-lt (Dn s n * 2 ^ k) (omega arith))
step_plain (Branch k b) s p =
    record {
      data_count = p.data_count;
      address_count = p.address_count;
      data_longs = p.data_longs;
      address_longs = p.address_longs;
      memory = p.memory;
      memory_bytes = p.memory_bytes;
      counter = long_modulo _;
    }

-- a run does what its steps do
run_plain : (limit : ℕ) (s : State) → PlainState s → PlainState (run_of limit s).state
run_plain zero s p = go (judge_of s.a s.mem s.pc) refl
  where
    go : (j : Judged) → judge_of s.a s.mem s.pc ≡ j → PlainState (run_of 0 s).state
    go (Runs f) e = rw (run_spent s f e) p
    go Halts e = rw (run_halts 0 s e) p
    go Unknown e = rw (run_word 0 s e) p
    go Outside e = rw (run_access 0 s e) p
run_plain (suc k) s p = go (judge_of s.a s.mem s.pc) refl (λ t. run_plain k t)
  where
    go : (j : Judged) → judge_of s.a s.mem s.pc ≡ j → ((t : State) → PlainState t → PlainState (run_of k t).state) → PlainState (run_of (suc k) s).state
    go (Runs f) e ih = rw (run_on k s f e) (ih (act_of f s) (step_plain f s p))
    go Halts e ih = rw (run_halts (suc k) s e) p
    go Unknown e ih = rw (run_word (suc k) s e) p
    go Outside e ih = rw (run_access (suc k) s e) p

-- and starts from a plain state
zeros : (n i : ℕ) (l : ℕ) → 0 < l → get_or (replicate n 0) i 0 < l
zeros zero i l h = h
zeros (suc n) zero l h = h
zeros (suc n) (suc i) l h = zeros n i l h

filled_length : (n : ℕ) (xs ws mem : List ℕ) → length (fill_of n xs ws mem) ≡ length mem
unfolding fill_of
filled_length zero xs ws mem = refl
filled_length (suc n) xs ws mem = length-set _ _ _ ∙ length-set _ _ _ ∙ filled_length n xs ws mem

filled_bytes : (n : ℕ) (xs ws mem : List ℕ) → ((i : ℕ) → get_or ws i 0 < 65536) → ((q : ℕ) → get_or mem q 0 < 256) → (q : ℕ) → get_or (fill_of n xs ws mem) q 0 < 256
unfolding fill_of
filled_bytes zero xs ws mem w h = h
filled_bytes (suc n) xs ws mem w h =
    let b = w n in
    byte_put _ (get_or xs n 0 + 1) (get_or ws n 0 % 256)
    (byte_put _ (get_or xs n 0) (get_or ws n 0 / 256) (filled_bytes n xs ws mem w h) (omega arith)) (omega arith)

start_plain : (n : ℕ) (xs ws a : List ℕ) (pc : ℕ) → length a ≡ 8 → ((i : ℕ) → get_or a i 0 < 4294967296) → ((i : ℕ) → get_or ws i 0 < 65536)
    → pc < 4294967296 → PlainState (state_at n xs ws a pc)
unfolding state_at
start_plain n xs ws a pc e h w l =
    record {
      data_count = refl;
      address_count = e;
      data_longs = λ i. zeros 8 i 4294967296 (omega arith);
      address_longs = h;
      memory = filled_length n xs ws (replicate 16384 0) ∙ length-replicate {A = ℕ} 16384 0;
      memory_bytes = filled_bytes n xs ws (replicate 16384 0) w (λ q. zeros 16384 q 256 (omega arith));
      counter = l;
    }

pub states_stay_plain : StatesStayPlain
states_stay_plain = record { start = start_plain; step = step_plain; run = run_plain }
