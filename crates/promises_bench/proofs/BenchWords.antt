-- Which words run, and that they are exactly those of lines of the listed forms, which run as what they say. Assumes nothing.
use Rattle.std.specs.Prelude.{Option}
use Prim.Native.Nat.{ℕ, zero, suc, ◌+◌, ◌-◌, ◌%◌, ◌^◌, ◌<◌}
use mathlib.Core.Path.{◌≡◌, refl, sym, ◌∙◌, ap}
use mathlib.Core.Logic.{◌≢◌}
use mathlib.Core.Bool.{Bool, true, false, cond, false≢true}
use mathlib.Core.List.{List, [], ◌∷◌, ◌++◌}
use native.Mathlib.Omega.{arith}
use lib.Dec.{ltb}
use lib.IntN.{ℤ, pos, negsuc, sub_ℕ}
use borrow.Author.Tests.{lt-ltb, le-ltb, ltb-true, ltb-false}
use Rattle.rules.specs.Text.{Text, bytes, same}
use Rattle.rules.specs.Number.{imm8}
use Rattle.rules.specs.Label.{Table, find}
use Rattle.rules.proofs.Tables.{same_below}
use Rattle.rules.proofs.Readings.{all_some, imm16_all}
use Rattle.manual.specs.Manual.{InByte, byte, sign_by, sign_of, Condition, T, CC, CS, NE, EQ, PL, MI, GE, LT, GT, LE, condition, Instruction, Bcc, MOVEQ, manual_words}
use Rattle.machine.specs.Form.{Valid, manual, listed, condition_at}
use Rattle.machine.proofs.Inverse.{complete, inverse, halts, byte_back, word_same}
use Rattle.machine.specs.declared.Form.{Form}
use Rattle.machine.specs.declared.Form.TheVariants.{Nop, Moveq, MoveWord, Load, Store, Add, Sub, Cmp, Muls, MulsImmediate, Tst, Subq, Asl, Branch}
use Rattle.promises.specs.ListedForms.{D, InReach, label, Branch as Branched, BRA, BCC, BCS, BNE, BEQ, BGE, BLT, BGT, BLE, condition_of, branch_name, Written, moveq, load, store, copy, muls_data, muls, add, sub, cmp, tst, subq, asl, nop, branch}
use Rattle.promises_bench.specs.BenchWords.{DecodesExactly, HaltsExactly, RunsAs, Said, LinesRun, WordsHaveLines}
use Rattle.promises.proofs.ManualLaws.{imm8_byte, bytes_read_back, displaced_byte}
use Rattle.promises.proofs.ManualForms.{every_form_has_a_line, branch_lines}
use Rattle.promises.proofs.ManualLines.{lines_are_the_manuals}
use Rattle.promises_bench.proofs.BenchTexts.{Head, MOVEQ as moveq_head, move_l, move_w, muls_w, add_w, sub_w, cmp_w, tst_l, subq_l, asl_l, head_text, head_says, head_reads, Tail, one_operand, two_operands, plain_d, plain_at_a, Immediate, immediate_16, immediate_8, immediate_below}

pub decodes_exactly : DecodesExactly
unfolding DecodesExactly
decodes_exactly w f = inverse w f

pub halts_exactly : HaltsExactly
unfolding HaltsExactly
halts_exactly w = halts w

-- an instruction that is a form's runs as that form
runs_as : (f : Form) (v : ℕ) {i : Instruction} → v < 2 ^ 16 → Valid f → manual v f ≡ i → RunsAs i
runs_as f v l ok e = record { form = f; next = v; sixteen = l; decoded = rw (sym e, word_same v f) (complete f ok); says = e }

-- the bits of a listed branch's condition
branched : (c : Branched) → (condition (condition_of c) < 16) × (listed (condition (condition_of c)) ≡ true) × (condition_at (condition (condition_of c)) ≡ condition_of c)
unfolding condition condition_of listed condition_at
branched BRA = (omega arith, refl, refl)
branched BCC = (omega arith, refl, refl)
branched BCS = (omega arith, refl, refl)
branched BNE = (omega arith, refl, refl)
branched BEQ = (omega arith, refl, refl)
branched BGE = (omega arith, refl, refl)
branched BLT = (omega arith, refl, refl)
branched BGT = (omega arith, refl, refl)
branched BLE = (omega arith, refl, refl)

-- the byte of a displacement that is neither 0 nor −1
byte_between : (z : ℤ) → InByte z → ¬ (z ≡ pos 0) → ¬ (z ≡ negsuc 0) → (0 < byte z) × (byte z < 255)
unfolding byte
byte_between (pos zero) h a b = absurd (a refl)
byte_between (pos (suc n)) h a b = (omega arith, omega arith)
byte_between (negsuc zero) h a b = absurd (b refl)
byte_between (negsuc (suc n)) h a b = (omega arith, omega arith)

-- ---- from lines to words
lined : {ls : Table} {a : ℕ} {m : Text} {s : Option Text} {ps : List Text} {i : Instruction} → Written ls a m s ps i → RunsAs i
unfolding manual
lined (moveq {s} {z} {n} e h) =
    let b = bytes_read_back z (all_some InByte (imm8_byte s) e) in
    runs_as (Moveq (byte z) n) 0 (omega arith) (b.0, h) (ap (λ (y : ℤ). MOVEQ y n) b.1)
lined (load {n} {m} h k) = runs_as (Load n m) 0 (omega arith) (h, k) refl
lined (store {n} {m} h k) = runs_as (Store n m) 0 (omega arith) (h, k) refl
lined (copy {n} {m} h k) = runs_as (MoveWord n m) 0 (omega arith) (h, k) refl
lined (muls_data {s} {v} {n} e h) = runs_as (MulsImmediate n) v (all_some (λ v. v < 2 ^ 16) (imm16_all s) e) h refl
lined (muls {n} {m} h k) = runs_as (Muls n m) 0 (omega arith) (h, k) refl
lined (add {n} {m} h k) = runs_as (Add n m) 0 (omega arith) (h, k) refl
lined (sub {n} {m} h k) = runs_as (Sub n m) 0 (omega arith) (h, k) refl
lined (cmp {n} {m} h k) = runs_as (Cmp n m) 0 (omega arith) (h, k) refl
lined (tst {n} h) = runs_as (Tst n) 0 (omega arith) h refl
lined (subq {s} {k} {n} e l u h) = runs_as (Subq k n) 0 (omega arith) (omega arith, u, h) refl
lined (asl {s} {k} {n} e l u h) = runs_as (Asl k n) 0 (omega arith) (omega arith, u, h) refl
lined nop = runs_as Nop 0 (omega arith) tt refl
lined (branch c {s} {z} x h k) =
    let near = displaced_byte x in
    let g = branched c in
    let b = byte_between z near h k in
    let r = (bytes_read_back z near).1 in
    runs_as (Branch (condition (condition_of c)) (byte z)) 0 (omega arith) (g.0, g.1, b.0, b.1) (rw (g.2, r))

-- ---- from words to lines
-- a line of a head and its operands, without labels
says : (h : Head) {r : Text} {ps : List Text} {i : Instruction} → Tail r ps → Written [] 0 (head_says h ps).mnemonic (head_says h ps).suffix (head_says h ps).operands i → Said i
says h {r} {ps} k w =
    record { labels = []; address = 0; line = head_text h ++ (32 ∷ r); says = record { said = head_says h ps; read = head_reads h k; written = w } }

-- two data registers
both : (n m : ℕ) → n < 8 → m < 8 → Tail (D n ++ (44 ∷ D m)) (D n ∷ D m ∷ [])
both n m h k = two_operands (plain_d n h) (plain_d m k)

-- an immediate and a data register
given : {A : Type 0} {f : Text → Option A} {x : A} (t : Immediate f x) (n : ℕ) → n < 8 → Tail ((t.first ∷ t.others) ++ (44 ∷ D n)) ((t.first ∷ t.others) ∷ D n ∷ [])
given t n h = two_operands t.plain (plain_d n h)

-- the signed number of a byte has a text
signed_text : (b : ℕ) → b < 256 → Immediate imm8 (sign_of b)
unfolding sign_of sign_by
signed_text b h = go (ltb b 128) refl
  where
    go : (x : Bool) → ltb b 128 ≡ x → Immediate imm8 (cond x (pos b) (sub_ℕ b 256))
    go true e = immediate_8 b (ltb-true b 128 e)
    go false e = let l = ltb-false b 128 e in rw (lt-ltb b 256 h) (immediate_below (256 - suc b) (omega arith))

-- the bits of a condition that is listed
condition_at_lem : (k : ℕ) → k < 16 → listed k ≡ true → condition (condition_at k) ≡ k
unfolding condition condition_at listed
condition_at_lem k h l = same_below (λ k. condition (condition_at k)) (λ k. cond (listed k) k (condition (condition_at k))) 16 refl k h ∙ rw l

-- the branch of a condition whose bits are listed
record OfCondition (c : Condition) : Type 0 where
  branch : Branched
  same : condition_of branch ≡ c

of_condition : (c : Condition) (k : ℕ) → condition c ≡ k → listed k ≡ true → OfCondition c
unfolding condition listed condition_of
of_condition T k e l = record { branch = BRA; same = refl }
of_condition CC k e l = record { branch = BCC; same = refl }
of_condition CS k e l = record { branch = BCS; same = refl }
of_condition NE k e l = record { branch = BNE; same = refl }
of_condition EQ k e l = record { branch = BEQ; same = refl }
of_condition PL k e l = let h : listed 10 ≡ true = rw (← e) at l in absurd (false≢true h)
of_condition MI k e l = let h : listed 11 ≡ true = rw (← e) at l in absurd (false≢true h)
of_condition GE k e l = record { branch = BGE; same = refl }
of_condition LT k e l = record { branch = BLT; same = refl }
of_condition GT k e l = record { branch = BGT; same = refl }
of_condition LE k e l = record { branch = BLE; same = refl }

-- the label X so far on from 126 as a signed byte leads
abbrev x_at : ℕ → Table
x_at t = record { name = bytes "X"; start = 0; address = t; line = 1 } ∷ []

x_led : (b : ℕ) → b < 256 → InReach (x_at ((b + 128) % 256)) 126 (bytes "X") (sign_of b)
unfolding sign_of sign_by find same bytes
x_led b h = go (ltb b 128) refl
  where
    go : (x : Bool) → ltb b 128 ≡ x → InReach (x_at ((b + 128) % 256)) 126 (bytes "X") (cond x (pos b) (sub_ℕ b 256))
    go true e =
        let l = ltb-true b 128 e in
        let t : (b + 128) % 256 ≡ 128 + b = omega arith in
        record { target = (b + 128) % 256; found = refl; leads = ap pos (sym t); near = l }
    go false e =
        let l = ltb-false b 128 e in
        let t : (b + 128) % 256 ≡ b - 128 = omega arith in
        rw (lt-ltb b 256 h)
        (record { target = (b + 128) % 256; found = refl; leads = rw (le-ltb 128 (suc (256 - suc b)) (omega arith)) (ap pos (omega arith)); near = omega arith })

-- a byte that is neither 0 nor 255 is not that of 0 or −1
not_byte : (b : ℕ) (z : ℤ) → b < 256 → ¬ (b ≡ byte z) → sign_of b ≢ z
not_byte b z h d e = d (sym (byte_back b h) ∙ ap byte e)

branch_said : (k b : ℕ) → OfCondition (condition_at k) → 0 < b → b < 255 → Said (Bcc (condition_at k) (sign_of b))
unfolding byte
branch_said k b c l u =
    rw (← c.same)
    (record {
      labels = x_at ((b + 128) % 256);
      address = 126;
      line = branch_name c.branch ++ (32 ∷ bytes "X");
      says =
          record {
            said = record { mnemonic = branch_name c.branch; suffix = _; operands = _ };
            read = (branch_lines c.branch).0;
            written =
                branch c.branch (label (x_led b (omega arith))) (not_byte b (pos 0) (omega arith) (λ e. omega arith))
                (not_byte b (negsuc 0) (omega arith) (λ e. omega arith));
          };
    })

-- form by form
form_said : (f : Form) (v : ℕ) → v < 2 ^ 16 → Valid f → Said (manual v f)
unfolding manual
form_said Nop v l ok = record { labels = []; address = 0; line = bytes "NOP"; says = every_form_has_a_line.nop }
form_said (Moveq b m) v l ok = let t = signed_text b ok.0 in says moveq_head (given t m ok.1) (moveq t.reads ok.1)
form_said (MoveWord n m) v l ok = says move_w (both n m ok.0 ok.1) (copy ok.0 ok.1)
form_said (Load n m) v l ok = says move_l (two_operands (plain_at_a n ok.0) (plain_d m ok.1)) (load ok.0 ok.1)
form_said (Store n m) v l ok = says move_l (two_operands (plain_d n ok.0) (plain_at_a m ok.1)) (store ok.0 ok.1)
form_said (Add n m) v l ok = says add_w (both n m ok.0 ok.1) (add ok.0 ok.1)
form_said (Sub n m) v l ok = says sub_w (both n m ok.0 ok.1) (sub ok.0 ok.1)
form_said (Cmp n m) v l ok = says cmp_w (both n m ok.0 ok.1) (cmp ok.0 ok.1)
form_said (Muls n m) v l ok = says muls_w (both n m ok.0 ok.1) (muls ok.0 ok.1)
form_said (MulsImmediate m) v l ok = let t = immediate_16 v l in says muls_w (given t m ok) (muls_data t.reads ok)
form_said (Tst n) v l ok = says tst_l (one_operand (plain_d n ok)) (tst ok)
form_said (Subq k n) v l ok = let t = immediate_8 k (omega arith) in says subq_l (given t n ok.2) (subq t.reads (omega arith) ok.1 ok.2)
form_said (Asl k n) v l ok = let t = immediate_8 k (omega arith) in says asl_l (given t n ok.2) (asl t.reads (omega arith) ok.1 ok.2)
form_said (Branch k b) v l ok = branch_said k b (of_condition (condition_at k) k (condition_at_lem k ok.0 ok.1) ok.1) ok.2 ok.3

pub lines_run : LinesRun
unfolding LinesRun
lines_run i = (
  (λ s. lined s.says.written),
  (λ r. rw r.says at (form_said r.form r.next r.sixteen ((inverse _ r.form).0 r.decoded).0)),
)

pub words_have_lines : WordsHaveLines
unfolding WordsHaveLines manual_words
words_have_lines w next f e l =
    let k = (inverse w f).0 e in
    let s = form_said f next l k.0 in
    record {
      labels = s.labels;
      address = s.address;
      line = s.line;
      says = s.says;
      puts = rw (word_same next f, k.1) at (lines_are_the_manuals s.labels s.address s.line (manual next f) s.says);
    }
