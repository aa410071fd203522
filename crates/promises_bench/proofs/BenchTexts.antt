-- Lines whose operands are made of plain bytes, read: what a line's text comes to where it has a mnemonic with or without a suffix, a
-- blank, and operands parted by a comma; and immediates in hexadecimal. Assumes nothing.
use Rattle.std.specs.Prelude.{Option, None, Some}
use Rattle.rules.specs.Option.{bind}
use Prim.Native.Nat.{ℕ, suc, ◌+◌, ◌*◌, ◌/◌, ◌%◌, ◌<◌}
use mathlib.Core.Path.{◌≡◌, refl, ◌∙◌, ap}
use mathlib.Core.Bool.{Bool, true, false, cond}
use mathlib.Core.List.{List, [], ◌∷◌, ◌++◌, map, append-nil}
use native.Mathlib.Omega.{arith}
use lib.Dec.{ltb, eqb}
use lib.IntN.{ℤ, pos, negsuc, neg_ℤ}
use borrow.Author.Tests.{lt-ltb, ltb-true, ltb-false, le-leb, lt-leb, ne_eqb}
use Rattle.rules.specs.Text.{Text, bytes, blank, upper, uppers, trim_start, keep_end, trim_end, trim, on_first, cut_where, cut_at, drop_empty, pieces, join_more, joined, uncut, in_front, first_cut, starts, contains, after, nth, first_text, other_texts}
use Rattle.rules.specs.Number.{Reading, read, digit_value, digits, some_digits, ranged, below, within, without, unsigned_reading, signed_reading, hex_tail, by_prefix, reading16, reading8, immediate, value_of, imm8, imm16}
use Rattle.rules.specs.Line.{Instruction as Said, instruction, instruction_of, operands_of, is_data, rest_line, label_line, trimmed_line, line_of}
use Rattle.rules.proofs.Readings.{ranged_value}
use Rattle.promises.specs.ListedForms.{D, at_a, L, W}

-- ---- plain bytes: no blank, comma, dot or colon
pub record Plain (b : ℕ) : Type 0 where
  pub dark : blank b ≡ false
  pub comma : eqb 44 b ≡ false
  pub dot : eqb 46 (upper b) ≡ false
  pub colon : eqb b 58 ≡ false

-- a text all of whose bytes fail a test
pub data Clear (f : ℕ → Bool) : Text → Type 0 where
  clear_end : Clear f []
  clear_more : {b : ℕ} {s : Text} → f b ≡ false → Clear f s → Clear f (b ∷ s)

pub data Plains : Text → Type 0 where
  plain_end : Plains []
  plain_more : {b : ℕ} {s : Text} → Plain b → Plains s → Plains (b ∷ s)

clear_by : (f : ℕ → Bool) → ((b : ℕ) → Plain b → f b ≡ false) → {s : Text} → Plains s → Clear f s
clear_by f h plain_end = clear_end
clear_by f h (plain_more p ps) = clear_more (h _ p) (clear_by f h ps)

clear_join : (f : ℕ → Bool) {s t : Text} → Clear f s → Clear f t → Clear f (s ++ t)
clear_join f clear_end d = d
clear_join f (clear_more e c) d = clear_more e (clear_join f c d)

-- ---- cuts of clear texts
cut_one : (f : ℕ → Bool) {t : Text} → Clear f t → cut_where f t ≡ t ∷ []
unfolding cut_where on_first
cut_one f clear_end = refl
cut_one f (clear_more e c) = rw (e, cut_where, cut_one f c)

cut_two : (f : ℕ → Bool) (c : ℕ) → f c ≡ true → {s t : Text} → Clear f s → Clear f t → cut_where f (s ++ (c ∷ t)) ≡ s ∷ t ∷ []
unfolding cut_where on_first
cut_two f c h clear_end d = rw (h, cut_where, cut_one f d)
cut_two f c h (clear_more e k) d = rw (e, cut_where, cut_two f c h k d)

not_cut : (c : ℕ) {t : Text} → Clear (λ b. eqb b c) t → first_cut c t ≡ uncut
unfolding first_cut in_front
not_cut c clear_end = refl
not_cut c (clear_more e k) = rw (e, first_cut, not_cut c k)

trimmed_end : {t : Text} → Clear blank t → trim_end t ≡ t
unfolding trim_end keep_end
trimmed_end clear_end = refl
trimmed_end (clear_more e clear_end) = rw e
trimmed_end (clear_more e (clear_more f c)) = rw (trimmed_end (clear_more f c))

trimmed : {t : Text} → Clear blank t → trim t ≡ t
unfolding trim trim_start trim_end
trimmed clear_end = refl
trimmed (clear_more e c) = rw (e, trim_start) (trimmed_end (clear_more e c))

-- no text of three bytes that ends with a dot starts, or stands in, a text without one
not_started : (a c : ℕ) {t : Text} → Clear (λ b. eqb 46 (upper b)) t → starts (a ∷ c ∷ 46 ∷ []) (uppers t) ≡ false
unfolding starts uppers
not_started a c clear_end = refl
not_started a c (clear_more {b = x} e clear_end) = go (eqb a (upper x))
  where
    go : (p : Bool) → elim p [ true ↦ false | false ↦ false ] ≡ false
    go true = refl
    go false = refl
not_started a c (clear_more {b = x} e (clear_more {b = y} f clear_end)) = go (eqb a (upper x)) (eqb c (upper y))
  where
    go : (p q : Bool) → elim p [ true ↦ elim q [ true ↦ false | false ↦ false ] | false ↦ false ] ≡ false
    go true true = refl
    go true false = refl
    go false q = refl
not_started a c (clear_more {b = x} e (clear_more {b = y} f (clear_more {b = z} g k))) = go (eqb a (upper x)) (eqb c (upper y)) (eqb 46 (upper z)) g
  where
    go : (p q r : Bool) → r ≡ false → elim p [ true ↦ elim q [ true ↦ elim r [ true ↦ true | false ↦ false ] | false ↦ false ] | false ↦ false ] ≡ false
    go true true true n = n
    go true true false n = refl
    go true false r n = refl
    go false q r n = refl

not_within : (a c : ℕ) {t : Text} → Clear (λ b. eqb 46 (upper b)) t → contains (a ∷ c ∷ 46 ∷ []) (uppers t) ≡ false
unfolding contains starts uppers
not_within a c clear_end = refl
not_within a c (clear_more e k) = rw (not_started a c (clear_more e k), contains) (not_within a c k)

-- ---- a line's text from its first blank on, whose operands are ps
pub record Tail (r : Text) (ps : List Text) : Type 0 where
  pub ends : trim_end (32 ∷ r) ≡ 32 ∷ r
  pub uncut_by : first_cut 58 r ≡ uncut
  pub no_value : contains (68 ∷ 67 ∷ 46 ∷ []) (uppers r) ≡ false
  pub no_space : contains (68 ∷ 83 ∷ 46 ∷ []) (uppers r) ≡ false
  pub piece : drop_empty (cut_where blank r) ≡ r ∷ []
  pub operands : drop_empty (map trim (cut_at 44 r)) ≡ ps

-- one operand, and two
pub one_operand : {b : ℕ} {s : Text} → Plains (b ∷ s) → Tail (b ∷ s) ((b ∷ s) ∷ [])
unfolding trim_end keep_end drop_empty cut_at
one_operand {b} {s} p =
    let d = clear_by blank (λ b q. q.dark) p in
    let n = clear_by (λ b. eqb 46 (upper b)) (λ b q. q.dot) p in
    record {
      ends = rw (trimmed_end d);
      uncut_by = not_cut 58 (clear_by (λ b. eqb b 58) (λ b q. q.colon) p);
      no_value = not_within 68 67 n;
      no_space = not_within 68 83 n;
      piece = ap drop_empty (cut_one blank d);
      operands = ap (λ (ps : List Text). drop_empty (map trim ps)) (cut_one (eqb 44) (clear_by (eqb 44) (λ b q. q.comma) p)) ∙ ap (λ (t : Text). drop_empty (t ∷ [])) (trimmed d);
    }

pub two_operands : {b c : ℕ} {s t : Text} → Plains (b ∷ s) → Plains (c ∷ t) → Tail ((b ∷ s) ++ (44 ∷ c ∷ t)) ((b ∷ s) ∷ (c ∷ t) ∷ [])
unfolding trim_end keep_end drop_empty cut_at blank upper
two_operands {b} {c} {s} {t} p q =
    let all : (f : ℕ → Bool) → f 44 ≡ false → ((b : ℕ) → Plain b → f b ≡ false) → Clear f ((b ∷ s) ++ (44 ∷ c ∷ t)) = λ f e h. clear_join f (clear_by f h p) (clear_more e (clear_by f h q)) in
    let d = all blank refl (λ b k. k.dark) in
    let n = all (λ b. eqb 46 (upper b)) refl (λ b k. k.dot) in
    record {
      ends = rw (trimmed_end d);
      uncut_by = not_cut 58 (all (λ b. eqb b 58) refl (λ b k. k.colon));
      no_value = not_within 68 67 n;
      no_space = not_within 68 83 n;
      piece = ap drop_empty (cut_one blank d);
      operands =
          ap (λ (ps : List Text). drop_empty (map trim ps)) (cut_two (eqb 44) 44 refl (clear_by (eqb 44) (λ b k. k.comma) p) (clear_by (eqb 44) (λ b k. k.comma) q))
          ∙ ap (λ (u : Text). drop_empty (u ∷ trim (c ∷ t) ∷ [])) (trimmed (clear_by blank (λ b k. k.dark) p))
          ∙ ap (λ (u : Text). drop_empty ((b ∷ s) ∷ u ∷ [])) (trimmed (clear_by blank (λ b k. k.dark) q));
    }

-- ---- the heads of the listed forms
pub data Head : Type 0 where
  MOVEQ move_l move_w muls_w add_w sub_w cmp_w tst_l subq_l asl_l : Head

abbrev pub head_text : Head → Text
head_text MOVEQ = bytes "MOVEQ"
head_text move_l = bytes "MOVE.L"
head_text move_w = bytes "MOVE.W"
head_text muls_w = bytes "MULS.W"
head_text add_w = bytes "ADD.W"
head_text sub_w = bytes "SUB.W"
head_text cmp_w = bytes "CMP.W"
head_text tst_l = bytes "TST.L"
head_text subq_l = bytes "SUBQ.L"
head_text asl_l = bytes "ASL.L"

abbrev pub head_says : Head → List Text → Said
head_says MOVEQ ps = record { mnemonic = bytes "MOVEQ"; suffix = None; operands = ps }
head_says move_l ps = record { mnemonic = bytes "MOVE"; suffix = L; operands = ps }
head_says move_w ps = record { mnemonic = bytes "MOVE"; suffix = W; operands = ps }
head_says muls_w ps = record { mnemonic = bytes "MULS"; suffix = W; operands = ps }
head_says add_w ps = record { mnemonic = bytes "ADD"; suffix = W; operands = ps }
head_says sub_w ps = record { mnemonic = bytes "SUB"; suffix = W; operands = ps }
head_says cmp_w ps = record { mnemonic = bytes "CMP"; suffix = W; operands = ps }
head_says tst_l ps = record { mnemonic = bytes "TST"; suffix = L; operands = ps }
head_says subq_l ps = record { mnemonic = bytes "SUBQ"; suffix = L; operands = ps }
head_says asl_l ps = record { mnemonic = bytes "ASL"; suffix = L; operands = ps }

-- a line that is an instruction, step by step
line_by : (s : Text) (i : Said) → trim s ≡ s → ((n : ℕ) → trimmed_line n s ≡ label_line n s) → first_cut 58 s ≡ uncut → is_data s ≡ false → instruction_of s ≡ i
    → (line_of s).task ≡ instruction i
unfolding line_of label_line rest_line
line_by s i t h u d e = rw (t, h, u, label_line) (rw (d, rest_line) (ap instruction e))

pub head_reads : (h : Head) {r : Text} {ps : List Text} → Tail r ps → (line_of (head_text h ++ (32 ∷ r))).task ≡ instruction (head_says h ps)
unfolding bytes blank upper uppers trim_start keep_end trim_end trim on_first cut_where cut_at drop_empty pieces join_more joined in_front first_cut starts contains nth first_text other_texts instruction_of operands_of is_data trimmed_line
head_reads MOVEQ {r} k = line_by _ _ (rw k.ends) (λ n. refl) (rw k.uncut_by) (rw (k.no_value, k.no_space)) (rw (k.piece, append-nil r, k.operands))
head_reads move_l {r} k = line_by _ _ (rw k.ends) (λ n. refl) (rw k.uncut_by) (rw (k.no_value, k.no_space)) (rw (k.piece, append-nil r, k.operands))
head_reads move_w {r} k = line_by _ _ (rw k.ends) (λ n. refl) (rw k.uncut_by) (rw (k.no_value, k.no_space)) (rw (k.piece, append-nil r, k.operands))
head_reads muls_w {r} k = line_by _ _ (rw k.ends) (λ n. refl) (rw k.uncut_by) (rw (k.no_value, k.no_space)) (rw (k.piece, append-nil r, k.operands))
head_reads add_w {r} k = line_by _ _ (rw k.ends) (λ n. refl) (rw k.uncut_by) (rw (k.no_value, k.no_space)) (rw (k.piece, append-nil r, k.operands))
head_reads sub_w {r} k = line_by _ _ (rw k.ends) (λ n. refl) (rw k.uncut_by) (rw (k.no_value, k.no_space)) (rw (k.piece, append-nil r, k.operands))
head_reads cmp_w {r} k = line_by _ _ (rw k.ends) (λ n. refl) (rw k.uncut_by) (rw (k.no_value, k.no_space)) (rw (k.piece, append-nil r, k.operands))
head_reads tst_l {r} k = line_by _ _ (rw k.ends) (λ n. refl) (rw k.uncut_by) (rw (k.no_value, k.no_space)) (rw (k.piece, append-nil r, k.operands))
head_reads subq_l {r} k = line_by _ _ (rw k.ends) (λ n. refl) (rw k.uncut_by) (rw (k.no_value, k.no_space)) (rw (k.piece, append-nil r, k.operands))
head_reads asl_l {r} k = line_by _ _ (rw k.ends) (λ n. refl) (rw k.uncut_by) (rw (k.no_value, k.no_space)) (rw (k.piece, append-nil r, k.operands))

-- ---- operands
-- bytes from 0 to 9 and from A to Z
plain_byte : (b : ℕ) → 47 < b → b < 91 → ¬ (b ≡ 58) → Plain b
unfolding blank upper
plain_byte b l u n =
    record {
      dark = rw (le-leb 9 b (omega arith), lt-leb b 13 (omega arith), ne_eqb b 32 (λ e. omega arith));
      comma = ne_eqb 44 b (λ e. omega arith);
      dot = rw (lt-leb 97 b (omega arith)) (ne_eqb 46 b (λ e. omega arith));
      colon = ne_eqb b 58 n;
    }

-- the register's digit, and the bytes of # $ - ( )
plain_digit : (n : ℕ) → n < 8 → Plain (48 + n)
plain_digit n h = plain_byte (48 + n) (omega arith) (omega arith) (λ e. omega arith)

plain_hash : Plain 35
unfolding blank upper
plain_hash = record { dark = refl; comma = refl; dot = refl; colon = refl }

plain_dollar : Plain 36
unfolding blank upper
plain_dollar = record { dark = refl; comma = refl; dot = refl; colon = refl }

plain_minus : Plain 45
unfolding blank upper
plain_minus = record { dark = refl; comma = refl; dot = refl; colon = refl }

plain_left : Plain 40
unfolding blank upper
plain_left = record { dark = refl; comma = refl; dot = refl; colon = refl }

plain_right : Plain 41
unfolding blank upper
plain_right = record { dark = refl; comma = refl; dot = refl; colon = refl }

pub plain_d : (n : ℕ) → n < 8 → Plains (D n)
plain_d n h = plain_more (plain_byte 68 (omega arith) (omega arith) (λ e. omega arith)) (plain_more (plain_digit n h) plain_end)

pub plain_at_a : (n : ℕ) → n < 8 → Plains (at_a n)
plain_at_a n h =
    plain_more plain_left (plain_more (plain_byte 65 (omega arith) (omega arith) (λ e. omega arith)) (plain_more (plain_digit n h) (plain_more plain_right plain_end)))

-- a hexadecimal digit, as a byte
abbrev hex : ℕ → ℕ
hex h = cond (ltb h 10) (48 + h) (55 + h)

record Digit (b h : ℕ) : Type 0 where
  plain : Plain b
  value : digit_value b ≡ h
  no_plus : eqb b 43 ≡ false
  no_minus : eqb b 45 ≡ false

digit : (h : ℕ) → h < 16 → Digit (hex h) h
unfolding digit_value
digit h l = go (ltb h 10) refl
  where
    go : (x : Bool) → ltb h 10 ≡ x → Digit (cond x (48 + h) (55 + h)) h
    go true e =
        let u = ltb-true h 10 e in
        record {
          plain = plain_byte (48 + h) (omega arith) (omega arith) (λ e. omega arith);
          value = rw (le-leb 48 (48 + h) (omega arith), le-leb (48 + h) 57 (omega arith)) (omega arith);
          no_plus = ne_eqb (48 + h) 43 (λ e. omega arith);
          no_minus = ne_eqb (48 + h) 45 (λ e. omega arith);
        }
    go false e =
        let u = ltb-false h 10 e in
        record {
          plain = plain_byte (55 + h) (omega arith) (omega arith) (λ e. omega arith);
          value = rw (le-leb 48 (55 + h) (omega arith), lt-leb (55 + h) 57 (omega arith), le-leb 65 (55 + h) (omega arith), le-leb (55 + h) 70 (omega arith)) (omega arith);
          no_plus = ne_eqb (55 + h) 43 (λ e. omega arith);
          no_minus = ne_eqb (55 + h) 45 (λ e. omega arith);
        }

-- one more digit is read
more_digit : (v : ℕ) {b h : ℕ} (s : Text) → Digit b h → h < 16 → digits 16 v (b ∷ s) ≡ digits 16 (v * 16 + h) s
unfolding digits
more_digit v {b} {h} s d l = let e = d.value in let q : digit_value b < 16 = omega arith in rw (lt-ltb (digit_value b) 16 q, digits, e)

-- two digits, and four
two_digits : (k : ℕ) → k < 256 → digits 16 0 (hex (k / 16) ∷ hex (k % 16) ∷ []) ≡ read k
unfolding digits
two_digits k l =
    let a : k / 16 < 16 = omega arith in
    let b : k % 16 < 16 = omega arith in
    more_digit 0 (hex (k % 16) ∷ []) (digit (k / 16) a) a ∙ more_digit (0 * 16 + k / 16) [] (digit (k % 16) b) b ∙ ap read (omega arith)

four_digits : (v : ℕ) → v < 65536 → digits 16 0 (hex (v / 4096) ∷ hex (v / 256 % 16) ∷ hex (v / 16 % 16) ∷ hex (v % 16) ∷ []) ≡ read v
unfolding digits
four_digits v l =
    let a : v / 4096 < 16 = omega arith in
    let b : v / 256 % 16 < 16 = omega arith in
    let c : v / 16 % 16 < 16 = omega arith in
    let d : v % 16 < 16 = omega arith in
    let q : v / 16 / 16 ≡ v / 256 = omega arith in
    let r : v / 256 / 16 ≡ v / 4096 = omega arith in
    more_digit 0 (hex (v / 256 % 16) ∷ hex (v / 16 % 16) ∷ hex (v % 16) ∷ []) (digit (v / 4096) a) a
    ∙ more_digit _ (hex (v / 16 % 16) ∷ hex (v % 16) ∷ []) (digit (v / 256 % 16) b) b
    ∙ more_digit _ (hex (v % 16) ∷ []) (digit (v / 16 % 16) c) c
    ∙ more_digit _ [] (digit (v % 16) d) d ∙ ap read (omega arith)

-- an immediate's text that reads as x
pub record Immediate {A : Type 0} (f : Text → Option A) (x : A) : Type 0 where
  pub first : ℕ
  pub others : Text
  pub plain : Plains (first ∷ others)
  pub reads : f (first ∷ others) ≡ Some x

-- a number that was read is the value, if it is in range
value_by : {A : Type 0} (f : ℕ → Option A) (r : Reading ℕ) (v : ℕ) (x : A) → r ≡ read v → f v ≡ Some x → value_of (ranged f r) ≡ Some x
unfolding value_of bind
value_by f r v x e h = ranged_value f r ∙ rw (e, h)

pub immediate_16 : (v : ℕ) → v < 65536 → Immediate imm16 v
unfolding imm16 immediate reading16 by_prefix hex_tail after bytes bind unsigned_reading without some_digits below
immediate_16 v l =
    let a = digit (v / 4096) (omega arith) in
    let b = digit (v / 256 % 16) (omega arith) in
    let c = digit (v / 16 % 16) (omega arith) in
    let d = digit (v % 16) (omega arith) in
    let e : below 65536 v ≡ Some v = rw (lt-ltb v 65536 l) in
    record {
      first = 35;
      others = 36 ∷ hex (v / 4096) ∷ hex (v / 256 % 16) ∷ hex (v / 16 % 16) ∷ hex (v % 16) ∷ [];
      plain = plain_more plain_hash (plain_more plain_dollar (plain_more a.plain (plain_more b.plain (plain_more c.plain (plain_more d.plain plain_end)))));
      reads = rw a.no_plus (value_by (below 65536) _ v v (four_digits v l) e);
    }

-- without a sign
unsigned : (b : ℕ) (s : Text) → eqb b 45 ≡ false → eqb b 43 ≡ false → signed_reading 16 128 (b ∷ s) ≡ ranged (λ v. within 128 (pos v)) (digits 16 0 (b ∷ s))
unfolding signed_reading without some_digits
unsigned b s e f = rw (e, signed_reading, f)

pub immediate_8 : (k : ℕ) → k < 128 → Immediate imm8 (pos k)
unfolding imm8 immediate reading8 by_prefix hex_tail after bytes bind within
immediate_8 k l =
    let a = digit (k / 16) (omega arith) in
    let b = digit (k % 16) (omega arith) in
    let e : within 128 (pos k) ≡ Some (pos k) = rw (lt-ltb k 128 l) in
    record {
      first = 35;
      others = 36 ∷ hex (k / 16) ∷ hex (k % 16) ∷ [];
      plain = plain_more plain_hash (plain_more plain_dollar (plain_more a.plain (plain_more b.plain plain_end)));
      reads =
          ap (λ (r : Reading ℤ). value_of r) (unsigned (hex (k / 16)) (hex (k % 16) ∷ []) a.no_minus a.no_plus)
          ∙ value_by (λ v. within 128 (pos v)) _ k (pos k) (two_digits k (omega arith)) e;
    }

pub immediate_below : (k : ℕ) → k < 128 → Immediate imm8 (negsuc k)
unfolding imm8 immediate reading8 by_prefix hex_tail after bytes bind within signed_reading some_digits
immediate_below k l =
    let a = digit (suc k / 16) (omega arith) in
    let b = digit (suc k % 16) (omega arith) in
    let e : within 128 (negsuc k) ≡ Some (negsuc k) = rw (lt-ltb k 128 l) in
    record {
      first = 35;
      others = 36 ∷ 45 ∷ hex (suc k / 16) ∷ hex (suc k % 16) ∷ [];
      plain = plain_more plain_hash (plain_more plain_dollar (plain_more plain_minus (plain_more a.plain (plain_more b.plain plain_end))));
      reads = value_by (λ v. within 128 (neg_ℤ (pos v))) _ (suc k) (negsuc k) (two_digits (suc k) (omega arith)) e;
    }
