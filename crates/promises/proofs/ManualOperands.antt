-- The operands of the manual's call: from their texts to what is read, and back; and the displacements that a text gives. Assumes nothing.
use Rattle.std.specs.Prelude.{Option, None, Some, option_map}
use Rattle.std.proofs.lemmas.Option.{same_Some}
use Rattle.rules.specs.Option.{bind}
use Prim.Native.Nat.{ℕ, zero, suc, ◌+◌, ◌≤◌, ◌<◌}
use mathlib.Core.Path.{◌≡◌, refl, sym, ap, ◌∙◌}
use mathlib.Core.Logic.{◌≢◌}
use mathlib.Core.Bool.{Bool, true, false, cond, ◌&&◌}
use mathlib.Core.List.{List, [], ◌∷◌, ◌++◌}
use native.Mathlib.Omega.{arith}
use borrow.Author.Tests.{ltb-true, ltb-false, lt-ltb, leb-true, le-leb, eqb-true}
use lib.Dec.{leb, ltb, eqb}
use lib.IntN.{ℤ, pos, negsuc, neg_ℤ, sub_ℕ}
use Rattle.rules.specs.Text.{Text, bytes, after}
use Rattle.rules.specs.Number.{Reading, read, failed, value_of, some_digits, reading32, reading16, reading8, immediate, imm8, imm16}
use Rattle.rules.specs.Label.{Table, find}
use Rattle.rules.specs.Encode.{register_digit, data_register, address_register, indirect, is_some}
use Rattle.rules.specs.Forms.{dn, an, at_an, text, kind_of, kind_number, same_kind}
use Rattle.rules.proofs.Readings.{All}
use Rattle.rules.proofs.Operands.{after_starts, kind_told, kind_itself, kinded}
use Rattle.manual.specs.Manual.{InWord, displacement_word}
use Rattle.requests.specs.ManualCall.{Branching, branch, loop, other_text, imm32, one_to_eight, quickly, signed_digits, listed, displacements, fits, first_that}
use Rattle.promises.specs.Readings.{BadDigit, worth, Means32, Means16, Means8}
use Rattle.promises.specs.Explain.{behind_hash, Marked, as_dn, as_an, as_at_an, IsKind, marked}
use Rattle.promises.specs.ListedForms.{D, at_a}
use Rattle.promises.specs.ManualWritten.{A, SignedNumber, plus, minus, InBranch, Takes, label, number}
use Rattle.promises.specs.ManualFaults.{Gives, by_label, by_number}
use Rattle.promises.proofs.Compared.{clash}
use Rattle.promises.proofs.Decided.{Decided, yes, no, decided_yes, decided_true, decided_false, none_there}
use Rattle.promises.proofs.Readings.{Told, good, wrong, digits_told, filled, readings_mean}
use Rattle.promises.proofs.OperandKinds.{dn_marked, an_marked, at_an_marked, kind_is, of_kind}
use Rattle.promises.proofs.OperandTests.{behind_hash_lem}
use Rattle.promises.proofs.ManualLaws.{digit, data_register_lem, indirect_register, leads_back, leads_there, no_word}

-- ---- registers: a reader of the texts T reads no other
abbrev pub Numbered : (ℕ → Text) → Text → ℕ → Type 0
Numbered T s n = (s ≡ T n) × (n < 8)

read_back : (reader : Text → Option ℕ) (T : ℕ → Text) → ((n : ℕ) → n < 8 → reader (T n) ≡ Some n)
    → ((s : Text) → is_some (reader s) ≡ true → (n : ℕ) × Numbered T s n) → (s : Text) → All (Numbered T s) (reader s)
unfolding is_some
read_back reader T to from s = go (reader s) refl
  where
    go : (o : Option ℕ) → reader s ≡ o → All (Numbered T s) o
    go None e = tt
    go (Some n) e =
        let k = from s (rw e) in
        let u : k.0 ≡ n = same_Some k.0 n (sym (to k.0 k.1.1) ∙ rw (← k.1.0) e) in
        (k.1.0 ∙ ap T u, omega (arith, k.1.1))

marked_d : {s : Text} → Marked s dn → (n : ℕ) × Numbered D s n
marked_d (as_dn {n} h) = (n, (refl, h))

marked_a : {s : Text} → Marked s an → (n : ℕ) × Numbered A s n
marked_a (as_an {n} h) = (n, (refl, h))

marked_at_a : {s : Text} → Marked s at_an → (n : ℕ) × Numbered at_a s n
marked_at_a (as_at_an {n} h) = (n, (refl, h))

pub address_register_lem : (n : ℕ) → n < 8 → address_register (A n) ≡ Some n
unfolding address_register register_digit after bytes
address_register_lem n h = rw (digit n h, lt-ltb n 8 h)

pub is_d : (s : Text) → All (Numbered D s) (data_register s)
is_d s = read_back data_register D data_register_lem (λ t e. marked_d (dn_marked t e)) s

pub is_a : (s : Text) → All (Numbered A s) (address_register s)
is_a s = read_back address_register A address_register_lem (λ t e. marked_a (an_marked t e)) s

pub is_at_a : (s : Text) → All (Numbered at_a s) (indirect s)
is_at_a s = read_back indirect at_a indirect_register (λ t e. marked_at_a (at_an_marked t e)) s

-- ---- immediates: `#`, and what is read after it
abbrev pub Hash : {A : Type 0} → (Text → A → Type 0) → Text → A → Type 0
Hash P s v = (u : Text) × (s ≡ behind_hash u) × P u v

module _ {A : Type 0} (f : Text → Reading A) (P : Text → Reading A → Type 0) (to : (u : Text) (v : A) → f u ≡ read v → P u (read v)) where
  is_immediate : (s : Text) → All (Hash (λ u v. P u (read v)) s) (bind (immediate f s) value_of)
  unfolding immediate bind value_of
  is_immediate s = go (after (bytes "#") s) refl
    where
      on : (u : Text) → after (bytes "#") s ≡ Some u → (r : Reading A) → f u ≡ r → All (Hash (λ u v. P u (read v)) s) (value_of r)
      on u e (read v) g = (u, behind_hash_lem s u e, to u v g)
      on u e (failed x) g = tt

      go : (o : Option Text) → after (bytes "#") s ≡ o → All (Hash (λ u v. P u (read v)) s) (bind (elim o [ None ↦ None | Some t ↦ Some (f t) ]) value_of)
      go None e = tt
      go (Some u) e = on u e (f u) refl

immediate_read : {A : Type 0} (f : Text → Reading A) (u : Text) (v : A) → f u ≡ read v → bind (immediate f (behind_hash u)) value_of ≡ Some v
unfolding immediate after bytes bind value_of
immediate_read f u v e = rw e

pub is_imm8 : (s : Text) → All (Hash (λ u v. Means8 u (read v)) s) (imm8 s)
unfolding imm8
is_imm8 s = is_immediate reading8 Means8 (λ u v. (readings_mean.of_8_bits u (read v)).0) s

pub is_imm16 : (s : Text) → All (Hash (λ u v. Means16 u (read v)) s) (imm16 s)
unfolding imm16
is_imm16 s = is_immediate reading16 Means16 (λ u v. (readings_mean.of_16_bits u (read v)).0) s

pub is_imm32 : (s : Text) → All (Hash (λ u v. Means32 u (read v)) s) (imm32 s)
unfolding imm32
is_imm32 s = is_immediate reading32 Means32 (λ u v. (readings_mean.of_32_bits u (read v)).0) s

pub imm8_read : (u : Text) (v : ℤ) → Means8 u (read v) → imm8 (behind_hash u) ≡ Some v
unfolding imm8
imm8_read u v m = immediate_read reading8 u v ((readings_mean.of_8_bits u (read v)).1 m)

pub imm16_read : (u : Text) (v : ℕ) → Means16 u (read v) → imm16 (behind_hash u) ≡ Some v
unfolding imm16
imm16_read u v m = immediate_read reading16 u v ((readings_mean.of_16_bits u (read v)).1 m)

pub imm32_read : (u : Text) (v : ℕ) → Means32 u (read v) → imm32 (behind_hash u) ≡ Some v
unfolding imm32
imm32_read u v m = immediate_read reading32 u v ((readings_mean.of_32_bits u (read v)).1 m)

-- SUBQ's and ASL's
abbrev pub Quick : ℕ → Type 0
Quick k = (1 ≤ k) × (k ≤ 8)

one_to_eight_lem : (z : ℤ) → All (λ k. (z ≡ pos k) × Quick k) (one_to_eight z)
unfolding one_to_eight
one_to_eight_lem (pos k) = go (leb 1 k) refl (leb k 8) refl
  where
    go : (x : Bool) → leb 1 k ≡ x → (y : Bool) → leb k 8 ≡ y → All (λ j. (pos k ≡ pos j) × Quick j) (cond (x && y) (Some k) None)
    go true e true f = (refl, (leb-true 1 k e, leb-true k 8 f))
    go true e false f = tt
    go false e true f = tt
    go false e false f = tt
one_to_eight_lem (negsuc k) = tt

pub is_quick : (s : Text) → All (λ k. Hash (λ u v. Means8 u (read v)) s (pos k) × Quick k) (quickly s)
unfolding quickly bind
is_quick s = go (imm8 s) (is_imm8 s)
  where
    on : (z : ℤ) → Hash (λ u v. Means8 u (read v)) s z → (o : Option ℕ) → All (λ k. (z ≡ pos k) × Quick k) o → All (λ k. Hash (λ u v. Means8 u (read v)) s (pos k) × Quick k) o
    on z h None q = tt
    on z h (Some k) q = (rw q.0 at h, q.1)

    go : (o : Option ℤ) → All (Hash (λ u v. Means8 u (read v)) s) o → All (λ k. Hash (λ u v. Means8 u (read v)) s (pos k) × Quick k) (bind o one_to_eight)
    go None h = tt
    go (Some z) h = on z h (one_to_eight z) (one_to_eight_lem z)

pub quick_read : (u : Text) (k : ℕ) → Means8 u (read (pos k)) → Quick k → quickly (behind_hash u) ≡ Some k
unfolding quickly one_to_eight bind
quick_read u k m q = rw (imm8_read u (pos k) m, le-leb 1 k q.0, le-leb k 8 q.1)

-- ---- other text
pub is_other : (s : Text) → All (λ l. (l ≡ s) × IsKind s text) (other_text s)
unfolding other_text
is_other s = go (same_kind (kind_of s) text) refl
  where
    go : (x : Bool) → same_kind (kind_of s) text ≡ x → All (λ l. (l ≡ s) × IsKind s text) (cond x (Some s) None)
    go true e = (refl, of_kind s (kind_told (kind_of s) text e))
    go false e = tt

module _ (s : Text) (k : IsKind s text) where
  pub other_read : other_text s ≡ Some s
  unfolding other_text
  other_read = rw (kind_is k, kind_itself text)

  pub other_not_data : data_register s ≡ None
  unfolding same_kind kind_number
  other_not_data = none_there (data_register s) (sym (kinded s).as_dn ∙ rw (kind_is k))

  pub other_not_indirect : indirect s ≡ None
  unfolding same_kind kind_number
  other_not_indirect = none_there (indirect s) (sym (kinded s).as_at_an ∙ rw (kind_is k))

  pub other_not_long : imm32 s ≡ None
  unfolding same_kind kind_number imm32 immediate bind after bytes
  other_not_long = rw (none_there (after (bytes "#") s) (after_starts (bytes "#") s ∙ sym (kinded s).as_hash ∙ rw (kind_is k)))

-- what a register is not
pub d_not_long : (n : ℕ) → imm32 (D n) ≡ None
unfolding imm32 immediate bind after bytes
d_not_long n = refl

pub at_a_not_long : (n : ℕ) → imm32 (at_a n) ≡ None
unfolding imm32 immediate bind after bytes
at_a_not_long n = refl

pub d_not_other : (n : ℕ) → n < 8 → other_text (D n) ≡ None
unfolding other_text same_kind kind_number
d_not_other n h = rw (kind_is (marked (as_dn h)))

-- ---- signed numbers
decimal : (t : Text) → All (λ v. (t ≢ []) × ¬ BadDigit 10 t × (v ≡ worth 10 t)) (value_of (some_digits 10 t))
unfolding some_digits value_of
decimal [] = tt
decimal (b ∷ s) = go (digits_told 10 0 (b ∷ s))
  where
    go : {r : Reading ℕ} → Told 10 0 (b ∷ s) r → All (λ v. ((b ∷ s) ≢ []) × ¬ BadDigit 10 (b ∷ s) × (v ≡ worth 10 (b ∷ s))) (value_of r)
    go (good n e) = rw e (filled b s, n, omega arith)
    go (wrong d e) = rw e tt

decimal_read : (t : Text) → t ≢ [] → ¬ BadDigit 10 t → value_of (some_digits 10 t) ≡ Some (worth 10 t)
unfolding some_digits value_of
decimal_read [] n g = absurd (n refl)
decimal_read (b ∷ s) n g = go (digits_told 10 0 (b ∷ s))
  where
    go : {r : Reading ℕ} → Told 10 0 (b ∷ s) r → value_of r ≡ Some (worth 10 (b ∷ s))
    go (good m e) = rw e (ap Some (omega arith))
    go (wrong d e) = absurd (g d)

pub signed_number : (s : Text) (d : ℤ) → signed_digits s ≡ Some d → SignedNumber s d
unfolding signed_digits
signed_number [] d e = clash cc
signed_number (b ∷ t) d e = go (eqb b 43) refl (eqb b 45) refl (value_of (some_digits 10 t)) (decimal t) e
  where
    go : (x : Bool) → eqb b 43 ≡ x → (y : Bool) → eqb b 45 ≡ y → (o : Option ℕ) → All (λ v. (t ≢ []) × ¬ BadDigit 10 t × (v ≡ worth 10 t)) o
        → cond x (option_map pos o) (cond y (option_map (λ n. neg_ℤ (pos n)) o) None) ≡ Some d → SignedNumber (b ∷ t) d
    go true p y q None h k = clash cc
    go true p y q (Some v) h k = let u : pos v ≡ d = same_Some (pos v) d k in rw (eqb-true b 43 p, ← u, h.2) (plus h.0 h.1)
    go false p true q None h k = clash cc
    go false p true q (Some v) h k = let u : neg_ℤ (pos v) ≡ d = same_Some (neg_ℤ (pos v)) d k in rw (eqb-true b 45 q, ← u, h.2) (minus h.0 h.1)
    go false p false q o h k = clash cc

pub signed_read : {s : Text} {d : ℤ} → SignedNumber s d → signed_digits s ≡ Some d
unfolding signed_digits
signed_read (plus {t} n g) = rw (decimal_read t n g)
signed_read (minus {t} n g) = rw (decimal_read t n g)

-- ---- ranges
abbrev pub Range : Branching → ℤ → Type 0
Range (branch c) d = InBranch d
Range (loop n) d = InWord d

pub in_range : (g : Branching) (d : ℤ) → Decided (Range g d) (fits g d)
unfolding fits
in_range (branch c) (pos zero) = no (λ r. r.1 refl)
in_range (branch c) (pos (suc n)) = rw (lt-ltb 0 (suc n) (omega arith)) (go (ltb (suc n) 128) refl)
  where
    go : (x : Bool) → ltb (suc n) 128 ≡ x → Decided (InBranch (pos (suc n))) x
    go true e = yes (ltb-true (suc n) 128 e, (λ f. clash cc), (λ f. clash cc))
    go false e = no (λ r. let l = ltb-false (suc n) 128 e in let k = r.0 in omega arith)
in_range (branch c) (negsuc zero) = no (λ r. r.2 refl)
in_range (branch c) (negsuc (suc n)) = rw (lt-ltb 0 (suc n) (omega arith)) (go (ltb (suc n) 128) refl)
  where
    go : (x : Bool) → ltb (suc n) 128 ≡ x → Decided (InBranch (negsuc (suc n))) x
    go true e = yes (ltb-true (suc n) 128 e, (λ f. clash cc), (λ f. clash cc))
    go false e = no (λ r. let l = ltb-false (suc n) 128 e in let k = r.0 in omega arith)
in_range (loop r) (pos n) = go (ltb n 32768) refl
  where
    go : (x : Bool) → ltb n 32768 ≡ x → Decided (InWord (pos n)) x
    go true e = yes (ltb-true n 32768 e)
    go false e = no (λ k. let l = ltb-false n 32768 e in omega arith)
in_range (loop r) (negsuc n) = go (ltb n 32768) refl
  where
    go : (x : Bool) → ltb n 32768 ≡ x → Decided (InWord (negsuc n)) x
    go true e = yes (ltb-true n 32768 e)
    go false e = no (λ k. let l = ltb-false n 32768 e in omega arith)

-- a branch in range has no word after it
pub no_word_after : (d : ℤ) → InBranch d → displacement_word d ≡ []
no_word_after d r = no_word d r.1 r.2

-- ---- the displacements that a text gives are those of the list
pub data Among (d : ℤ) : List ℤ → Type 0 where
  here : {e : ℤ} {ds : List ℤ} → d ≡ e → Among d (e ∷ ds)
  there : {e : ℤ} {ds : List ℤ} → Among d ds → Among d (e ∷ ds)

among_right : {d : ℤ} (xs : List ℤ) {ys : List ℤ} → Among d ys → Among d (xs ++ ys)
among_right [] h = h
among_right (x ∷ xs) h = there (among_right xs h)

pub gives_among : {ls : Table} {a : ℕ} {s : Text} {d : ℤ} → Gives ls a s d → Among d (displacements ls a s)
unfolding displacements listed
gives_among {ls} {a} {s} {d} (by_label r) = rw r.found (here (sym (leads_back (a + 2) r.target d r.leads)))
gives_among {ls} {a} {s} {d} (by_number n) = rw (signed_read n) (among_right (listed (option_map (λ t. sub_ℕ t (a + 2)) (find s ls))) (here refl))

pub among_gives : (ls : Table) (a : ℕ) (s : Text) (d : ℤ) → Among d (displacements ls a s) → Gives ls a s d
unfolding displacements listed
among_gives ls a s d h = go (find s ls) refl (signed_digits s) refl h
  where
    go : (o : Option ℕ) → find s ls ≡ o → (q : Option ℤ) → signed_digits s ≡ q → Among d (listed (option_map (λ t. sub_ℕ t (a + 2)) o) ++ listed q) → Gives ls a s d
    go None e (Some y) k (here r) = by_number (signed_number s d (k ∙ ap Some (sym r)))
    go (Some t) e q k (here r) = by_label (record { target = t; found = e; leads = rw r (leads_there (a + 2) t) })
    go (Some t) e (Some y) k (there (here r)) = by_number (signed_number s d (k ∙ ap Some (sym r)))
    go None e None k i = elim i [ ]
    go None e (Some y) k (there i) = elim i [ ]
    go (Some t) e None k (there i) = elim i [ ]
    go (Some t) e (Some y) k (there (there i)) = elim i [ ]

-- none is found exactly if none passes the test
pub none_passes : (f : ℤ → Bool) (ds : List ℤ) → first_that f ds ≡ None → (e : ℤ) → Among e ds → f e ≡ false
unfolding first_that
none_passes f (d ∷ ds) h e k = go (f d) refl h k (none_passes f ds)
  where
    go : (x : Bool) → f d ≡ x → ◌≡◌ {A = Option ℤ} (elim x [ true ↦ Some d | false ↦ first_that f ds ]) None → Among e (d ∷ ds)
        → (first_that f ds ≡ None → (y : ℤ) → Among y ds → f y ≡ false) → f e ≡ false
    go true p q r ih = clash cc
    go false p q (here r) ih = rw r p
    go false p q (there r) ih = ih q e r
none_passes f [] h e k = elim k [ ]

pub passes_none : (f : ℤ → Bool) (ds : List ℤ) → ((e : ℤ) → Among e ds → f e ≡ false) → first_that f ds ≡ None
unfolding first_that
passes_none f [] h = refl
passes_none f (d ∷ ds) h = rw (h d (here refl), first_that) (passes_none f ds (λ e k. h e (there k)))

-- the first displacement in range is the one that is taken
pub takes : (ls : Table) (a : ℕ) (g : Branching) (s : Text) (d : ℤ) → first_that (fits g) (displacements ls a s) ≡ Some d → Takes ls a (Range g) s d
unfolding displacements listed first_that
takes ls a g s d h = go (find s ls) refl (signed_digits s) refl h
  where
    numbered : (q : Option ℤ) → signed_digits s ≡ q → first_that (fits g) (listed q) ≡ Some d → SignedNumber s d × Range g d
    numbered None e k = clash cc
    numbered (Some y) e k = test (fits g y) refl k
      where
        test : (x : Bool) → fits g y ≡ x → ◌≡◌ {A = Option ℤ} (elim x [ true ↦ Some y | false ↦ None ]) (Some d) → SignedNumber s d × Range g d
        test true p r = (signed_number s d (e ∙ r), rw (same_Some y d r) at (decided_yes (in_range g y) p))
        test false p r = clash cc

    go : (o : Option ℕ) → find s ls ≡ o → (q : Option ℤ) → signed_digits s ≡ q
        → first_that (fits g) (listed (option_map (λ t. sub_ℕ t (a + 2)) o) ++ listed q) ≡ Some d → Takes ls a (Range g) s d
    go None e q f k = let n = numbered q f k in number (λ y r. let c = sym e ∙ r.found in clash cc) n.0 n.1
    go (Some t) e q f k = test (fits g (sub_ℕ t (a + 2))) refl k
      where
        test : (x : Bool) → fits g (sub_ℕ t (a + 2)) ≡ x → elim x [ true ↦ Some (sub_ℕ t (a + 2)) | false ↦ first_that (fits g) (listed q) ] ≡ Some d → Takes ls a (Range g) s d
        test true p r =
            let c = same_Some (sub_ℕ t (a + 2)) d r in
            label (record { target = t; found = e; leads = rw (← c) (leads_there (a + 2) t) }) (rw c at (decided_yes (in_range g (sub_ℕ t (a + 2))) p))
        test false p r =
            let n = numbered q f r in
            number (λ y w m. let same : w.target ≡ t = same_Some w.target t (sym w.found ∙ e) in
            let u : sub_ℕ t (a + 2) ≡ y = rw same at (leads_back (a + 2) w.target y w.leads) in
            let v = decided_true (in_range g y) m in
            let b : fits g y ≡ false = rw u at p in
            clash cc) n.0 n.1

first_head : (f : ℤ → Bool) (x d : ℤ) (ds : List ℤ) → x ≡ d → f d ≡ true → first_that f (x ∷ ds) ≡ Some d
unfolding first_that
first_head f x d ds e h = rw e (rw (h, first_that))

first_skip : (f : ℤ → Bool) (x : ℤ) (ds : List ℤ) → f x ≡ false → first_that f (x ∷ ds) ≡ first_that f ds
unfolding first_that
first_skip f x ds h = rw (h, first_that)

pub taken : (ls : Table) (a : ℕ) (g : Branching) (s : Text) (d : ℤ) → Takes ls a (Range g) s d → first_that (fits g) (displacements ls a s) ≡ Some d
unfolding displacements listed
taken ls a g s d (label r k) =
    rw r.found (first_head (fits g) (sub_ℕ r.target (a + 2)) d (listed (signed_digits s)) (leads_back (a + 2) r.target d r.leads) (decided_true (in_range g d) k))
taken ls a g s d (number away n k) = rw (signed_read n) (go (find s ls) refl)
  where
    go : (o : Option ℕ) → find s ls ≡ o → first_that (fits g) (listed (option_map (λ t. sub_ℕ t (a + 2)) o) ++ (d ∷ [])) ≡ Some d
    go None f = first_head (fits g) d d [] refl (decided_true (in_range g d) k)
    go (Some t) f =
        first_skip (fits g) (sub_ℕ t (a + 2)) (d ∷ [])
        (decided_false (in_range g (sub_ℕ t (a + 2))) (away (sub_ℕ t (a + 2)) (record { target = t; found = f; leads = leads_there (a + 2) t })))
        ∙ first_head (fits g) d d [] refl (decided_true (in_range g d) k)
