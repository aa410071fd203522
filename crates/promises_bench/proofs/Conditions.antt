-- After a compare the conditions are comparisons. Assumes nothing.
use Prim.Native.Nat.{ℕ, zero, suc, ◌+◌, ◌/◌, ◌%◌, ◌<◌, ◌≤◌}
use mathlib.Core.Path.{◌≡◌, refl, sym, ◌∙◌, ap}
use mathlib.Core.Bool.{Bool, true, false, cond, not, ◌&&◌, ◌||◌, false≢true}
use mathlib.Core.Logic.{◌↔◌, ◌⊎◌, inl, inr}
use native.Mathlib.Omega.{arith}
use native.Mathlib.Nat.{mod-add-mod}
use borrow.Author.Differences.{ints}
use borrow.Author.Tests.{ltb-true, ltb-false}
use lib.Dec.{ltb}
use lib.IntN.{ℤ, pos, neg_ℤ, ◌+ℤ◌, ◌-ℤ◌, ◌*ℤ◌}
use lib.Signed.{lt_z, ≤ℤ_refl, <ℤ_irrefl, ◌≤ℤ◌, ◌<ℤ◌}
use Rattle.machine.specs.Flags.{fits_in, holds}
use Rattle.machine.specs.Form.{listed}
use Rattle.machine.specs.Machine.{State, act_of}
use Rattle.machine.specs.declared.Flags.{Flags}
use Rattle.machine.specs.declared.Form.TheVariants.{Cmp}
use Rattle.promises_bench.specs.Steps.{signed_as, low_word, Dn, PlainState, Reduced, InRange, CmpIsTheManuals, BranchIsTheManuals, Met, T, CC, CS, NE, EQ, GE, LT, GT, LE_zero, LE_less}
use Rattle.promises_bench.specs.Conditions.{Compares, always, higher, lower_or_same, carry_clear, carry_set, not_equal, equal, overflow_clear, overflow_set, plus_sign, minus_sign, greater_or_equal, less_than, greater_than, less_or_equal, ConditionsCompare, BranchesCompare}
use Rattle.promises_bench.proofs.StepsLaws.{in_word, not_word, out_word}
use Rattle.promises_bench.proofs.StepsMet.{met, branch_listed, negated}
use Rattle.promises_bench.proofs.StepsForms.{cmp_is_the_manuals, branch_is_the_manuals, step_plain}

-- a word and how it reads
data Half (n : ℕ) (z : ℤ) : Type 0 where
  low : z ≡ pos n → n < 32768 → Half n z
  high : z ≡ pos n -ℤ pos 65536 → 32768 ≤ n → Half n z

half : (n : ℕ) → Half n (signed_as 16 n)
unfolding signed_as
half n = go (ltb n 32768) refl
  where
    go : (x : Bool) → ltb n 32768 ≡ x → Half n (cond x (pos n) (pos n -ℤ pos 65536))
    go true e = low refl (ltb-true n 32768 e)
    go false e = high refl (ltb-false n 32768 e)

record Bounds (z : ℤ) : Type 0 where
  least : neg_ℤ (pos 32768) ≤ℤ z
  most : z <ℤ pos 32768

bounds : (n : ℕ) (z : ℤ) → n < 65536 → Half n z → Bounds z
bounds n z l (low e h) = record { least = omega (ints, arith); most = omega (ints, arith) }
bounds n z l (high e h) = record { least = omega (ints, arith); most = omega (ints, arith) }

-- a difference of signed words is the signed difference, or 65536 away
record Away (d z : ℤ) : Type 0 where
  times : ℤ
  is : d ≡ z +ℤ times *ℤ pos 65536

away : (a b r : ℕ) (t x y z : ℤ) → pos b -ℤ pos a ≡ pos r +ℤ t *ℤ pos 65536 → Half a x → Half b y → Half r z → Away (y -ℤ x) z
away a b r t x y z e (low p _) (low q _) (low w _) = record { times = t; is = omega (ints, arith) }
away a b r t x y z e (low p _) (low q _) (high w _) = record { times = t +ℤ pos 1; is = omega (ints, arith) }
away a b r t x y z e (low p _) (high q _) (low w _) = record { times = t -ℤ pos 1; is = omega (ints, arith) }
away a b r t x y z e (low p _) (high q _) (high w _) = record { times = t; is = omega (ints, arith) }
away a b r t x y z e (high p _) (low q _) (low w _) = record { times = t +ℤ pos 1; is = omega (ints, arith) }
away a b r t x y z e (high p _) (low q _) (high w _) = record { times = t +ℤ pos 2; is = omega (ints, arith) }
away a b r t x y z e (high p _) (high q _) (low w _) = record { times = t; is = omega (ints, arith) }
away a b r t x y z e (high p _) (high q _) (high w _) = record { times = t +ℤ pos 1; is = omega (ints, arith) }

one_word : (a b : ℕ) (x : ℤ) → a < 65536 → b < 65536 → Half a x → Half b x → b ≡ a
one_word a b x la lb (low p _) (low q _) = omega (ints, arith)
one_word a b x la lb (low p _) (high q _) = omega (ints, arith)
one_word a b x la lb (high p _) (low q _) = omega (ints, arith)
one_word a b x la lb (high p _) (high q _) = omega (ints, arith)

order : (x y : ℤ) → (y <ℤ x) ⊎ (x ≤ℤ y)
order x y = go (lt_z y x) refl
  where
    go : (t : Bool) → lt_z y x ≡ t → (y <ℤ x) ⊎ (x ≤ℤ y)
    go true e = inl (omega (ints, arith))
    go false e = inr (omega (ints, arith))

is_false : (b : Bool) → (b ≡ true → ⊥) → b ≡ false
is_false true f = absurd (f refl)
is_false false f = refl

-- numbers
below_out : (x y z t : ℤ) → y -ℤ x ≡ z +ℤ t *ℤ pos 65536 → Bounds x → Bounds y → Bounds z → (y -ℤ x) <ℤ neg_ℤ (pos 32768) → z <ℤ pos 0 → ⊥
below_out x y z t e a b c k n =
    let p = a.most in let q = b.least in let o = c.least in let w = c.most in
    omega (ints, arith)

above : (a b : ℕ) → ¬ (b < a) → a ≤ b
above a b n = go (ltb b a) refl
  where
    go : (t : Bool) → ltb b a ≡ t → a ≤ b
    go true e = absurd (n (ltb-true b a e))
    go false e = ltb-false b a e

at_least : (x y : ℤ) → ¬ (y <ℤ x) → x ≤ℤ y
at_least x y n = elim (order x y) [ inl l ↦ absurd (n l) | inr l ↦ l ]

at_most : (x y : ℤ) → ¬ (x ≤ℤ y) → y <ℤ x
at_most x y n = elim (order x y) [ inl l ↦ l | inr l ↦ absurd (n l) ]

strictly : (x y : ℤ) → x ≤ℤ y → ¬ (x ≡ y) → x <ℤ y
strictly x y l n = elim (order y x) [ inl k ↦ k | inr k ↦ absurd (n (omega (ints, arith))) ]

equal_reading : (x y : ℤ) → y ≤ℤ x → x ≤ℤ y → x ≡ y
equal_reading x y k l = omega (ints, arith)

same_word : (a b : ℕ) → a < 65536 → b < 65536 → signed_as 16 a ≡ signed_as 16 b → b ≡ a
same_word a b la lb e = one_word a b (signed_as 16 a) la lb (half a) (rw e (half b))

same_reading : (a b : ℕ) → b ≡ a → signed_as 16 b ≤ℤ signed_as 16 a
same_reading a b e = rw e (≤ℤ_refl (signed_as 16 a))

apart_reading : (a b : ℕ) → signed_as 16 a <ℤ signed_as 16 b → ¬ (b ≡ a)
apart_reading a b l e = <ℤ_irrefl (rw e at l)

no_difference : (a b r : ℕ) (t : ℤ) → a < 65536 → b < 65536 → pos b -ℤ pos a ≡ pos r +ℤ t *ℤ pos 65536 → r ≡ 0 → b ≡ a
no_difference a b r t la lb e z = omega (ints, arith)

all_difference : (a b r : ℕ) (t : ℤ) → r < 65536 → pos b -ℤ pos a ≡ pos r +ℤ t *ℤ pos 65536 → b ≡ a → r ≡ 0
all_difference a b r t lr e z = omega (ints, arith)

within_not : (x y z : ℤ) (t : ℤ) → y -ℤ x ≡ z +ℤ t *ℤ pos 65536 → Bounds z → x ≤ℤ y → InRange 16 (y -ℤ x) → z <ℤ pos 0 → ⊥
within_not x y z t e b l i n =
    let p = b.least in let q = b.most in let o = i.most in
    omega (ints, arith)

above_out : (x y z : ℤ) (t : ℤ) → y -ℤ x ≡ z +ℤ t *ℤ pos 65536 → Bounds x → Bounds y → Bounds z → x ≤ℤ y
    → ((y -ℤ x) <ℤ neg_ℤ (pos 32768)) ⊎ (pos 32768 ≤ℤ (y -ℤ x)) → z <ℤ pos 0
above_out x y z t e a b c l (inl k) = absurd (omega (ints, arith))
above_out x y z t e a b c l (inr k) =
    let p = a.least in let q = b.most in let o = c.least in let w = c.most in
    omega (ints, arith)

-- what the flags of a compare say
module _ (f : Flags) (a b r : ℕ) (la : a < 65536) (lb : b < 65536) (lr : r < 65536)
    (d : Away (signed_as 16 b -ℤ signed_as 16 a) (signed_as 16 r))
    (negative : (f.n ≡ true) ↔ (signed_as 16 r <ℤ pos 0))
    (overflow : (f.v ≡ true) ↔ (¬ InRange 16 (signed_as 16 b -ℤ signed_as 16 a))) where
  bx : Bounds (signed_as 16 a)
  bx = bounds a _ la (half a)

  by : Bounds (signed_as 16 b)
  by = bounds b _ lb (half b)

  bz : Bounds (signed_as 16 r)
  bz = bounds r _ lr (half r)

  less : signed_as 16 b <ℤ signed_as 16 a → ¬ (f.n ≡ f.v)
  less l same = go (fits_in 32768 (signed_as 16 b -ℤ signed_as 16 a)) refl
    where
      go : (u : Bool) → fits_in 32768 (signed_as 16 b -ℤ signed_as 16 a) ≡ u → ⊥
      go true u =
          let i = in_word (signed_as 16 b -ℤ signed_as 16 a) u in
          let e = d.is in
          let p = bx.least in let q = by.most in let o = bz.least in let w = bz.most in let j = i.least in
          let n : f.n ≡ true = negative.1 (omega (ints, arith)) in
          overflow.0 (sym same ∙ n) i
      go false u =
          let o = out_word (signed_as 16 b -ℤ signed_as 16 a) u in
          let v : f.v ≡ true = overflow.1 (not_word (signed_as 16 b -ℤ signed_as 16 a) u) in
          let n = negative.0 (same ∙ v) in
          let e = d.is in
          elim o [ inl k ↦ below_out (signed_as 16 a) (signed_as 16 b) (signed_as 16 r) d.times e bx by bz k n | inr k ↦ omega (ints, arith) ]

  not_less : signed_as 16 a ≤ℤ signed_as 16 b → f.n ≡ f.v
  not_less l = go (fits_in 32768 (signed_as 16 b -ℤ signed_as 16 a)) refl
    where
      go : (u : Bool) → fits_in 32768 (signed_as 16 b -ℤ signed_as 16 a) ≡ u → f.n ≡ f.v
      go true u =
          let i = in_word (signed_as 16 b -ℤ signed_as 16 a) u in
          let v : f.v ≡ false = is_false f.v (λ e. overflow.0 e i) in
          let n : f.n ≡ false = is_false f.n (λ e. within_not (signed_as 16 a) (signed_as 16 b) (signed_as 16 r) d.times d.is bz l i (negative.0 e)) in
          n ∙ sym v
      go false u =
          let o = out_word (signed_as 16 b -ℤ signed_as 16 a) u in
          let v : f.v ≡ true = overflow.1 (not_word (signed_as 16 b -ℤ signed_as 16 a) u) in
          let n : f.n ≡ true = negative.1 (above_out (signed_as 16 a) (signed_as 16 b) (signed_as 16 r) d.times d.is bx by bz l o) in
          n ∙ sym v

-- one remainder
one_rest : (z : ℤ) (r w : ℕ) → Reduced 65536 z r → Reduced 65536 z w → r ≡ w
one_rest z r w p q =
    let a = p.below in let b = p.away in let c = q.below in let d = q.away in
    omega (ints, arith)

below_zero : (z : ℤ) → pos 0 ≤ℤ z → z <ℤ pos 0 → ⊥
below_zero z l h = omega (ints, arith)

higher_of : (a b : ℕ) → a ≤ b → ¬ (b ≡ a) → a < b
higher_of a b l n = go (ltb a b) refl
  where
    go : (t : Bool) → ltb a b ≡ t → a < b
    go true e = ltb-true a b e
    go false e = let h = ltb-false a b e in absurd (n (omega arith))

same_or_lower : (a b : ℕ) → b ≤ a → (b < a) ⊎ (b ≡ a)
same_or_lower a b l = go (ltb b a) refl
  where
    go : (t : Bool) → ltb b a ≡ t → (b < a) ⊎ (b ≡ a)
    go true e = inl (ltb-true b a e)
    go false e = let h = ltb-false b a e in inr (omega arith)

neither : (c z : Bool) → (not c && not z) ≡ true → (c ≡ false) × (z ≡ false)
neither true z e = absurd (false≢true e)
neither false true e = absurd (false≢true e)
neither false false e = (refl, refl)

of_neither : (c z : Bool) → c ≡ false → z ≡ false → (not c && not z) ≡ true
of_neither c z d e = rw (d, e) refl

either : (c z : Bool) → (c || z) ≡ true → (c ≡ true) ⊎ (z ≡ true)
either true z e = inl refl
either false z e = inr e

of_either : (c z : Bool) → (c ≡ true) ⊎ (z ≡ true) → (c || z) ≡ true
of_either true z p = refl
of_either false z (inl e) = absurd (false≢true e)
of_either false z (inr e) = e

-- the conditions of a compare of b with a
record Compared (f : Flags) (a b : ℕ) : Type 0 where
  carry : (f.c ≡ true) ↔ (b < a)
  zero : (f.z ≡ true) ↔ (b ≡ a)
  overflow : (f.v ≡ true) ↔ (¬ InRange 16 (signed_as 16 b -ℤ signed_as 16 a))
  rest : ℕ
  is : Reduced 65536 (pos b -ℤ pos a) rest
  negative : (f.n ≡ true) ↔ (signed_as 16 rest <ℤ pos 0)
  less : signed_as 16 b <ℤ signed_as 16 a → ¬ (f.n ≡ f.v)
  not_less : signed_as 16 a ≤ℤ signed_as 16 b → f.n ≡ f.v

compared : (s : State) (n m : ℕ) → PlainState s → n < 8 → m < 8
    → Compared (act_of (Cmp n m) s).flags (low_word (Dn s n)) (low_word (Dn s m))
unfolding CmpIsTheManuals
compared s n m p l h =
    let c = cmp_is_the_manuals s n m p l h in
    let a = low_word (Dn s n) in
    let b = low_word (Dn s m) in
    let la : a < 65536 = omega arith in
    let lb : b < 65536 = omega arith in
    let r = c.difference in
    let lr = c.is.below in
    let d = away a b r c.is.times _ _ _ c.is.away (half a) (half b) (half r) in
    let f = (act_of (Cmp n m) s).flags in
    record {
      carry = c.borrow;
      zero = ((λ e. no_difference a b r c.is.times la lb c.is.away (c.marks.zero.0 e)), (λ e. c.marks.zero.1 (all_difference a b r c.is.times lr c.is.away e)));
      overflow = c.overflow;
      rest = r;
      is = c.is;
      negative = c.marks.negative;
      less = less f a b r la lb lr d c.marks.negative c.overflow;
      not_less = not_less f a b r la lb lr d c.marks.negative c.overflow;
    }

module _ (f : Flags) (a b : ℕ) (la : a < 65536) (lb : b < 65536) (c : Compared f a b) where
  in_range : f.v ≡ false → InRange 16 (signed_as 16 b -ℤ signed_as 16 a)
  in_range e = go (fits_in 32768 (signed_as 16 b -ℤ signed_as 16 a)) refl
    where
      go : (u : Bool) → fits_in 32768 (signed_as 16 b -ℤ signed_as 16 a) ≡ u → InRange 16 (signed_as 16 b -ℤ signed_as 16 a)
      go true u = in_word _ u
      go false u = absurd (false≢true (sym e ∙ c.overflow.1 (not_word _ u)))

  of_rest : (r : ℕ) → Reduced 65536 (pos b -ℤ pos a) r → signed_as 16 r ≡ signed_as 16 c.rest
  of_rest r i = ap (signed_as 16) (one_rest _ r c.rest i c.is)

  -- what a branch's condition says
  compares : (k : ℕ) → Met f k → Compares a b k
  compares k T = always
  compares k (CC e) = carry_clear (above a b (λ l. false≢true (sym e ∙ c.carry.1 l)))
  compares k (CS e) = carry_set (c.carry.0 e)
  compares k (NE e) = not_equal (λ q. false≢true (sym e ∙ c.zero.1 q))
  compares k (EQ e) = equal (c.zero.0 e)
  compares k (GE e) = greater_or_equal (at_least _ _ (λ l. c.less l e))
  compares k (LT e) = less_than (at_most _ _ (λ l. e (c.not_less l)))
  compares k (GT e g) =
      greater_than (strictly _ _ (at_least _ _ (λ l. c.less l g)) (λ q. false≢true (sym e ∙ c.zero.1 (same_word a b la lb q))))
  compares k (LE_zero e) = less_or_equal (same_reading a b (c.zero.0 e))
  compares k (LE_less e) = let l = at_most _ _ (λ l. e (c.not_less l)) in less_or_equal (omega (ints, arith))

  -- what any condition says
  says : (k : ℕ) → k < 16 → holds k f ≡ true → Compares a b k
  unfolding holds listed
  says zero l e = always
  says (suc zero) l e = absurd (false≢true e)
  says (suc (suc zero)) l e =
      let p = neither f.c f.z e in
      higher (higher_of a b (above a b (λ l. false≢true (sym p.0 ∙ c.carry.1 l))) (λ q. false≢true (sym p.1 ∙ c.zero.1 q)))
  says (suc (suc (suc zero))) l e =
      elim (either f.c f.z e) [ inl d ↦ lower_or_same (let h = c.carry.0 d in omega arith) | inr d ↦ lower_or_same (let h = c.zero.0 d in omega arith) ]
  says (suc (suc (suc (suc zero)))) l e = compares 4 ((met 4 f refl).0 e)
  says (suc (suc (suc (suc (suc zero))))) l e = compares 5 ((met 5 f refl).0 e)
  says (suc (suc (suc (suc (suc (suc zero)))))) l e = compares 6 ((met 6 f refl).0 e)
  says (suc (suc (suc (suc (suc (suc (suc zero))))))) l e = compares 7 ((met 7 f refl).0 e)
  says (suc (suc (suc (suc (suc (suc (suc (suc zero)))))))) l e = overflow_clear (in_range ((negated f.v).0 e))
  says (suc (suc (suc (suc (suc (suc (suc (suc (suc zero))))))))) l e = overflow_set (c.overflow.0 e)
  says (suc (suc (suc (suc (suc (suc (suc (suc (suc (suc zero)))))))))) l e =
      plus_sign c.rest c.is (at_least _ _ (λ l. false≢true (sym ((negated f.n).0 e) ∙ c.negative.1 l)))
  says (suc (suc (suc (suc (suc (suc (suc (suc (suc (suc (suc zero))))))))))) l e = minus_sign c.rest c.is (c.negative.0 e)
  says (suc (suc (suc (suc (suc (suc (suc (suc (suc (suc (suc (suc zero)))))))))))) l e = compares 12 ((met 12 f refl).0 e)
  says (suc (suc (suc (suc (suc (suc (suc (suc (suc (suc (suc (suc (suc zero))))))))))))) l e = compares 13 ((met 13 f refl).0 e)
  says (suc (suc (suc (suc (suc (suc (suc (suc (suc (suc (suc (suc (suc (suc zero)))))))))))))) l e = compares 14 ((met 14 f refl).0 e)
  says (suc (suc (suc (suc (suc (suc (suc (suc (suc (suc (suc (suc (suc (suc (suc zero))))))))))))))) l e = compares 15 ((met 15 f refl).0 e)
  says (suc (suc (suc (suc (suc (suc (suc (suc (suc (suc (suc (suc (suc (suc (suc (suc k)))))))))))))))) l e = absurd (omega arith)

  -- and back
  meets : (k : ℕ) → Compares a b k → holds k f ≡ true
  unfolding holds listed
  meets k always = refl
  meets k (higher h) = of_neither f.c f.z (is_false f.c (λ e. let l = c.carry.0 e in omega arith)) (is_false f.z (λ e. let q = c.zero.0 e in omega arith))
  meets k (lower_or_same h) = of_either f.c f.z (elim (same_or_lower a b h) [ inl l ↦ inl (c.carry.1 l) | inr q ↦ inr (c.zero.1 q) ])
  meets k (carry_clear h) = (met 4 f refl).1 (CC (is_false f.c (λ e. let l = c.carry.0 e in omega arith)))
  meets k (carry_set h) = c.carry.1 h
  meets k (not_equal h) = (met 6 f refl).1 (NE (is_false f.z (λ e. h (c.zero.0 e))))
  meets k (equal h) = c.zero.1 h
  meets k (overflow_clear h) = (negated f.v).1 (is_false f.v (λ e. c.overflow.0 e h))
  meets k (overflow_set h) = c.overflow.1 h
  meets k (plus_sign r i h) = (negated f.n).1 (is_false f.n (λ e. below_zero _ (rw (of_rest r i) at h) (c.negative.0 e)))
  meets k (minus_sign r i h) = c.negative.1 (rw (of_rest r i) at h)
  meets k (greater_or_equal h) = (met 12 f refl).1 (GE (c.not_less h))
  meets k (less_than h) = (met 13 f refl).1 (LT (c.less h))
  meets k (greater_than h) =
      (met 14 f refl).1 (GT (is_false f.z (λ e. apart_reading a b h (c.zero.0 e))) (c.not_less (omega (ints, arith))))
  meets k (less_or_equal h) =
      (met 15 f refl).1 (elim (order (signed_as 16 a) (signed_as 16 b)) [
        | inl l ↦ LE_less (c.less l)
        | inr l ↦ LE_zero (c.zero.1 (same_word a b la lb (equal_reading _ _ h l)))
      ])

pub conditions_compare : ConditionsCompare
unfolding ConditionsCompare
conditions_compare s n m k p l h i =
    let c = compared s n m p l h in
    (says _ _ _ (omega arith) (omega arith) c k i, meets _ _ _ (omega arith) (omega arith) c k)

-- two steps' places
further : (pc n : ℕ) (d : ℤ) → Reduced 4294967296 (pos ((pc + 2) % 4294967296 + 2) +ℤ d) n → Reduced 4294967296 (pos (pc + 4) +ℤ d) n
further pc n d r =
    let a = r.away in
    record { below = r.below; times = r.times +ℤ pos ((pc + 2) / 4294967296); away = omega (ints, arith) }

pub branches_compare : BranchesCompare
unfolding BranchesCompare BranchIsTheManuals act_of
branches_compare s n m k b p l h v o u =
    let t = act_of (Cmp n m) s in
    let q = step_plain (Cmp n m) s p in
    let j = branch_is_the_manuals t k b q v o u in
    let c = compared s n m p l h in
    record {
      taken = λ w. further s.pc _ _ (j.taken ((met k t.flags (branch_listed k v)).0 (meets _ _ _ (omega arith) (omega arith) c k w)));
      passed = λ n. j.passed (λ w. n (compares _ _ _ (omega arith) (omega arith) c k w)) ∙ (mod-add-mod (s.pc + 2) 4294967296 2 ∙ ap (λ (y : ℕ). y % 4294967296) (omega arith));
    }
