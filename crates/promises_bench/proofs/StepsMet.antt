-- A listed condition holds exactly if it is met, by the manual's table. Assumes nothing.
use Prim.Native.Nat.{ℕ, zero, suc}
use mathlib.Core.Path.{◌≡◌, refl, sym}
use mathlib.Core.Bool.{Bool, true, false, not, ◌&&◌, ◌||◌, false≢true}
use mathlib.Core.Logic.{◌↔◌, ◌⊎◌, inl, inr}
use Rattle.machine.specs.Form.{listed}
use Rattle.machine.specs.Flags.{holds}
use Rattle.machine.specs.declared.Flags.{Flags}
use Rattle.promises_bench.specs.Steps.{HasBranch, bra, bcc, bcs, bne, beq, bge, blt, bgt, ble, Met, T, CC, CS, NE, EQ, GE, LT, GT, LE_zero, LE_less}

true_not : true ≡ false → ⊥
true_not e = false≢true (sym e)

pub negated : (b : Bool) → (not b ≡ true) ↔ (b ≡ false)
negated true = ((λ e. absurd (false≢true e)), (λ e. absurd (true_not e)))
negated false = ((λ e. refl), (λ e. refl))

same_sign : (n v : Bool) → ((n && v || not n && not v) ≡ true) ↔ (n ≡ v)
same_sign true true = ((λ e. refl), (λ e. refl))
same_sign true false = ((λ e. absurd (false≢true e)), (λ e. absurd (true_not e)))
same_sign false true = ((λ e. absurd (false≢true e)), (λ e. absurd (false≢true e)))
same_sign false false = ((λ e. refl), (λ e. refl))

other_sign : (n v : Bool) → ((n && not v || not n && v) ≡ true) ↔ (¬ (n ≡ v))
other_sign true true = ((λ e. absurd (false≢true e)), (λ f. absurd (f refl)))
other_sign true false = ((λ e d. true_not d), (λ f. refl))
other_sign false true = ((λ e d. false≢true d), (λ f. refl))
other_sign false false = ((λ e. absurd (false≢true e)), (λ f. absurd (f refl)))

greater : (n z v : Bool) → ((n && v && not z || not n && not v && not z) ≡ true) ↔ ((z ≡ false) × (n ≡ v))
greater true true true = ((λ e. absurd (false≢true e)), (λ p. absurd (true_not p.0)))
greater true true false = ((λ e. absurd (false≢true e)), (λ p. absurd (true_not p.0)))
greater false true true = ((λ e. absurd (false≢true e)), (λ p. absurd (true_not p.0)))
greater false true false = ((λ e. absurd (false≢true e)), (λ p. absurd (true_not p.0)))
greater true false true = ((λ e. (refl, refl)), (λ p. refl))
greater true false false = ((λ e. absurd (false≢true e)), (λ p. absurd (true_not p.1)))
greater false false true = ((λ e. absurd (false≢true e)), (λ p. absurd (false≢true p.1)))
greater false false false = ((λ e. (refl, refl)), (λ p. refl))

less_or_zero : (n z v : Bool) → ((z || n && not v || not n && v) ≡ true) ↔ ((z ≡ true) ⊎ (¬ (n ≡ v)))
less_or_zero n true v = ((λ e. inl refl), (λ p. refl))
less_or_zero n false v = let o = other_sign n v in ((λ e. inr (o.0 e)), (λ p. elim p [ inl q ↦ absurd (false≢true q) | inr q ↦ o.1 q ]))

-- a branch's conditions are the machine's listed ones
pub branch_listed : (k : ℕ) → HasBranch k → listed k ≡ true
unfolding listed
branch_listed k bra = refl
branch_listed k bcc = refl
branch_listed k bcs = refl
branch_listed k bne = refl
branch_listed k beq = refl
branch_listed k bge = refl
branch_listed k blt = refl
branch_listed k bgt = refl
branch_listed k ble = refl

-- back from what is met
cc_of : (f : Flags) → Met f 4 → f.c ≡ false
cc_of f (CC e) = e

cs_of : (f : Flags) → Met f 5 → f.c ≡ true
cs_of f (CS e) = e

ne_of : (f : Flags) → Met f 6 → f.z ≡ false
ne_of f (NE e) = e

eq_of : (f : Flags) → Met f 7 → f.z ≡ true
eq_of f (EQ e) = e

ge_of : (f : Flags) → Met f 12 → f.n ≡ f.v
ge_of f (GE e) = e

lt_of : (f : Flags) → Met f 13 → ¬ (f.n ≡ f.v)
lt_of f (LT e) = e

gt_of : (f : Flags) → Met f 14 → (f.z ≡ false) × (f.n ≡ f.v)
gt_of f (GT e d) = (e, d)

le_of : (f : Flags) → Met f 15 → (f.z ≡ true) ⊎ (¬ (f.n ≡ f.v))
le_of f (LE_zero e) = inl e
le_of f (LE_less e) = inr e

of_le : (f : Flags) → (f.z ≡ true) ⊎ (¬ (f.n ≡ f.v)) → Met f 15
of_le f (inl e) = LE_zero e
of_le f (inr e) = LE_less e

none : (f : Flags) (k : ℕ) → Met f (suc (suc (suc (suc (suc (suc (suc (suc (suc (suc (suc (suc (suc (suc (suc (suc k)))))))))))))))) → ⊥
none f k m = elim m [ ]

pub met : (k : ℕ) (f : Flags) → listed k ≡ true → (holds k f ≡ true) ↔ Met f k
unfolding listed holds
met zero f l = ((λ e. T), (λ m. refl))
met (suc zero) f l = absurd (false≢true l)
met (suc (suc zero)) f l = absurd (false≢true l)
met (suc (suc (suc zero))) f l = absurd (false≢true l)
met (suc (suc (suc (suc zero)))) f l = let n = negated f.c in ((λ e. CC (n.0 e)), (λ m. n.1 (cc_of f m)))
met (suc (suc (suc (suc (suc zero))))) f l = ((λ e. CS e), (λ m. cs_of f m))
met (suc (suc (suc (suc (suc (suc zero)))))) f l = let n = negated f.z in ((λ e. NE (n.0 e)), (λ m. n.1 (ne_of f m)))
met (suc (suc (suc (suc (suc (suc (suc zero))))))) f l = ((λ e. EQ e), (λ m. eq_of f m))
met (suc (suc (suc (suc (suc (suc (suc (suc zero)))))))) f l = absurd (false≢true l)
met (suc (suc (suc (suc (suc (suc (suc (suc (suc zero))))))))) f l = absurd (false≢true l)
met (suc (suc (suc (suc (suc (suc (suc (suc (suc (suc zero)))))))))) f l = absurd (false≢true l)
met (suc (suc (suc (suc (suc (suc (suc (suc (suc (suc (suc zero))))))))))) f l = absurd (false≢true l)
met (suc (suc (suc (suc (suc (suc (suc (suc (suc (suc (suc (suc zero)))))))))))) f l = let n = same_sign f.n f.v in ((λ e. GE (n.0 e)), (λ m. n.1 (ge_of f m)))
met (suc (suc (suc (suc (suc (suc (suc (suc (suc (suc (suc (suc (suc zero))))))))))))) f l = let n = other_sign f.n f.v in ((λ e. LT (n.0 e)), (λ m. n.1 (lt_of f m)))
met (suc (suc (suc (suc (suc (suc (suc (suc (suc (suc (suc (suc (suc (suc zero)))))))))))))) f l = let n = greater f.n f.z f.v in ((λ e. (let p = n.0 e in GT p.0 p.1)), (λ m. n.1 (gt_of f m)))
met (suc (suc (suc (suc (suc (suc (suc (suc (suc (suc (suc (suc (suc (suc (suc zero))))))))))))))) f l = let n = less_or_zero f.n f.z f.v in ((λ e. of_le f (n.0 e)), (λ m. n.1 (le_of f m)))
met (suc (suc (suc (suc (suc (suc (suc (suc (suc (suc (suc (suc (suc (suc (suc (suc k)))))))))))))))) f l = ((λ e. absurd (false≢true e)), (λ m. absurd (none f k m)))
