-- A list without pairs: no mark over 1, none bad. Assumes nothing.
use Rattle.std.proofs.Common.{◌≡◌, ℕ, zero, suc, ◌≤◌, max, Bool, true, false, cond, eqb, ℤ, ◌||◌, ltb, List, [], ◌∷◌, length, get_or, refl, arith, le-ltb, lt-ltb, ltb-true, ltb-false, ne_eqb}
use Rattle.std.specs.List.{list_any, fold}
use Rattle.std.specs.Prelude.{None}
use Rattle.rules.specs.Relocate.{added_word, moved_word, first_in, bad_mark, first_bad_mark}

or_false : (x : Bool) → x ≡ (x || false)
or_false true = refl
or_false false = refl

or_assoc : (x y z : Bool) → ((x || y) || z) ≡ (x || (y || z))
or_assoc true y z = refl
or_assoc false y z = refl

over_max : (t m : ℕ) → ltb 1 (max t m) ≡ (ltb 1 t || ltb 1 m)
over_max t m = go (ltb 1 t) refl (ltb 1 m) refl
  where
    go : (x : Bool) → ltb 1 t ≡ x → (y : Bool) → ltb 1 m ≡ y → ltb 1 (max t m) ≡ (x || y)
    go true p y q = let h = ltb-true 1 t p in lt-ltb 1 (max t m) (omega arith)
    go false p true q = let h = ltb-true 1 m q in lt-ltb 1 (max t m) (omega arith)
    go false p false q = let h = ltb-false 1 t p in let k = ltb-false 1 m q in le-ltb 1 (max t m) (omega arith)

abbrev pub any_pair : List ℕ → Bool
any_pair ms = list_any (λ m. ltb 1 m) ms

none_first : (m : ℕ) (ms : List ℕ) → any_pair (m ∷ ms) ≡ false → (m ≤ 1) × (any_pair ms ≡ false)
none_first m ms e = go (ltb 1 m) refl (any_pair ms) e
  where
    go : (x : Bool) → ltb 1 m ≡ x → (y : Bool) → (x || y) ≡ false → (m ≤ 1) × (y ≡ false)
    go true p y e = absurd (let z : ◌≡◌ {A = ℕ} 0 1 = cc in omega arith)
    go false p y e = (ltb-false 1 m p, e)

pub none_over : (ms : List ℕ) (i : ℕ) → any_pair ms ≡ false → get_or ms i 0 ≤ 1
none_over [] i e = omega arith
none_over (m ∷ ms) zero e = (none_first m ms e).0
none_over (m ∷ ms) (suc i) e = none_over ms i (none_first m ms e).1

good_low : (b m a : ℕ) → m ≤ 1 → bad_mark b m a ≡ false
unfolding bad_mark
good_low b m a h = rw (le-ltb 3 m (omega arith), ne_eqb m 2 (λ e. omega arith), ne_eqb m 3 (λ e. omega arith))

pub none_bad : (b i : ℕ) (ms : List ℕ) → any_pair ms ≡ false → first_bad_mark b i (length ms) ms ≡ None
unfolding first_bad_mark
none_bad b i [] e = refl
none_bad b i (m ∷ ms) e = let p = none_first m ms e in rw (good_low b m (first_in (length ms) ms) p.0, first_bad_mark) (none_bad m (suc i) ms p.1)

-- ---- the highest mark tells it
over : (t : ℕ) (ms : List ℕ) → ltb 1 (fold max t ms) ≡ (ltb 1 t || any_pair ms)
over t [] = or_false (ltb 1 t)
over t (m ∷ ms) = rw (over (max t m) ms, over_max t m) (or_assoc (ltb 1 t) (ltb 1 m) (any_pair ms))

pub over_top : (ms : List ℕ) → ltb 1 (fold max 0 ms) ≡ any_pair ms
over_top ms = over 0 ms

-- a word of a list without pairs
pub single : (d : ℤ) (m w v : ℕ) → m ≤ 1 → cond (eqb m 0) w (added_word d w) ≡ moved_word d m w v
unfolding moved_word
single d zero w v h = refl
single d (suc zero) w v h = refl
single d (suc (suc m)) w v h = absurd (omega arith)
