-- Totals added up and looked at: the sum, the highest of the twelve, how many sources; and refusals 20 and 21 by them. Assumes nothing.
use mathlib.Core.Path.{◌≡◌, refl, sym, ap, ◌∙◌}
use mathlib.Core.Bool.{Bool, true, false, ◌||◌}
use mathlib.Core.List.{List, [], ◌∷◌}
use Prim.Native.Nat.{ℕ, ◌*◌, ◌≤◌}
use native.Mathlib.Omega.{arith}
use borrow.Author.Tests.{ltb-false}
use lib.Dec.{ltb}
use Rattle.std.specs.Prelude.{nat_lt, sum, length}
use Rattle.std.specs.Bool.{OnFalse}
use Rattle.std.specs.List.{list_any}
use Rattle.std.proofs.lemmas.List.Sums.{sum_by-cons}
use Rattle.rules.specs.Text.{Text}
use Rattle.requests.specs.Sheet.{max_total, Totals as Said, numbers_in, source_sheet, any_over}
use Rattle.promises.proofs.Sheet.{own_within}
use Rattle.sheet.specs.Totals.{weight}

-- ---- whether one is too high
any_lem : (ns : List ℕ) → list_any (λ n. nat_lt max_total n) ns ≡ any_over ns
unfolding any_over
any_lem [] = refl
any_lem (n ∷ ns) = ap (λ (y : Bool). ltb max_total n || y) (any_lem ns)

pub over_is : (ns ms : List ℕ) → ns ≡ ms → list_any (λ n. nat_lt max_total n) ns ≡ any_over ms
over_is ns ms e = ap (list_any (λ n. nat_lt max_total n)) e ∙ any_lem ms

-- where none is over, each is low
or_false : (x y : Bool) → (x || y) ≡ false → (x ≡ false) × (y ≡ false)
or_false true y e = absurd cc
or_false false y e = (refl, e)

first_low : (n : ℕ) (ns : List ℕ) → any_over (n ∷ ns) ≡ false → (n ≤ max_total) × (any_over ns ≡ false)
unfolding any_over
first_low n ns e = let h = or_false (ltb max_total n) (any_over ns) e in (ltb-false max_total n h.0, h.1)

-- so all of them together, k by k
low_sum : (ns : List ℕ) → any_over ns ≡ false → sum ns ≤ length ns * max_total
low_sum [] e = omega arith
low_sum (n ∷ ns) e = let h = first_low n ns e in omega (arith, sum_by-cons (λ (x : ℕ). x) n ns, low_sum ns h.1, h.0)

none_over : (t : Said) → any_over (numbers_in t) ≡ false → weight t ≤ 12 * max_total
unfolding numbers_in
none_over t e = omega (arith, low_sum (numbers_in t) e)

pub over_low : (ns : List ℕ) (t : Said) → ns ≡ numbers_in t → OnFalse (list_any (λ n. nat_lt max_total n) ns) (weight t ≤ 12 * max_total)
over_low ns t e = go (list_any (λ n. nat_lt max_total n) ns) (over_is ns (numbers_in t) e)
  where
    go : (y : Bool) → y ≡ any_over (numbers_in t) → OnFalse y (weight t ≤ 12 * max_total)
    go true f = tt
    go false f = none_over t (sym f)

-- a source's own totals are low
pub own_low : (s : Text) → weight (source_sheet s) ≤ 12 * 8192
own_low s = omega (arith, own_within s)
