-- How two numbers stand to one another. Assumes nothing.
use Prim.Native.Nat.{ℕ, ◌<◌}
use mathlib.Core.Path.{◌≡◌, refl}
use mathlib.Core.Bool.{Bool, true, false}
use native.Mathlib.Omega.{arith}
use borrow.Author.Tests.{ltb-true, ltb-false}
use lib.Dec.{ltb}

-- two constructors are never equal: cc shows 0 ≡ 1
pub clash {ℓ} : {X : Type ℓ} → ◌≡◌ {A = ℕ} 0 1 → X
clash e = absurd (let h : ◌≡◌ {A = ℕ} 0 1 = e in omega arith)

-- how two numbers stand to one another
pub data Compared (m n : ℕ) : Type 0 where
  less : m < n → Compared m n
  more : n < m → Compared m n
  equal : m ≡ n → Compared m n

pub compared : (m n : ℕ) → Compared m n
compared m n = go (ltb m n) refl (ltb n m) refl
  where
    go : (y : Bool) → ltb m n ≡ y → (z : Bool) → ltb n m ≡ z → Compared m n
    go true e z f = less (ltb-true m n e)
    go false e true f = more (ltb-true n m f)
    go false e false f = equal (let h = ltb-false m n e in let k = ltb-false n m f in omega arith)
