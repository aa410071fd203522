-- Tests that decide a proposition, and options that are there. Assumes nothing.
use Rattle.std.specs.Prelude.{Option, None, Some}
use Rattle.rules.specs.Option.{bind}
use mathlib.Core.Path.{◌≡◌, refl, sym}
use mathlib.Core.Bool.{Bool, true, false, false≢true}
use Rattle.rules.specs.Encode.{is_some}

-- a test that decides P
pub data Decided (P : Type 0) : Bool → Type 0 where
  yes : P → Decided P true
  no : ¬ P → Decided P false

pub decided_yes : {P : Type 0} {x : Bool} → Decided P x → x ≡ true → P
decided_yes (yes p) e = p
decided_yes (no n) e = absurd (false≢true e)

pub decided_true : {P : Type 0} {x : Bool} → Decided P x → P → x ≡ true
decided_true (yes p) q = refl
decided_true (no n) q = absurd (n q)

pub decided_false : {P : Type 0} {x : Bool} → Decided P x → ¬ P → x ≡ false
decided_false (yes p) m = absurd (m p)
decided_false (no n) m = refl

-- what is there, and what is not
pub there : {A : Type 0} (o : Option A) → is_some o ≡ true → (x : A) × (o ≡ Some x)
unfolding is_some
there None e = absurd (false≢true e)
there (Some x) e = (x, refl)

pub none_there : {A : Type 0} (o : Option A) → is_some o ≡ false → o ≡ None
unfolding is_some
none_there None e = refl
none_there (Some x) e = absurd (false≢true (sym e))

pub bound : {A B : Type 0} (o : Option A) (f : A → Option B) → is_some (bind o f) ≡ true → is_some o ≡ true
unfolding bind is_some
bound None f e = e
bound (Some x) f e = refl
