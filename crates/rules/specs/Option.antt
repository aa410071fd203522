-- Readings that may fail, one after the other: the language's own Option. Assumes nothing.
use Rattle.std.specs.Prelude.{Option, None, Some}

module _ {A B : Type 0} where
  -- what the second makes of the first's value; None where the first has none
  unfoldable pub bind : Option A → (A → Option B) → Option B
  bind None f = None
  bind (Some x) f = f x

module _ {A : Type 0} where
  -- the first's value, and the second's where the first has none
  unfoldable pub or_else : Option A → Option A → Option A
  or_else None p = p
  or_else (Some x) p = Some x
