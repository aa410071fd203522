-- What a call owes that prints into a slice: the text at its front, and the text's length as the answer. Assumes nothing.
use Rattle.std.specs.Prelude.{ℕ, ◌≤◌, ◌≡◌, List, length, take}
use Rattle.rules.specs.Text.{Text}
use Rattle.rules.specs.Assemble.{over}

-- the answer r, and y, the slice after a call that prints s over the front of x
pub record Printed (s : Text) (r : ℕ) (x y : List ℕ) : Type 0 where
  pub answer : r ≡ length s
  pub after : y ≡ over s x
  -- what follows: a caller that lends the first r bytes of the slice lends just the text
  pub front : take r y ≡ s
  pub within : r ≤ length y
  pub whole : r ≡ length (take r y)
