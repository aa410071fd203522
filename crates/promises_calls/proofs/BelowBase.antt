-- No label lies below the base, and what is near an address below it. Assumes nothing.
use Rattle.std.specs.Prelude.{None}
use Prim.Native.Nat.{ℕ, ◌+◌, ◌<◌, ◌≤◌}
use mathlib.Core.Path.{◌≡◌, refl}
use mathlib.Core.List.{List, [], ◌∷◌}
use native.Mathlib.Omega.{arith}
use borrow.Author.Tests.{lt-leb}
use Rattle.rules.specs.Text.{Text}
use Rattle.rules.specs.Line.{Task, skipped, end, org, no_org, label_only, instruction, value, space, line_of}
use Rattle.rules.specs.Label.{Table}
use Rattle.rules.specs.Answer.{refused, and_then}
use Rattle.rules.specs.Assemble.{Sizes, Pass}
use Rattle.requests.specs.Nearest.{nearest_in, told_nearest, nearest}
use Rattle.promises.specs.Refusals.{next_address, Reached, start, further}
use Rattle.promises.specs.Lawful.{shift_label, shift_table, shift_pass}
use Rattle.promises.specs.Nearest.{records, NearestMoves}
use Rattle.promises.proofs.Nearest.{pass_at_lem, nearest_moves}
use Rattle.promises_calls.specs.BelowBase.{NoneBelowBase, NearestAtEachAddress}

-- a line leaves no address below the base
next_from : (z : Sizes) (base a : ℕ) (k : Task) → base ≤ a → base ≤ next_address z base a k
unfolding next_address
next_from z base a skipped h = h
next_from z base a end h = h
next_from z base a (org v) h = omega arith
next_from z base a no_org h = h
next_from z base a label_only h = h
next_from z base a (instruction i) h = omega arith
next_from z base a (value n v) h = omega arith
next_from z base a (space n) h = omega arith

reached_from : (z : Sizes) (base : ℕ) (s : Text) {j a : ℕ} {ns : List Text} → Reached z base s j a ns → base ≤ a
reached_from z base s start = omega arith
reached_from z base s (further {a} {l} r e n) = next_from z base a (line_of l).task (reached_from z base s r)

pub none_below_base : NoneBelowBase
unfolding NoneBelowBase
none_below_base z base s n i k a (records r e h) = reached_from z base s r

-- the search among labels that are b higher
none_near : (b a : ℕ) (t : Table) → a < b → nearest_in a (shift_table b t) ≡ None
unfolding nearest_in shift_label
none_near b a [] h = refl
none_near b a (l ∷ t) h = rw (lt-leb (b + l.address) a (omega arith)) (none_near b a t h)

pub nearest_at_each_address : NearestAtEachAddress
unfolding NearestAtEachAddress nearest and_then shift_pass told_nearest NearestMoves
nearest_at_each_address b s p e = record { from_base = λ a x f. rw (← f) (nearest_moves b s p e x); below_base = below }
  where
    below : (a : ℕ) → a < b → nearest b s a ≡ refused 12 0
    below a l = let h = pass_at_lem b s p e in go h.0 h.2
      where
        go : (q : Pass) → p ≡ shift_pass b q → nearest b s a ≡ refused 12 0
        go q g = rw (e, g, none_near b a q.labels l) refl
