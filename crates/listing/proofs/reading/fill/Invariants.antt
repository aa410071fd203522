-- `fill` meets its contract: in each slice the parts of the places that are left are still to be put. Assumes nothing.
-- i parts f are in the slice l
use Prim.Native.Nat.{ℕ}
use mathlib.Core.List.{List, map}
use Rattle.rules.specs.Text.{Text}
use Rattle.rules.specs.Assemble.{Place}
use Rattle.listing.specs.Reading.{places_in}
use Rattle.text.proofs.Over.{Putting}
use Rattle.listing.proofs.Places.{shown_from}
use Rattle.listing.proofs.reading.fill.Given as goal

abbrev pub Part : (Place → ℕ) → Text → ℕ → ℕ → List ℕ → List ℕ → Type 0
Part f t count i first l = Putting 0 (map f (places_in count t)) first i (shown_from f t count i) l

abbrev pub invariant-loop-i : goal.invariant-loop-i
invariant-loop-i l =
    Part (λ p. p.address) l.t l.count l.i l.initial.addresses l.addresses × Part (λ p. p.word) l.t l.count l.i l.initial.words l.words
    × Part (λ p. p.mark) l.t l.count l.i l.initial.marks l.marks
