-- By an encoder whose label addresses have one word each, marks are 0 and 1. Assumes nothing.
use Prim.Native.Nat.{ℕ, ◌+◌, ◌≤◌}
use mathlib.Core.Path.{◌≡◌, refl}
use mathlib.Core.Bool.{false≢true}
use mathlib.Core.List.{List, [], ◌∷◌, flat_map}
use native.Mathlib.Omega.{arith}
use Rattle.rules.specs.Text.{Text}
use Rattle.rules.specs.Line.{Task}
use Rattle.rules.specs.Label.{Table}
use Rattle.rules.specs.Encode.{Content, literal, address, long_address}
use Rattle.rules.specs.Answer.{Answer, accepted, refused, and_then}
use Rattle.rules.specs.Assemble.{Sizes, Encoder, Put, Pass, Place, places_at, data_contents, code_contents_by, data_places, code_places_by, second_pass_by, pass_at_by, assemble_by}
use Rattle.promises.specs.Lawful.{Short, ShortAddresses}
use Rattle.promises.proofs.Lists.{All, all_append, all_flat_map}
use Rattle.promises.proofs.Tasks.{Worded, silent, codes, holds, worded}

abbrev pub Plain : Place → Type 0
Plain p = p.mark ≤ 1

places_plain : (a : ℕ) (cs : List Content) → Short cs → All Plain (places_at a cs)
unfolding places_at Short
places_plain a [] h = tt
places_plain a (literal w ∷ cs) h = (omega arith, places_plain (a + 2) cs h)
places_plain a (address x ∷ cs) h = (omega arith, places_plain (a + 2) cs h)
places_plain a (long_address x ∷ cs) h = absurd h

-- data holds no label's address
data_short : {k : Task} → Worded k → Short (data_contents k)
unfolding data_contents Short
data_short (silent d f) = rw (d, Short) tt
data_short (codes i) = tt
data_short (holds n v) = tt

data_plain : (p : Put) → All Plain (data_places p)
unfolding data_places
data_plain p = places_plain p.address (data_contents p.task) (data_short (worded p.task))

module _ (z : Sizes) (e : Encoder) (short : ShortAddresses e) where
  code_short : (t : Table) (a : ℕ) {k : Task} → Worded k → Short (code_contents_by e t a k)
  unfolding code_contents_by Short
  code_short t a (silent d f) = rw (f e t a, Short) tt
  code_short t a (codes i) = short t a i
  code_short t a (holds n v) = tt

  code_plain : (t : Table) (p : Put) → All Plain (code_places_by e t p)
  unfolding code_places_by
  code_plain t p = places_plain p.address (code_contents_by e t p.address p.task) (code_short t p.address (worded p.task))

  second_plain : (p : Pass) → All Plain (second_pass_by e p)
  unfolding second_pass_by
  second_plain p =
      all_append Plain (flat_map data_places p.puts) (flat_map (code_places_by e p.labels) p.puts)
      (all_flat_map Plain (λ q. Unit {0}) data_places (λ q u. data_plain q) p.puts (any p.puts))
      (all_flat_map Plain (λ q. Unit {0}) (code_places_by e p.labels) (λ q u. code_plain p.labels q) p.puts (any p.puts))
    where
      any : (ps : List Put) → All (λ q. Unit {0}) ps
      any [] = tt
      any (q ∷ qs) = (tt, any qs)

  pub short_marks : (b : ℕ) (s : Text) (l : List Place) → assemble_by z e b s ≡ accepted l → All Plain l
  unfolding assemble_by and_then
  short_marks b s l h = go (pass_at_by z b s) refl
    where
      go : (r : Answer Pass) → pass_at_by z b s ≡ r → All Plain l
      go (refused n i) f = let k = rw f at h in absurd (false≢true cc)
      go (accepted p) f =
          let k : accepted (second_pass_by e p) ≡ accepted l = rw f at h in
          let m : second_pass_by e p ≡ l = cc in
          rw (← m) (second_plain p)
