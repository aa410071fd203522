-- What the tally has at a total for each place, in plain integers. Assumes nothing.
use Rattle.std.specs.Prelude.{ℕ, ◌<◌, ◌≡◌, List, length, ℤ, pos, ◌+ℤ◌, Some, slice_get}
use Rattle.rules.specs.Assemble.{Place}
use Rattle.rules.specs.Tally.{Tallied, tally_list, tallied}
use Rattle.promises.specs.Refusals.{Congruent}

-- the place p' is p at a total
pub record PlaceAt (total : ℤ) (p p' : Place) : Type 0 where
  -- "first address + total at each place"
  pub address : pos p'.address ≡ pos p.address +ℤ total
  pub mark : p'.mark ≡ p.mark
  -- a word that is not marked is the first one, and "a word with mark 1 is (first word + total) modulo 65,536"
  pub plain : p.mark ≡ 0 → p'.word ≡ p.word
  pub marked : p.mark ≡ 1 → (p'.word < 65536) × Congruent 65536 (pos p'.word) (pos p.word +ℤ total)

pub record TallyPlaces : Type 0 where
  -- at each total there are as many places, and each whose address plus the total is not below 0 is that at the total
  pub count : (total : ℤ) (l : List Place) → length (tally_list total l) ≡ length l
  pub each : (total : ℤ) (l : List Place) (i : ℕ) (p p' : Place) → slice_get l i ≡ Some p → slice_get (tally_list total l) i ≡ Some p'
      → (a : ℕ) → pos a ≡ pos p.address +ℤ total → PlaceAt total p p'
  -- and so is each place of each list that the tally comes to, whatever the distances
  pub long : (l : List Place) (ds : List ℤ) (j : ℕ) (t : Tallied) → slice_get (tallied l (pos 0) ds) j ≡ Some t → length t.list ≡ length l
  pub comes_to : (l : List Place) (ds : List ℤ) (j : ℕ) (t : Tallied) → slice_get (tallied l (pos 0) ds) j ≡ Some t
      → (i : ℕ) (p p' : Place) → slice_get l i ≡ Some p → slice_get t.list i ≡ Some p' → PlaceAt t.total p p'
