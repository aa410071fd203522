-- A text put over the front of a slice, and the text of an answer so put. Assumes nothing.
use Prim.Native.Nat.{ℕ, zero, suc, ◌+◌, ◌*◌, ◌≤◌, min}
use mathlib.Core.Path.{◌≡◌, refl, sym, ap, ◌∙◌}
use mathlib.Core.Bool.{Bool, true, false}
use mathlib.Core.List.{List, [], ◌∷◌}
use native.Mathlib.Nat.{min-eq_left, min-eq_right}
use native.Mathlib.Omega.{arith}
use lib.ListN.{length, take, drop, length-append}
use lib.Seq.{take_at}
use lib.Dec.{ltb}
use borrow.Author.Tests.{ltb-true, ltb-false}
use Rattle.rules.specs.Text.{Text}
use Rattle.rules.specs.Assemble.{over}
use Rattle.rules.specs.Tally.{list_in, held}
use Rattle.rules.specs.Answer.{accepted}
use Rattle.listing.specs.Listing.{list_text}
use Rattle.rules.specs.Assemble.{slices}
use Rattle.listing.proofs.RoundTrip.{length_list}
use Rattle.station.specs.Station.{answer_text}
use Rattle.station.specs.Printed.{Printed}

-- the length and the slice afterwards tell the rest
pub printed : (s : Text) (r : ℕ) (x y : List ℕ) → r ≡ length s → y ≡ over s x → Printed s r x y
unfolding over
printed s r x y e f =
    let k : length y ≡ length s + length (drop (length s) x) = ap length f ∙ length-append s (drop (length s) x) in
    let front : take r y ≡ s = rw f (take_at s (drop (length s) x) r (sym e)) in
    record { answer = e; after = f; front = front; within = omega arith; whole = rw front e }

pub printed_none : (x : List ℕ) → Printed [] 0 x x
unfolding over
printed_none x = printed [] 0 x x refl refl

-- ---- the list in slices, with a count that may be above their length
listed_all : (n : ℕ) (xs ws ms : List ℕ) → length xs ≤ n → list_in (length xs) xs ws ms ≡ list_in n xs ws ms
unfolding list_in
listed_all zero [] ws ms h = refl
listed_all zero (x ∷ xs) ws ms h = absurd (omega arith)
listed_all (suc n) [] ws ms h = refl
listed_all (suc n) (x ∷ xs) [] ms h = refl
listed_all (suc n) (x ∷ xs) (w ∷ ws) [] h = refl
listed_all (suc n) (x ∷ xs) (w ∷ ws) (m ∷ ms) h = rw (listed_all n xs ws ms (omega arith))

length_listed : (n : ℕ) (xs ws ms : List ℕ) → n ≤ length xs → n ≤ length ws → n ≤ length ms → length (list_in n xs ws ms) ≡ n
unfolding list_in
length_listed zero xs ws ms a b c = refl
length_listed (suc n) [] ws ms a b c = absurd (omega arith)
length_listed (suc n) (x ∷ xs) [] ms a b c = absurd (omega arith)
length_listed (suc n) (x ∷ xs) (w ∷ ws) [] a b c = absurd (omega arith)
length_listed (suc n) (x ∷ xs) (w ∷ ws) (m ∷ ms) a b c = ap suc (length_listed n xs ws ms (omega arith) (omega arith) (omega arith))

module _ (n k : ℕ) (xs ws ms : List ℕ) (a : length xs ≡ k) (b : length ws ≡ k) (c : length ms ≡ k) where
  listed_within : list_in (min n k) xs ws ms ≡ list_in n xs ws ms
  listed_within = go (ltb n k) refl
    where
      go : (t : Bool) → ltb n k ≡ t → list_in (min n k) xs ws ms ≡ list_in n xs ws ms
      go true h = let i : n ≤ k = omega (arith, ltb-true n k h) in rw (min-eq_left i)
      go false h = rw (min-eq_right (ltb-false n k h), ← a) (listed_all n xs ws ms (omega (arith, ltb-false n k h)))

  -- the text of an accepted answer, written for as many places as there are
  pub printed_list : (r i : ℕ) (x y : List ℕ) → i ≡ min n k → r ≡ 16 * i → y ≡ over (list_text (list_in i xs ws ms)) x
      → Printed (answer_text (accepted n) (slices xs ws ms)) r x y
  unfolding answer_text held
  printed_list r i x y e f g =
      let s : list_in i xs ws ms ≡ list_in n xs ws ms = rw e listed_within in
      let l : length (list_in i xs ws ms) ≡ i = length_listed i xs ws ms (omega arith) (omega arith) (omega arith) in
      printed (list_text (list_in n xs ws ms)) r x y (rw (← s) (rw (length_list (list_in i xs ws ms), l) f)) (rw s at g)
