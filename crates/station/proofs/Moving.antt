-- The mover on slices whose front a list fills: what stands after the list changes nothing of what is printed. Assumes nothing.
use Rattle.std.specs.Prelude.{Some, Ok, Err}
use Prim.Native.Nat.{ℕ, zero, suc, ◌≤◌}
use mathlib.Core.Path.{◌≡◌, refl, ap}
use mathlib.Core.Bool.{Bool, true, false}
use mathlib.Core.List.{List, [], ◌∷◌, ◌++◌, map}
use native.Mathlib.Omega.{arith}
use lib.ListN.{length, length-append, length-map}
use lib.IntN.{ℤ}
use borrow.Author.Tests.{le-ltb}
use Rattle.rules.specs.Text.{Text}
use Rattle.rules.specs.Answer.{Answer, accepted, refused}
use Rattle.rules.specs.Assemble.{Place, Slices, short, over, holding}
use Rattle.rules.specs.Relocate.{first_in, first_index, bad_mark, first_bad_mark, move_addresses, move_words, move_answer, move_by, move_slices}
use Rattle.rules.specs.Tally.{list_in, held}
use Rattle.listing.specs.Listing.{list_text}
use Rattle.listing.specs.Reading.{room_in, read_list, places_in}
use Rattle.rules.specs.Assemble.{slices}
use Rattle.listing.specs.declared.reading.BadLine.{BadLine}
use Rattle.listing.proofs.RoundTrip.{length_places}
use Rattle.relocate.proofs.Callers.{accepted_fits}
use Rattle.station.specs.Station.{answer_text, wrong_line_text, filled_by, moved_slices_text, parsed_text, moved_text}

-- slices that a list fills, and more after it
abbrev filled_then : List Place → List ℕ → List ℕ → List ℕ → Slices
filled_then l xs ws ms =
    slices (map (λ (p : Place). p.address) l ++ xs) (map (λ (p : Place). p.word) l ++ ws) (map (λ (p : Place). p.mark) l ++ ms)

pub first_front : (f : ℕ → Bool) (i : ℕ) (xs ys : List ℕ) (n : ℕ) → n ≤ length xs → first_index f i n (xs ++ ys) ≡ first_index f i n xs
unfolding first_index
first_front f i xs ys zero h = refl
first_front f i [] ys (suc n) h = absurd (omega arith)
first_front f i (x ∷ xs) ys (suc n) h = go (f x) refl (first_front f (suc i) xs ys n (omega arith))
  where
    go : (b : Bool) → f x ≡ b → first_index f (suc i) n (xs ++ ys) ≡ first_index f (suc i) n xs
        → first_index f i (suc n) ((x ∷ xs) ++ ys) ≡ first_index f i (suc n) (x ∷ xs)
    go true e k = rw (e, first_index)
    go false e k = rw (e, first_index) k

-- the next number, and the scan of the marks
next_front : (xs ys : List ℕ) (n : ℕ) → n ≤ length xs → first_in n (xs ++ ys) ≡ first_in n xs
unfolding first_in
next_front xs ys zero h = refl
next_front [] ys (suc n) h = absurd (omega arith)
next_front (x ∷ xs) ys (suc n) h = refl

bad_front : (b i : ℕ) (xs ys : List ℕ) (n : ℕ) → n ≤ length xs → first_bad_mark b i n (xs ++ ys) ≡ first_bad_mark b i n xs
unfolding first_bad_mark
bad_front b i xs ys zero h = refl
bad_front b i [] ys (suc n) h = absurd (omega arith)
bad_front b i (x ∷ xs) ys (suc n) h =
    λ k. elim (bad_mark b x (next_front xs ys n (omega arith) k)) [ true ↦ Some i | false ↦ bad_front x (suc i) xs ys n (omega arith) k ]

pub long_enough : (x : Slices) (n : ℕ) → n ≤ length x.addresses → n ≤ length x.words → n ≤ length x.marks → short x n ≡ false
unfolding short
long_enough x n a b c = rw (le-ltb _ _ a, le-ltb _ _ b, le-ltb _ _ c)

listed_front : (d : ℤ) (n : ℕ) (l : List Place) (xs ws ms : List ℕ) → n ≤ length l
    → held n (move_by (accepted n) d (filled_then l xs ws ms)) ≡ held n (move_by (accepted n) d (filled_by l))
unfolding held list_in move_by move_addresses move_words filled_by
listed_front d zero l xs ws ms h = refl
listed_front d (suc n) [] xs ws ms h = absurd (omega arith)
listed_front d (suc n) (p ∷ l) xs ws ms h =
    rw (next_front (map (λ (q : Place). q.word) l) ws n (rw (length-map l (λ (q : Place). q.word)) (omega arith)), listed_front d n l xs ws ms (omega arith))

module _ (d : ℤ) (l : List Place) (n : ℕ) (e : length l ≡ n) (xs ws ms : List ℕ) where
  same_answer : move_answer (filled_then l xs ws ms) n d ≡ move_answer (filled_by l) n d
  unfolding move_answer filled_by
  same_answer =
      let fits : (f : Place → ℕ) → n ≤ length (map f l) = λ f. rw (length-map l f) (omega arith) in
      let more : (f : Place → ℕ) (ys : List ℕ) → n ≤ length (map f l ++ ys) = λ f ys. rw (length-append (map f l) ys, length-map l f) (omega arith) in
      rw
      (long_enough (filled_then l xs ws ms) n (more _ xs) (more _ ws) (more _ ms), long_enough (filled_by l) n (fits _) (fits _) (fits _), first_front _ 0 _ xs n (fits _), bad_front 0 0 _ ms n (fits _))

  same_text : moved_slices_text d n (filled_then l xs ws ms) ≡ moved_slices_text d n (filled_by l)
  unfolding moved_slices_text move_slices move_by answer_text filled_by
  same_text = rw same_answer (go (move_answer (filled_by l) n d) refl)
    where
      go : (a : Answer ℕ) → move_answer (filled_by l) n d ≡ a
          → answer_text a (move_by a d (filled_then l xs ws ms)) ≡ answer_text a (move_by a d (filled_by l))
      go (refused r p) f = refl
      go (accepted m) f =
          let h : m ≤ length l = rw (length-map l (λ (p : Place). p.address)) at (accepted_fits (filled_by l) n d m f).1 in
          ap list_text (listed_front d m l xs ws ms h)

-- ---- a text read into slices with room for 12,288 places, which gives y
module _ (d : ℤ) (t : Text) (x y : Slices) (room : room_in x ≡ 12288) where
  -- it is a list, and the slices after the move are printed by the mover's answer
  pub moved_text_lem : (n : ℕ) → Ok n ≡ read_list (room_in x) t → y ≡ holding (places_in n t) x → (a : Answer ℕ) (z : Slices)
      → a ≡ move_answer y n d → z ≡ move_slices y n d → answer_text a z ≡ moved_text d t
  unfolding moved_text parsed_text moved_slices_text holding over
  moved_text_lem n e f a z g h =
      let read : Ok n ≡ read_list 12288 t = rw room at e in
      rw (g, h, ← read, f) (same_text d (places_in n t) n (length_places n t) _ _ _)

  -- it is no list
  pub refused_text : (e : BadLine) → Err e ≡ read_list (room_in x) t → wrong_line_text e.number ≡ moved_text d t
  unfolding moved_text parsed_text
  refused_text e f = let read : Err e ≡ read_list 12288 t = rw room at f in rw (← read)
