-- The moves follow the tally, from slices that hold a list of well paired marks. Assumes nothing.
use Rattle.std.specs.Prelude.{None}
use Prim.Native.Nat.{ℕ}
use mathlib.Core.Path.{◌≡◌, refl, sym, ◌∙◌}
use mathlib.Core.Bool.{false}
use mathlib.Core.List.{List, [], ◌∷◌}
use lib.ListN.{length}
use lib.IntN.{ℤ, pos, ◌+ℤ◌, +ℤ_idl}
use Rattle.rules.specs.Answer.{Answer, accepted, refused, refuse_if, refuse_at}
use Rattle.rules.specs.Assemble.{Place, Slices}
use Rattle.rules.specs.Relocate.{far, move_answer, move_by, move_slices}
use Rattle.rules.specs.Tally.{held, moves, first_outside, tally_answer, add_if, new_total, tally_list, tallied, seen, tally}
use Rattle.promises.specs.Pairs.{Sixteen, Low}
use Rattle.promises.specs.MovedLists.{no_move, one_move, MovesAreMade, last_total, last_list, Totalled, no_more, left_alone, added, TotalsAddUp}
use Rattle.promises.proofs.Lists.{All}
use Rattle.promises.proofs.Accepted.{not_refused, not_refused_at}
use Rattle.promises.proofs.Twice.{Inside, Reached, inside_reached, reached_zero, list_twice, outside_twice, none_inside, low_inside, list_zero, length_moved, marks_moved}
use Rattle.promises.proofs.Paired.{NoBadMark, all_paired}
use Rattle.promises.proofs.Call.{call_answers, call_writes}

-- moves are made one after another
pub moves_are_made : MovesAreMade
unfolding MovesAreMade moves
moves_are_made n x [] = no_move
moves_are_made n x (d ∷ ds) = one_move refl refl (moves_are_made n (move_slices x n d) ds)

-- what the tally accepts has the list's count, and stays inside
tally_accepts : (l : List Place) (t d : ℤ) (n : ℕ) → tally_answer l t d ≡ accepted n → (n ≡ length l) × Inside (t +ℤ d) l
unfolding tally_answer
tally_accepts l t d n e =
    let h = not_refused (far d) 8 0 _ n e in
    let k = not_refused_at (first_outside (t +ℤ d) 0 l) 11 _ n h.1 in
    let c = k.1 in
    (cc, none_inside (t +ℤ d) 0 l k.0)

-- so each total stays inside, and the last one
total_inside : (l : List Place) (t d : ℤ) → Inside t l → Inside (new_total l t d) l
unfolding new_total add_if
total_inside l t d h = go (tally_answer l t d) refl
  where
    go : (r : Answer ℕ) → tally_answer l t d ≡ r → Inside (add_if r t d) l
    go (refused n i) e = h
    go (accepted n) e = (tally_accepts l t d n e).1

last_inside : (l : List Place) (t : ℤ) (ds : List ℤ) → Inside t l → Inside (last_total t (tallied l t ds)) l
unfolding last_total tallied
last_inside l t [] ins = ins
last_inside l t (d ∷ ds) ins = last_inside l (new_total l t d) ds (total_inside l t d ins)

-- the list held last is that of the total held last
last_list_lem : (l : List Place) (t : ℤ) (ds : List ℤ) → last_list (tally_list t l) (tallied l t ds) ≡ tally_list (last_total t (tallied l t ds)) l
unfolding last_total last_list tallied
last_list_lem l t [] = refl
last_list_lem l t (d ∷ ds) = last_list_lem l (new_total l t d) ds

-- the totals are those that the answers leave
totalled : (l : List Place) (t : ℤ) (ds : List ℤ) → Totalled t ds (tallied l t ds)
unfolding tallied new_total add_if
totalled l t [] = no_more
totalled l t (d ∷ ds) = go (tally_answer l t d) refl (totalled l (new_total l t d) ds)
  where
    go : (r : Answer ℕ) → tally_answer l t d ≡ r → Totalled (new_total l t d) ds (tallied l (new_total l t d) ds) → Totalled t (d ∷ ds) (tallied l t (d ∷ ds))
    go (refused n p) e rest = let q : new_total l t d ≡ t = rw e in left_alone n p e q rest
    go (accepted n) e rest = let q : new_total l t d ≡ t +ℤ d = rw e in added n e q rest

pub totals_add_up : TotalsAddUp
unfolding TotalsAddUp
totals_add_up l ds = totalled l (pos 0) ds

-- nor does a total that was reached go below 0
total_reached : (l : List Place) (t d : ℤ) → All (Reached t) l → All (Reached (new_total l t d)) l
unfolding new_total add_if
total_reached l t d h = go (tally_answer l t d) refl
  where
    go : (r : Answer ℕ) → tally_answer l t d ≡ r → All (Reached (add_if r t d)) l
    go (refused n i) e = h
    go (accepted n) e = inside_reached (t +ℤ d) l (tally_accepts l t d n e).1

-- one call on slices that hold the tally's list at t: the tally's answer, and its next list
module _ (l : List Place) (good : NoBadMark l) (x : Slices) (t d : ℤ) (h : held (length l) x ≡ tally_list t l) (up : All (Reached t) l) where
  same_answer : move_answer x (length l) d ≡ tally_answer l t d
  unfolding tally_answer
  same_answer =
      call_answers x (length l) d (rw h (length_moved t l)) (rw (h, marks_moved t l) good)
      ∙ rw (h, outside_twice t d 0 l up)

  same_list : held (length l) (move_slices x (length l) d) ≡ tally_list (new_total l t d) l
  unfolding move_slices move_by new_total add_if
  same_list = rw same_answer (go (tally_answer l t d) refl)
    where
      go : (r : Answer ℕ) → tally_answer l t d ≡ r → held (length l) (move_by r d x) ≡ tally_list (add_if r t d) l
      go (refused n i) e = h
      go (accepted n) e = rw (tally_accepts l t d n e).0 (call_writes x (length l) d (rw h (length_moved t l)) ∙ rw h (list_twice t d l up (all_paired l good)))

-- the moves follow the tally from any total that is reached
follow : (l : List Place) → NoBadMark l → (x : Slices) (t : ℤ) (ds : List ℤ) → held (length l) x ≡ tally_list t l → All (Reached t) l → moves (length l) x ds ≡ tally l t ds
unfolding moves tally tallied seen
follow l good x t [] h up = refl
follow l good x t (d ∷ ds) h up =
    let k = same_list l good x t d h up in
    rw (same_answer l good x t d h up, k, follow l good (move_slices x (length l) d) (new_total l t d) ds k (total_reached l t d up))

-- from slices that hold the list itself, which is the tally's list at total 0
module _ (l : List Place) (good : NoBadMark l) (sixteen : All Sixteen l) where
  zero_itself : tally_list (pos 0) l ≡ l
  zero_itself = list_zero l sixteen (all_paired l good)

  pub last_total_inside : All Low l → (ds : List ℤ) → Inside (last_total (pos 0) (tallied l (pos 0) ds)) l
  last_total_inside low ds = last_inside l (pos 0) ds (low_inside 0 l (rw zero_itself low))

  pub last_list_is : (ds : List ℤ) → last_list l (tallied l (pos 0) ds) ≡ tally_list (last_total (pos 0) (tallied l (pos 0) ds)) l
  last_list_is ds = rw zero_itself at (last_list_lem l (pos 0) ds)

  module _ (x : Slices) (h : held (length l) x ≡ l) where
    at_zero : held (length l) x ≡ tally_list (pos 0) l
    at_zero = h ∙ sym zero_itself

    pub follow_from_zero : (ds : List ℤ) → moves (length l) x ds ≡ tally l (pos 0) ds
    follow_from_zero ds = follow l good x (pos 0) ds at_zero (reached_zero l)

    -- one move by a distance that is near and leaves no place outside
    module _ (d : ℤ) (near : far d ≡ false) (ins : first_outside d 0 l ≡ None) where
      answer_zero : tally_answer l (pos 0) d ≡ accepted (length l)
      unfolding tally_answer refuse_if refuse_at
      answer_zero = rw (near, +ℤ_idl d, ins)

      pub move_accepted : move_answer x (length l) d ≡ accepted (length l)
      move_accepted = same_answer l good x (pos 0) d at_zero (reached_zero l) ∙ answer_zero

      pub move_gives : held (length l) (move_slices x (length l) d) ≡ tally_list d l
      unfolding new_total add_if
      move_gives = rw (answer_zero, +ℤ_idl d) at (same_list l good x (pos 0) d at_zero (reached_zero l))
