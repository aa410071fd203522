-- The moves of an accepted source's list, and of one with well paired marks, are the tally's, by the promises: so are the answers and
-- the slices that a call leaves. Assumes nothing.
use Rattle.std.proofs.Common.{◌≡◌, ℕ, List, [], ◌∷◌, map, length, ℤ, pos, refl, ◌∙◌}
use Rattle.rules.specs.Answer.{Answer}
use Rattle.rules.specs.Assemble.{Place, Slices}
use Rattle.rules.specs.Relocate.{move_slices}
use Rattle.rules.specs.Tally.{Seen, held, moves, Tallied, tallied, seen, tally}
use Rattle.promises.specs.MovedLists.{MovesFollowTally, last_list}
use Rattle.promises.specs.Pairs.{PairsFollowTally}
use Rattle.promises.proofs.MovedLists.{moves_follow_tally}
use Rattle.promises.proofs.Pairs.{pairs_follow_tally}
use Rattle.moves.specs.Moves.{told, slices_after, FollowsTally, IsTally, IsPairsTally}

-- the list seen last: of the moves it is what the slices hold, of the tally its last list
last_seen : List Place → List Seen → List Place
last_seen l [] = l
last_seen l (s ∷ ss) = last_seen s.list ss

holds_last : (n : ℕ) (x : Slices) (ds : List ℤ) → held n (slices_after n x ds) ≡ last_seen (held n x) (moves n x ds)
unfolding slices_after last_seen moves
holds_last n x [] = refl
holds_last n x (d ∷ ds) = holds_last n (move_slices x n d) ds

last_seen_lem : (l : List Place) (ts : List Tallied) → last_seen l (map seen ts) ≡ last_list l ts
unfolding last_seen last_list seen
last_seen_lem l [] = refl
last_seen_lem l (t ∷ ts) = last_seen_lem t.list ts

-- what a call leaves, where its moves are the tally's
module _ (x : Slices) (n : ℕ) (ds : List ℤ) (y : Slices) (rs : List (Answer ℕ)) (p : y ≡ slices_after n x ds) (u : rs ≡ told (moves n x ds)) where
  by_tally : (l : List Place) → n ≡ length l → held n x ≡ l → moves n x ds ≡ tally l (pos 0) ds → FollowsTally l ds y rs
  unfolding tally
  by_tally l c h same =
      record {
        list = rw (p, ← c) (holds_last n x ds ∙ rw (h, same) (last_seen_lem l (tallied l (pos 0) ds)));
        answers = rw same at u;
      }

  pub follows : IsTally x n ds y rs
  unfolding MovesFollowTally tally
  follows s b l e c h = by_tally l c h (rw c (moves_follow_tally s b l e x (rw c at h) ds))

  pub pairs_follow : IsPairsTally x n ds y rs
  unfolding PairsFollowTally
  pairs_follow l well six c h = by_tally l c h (rw c (pairs_follow_tally l well six x (rw c at h) ds))
