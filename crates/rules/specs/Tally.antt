-- Moves made one after another, and the tally, by the rules: the tally keeps the first list and a running total. Assumes nothing.
use Rattle.std.specs.Prelude.{ℕ, zero, suc, true, false, List, [], ◌∷◌, map, length, ℤ, pos, ◌+ℤ◌, Option, None, Some}
use Rattle.rules.specs.Answer.{Answer, accepted, refused, refuse_if, refuse_at}
use Rattle.rules.specs.Assemble.{Place, Slices}
use Rattle.rules.specs.Relocate.{far, outside, moved_address, moved_word, move_answer, move_slices}

-- the list that three slices hold in their first n places
unfoldable pub list_in : ℕ → List ℕ → List ℕ → List ℕ → List Place
list_in zero xs ws ms = []
list_in (suc n) [] ws ms = []
list_in (suc n) (a ∷ xs) [] ms = []
list_in (suc n) (a ∷ xs) (w ∷ ws) [] = []
list_in (suc n) (a ∷ xs) (w ∷ ws) (m ∷ ms) = record { address = a; word = w; mark = m } ∷ list_in n xs ws ms

unfoldable pub held : ℕ → Slices → List Place
held n x = list_in n x.addresses x.words x.marks

-- a move as seen from outside: its answer, and the list after it
pub record Seen : Type 0 where
  pub answer : Answer ℕ
  pub list : List Place

-- the moves of a list of distances: each "gets the slices as the call before left them, refused or not"
unfoldable pub moves : ℕ → Slices → List ℤ → List Seen
moves n x [] = []
moves n x (d ∷ ds) =
    record { answer = move_answer x n d; list = held n (move_slices x n d) } ∷ moves n (move_slices x n d) ds

-- the lowest index, counted from i, at which first address + z is outside
unfoldable pub first_outside : ℤ → ℕ → List Place → Option ℕ
first_outside z i [] = None
first_outside z i (p ∷ ps) = elim (outside (pos p.address +ℤ z)) [ true ↦ Some i | false ↦ first_outside z (suc i) ps ]

-- the tally's answer to a distance, at a total
unfoldable pub tally_answer : List Place → ℤ → ℤ → Answer ℕ
tally_answer l total d = refuse_if (far d) 8 0 (refuse_at (first_outside (total +ℤ d) 0 l) 11 (accepted (length l)))

-- "A refused distance leaves the total alone; any other is accepted and added to it."
unfoldable pub add_if : Answer ℕ → ℤ → ℤ → ℤ
add_if (refused r p) total d = total
add_if (accepted n) total d = total +ℤ d

unfoldable pub new_total : List Place → ℤ → ℤ → ℤ
new_total l total d = add_if (tally_answer l total d) total d

-- the first word of a list, 0 if it is empty
unfoldable pub first_word : List Place → ℕ
first_word [] = 0
first_word (p ∷ ps) = p.word

-- the tally's list at a total: "first address + total at each place; a word with mark 1 is (first word + total) modulo 65,536",
-- and the total is added "to each such pair modulo 2^32"
unfoldable pub moved_place : ℤ → Place → ℕ → Place
moved_place total p next =
    record { address = moved_address total p.address; word = moved_word total p.mark p.word next; mark = p.mark }

unfoldable pub tally_list : ℤ → List Place → List Place
tally_list total [] = []
tally_list total (p ∷ ps) = moved_place total p (first_word ps) ∷ tally_list total ps

-- what the tally gives for a distance: its answer, and the total and the list that it holds after it
pub record Tallied : Type 0 where
  pub answer : Answer ℕ
  pub total : ℤ
  pub list : List Place

-- the tally from a total on
unfoldable pub tallied : List Place → ℤ → List ℤ → List Tallied
tallied l total [] = []
tallied l total (d ∷ ds) =
    record { answer = tally_answer l total d; total = new_total l total d; list = tally_list (new_total l total d) l }
    ∷ tallied l (new_total l total d) ds

-- as moves are seen from outside
unfoldable pub seen : Tallied → Seen
seen t = record { answer = t.answer; list = t.list }

unfoldable pub tally : List Place → ℤ → List ℤ → List Seen
tally l total ds = map seen (tallied l total ds)
