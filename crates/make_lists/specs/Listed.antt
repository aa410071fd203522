-- The list that a call answers, and what holds one in places that were made for it. Assumes nothing.
use Rattle.std.specs.Prelude.{ℕ, ◌≡◌, ◌≤◌, Bool, true, false, List, length, ltb, eqb, Result, Ok, Err, ⊤}
use Rattle.rules.specs.Text.{Text}
use Rattle.rules.specs.Answer.{Answer, accepted, refused, refuse_if, and_then}
use Rattle.rules.specs.Assemble.{Place, slices, assemble}
use Rattle.rules.specs.Tally.{held}
use Rattle.requests.specs.Branches.{assemble_under}
use Rattle.answer.specs.Refusal.{number_of, place_of}
use Rattle.jsontext.specs.Places.{HaveRoom}
use Rattle.outcome.specs.Made.{of_which}
use Rattle.outcome.specs.declared.Stop.TheVariants as Why
use Rattle.outcome.specs.declared.Unmade.{Unmade}
use Rattle.outcome.specs.declared.Unmade.TheVariants as Un
use Rattle.make_lists.specs.declared.listed.Listed.{Listed}
use Rattle.make_lists.specs.declared.listed.Unlisted.{Unlisted}
use Rattle.make_lists.specs.declared.listed.Unlisted.TheVariants.{Refused, NoMemory}

-- the list of the script s at a base, under the branch table t where one is lent
abbrev pub list_of : Bool → ℕ → Text → Text → Answer (List Place)
list_of true base t s = assemble_under t base s
list_of false base t s = assemble base s

-- ---- a list in places

-- no list has more places
abbrev pub Few : Answer (List Place) → Type 0
Few a = (l : List Place) → a ≡ accepted l → length l ≤ 12288

-- what a call comes to that is lent so many places
unfoldable pub fitted : ℕ → List Place → Answer (List Place)
fitted room l = refuse_if (ltb room (length l)) 7 (length l) (accepted l)

abbrev pub within : ℕ → Answer (List Place) → Answer (List Place)
within room a = and_then a (fitted room)

abbrev pub places_of : Listed → List Place
places_of l = held l.count (slices l.addresses.items l.words.items l.marks.items)

-- each word has a place
pub record Fits (l : Listed) : Type 0 where
  pub most : l.count ≤ 12288
  pub room : HaveRoom l.count l.addresses.items l.words.items l.marks.items

-- the list that a is, or its refusal; where memory ran out nothing is said
abbrev pub Answers : Answer (List Place) → Result Listed Unlisted → Type 0
Answers a (Ok l) = a ≡ accepted (places_of l)
Answers a (Err (Refused e)) = a ≡ refused (number_of e) (place_of e)
Answers a (Err NoMemory) = ⊤

-- the places were too few
abbrev pub is_short : Unlisted → Bool
is_short (Refused e) = eqb (number_of e) 7
is_short NoMemory = false

-- as a call tells it
abbrev pub unmade_of : Unlisted → Unmade
unmade_of (Refused e) = Un.Stopped (Why.Refused (of_which (number_of e)) e)
unmade_of NoMemory = Un.NoMemory
