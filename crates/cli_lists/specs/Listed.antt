-- The list that a call answers, and what holds one in places that were made for it. Assumes nothing.
use Rattle.std.specs.Prelude.{ℕ, ◌≡◌, ◌≤◌, Bool, false, List, length, ltb, eqb, Option, None, Some, Result, Ok, Err, IfOk, ⊤}
use Rattle.std.specs.declared.alloc.AllocError.{AllocError}
use Rattle.rules.specs.Text.{Text}
use Rattle.rules.specs.Answer.{Answer, accepted, refused, refuse_if, and_then}
use Rattle.rules.specs.Assemble.{Place, Slices, slices, assemble, room, write_list}
use Rattle.rules.specs.Tally.{held}
use Rattle.requests.specs.Branches.{assemble_under}
use Rattle.requests.specs.ManualAssemble.{assemble_manual}
use Rattle.answer.specs.declared.Refusal.{Refusal}
use Rattle.answer.specs.Refusal.{number_of, place_of, answer_of}
use Rattle.jsontext.specs.Places.{HaveRoom}
use Rattle.cli_run.specs.Input.{Named}
use Rattle.cli_lists.specs.declared.call.Call.{Call}
use Rattle.cli_lists.specs.declared.call.Call.TheVariants as By
use Rattle.cli_lists.specs.declared.listed.Listed.{Listed}

-- the list of the script s at a base, under the branch table t if one is named
abbrev pub list_of : Option Named → ℕ → Text → Answer (List Place)
list_of (Some t) base s = assemble_under t.text base s
list_of None base s = assemble base s

-- the list of the script s by a call
abbrev pub list_by : Call → Text → Answer (List Place)
list_by (By.Plain base) s = assemble base s
list_by (By.Under names base) s = assemble_under names.now base s
list_by (By.Manual base) s = assemble_manual base s

-- ---- a list in places

-- no list has more places
abbrev pub Few : Answer (List Place) → Type 0
Few a = (l : List Place) → a ≡ accepted l → length l ≤ 12288

-- what a call comes to for which so many places are made
unfoldable pub fitted : ℕ → List Place → Answer (List Place)
fitted room l = refuse_if (ltb room (length l)) 7 (length l) (accepted l)

abbrev pub within : ℕ → Answer (List Place) → Answer (List Place)
within room a = and_then a (fitted room)

abbrev pub places_of : Listed → List Place
places_of l = held l.count (slices l.addresses.items l.words.items l.marks.items)

-- each word has a place
pub record Fits (l : Listed) : Type 0 where
  pub most : l.count ≤ 12288
  pub room : HaveRoom l.count l.addresses.items l.words.items l.marks.items

-- a call's answer: the list that a is, or its refusal
abbrev pub Lists : Answer (List Place) → Result Listed Refusal → Type 0
Lists a (Ok l) = a ≡ accepted (places_of l)
Lists a (Err e) = a ≡ refused (number_of e) (place_of e)

-- a call whose list is d was given m places and returned r; what it left in them is xs, ws and ms
pub record Left (m : ℕ) (d : Answer (List Place)) (r : Result ℕ Refusal) (xs ws ms : List ℕ) : Type 0 where
  pub before : Slices
  pub addresses : length before.addresses ≡ m
  pub words : length before.words ≡ m
  pub marks : length before.marks ≡ m
  pub most : m ≤ 12288
  pub places : HaveRoom m xs ws ms
  pub answer : answer_of r ≡ and_then d (room before)
  pub after : slices xs ws ms ≡ write_list d before

abbrev pub Keeps : Answer (List Place) → Result Listed Refusal → Type 0
Keeps a r = IfOk r Fits × Lists a r

-- nothing is promised if there was no memory
abbrev pub Answers : Answer (List Place) → Result (Result Listed Refusal) AllocError → Type 0
Answers a (Ok r) = Lists a r
Answers a (Err e) = ⊤

abbrev pub Kept : Answer (List Place) → Result (Result Listed Refusal) AllocError → Type 0
Kept a (Ok r) = Keeps a r
Kept a (Err e) = ⊤

abbrev pub AllFit : Result (Result Listed Refusal) AllocError → Type 0
AllFit (Ok r) = IfOk r Fits
AllFit (Err e) = ⊤

-- the places were too few
abbrev pub is_short : Result (Result Listed Refusal) AllocError → Bool
is_short (Ok (Err e)) = eqb (number_of e) 7
is_short (Ok (Ok l)) = false
is_short (Err e) = false
