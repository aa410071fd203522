-- Writing and reading are inverse: what is written is read, and what is read is what was written. Assumes nothing.
use Rattle.std.specs.Prelude.{ℕ, suc, ◌*◌, ◌^◌, ◌<◌, ◌≤◌, ◌≡◌, ◌⊎◌, Ok, List, [], ◌∷◌, ◌++◌, length, drop}
use Rattle.rules.specs.Text.{Text}
use Rattle.rules.specs.Assemble.{Place}
use Rattle.listing.specs.Listing.{place_text, list_text}
use Rattle.listing.specs.Reading.{bad, read_list, places_in}

-- a place that a line shows whole
pub record Printable (p : Place) : Type 0 where
  pub address : p.address < 2 ^ 32
  pub word : p.word < 2 ^ 16
  pub mark : p.mark < 10

unfoldable pub AllPrintable : List Place → Type 0
AllPrintable [] = Unit
AllPrintable (p ∷ ps) = Printable p × AllPrintable ps

-- the text of a list is read as that list
unfoldable pub WrittenIsRead : Type 0
WrittenIsRead =
    (l : List Place) (room : ℕ) → AllPrintable l → length l ≤ room
    → (read_list room (list_text l) ≡ Ok (length l)) × (places_in (length l) (list_text l) ≡ l)

-- a text that is read is the text of the list that it is read as
unfoldable pub ReadIsWritten : Type 0
ReadIsWritten =
    (t : Text) (room n : ℕ) → read_list room t ≡ Ok n
    → (list_text (places_in n t) ≡ t) × AllPrintable (places_in n t) × (n ≤ room)

-- the text of line n is the first that is wrong: the lines before it are a list's, it is there, and there is no room for it or it is no place's
pub record FirstWrong (room n : ℕ) (t : Text) : Type 0 where
  pub before : ℕ
  pub number : n ≡ suc before
  pub text : list_text (places_in before t) ++ drop (16 * before) t ≡ t
  pub fit : AllPrintable (places_in before t)
  pub there : 16 * before < length t
  pub why : (before ≡ room) ⊎ ((p : Place) (s : Text) → Printable p → drop (16 * before) t ≡ place_text p ++ s → ⊥)

-- the number in an answer is that of the first wrong line, from 1
unfoldable pub BadIsFirstWrong : Type 0
BadIsFirstWrong = (t : Text) (room n : ℕ) → read_list room t ≡ bad n → FirstWrong room n t
