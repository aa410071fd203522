-- What a printout shows, read back from its text alone: each line of the source once and in order, each place of the list in the row of the
-- line that asks it and no other word, why a line has none, and the labels under the rows. Apart from how it is written. Assumes nothing.
use Rattle.std.specs.Prelude.{ℕ, suc, ◌+◌, ◌%◌, ◌≤◌, ◌≡◌, ◌↔◌, Bool, true, false, cond, List, [], ◌∷◌, ◌++◌, map, eqb, length, take, drop, get_or, Some, slice_get}
use Rattle.rules.specs.Text.{Text, bytes, cut_at}
use Rattle.rules.specs.Number.{Failure, failed}
use Rattle.rules.specs.Line.{Task, skipped, end, org, no_org, label_only, instruction, value, space, line_of, size}
use Rattle.rules.specs.Directive.{line_reading}
use Rattle.rules.specs.Encode.{Mnemonic, encode_by}
use Rattle.rules.specs.Answer.{accepted, refused}
use Rattle.rules.specs.Assemble.{Put, Pass, Place, place, address_after, data_places, code_places_by, pass_at, assemble_by}
use Rattle.requests.specs.Explain.{Reason, Verdict, emitted, because, bad_number, explain_by}
use Rattle.listing.specs.Listing.{decimal}
use Rattle.listing.specs.Reading.{hex_in}
use Rattle.symtext.specs.Symlist.{symbols_text}
use Rattle.whytext.specs.WhyLine.{phrase}
use Rattle.printout.specs.Printout.{printout_by}

-- ---- what a row shows: number, address, two words, and the line's own bytes in columns 0, 6, 16, 21 and 27
unfoldable pub address_in : Text → ℕ
address_in r = hex_in 0 (take 8 (drop 6 r))

-- the word in five bytes, at an address; none where they start with a space
unfoldable pub word_in : ℕ → Text → List Place
word_in a t = cond (eqb (get_or t 0 0) 32) [] (place a (hex_in 0 (take 4 t)) (cond (eqb (get_or t 4 0) 42) 1 0) ∷ [])

-- the second word is "at address + 2"
unfoldable pub places_in : Text → List Place
places_in r = word_in (address_in r) (drop 16 r) ++ word_in (address_in r + 2) (drop 21 r)

-- a place with its word's 16 bits
unfoldable pub sixteen : Place → Place
sixteen p = place p.address (p.word % 65536) p.mark

-- ---- a source and its printout
-- t is the printout of s, whose pass at the base is p
pub record Printout (names : List Mnemonic) (base : ℕ) (s t : Text) (p : Pass) : Type 0 where
  pub passed : pass_at base s ≡ accepted p
  pub printed : printout_by names base s ≡ accepted t

-- row k of the printout is r, and line k of the source is l; both are cut at byte 10
pub record IsRow (s t : Text) (k : ℕ) (l r : Text) : Type 0 where
  pub line : slice_get (cut_at 10 s) k ≡ Some l
  pub row : slice_get (cut_at 10 t) k ≡ Some r

-- ---- each line once and in order, and nothing but the labels after the lines
-- its number, right-aligned, and its own bytes
pub record LineShown (k : ℕ) (l r : Text) : Type 0 where
  pub number : take 4 r ≡ drop (length (decimal (suc k))) (bytes "    ") ++ decimal (suc k)
  pub text : take (length l) (drop 27 r) ≡ l

-- no line after them, or an empty one and the labels'; the last is what follows the last byte 10
unfoldable pub after_rows : Text → List Text
after_rows [] = [] ∷ []
after_rows (b ∷ symbols) = [] ∷ cut_at 10 (b ∷ symbols)

unfoldable pub ShowsLines : Type 0
ShowsLines =
    (names : List Mnemonic) (base : ℕ) (s t : Text) → printout_by names base s ≡ accepted t
    → ((k : ℕ) (l : Text) → slice_get (cut_at 10 s) k ≡ Some l → (r : Text) × (slice_get (cut_at 10 t) k ≡ Some r) × LineShown k l r)
    × (drop (length (cut_at 10 s)) (cut_at 10 t) ≡ after_rows (symbols_text base s))

-- ---- words
-- the row of a line that asks u shows u's address and places, and no others
pub record PutShown (names : List Mnemonic) (p : Pass) (u : Put) (r : Text) : Type 0 where
  pub address : address_in r ≡ u.address
  pub places : places_in r ≡ map sixteen (data_places u ++ code_places_by (encode_by names) p.labels u)

unfoldable pub ShowsPlaces : Type 0
ShowsPlaces =
    (names : List Mnemonic) (base : ℕ) (s t : Text) (p : Pass) → Printout names base s t p → (k : ℕ) (l r : Text) → IsRow s t k l r
    → ((u : Put) → slice_get p.puts k ≡ Some u → PutShown names p u r) × (length p.puts ≤ k → places_in r ≡ [])

-- END is read at the address after the line before it, or at the base
unfoldable pub ShowsEnd : Type 0
ShowsEnd =
    (names : List Mnemonic) (base : ℕ) (s t : Text) (p : Pass) → Printout names base s t p → (k : ℕ) (l r : Text) → IsRow s t k l r → length p.puts ≡ k
    → (k ≡ 0 → address_in r ≡ base) × ((j : ℕ) (u : Put) → k ≡ suc j → slice_get p.puts j ≡ Some u → address_in r ≡ address_after size base u.address u.task)

-- what is shown of the lines with a value, or of the others, in order
unfoldable pub has_value : Task → Bool
has_value skipped = false
has_value end = false
has_value (org v) = false
has_value no_org = false
has_value label_only = false
has_value (instruction i) = false
has_value (value n v) = true
has_value (space n) = false

unfoldable pub values_shown : List Text → List Text → List Place
values_shown [] rs = []
values_shown (l ∷ ls) [] = []
values_shown (l ∷ ls) (r ∷ rs) = cond (has_value (line_of l).task) (places_in r) [] ++ values_shown ls rs

unfoldable pub others_shown : List Text → List Text → List Place
others_shown [] rs = []
others_shown (l ∷ ls) [] = []
others_shown (l ∷ ls) (r ∷ rs) = cond (has_value (line_of l).task) [] (places_in r) ++ others_shown ls rs

-- all rows together show the list: "Data words come first in source order, and instruction words go in after the data words."
unfoldable pub ShowsList : Type 0
ShowsList =
    (names : List Mnemonic) (base : ℕ) (s t : Text) (list : List Place) → printout_by names base s ≡ accepted t → assemble_by size (encode_by names) base s ≡ accepted list
    → map sixteen list ≡ values_shown (cut_at 10 s) (cut_at 10 t) ++ others_shown (cut_at 10 s) (cut_at 10 t)

-- ---- reasons
-- what follows the line's bytes: nothing where a word is emitted; else the reason why, or what failed in a directive's number
abbrev pub ending : Text → Text → Text
ending l r = drop (27 + length l) r

pub record ReasonShown (names : List Mnemonic) (base : ℕ) (s : Text) (k : ℕ) (l r : Text) : Type 0 where
  pub word : explain_by names base s (suc k) ≡ accepted emitted → ending l r ≡ []
  pub number : (f : Failure) (v : Verdict) → explain_by names base s (suc k) ≡ accepted v → line_reading l ≡ Some (failed f)
      → ending l r ≡ bytes "  <- " ++ phrase (because (bad_number f))
  pub reason : (x : Reason) → explain_by names base s (suc k) ≡ accepted (because x) → ((f : Failure) → ¬ (line_reading l ≡ Some (failed f)))
      → ending l r ≡ bytes "  <- " ++ phrase (because x)
  pub unread : (n i : ℕ) → explain_by names base s (suc k) ≡ refused n i → (ending l r ≡ []) × (take 8 (drop 6 r) ≡ bytes "not read")

unfoldable pub ShowsReasons : Type 0
ShowsReasons =
    (names : List Mnemonic) (base : ℕ) (s t : Text) → printout_by names base s ≡ accepted t → (k : ℕ) (l r : Text) → IsRow s t k l r → ReasonShown names base s k l r

-- ---- a source has a printout exactly if it has a list, and else the same refusal
unfoldable pub RefusesAlike : Type 0
RefusesAlike =
    (names : List Mnemonic) (base : ℕ) (s : Text) (n k : ℕ) → (printout_by names base s ≡ refused n k) ↔ (assemble_by size (encode_by names) base s ≡ refused n k)
