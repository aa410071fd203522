-- What is promised of the texts beside their definitions. Assumes nothing.
use Rattle.std.specs.Prelude.{ℕ, ◌+◌, ◌<◌, ◌≤◌, ◌≡◌, ◌↔◌, ◌⊎◌, List, [], ◌∷◌, ◌++◌, length, None, Some, false}
use Rattle.rules.specs.Text.{Text, bytes, contains}
use Rattle.rules.specs.Line.{SourceLine, lines_of}
use Rattle.answer.specs.Refusal.{number_of, place_of}
use Rattle.answer.specs.declared.Refusal.{Refusal}
use Rattle.listing.specs.Listing.{decimal}
use Rattle.cli_error.specs.Refusals.{counted, words}
use Rattle.cli_error.specs.Reason.{mark, reason_of}
use Rattle.cli_error.specs.Shown.{row_text, shown_text}
use Rattle.cli_error.specs.declared.words.Counts.TheVariants.{Line}

-- ---- the refusals in words

-- every refusal has words of its own: they tell which one it is
unfoldable pub OwnWords : Type 0
OwnWords = (m n : ℕ) → 1 ≤ m → m ≤ 21 → 1 ≤ n → n ≤ 21 → words m ≡ words n → m ≡ n

-- a byte that is printed, of ASCII
unfoldable pub AllPlain : Text → Type 0
AllPlain [] = Unit
AllPlain (b ∷ s) = (32 ≤ b) × (b < 127) × AllPlain s

-- there are words for each, and they stay on their line
unfoldable pub PlainWords : Type 0
PlainWords = (n : ℕ) → 1 ≤ n → n ≤ 21 → (0 < length (words n)) × AllPlain (words n)

-- what the place counts is told exactly where the place is not always 0
unfoldable pub PlaceTold : Type 0
PlaceTold = (e : Refusal) → (counted (number_of e) ≡ None) ↔ ((d : Refusal) → number_of d ≡ number_of e → place_of d ≡ 0)

-- ---- the line that is shown

unfoldable pub In : SourceLine → List SourceLine → Type 0
In l [] = ⊥
In l (x ∷ xs) = (l ≡ x) ⊎ In l xs

-- of a refusal at a line: that line of the source, by the rules' cut, with its number
unfoldable pub LineShown : Type 0
LineShown = (s : Text) (n : ℕ) (l : SourceLine) → counted n ≡ Some Line → In l (lines_of s) → shown_text n l.number s ≡ row_text l.number l.text

-- and nothing where the source has no such line
unfoldable pub NoLineShown : Type 0
NoLineShown = (s : Text) (n p : ℕ) → counted n ≡ Some Line → ((l : SourceLine) → In l (lines_of s) → l.number ≡ p → ⊥) → shown_text n p s ≡ []

-- a line of the source on which a place stands, or the byte 10 after it does
pub record Holding (ls : List SourceLine) (number at : ℕ) : Type 0 where
  pub line : SourceLine
  pub one_of : In line ls
  pub numbered : line.number ≡ number
  pub from : line.start ≤ at
  pub to : at ≤ line.start + length line.text

-- of a byte over 127: the line on which it stands, with its number
unfoldable pub OffsetShown : Type 0
OffsetShown = (s : Text) (i : ℕ) → i ≤ length s → (n : ℕ) × (h : Holding (lines_of s) n i) × (shown_text 2 i s ≡ row_text n h.line.text)

-- ---- the system's words

-- all that stands in front of the number
unfoldable pub ReasonGiven : Type 0
ReasonGiven = (t : Text) (n : ℕ) → reason_of (t ++ (mark ++ (decimal n ++ bytes ")"))) ≡ t

-- and all where there is none
unfoldable pub ReasonWhole : Type 0
ReasonWhole = (t : Text) → contains mark t ≡ false → reason_of t ≡ t
