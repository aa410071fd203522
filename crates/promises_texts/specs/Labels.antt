-- The labels read back from what `symlist` prints, by the text alone and from each row's end: byte 10, decimal digits back to a space, eight
-- hexadecimal digits, a space; the rest is the name, whatever blanks it has. Assumes nothing.
use Rattle.std.specs.Prelude.{ℕ, ◌+◌, ◌-◌, ◌*◌, ◌<◌, ◌≡◌, Bool, true, ◌&&◌, cond, List, [], ◌∷◌, ◌++◌, map, leb, ltb, length}
use Rattle.rules.specs.Text.{Text, cut_at}
use Rattle.rules.specs.Line.{size}
use Rattle.rules.specs.Label.{Label}
use Rattle.rules.specs.Answer.{accepted}
use Rattle.requests.specs.Symbols.{symbols}
use Rattle.promises.specs.Refusals.{PassCondition}
use Rattle.promises.specs.Symbols.{IsSymbols}
use Rattle.symtext.specs.Symlist.{symbols_text}

-- ---- digits
-- the value of a digit, of letters those in upper case; 16 for a byte that is none
unfoldable pub digit_shown : ℕ → ℕ
digit_shown b = cond (leb 48 b && leb b 57) (b - 48) (cond (leb 65 b && leb b 70) (b - 55) 16)

-- nothing but digits of a radix
unfoldable pub only_digits : ℕ → Text → Bool
only_digits radix [] = true
only_digits radix (b ∷ s) = ltb (digit_shown b) radix && only_digits radix s

-- their value after the value so far, the most significant first
unfoldable pub value_after : ℕ → ℕ → Text → ℕ
value_after radix v [] = v
value_after radix v (b ∷ s) = value_after radix (radix * v + digit_shown b) s

-- ---- a row
-- what a row shows of a label
pub record Shown : Type 0 where
  pub name : Text
  pub address : ℕ
  pub line : ℕ

abbrev pub shown : Label → Shown
shown x = record { name = x.name; address = x.address; line = x.line }

-- the row r shows x: its name, a space, the address in eight hexadecimal digits, a space, and the line in decimal digits, with no 0 in front
pub record Shows (r : Text) (x : Shown) : Type 0 where
  pub address : Text
  pub line : Text
  pub parts : r ≡ x.name ++ (32 ∷ (address ++ (32 ∷ line)))
  pub eight : length address ≡ 8
  pub hexadecimal : only_digits 16 address ≡ true
  pub address_value : value_after 16 0 address ≡ x.address
  pub decimal : only_digits 10 line ≡ true
  pub some_digit : 0 < length line
  pub no_zeros : (b : ℕ) (s : Text) → ¬ (line ≡ 48 ∷ b ∷ s)
  pub line_value : value_after 10 0 line ≡ x.line

-- ---- a text
-- the parts of a text that is cut at byte 10 are a row for each of these, in this order, and then an empty end
unfoldable pub ShowsEach : List Text → List Shown → Type 0
ShowsEach rs [] = rs ≡ [] ∷ []
ShowsEach [] (x ∷ xs) = ⊥
ShowsEach (r ∷ rs) (x ∷ xs) = Shows r x × ShowsEach rs xs

abbrev pub ShowsLabels : Text → List Shown → Type 0
ShowsLabels t xs = ShowsEach (cut_at 10 t) xs

-- ---- the promise
pub record SymbolsReadBack : Type 0 where
  -- of an accepted source each label has its row, in the list's order, and there is no row else
  pub labels : (base : ℕ) (s : Text) (l : List Label) → symbols base s ≡ accepted l → IsSymbols base s l × ShowsLabels (symbols_text base s) (map shown l)
  -- a text shows one list of labels at most: so each name, address and line is told from the text alone
  pub one_reading : (t : Text) (xs ys : List Shown) → ShowsLabels t xs → ShowsLabels t ys → xs ≡ ys
  -- and what is printed of a refused source shows none, not even an empty list
  pub no_refusal : (base : ℕ) (s : Text) (n p : ℕ) (xs : List Shown) → PassCondition size base s n p → ¬ ShowsLabels (symbols_text base s) xs
