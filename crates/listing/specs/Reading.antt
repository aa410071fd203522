-- A list read back from its text. A line is read where the place that it shows is written as that line. Assumes nothing.
use Rattle.std.specs.Prelude.{ℕ, zero, suc, ◌+◌, ◌*◌, min, Bool, true, false, cond, Result, Ok, Err, List, [], ◌∷◌, length, take, drop, get_or, ltb}
use Rattle.rules.specs.Text.{Text, starts}
use Rattle.rules.specs.Number.{digit_value}
use Rattle.rules.specs.Assemble.{Place, Slices}
use Rattle.listing.specs.Listing.{place_text}
use Rattle.listing.specs.declared.reading.BadLine.{BadLine}

-- the digit value of a byte, and 0 for one that is no digit of the radix
unfoldable pub digit_in : ℕ → ℕ → ℕ
digit_in radix b = cond (ltb (digit_value b) radix) (digit_value b) 0

-- the value of hexadecimal digits after the value so far
unfoldable pub hex_in : ℕ → Text → ℕ
hex_in v [] = v
hex_in v (b ∷ s) = hex_in (v * 16 + digit_in 16 b) s

-- the place that the front of a text shows, whatever stands there
unfoldable pub place_in : Text → Place
place_in t = record { address = hex_in 0 (take 8 t); word = hex_in 0 (take 4 (drop 9 t)); mark = digit_in 10 (get_or t 14 0) }

-- the text begins with a line: the one that the place it shows is written as
unfoldable pub is_line : Text → Bool
is_line t = starts (place_text (place_in t)) t

-- the first line that is wrong
abbrev pub bad : ℕ → Result ℕ BadLine
bad n = Err (record { number = n })

-- n lines are read, and there is room for so many more: how many there are, or the number of the first that is no line or has no room
unfoldable pub read_lines : ℕ → ℕ → Text → Result ℕ BadLine
read_lines zero n [] = Ok n
read_lines zero n (b ∷ s) = bad (suc n)
read_lines (suc room) n [] = Ok n
read_lines (suc room) n (b ∷ s) = elim (is_line (b ∷ s)) [ true ↦ read_lines room (suc n) (drop 16 (b ∷ s)) | false ↦ bad (suc n) ]

-- the answer to a text, with room for so many places
abbrev pub read_list : ℕ → Text → Result ℕ BadLine
read_list room t = read_lines room 0 t

-- the places of the first n lines
unfoldable pub places_in : ℕ → Text → List Place
places_in zero t = []
places_in (suc n) t = place_in t ∷ places_in n (drop 16 t)

-- how many places three slices have room for
abbrev pub room_in : Slices → ℕ
room_in x = min (length x.addresses) (min (length x.words) (length x.marks))
