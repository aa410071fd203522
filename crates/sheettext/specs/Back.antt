-- A sheet read back: the numbers that a text's rows show, and whether these are written as that text. Assumes nothing.
use Rattle.std.specs.Prelude.{ℕ, ◌+◌, ◌-◌, ◌*◌, ◌^◌, min, ◌&&◌, cond, List, [], ◌∷◌, eqb, leb, ltb, length, take, get_or, set, replicate, Result, Ok, Err}
use Rattle.rules.specs.Text.{Text, cut_at}
use Rattle.requests.specs.Sheet.{Totals as Said}
use Rattle.sheet.specs.Totals.{said, lent_totals}
use Rattle.sheettext.specs.Rows.{sheet_text}
use Rattle.listing.specs.declared.reading.BadLine.{BadLine}
use Rattle.sheet.specs.declared.Totals.{Totals}

-- a digit goes to a number's end, up to 19 digits; any other byte changes nothing
unfoldable pub with_byte : ℕ → ℕ → ℕ
with_byte v b = cond (leb 48 b && leb b 57) (cond (ltb v (10 ^ 18)) (10 * v + (b - 48)) v) v

-- byte 10 ends a row; from the thirteenth on they are one
unfoldable pub next_row : ℕ → ℕ → ℕ
next_row row b = cond (eqb b 10) (min (row + 1) 12) row

-- the numbers of the rows, from a row on
unfoldable pub read_from : ℕ → List ℕ → Text → List ℕ
read_from row ns [] = ns
read_from row ns (b ∷ t) = read_from (next_row row b) (set ns row (with_byte (get_or ns row 0) b)) t

-- the totals that a text shows, whatever it is: its first twelve numbers
unfoldable pub totals_in : Text → Said
totals_in t = lent_totals (read_from 0 (replicate 13 0) t)

-- how many bytes two texts have in common at their front
unfoldable pub same_front : Text → Text → ℕ
same_front [] t = 0
same_front (a ∷ s) [] = 0
same_front (a ∷ s) (b ∷ t) = cond (eqb a b) (1 + same_front s t) 0

-- a sheet, or none, with its first wrong line
pub data Read : Type 0 where
  is_sheet : Said → Read
  wrong : ℕ → Read

-- s is what the totals are written as, and t the text
unfoldable pub judged : Said → Text → Text → Read
judged u s t =
    cond (eqb (same_front s t) (length s) && eqb (same_front s t) (length t)) (is_sheet u) (wrong (length (cut_at 10 (take (same_front s t) t))))

unfoldable pub sheet_in : Text → Read
sheet_in t = judged (totals_in t) (sheet_text (totals_in t)) t

-- as the code answers it
abbrev pub read_of : Result Totals BadLine → Read
read_of (Ok t) = is_sheet (said t)
read_of (Err l) = wrong l.number
