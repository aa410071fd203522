-- The refusals in words, by the man page's list: of each what its place counts, and under which condition it comes. Assumes nothing.
use Rattle.std.specs.Prelude.{ℕ, ◌-◌, [], ◌∷◌, ◌++◌, Option, None, Some, get_or, length, replicate}
use mathlib.Core.List.{flat_map}
use Prim.Native.String.{String}
use Rattle.rules.specs.Text.{Text, bytes}
use Rattle.listing.specs.Listing.{decimal}
use Rattle.cli_error.specs.declared.words.Counts.{Counts}
use Rattle.cli_error.specs.declared.words.Counts.TheVariants.{Length, Offset, Count, Line, Index}

-- what a refusal's place counts, none where it is always 0, and the refusal in words
pub record Row : Type 0 where
  pub counted : Option Counts
  pub words : Text

abbrev row : Option Counts → String → Row
row c w = record { counted = c; words = bytes w }

-- by their numbers; 0 is none
unfoldable pub row_of : ℕ → Row
row_of n =
    get_or
    (row None ""
    ∷ row (Some Length) "a source over 32,768 bytes"
    ∷ row (Some Offset) "a byte over 127"
    ∷ row (Some Count) "over 4,096 lines"
    ∷ row None "base 2^30 or more"
    ∷ row (Some Line) "address 2^30 or more after this line"
    ∷ row (Some Line) "a new label when 256 are recorded"
    ∷ row (Some Count) "more places than there is room for"
    ∷ row None "a distance outside +-(2^30 - 1)"
    ∷ row (Some Count) "more places than the list has"
    ∷ row (Some Index) "a mark over 3, or a 2 and a 3 that are not together"
    ∷ row (Some Index) "a moved address below 0 or above 2^30 + 1"
    ∷ row None "no label at or below the address"
    ∷ row (Some Line) "no such line, or one that is never read"
    ∷ row (Some Line) "an instruction with no encoding in the manual's words"
    ∷ row (Some Line) "a displacement out of range"
    ∷ row (Some Offset) "a cut, missing or unknown command, a 17th row or a condition over 15"
    ∷ row (Some Offset) "a branch name that starts with a blank, has a lower-case letter, comes twice or is another mnemonic"
    ∷ row (Some Length) "a copy longer than there is room for"
    ∷ row (Some Index) "a list address that is odd or above 16,382"
    ∷ row (Some Count) "more than 1,000,000 sources"
    ∷ row None "a total above 2^33"
    ∷ [])
    n
    (row None "")

unfoldable pub counted : ℕ → Option Counts
counted n = (row_of n).counted

unfoldable pub words : ℕ → Text
words n = (row_of n).words

-- what stands between a refusal's number and its place: what the place counts
abbrev pub counted_text : Counts → Text
counted_text Length = bytes " at length "
counted_text Offset = bytes " at offset "
counted_text Count = bytes " at count "
counted_text Line = bytes " at line "
counted_text Index = bytes " at index "

-- a number in decimal, with spaces in front, in k columns or as many as it needs
unfoldable pub padded : ℕ → ℕ → Text
padded k n = replicate (k - length (decimal n)) 32 ++ decimal n

-- ---- the list of all, for `--help`
unfoldable pub refusal_row : ℕ → Text
refusal_row n = (((bytes "  " ++ padded 2 n) ++ bytes "  ") ++ words n) ++ bytes "\n"

unfoldable pub refusals_text : Text
refusals_text = flat_map refusal_row (1 ∷ 2 ∷ 3 ∷ 4 ∷ 5 ∷ 6 ∷ 7 ∷ 8 ∷ 9 ∷ 10 ∷ 11 ∷ 12 ∷ 13 ∷ 14 ∷ 15 ∷ 16 ∷ 17 ∷ 18 ∷ 19 ∷ 20 ∷ 21 ∷ [])
