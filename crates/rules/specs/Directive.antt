-- "Every directive .. passes this on": what the number of a line said, for ORG and DC, by the six steps. Assumes nothing.
use Rattle.std.specs.Prelude.{ℕ, ◌||◌, cond, List, [], ◌∷◌, eqb, Option, None, Some}
use Rattle.rules.specs.Text.{Text, bytes, uppers, trim, pieces, joined, uncut, around, first_cut, starts, contains, nth}
use Rattle.rules.specs.Number.{Reading}
use Rattle.rules.specs.Line.{reading_in, value_reading_in, is_directive}

-- step 5 without a colon: the pieces after a label, or the whole text
unfoldable pub piece_directive : Text → List Text → Text
piece_directive s [] = s
piece_directive s (p ∷ []) = s
piece_directive s (p ∷ q ∷ ps) = cond (is_directive p) s (joined (q ∷ ps))

-- step 5: the directive of a text
unfoldable pub directive_of : Text → Text
directive_of s = elim (first_cut 58 s) [ uncut ↦ piece_directive s (pieces s) | around l d ↦ trim d ]

-- step 5: "With `DC.` in the line, the directive's second piece"; a line without reads no number
unfoldable pub data_reading : Text → Option (Reading ℕ)
data_reading s = cond (contains (bytes "DC.") (uppers s)) (Some (value_reading_in (nth 1 (pieces (directive_of s))))) None

-- step 4: what goes on, after a label or without one
unfoldable pub after_colon : Text → Text
after_colon s = elim (first_cut 58 s) [ uncut ↦ s | around l r ↦ trim r ]

-- steps 1 to 3 on the trimmed line
unfoldable pub trimmed_reading : Text → Option (Reading ℕ)
trimmed_reading [] = None
trimmed_reading (b ∷ s) =
    let u = uppers (b ∷ s) in
    cond (eqb b 59 || starts (bytes "END") u) None
    (cond (starts (bytes "ORG") u) (Some (reading_in (nth 1 (pieces (b ∷ s))))) (data_reading (after_colon (b ∷ s))))

-- the number of a line as it reads, where the line asks for one
unfoldable pub line_reading : Text → Option (Reading ℕ)
line_reading s = trimmed_reading (trim s)
