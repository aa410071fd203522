-- The sheet's odd lines and limits, as tables of totals, sources and answers; and the bezel's script, alone and in a series. Assumes nothing.
use Rattle.std.specs.Prelude.{ℕ, ◌+◌, ◌^◌, ◌≡◌, List, [], ◌∷◌, map}
use Rattle.rules.specs.Text.{Text, bytes}
use Rattle.rules.specs.Answer.{Answer, accepted, refused}
use Rattle.requests.specs.Sheet.{Totals, totals, no_totals, add_source, plant_sheet, mean_of}

-- a call: totals handed in, a source, and the answer
pub record Example : Type 0 where
  pub before : Totals
  pub source : Text
  pub answer : Answer Totals

-- what a source adds to no totals: lines skipped, ORG, label only, data, with a word, without, END; words, marked words, labels
abbrev counts : Text → ℕ → ℕ → ℕ → ℕ → ℕ → ℕ → ℕ → ℕ → ℕ → ℕ → Example
counts s a b c d e f g w m l = record { before = no_totals; source = s; answer = accepted (totals a b c d e f g w m l 1 0) }

-- what follows the first colon decides
unfoldable pub of_lines : List Example
of_lines =
    counts (bytes "X: END") 0 0 0 0 0 1 0 0 0 1
    ∷ counts (bytes "X: ; n") 0 0 0 0 0 1 0 0 0 1
    ∷ counts (bytes "A: B:") 0 0 0 0 0 1 0 0 0 1
    ∷ counts (bytes "X: ; DC.L 4") 0 0 0 1 0 0 0 2 0 2
    ∷ counts (bytes "X: DC.L 4") 0 0 0 1 0 0 0 2 0 1
    ∷ counts (bytes "NOP:") 0 0 1 0 0 0 0 0 0 1
    ∷ counts (bytes "DC.L:") 0 0 1 0 0 0 0 0 0 1
    ∷ counts (bytes ":") 0 0 1 0 0 0 0 0 0 1
    ∷ counts (bytes "ORG: X") 0 1 0 0 0 0 0 0 0 0
    ∷ counts (bytes "ENDX: NOP") 0 0 0 0 0 0 1 0 0 0
    ∷ counts [] 1 0 0 0 0 0 0 0 0 0
    ∷ counts (bytes "NOP\n; n\n\nEND\nNOP\nX:\n") 2 0 0 0 1 0 4 1 0 0
    ∷ counts (bytes "X:JMP X\nMOVE X,D0\nMOVE Y,D0\nFOO") 0 0 0 0 2 2 0 3 1 1
    ∷ []

-- P1's script
abbrev p1 : Text
p1 = bytes "ORG $1000\nLIM: DC.L 4160\nGO: MOVEQ #3,D1\nMOVE.L LIM,D2\nCMP.L #4160,D2\nBNE GO\nNOP\nEND"

-- a source that is refused, by 2 and by 5
abbrev high : Text
high = 200 ∷ []

abbrev far : Text
far = bytes "NOP\nORG $40000000"

-- twelve totals with n sources accepted and m refused
abbrev of : ℕ → ℕ → Totals
of n m = totals 1 2 3 4 5 6 7 8 9 10 n m

abbrev call : Totals → Text → Answer Totals → Example
call t s r = record { before = t; source = s; answer = r }

-- a refused source adds one and leaves the most labels alone; 20 by both counts together, whatever the source; then 21, by any of
-- the twelve; a total may pass 2^33 by a source
unfoldable pub of_limits : List Example
of_limits =
    call (of 1 0) high (accepted (of 1 1))
    ∷ call (of 1 1) far (accepted (of 1 2))
    ∷ call (of 999999 0) high (accepted (of 999999 1))
    ∷ call (of 999999 1) high (refused 20 1000000)
    ∷ call (of 0 1000000) high (refused 20 1000000)
    ∷ call (of (2 ^ 63) (2 ^ 63)) p1 (refused 20 1000000)
    ∷ call (totals (2 ^ 64) 0 0 0 0 0 0 0 0 0 1000000 0) p1 (refused 20 1000000)
    ∷ call (totals (2 ^ 33 + 1) 0 0 0 0 0 0 0 0 0 1 0) high (refused 21 0)
    ∷ call (totals 0 0 0 0 0 0 0 0 0 (2 ^ 33 + 1) 1 0) high (refused 21 0)
    ∷ call (totals 0 0 0 0 0 0 0 (2 ^ 33) 0 0 1 0) (bytes "NOP") (accepted (totals 0 0 0 0 1 0 0 (2 ^ 33 + 1) 0 0 2 0))
    ∷ call (totals 0 0 0 0 1 0 0 (2 ^ 33 + 1) 0 0 2 0) (bytes "NOP") (refused 21 0)
    ∷ []

abbrev pub Agree : List Example → Type 0
Agree es = map (λ (e : Example). add_source e.before e.source) es ≡ map (λ (e : Example). e.answer) es

pub record SheetExamples : Type 0 where
  pub lines_agree : Agree of_lines
  pub limits_agree : Agree of_limits
  pub of_none : plant_sheet [] ≡ accepted no_totals
  pub of_series : plant_sheet (p1 ∷ high ∷ bytes "A:\nB:\nC:" ∷ p1 ∷ []) ≡ accepted (totals 0 2 3 2 10 0 2 18 2 3 3 1)
  -- "two whole numbers, words and accepted scripts"
  pub of_mean : mean_of (totals 0 2 3 2 10 0 2 18 2 3 3 1) ≡ record { words = 18; scripts = 3 }
