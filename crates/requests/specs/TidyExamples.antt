-- Tidy copies by example, byte for byte. Assumes nothing.
use Rattle.std.specs.Prelude.{◌≡◌, List, [], ◌∷◌, map}
use Rattle.rules.specs.Text.{Text, bytes}
use Rattle.requests.specs.Tidy.{tidy}

pub record Example : Type 0 where
  pub source : Text
  pub copy : Text

abbrev copied : Text → Text → Example
copied s t = record { source = s; copy = t }

unfoldable pub examples : List Example
examples =
    -- all skipped: an empty copy
    copied (bytes "") (bytes "")
    ∷ copied (bytes " \n\n;x : y\n") (bytes "")
    -- outer blanks, runs, a lone tab; no byte 10 at the end
    ∷ copied (bytes "NOP") (bytes "NOP")
    ∷ copied (bytes "\n\tNOP  x\t y \n") (bytes "NOP x y")
    ∷ copied (bytes "a\tb") (bytes "a b")
    ∷ copied (bytes "NOP\n\n;n\n RTS\n") (bytes "NOP\nRTS")
    -- around the first colon
    ∷ copied (bytes "x  y\t: NOP") (bytes "x  y:NOP")
    ∷ copied (bytes " x\ty : ") (bytes "x\ty:")
    ∷ copied (bytes " : ") (bytes ":")
    -- the second colon
    ∷ copied (bytes "x : y  z : DC.L   5") (bytes "x:y  z:DC.L 5")
    ∷ copied (bytes ":NOP  :") (bytes ":NOP :")
    ∷ copied (bytes "DC.:NOP :") (bytes "DC.:NOP :")
    ∷ copied (bytes "x : y  z : DC  L   5") (bytes "x:y z : DC L 5")
    ∷ copied (bytes "x : y  z  DC.L   5") (bytes "x:y z DC.L 5")
    ∷ copied (bytes "x : DC.L  5  :  7") (bytes "x:DC.L  5:7")
    ∷ copied (bytes "DC.L  5 :  7") (bytes "DC.L  5:7")
    -- a third colon is text
    ∷ copied (bytes "x: : : DC.L  5") (bytes "x::: DC.L 5")
    ∷ copied (bytes "x : y : z  : DC.L 5") (bytes "x:y:z : DC.L 5")
    -- the END line, whole, and an ORG line; their colons are not treated
    ∷ copied (bytes "ENDX  :  NOP") (bytes "ENDX : NOP")
    ∷ copied (bytes "NOP\nend \t x : y\nNOP") (bytes "NOP\nend x : y")
    ∷ copied (bytes "x : END  y\nNOP") (bytes "x:END y\nNOP")
    ∷ copied (bytes "ORG  5 : 6") (bytes "ORG 5 : 6")
    -- notes after an instruction stay
    ∷ copied (bytes "NOP ;  a") (bytes "NOP ; a")
    ∷ copied (bytes "x : ; n  m") (bytes "x:; n m")
    ∷ copied (bytes "a  b ; c : d") (bytes "a  b ; c:d")
    ∷ []

unfoldable pub TidyExamples : Type 0
TidyExamples = map (λ e. tidy e.source) examples ≡ map (λ e. e.copy) examples
