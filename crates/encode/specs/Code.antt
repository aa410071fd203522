-- The words of an instruction as the code answers them, and their places in the list. Assumes nothing.
use Rattle.std.specs.Prelude.{ℕ, ◌+◌, ◌%◌, List, [], ◌∷◌, Option, None, Some}
use Rattle.rules.specs.Encode.{Content, literal, address, long_address}
use Rattle.rules.specs.Assemble.{Place, place}
use Rattle.encode.specs.declared.Code.{Code}
use Rattle.encode.specs.declared.Code.TheVariants.{Word, Value, Label}

-- one word, a word and a value, or a word and a label's address modulo 65,536; the stations' encoder gives no other contents
abbrev pub code_of : Option (List Content) → Option Code
code_of None = None
code_of (Some []) = None
code_of (Some (literal w ∷ [])) = Some (Word w)
code_of (Some (literal w ∷ literal v ∷ [])) = Some (Value w v)
code_of (Some (literal w ∷ address x ∷ [])) = Some (Label w (x % 65536))
code_of (Some (literal w ∷ literal v ∷ c ∷ cs)) = None
code_of (Some (literal w ∷ address x ∷ c ∷ cs)) = None
code_of (Some (literal w ∷ long_address x ∷ cs)) = None
code_of (Some (address x ∷ cs)) = None
code_of (Some (long_address x ∷ cs)) = None

-- the places of an instruction at address a: the second word "at address + 2", mark 1 on a label's address
abbrev pub places_of : ℕ → Option Code → List Place
places_of a None = []
places_of a (Some (Word w)) = place a w 0 ∷ []
places_of a (Some (Value w v)) = place a w 0 ∷ place (a + 2) v 0 ∷ []
places_of a (Some (Label w x)) = place a w 0 ∷ place (a + 2) x 1 ∷ []

-- how many words
abbrev pub code_length : Option Code → ℕ
code_length None = 0
code_length (Some (Word w)) = 1
code_length (Some (Value w v)) = 2
code_length (Some (Label w x)) = 2
