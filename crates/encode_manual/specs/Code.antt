-- What an instruction comes to in the manual's call, as the code answers it: its size, its fault, its words and their places. Assumes nothing.
use Rattle.std.specs.Prelude.{ℕ, ◌+◌, ◌/◌, ◌%◌, ◌≡◌, List, [], ◌∷◌, Option, None, Some, Result, Ok, Err, unwrap_or}
use Rattle.rules.specs.Option.{bind}
use Rattle.rules.specs.Label.{Table}
use Rattle.rules.specs.Encode.{Content, literal, long_address}
use Rattle.rules.specs.Assemble.{Place, place}
use Rattle.requests.specs.ManualCall.{Form, form_size, form_fault, form_contents}
use Rattle.encode_manual.specs.declared.ManualCode.{ManualCode}
use Rattle.encode_manual.specs.declared.ManualCode.TheVariants.{Word, Value, Long, Address}
use Rattle.encode_manual.specs.declared.Fault.{Fault}
use Rattle.encode_manual.specs.declared.Fault.TheVariants.{NoEncoding, OutOfReach}

-- how many bytes a code takes
abbrev pub size_of : ManualCode → ℕ
size_of (Word w) = 2
size_of (Value w v) = 4
size_of (Long w v) = 6
size_of (Address w x) = 6

-- its words: a long in two extension words, high first
abbrev pub words_of : ManualCode → List Content
words_of (Word w) = literal w ∷ []
words_of (Value w v) = literal w ∷ literal v ∷ []
words_of (Long w v) = literal w ∷ literal (v / 65536) ∷ literal (v % 65536) ∷ []
words_of (Address w x) = literal w ∷ long_address x ∷ []

-- their places at address a, marks 2 and 3 on a label's address
abbrev pub places_of : ℕ → ManualCode → List Place
places_of a (Word w) = place a w 0 ∷ []
places_of a (Value w v) = place a w 0 ∷ place (a + 2) v 0 ∷ []
places_of a (Long w v) = place a w 0 ∷ place (a + 2) (v / 65536) 0 ∷ place (a + 4) (v % 65536) 0 ∷ []
places_of a (Address w x) = place a w 0 ∷ place (a + 2) (x / 65536 % 65536) 2 ∷ place (a + 4) (x % 65536) 3 ∷ []

-- ---- a fault
abbrev pub fault_size : Fault → ℕ
fault_size (NoEncoding n) = n
fault_size (OutOfReach n) = n

abbrev pub fault_number : Fault → ℕ
fault_number (NoEncoding n) = 14
fault_number (OutOfReach n) = 15

-- ---- what an instruction comes to
abbrev pub size_in : Result ManualCode Fault → ℕ
size_in (Ok c) = size_of c
size_in (Err f) = fault_size f

abbrev pub fault_of : Result ManualCode Fault → Option ℕ
fault_of (Ok c) = None
fault_of (Err f) = Some (fault_number f)

abbrev pub contents_of : Result ManualCode Fault → List Content
contents_of (Ok c) = words_of c
contents_of (Err f) = []

-- ---- r is what the form g comes to at address a, by the labels ls
pub record Codes (ls : Table) (a : ℕ) (g : Option Form) (r : Result ManualCode Fault) : Type 0 where
  pub sized : size_in r ≡ form_size g
  pub fault : fault_of r ≡ form_fault ls a g
  pub words : contents_of r ≡ unwrap_or (bind g (λ f. form_contents ls a f)) []
