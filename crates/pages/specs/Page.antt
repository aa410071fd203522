-- The examples of a page, by its lines. Assumes nothing.
use Rattle.std.specs.Prelude.{ℕ, suc, Bool, true, false, not, ◌&&◌, List, [], ◌∷◌, ◌++◌, map, take, drop}
use Rattle.rules.specs.Text.{Text, bytes, starts}
use Rattle.pages.specs.declared.Example.{Example}

-- an example begins: the command and its words
abbrev pub begins : Text → Bool
begins l = starts (bytes "    $ lagvettu ") l

-- a file, byte by byte
abbrev pub is_file : Text → Bool
is_file l = starts (bytes "    = ") l

-- a line of standard input
abbrev pub is_input : Text → Bool
is_input l = starts (bytes "    >") l

-- a line of what is printed or said
abbrev pub is_wanted : Text → Bool
is_wanted l = starts (bytes "    ") l && not (starts (bytes "    $ ") l)

-- how many lines in front pass the test
unfoldable pub passing : (Text → Bool) → List Text → ℕ
passing f [] = 0
passing f (l ∷ ls) = elim (f l) [ true ↦ suc (passing f ls) | false ↦ 0 ]

abbrev pub front : (Text → Bool) → List Text → List Text
front f ls = take (passing f ls) ls

abbrev pub behind : (Text → Bool) → List Text → List Text
behind f ls = drop (passing f ls) ls

-- an example, by its lines: the command, the files, standard input, what is printed and said
pub record Sample : Type 0 where
  pub line : Text
  pub files : List Text
  pub input : List Text
  pub wanted : List Text

abbrev pub sample : Text → List Text → Sample
sample l ls = record { line = l; files = front is_file ls; input = front is_input (behind is_file ls); wanted = front is_wanted (behind is_input (behind is_file ls)) }

-- the examples of a page
unfoldable pub samples : List Text → List Sample
samples [] = []
samples (l ∷ ls) = elim (begins l) [ true ↦ sample l ls ∷ samples ls | false ↦ samples ls ]

-- the examples es, and after them those of the lines from k on
abbrev pub with_rest : {A E : Type 0} → (A → Text) → (E → Sample) → List A → ℕ → List E → List Sample
with_rest now view xs k es = map view es ++ samples (map now (drop k xs))

abbrev pub shown : Example → Sample
shown e = record { line = e.line.now; files = map (λ l. l.now) e.files.now; input = map (λ l. l.now) e.input.now; wanted = map (λ l. l.now) e.wanted.now }
