-- What a call comes to on the files that are asked for. Assumes nothing.
use Rattle.std.specs.Prelude.{◌≡◌, ◌⊎◌, ℕ, Bool, List, [], ◌∷◌, map, Option, None, Some, option_map, Result, ⊤}
use Rattle.std.specs.declared.io.Error.{Error}
use Rattle.rules.specs.Text.{Text}
use Rattle.commandline.specs.declared.Asked.{Asked}
use Rattle.outcome.specs.Made.{Made}
use Rattle.outcome.specs.declared.Outcome.{Outcome}
use Rattle.outcome.specs.declared.Outcome.TheVariants.{NoMemory}
use Rattle.outcome.specs.declared.making.Joining.{Joining}
use Rattle.diagnostic.specs.Said.{no_memory_text}
use Rattle.serving.specs.Said.{called_by, Tells}
use Rattle.serving.specs.Served.{Served, lent}
use Rattle.serving.specs.Gathered.{ServedEach, NoRoom}
use Rattle.asked.specs.Names.{input_of}
use Rattle.asked.specs.Said.{Says}

-- FILE as an input, and --branches: none is standard input, and no table
abbrev pub first_input : List Text → Option Text
first_input [] = None
first_input (n ∷ ns) = input_of n

abbrev pub file_of : Asked → Option Text
file_of a = first_input (map (λ s. s.now) a.files.items)

abbrev pub all_inputs : List Text → List (Option Text)
all_inputs [] = None ∷ []
all_inputs (n ∷ ns) = input_of n ∷ map input_of ns

abbrev pub inputs_of : Asked → List (Option Text)
inputs_of a = all_inputs (map (λ s. s.now) a.files.items)

abbrev pub table_of : Asked → Option Text
table_of a = option_map (λ s. s.now) a.branches

-- f, what has to be made of the table's text and the input's; n, how much of the input is kept; h, what the files hold; output, how the output is
-- named; puts, what is owed of a text that is put and of the answer; same, that nothing is put; old and new, what standard error has taken
abbrev pub One : (Text → Text → Made) → ℕ → (Option Text → Option (List ℕ)) → Asked → Text → (Text → Result ⊤ Error → Type 0) → Type 0
    → Option (List ℕ) → Option (List ℕ) → Outcome → Type 0
One f n h a output puts same old new o =
    Served f (lent h (table_of a)) (h (file_of a)) n puts same (λ s p. Tells (called_by (table_of a) (file_of a) output) s p old new) o

-- what stands in front of several texts, between them and after them
abbrev pub Joins : Joining → Text → Text → Text → Type 0
Joins j front between behind = (j.front.now ≡ front) × (j.between.now ≡ between) × (j.behind.now ≡ behind)

-- the same of several inputs: f, what has to be made of the table's text and an input's name and text; ok, whether it is accepted; j, what the texts
-- are joined by. Or there is no memory for the inputs' names
abbrev pub Each : (Text → Text → Text → Made) → (Text → Text → Bool) → ℕ → Joining → (Option Text → Option (List ℕ)) → Asked → Text → (Text → Result ⊤ Error → Type 0) → Type 0
    → Option (List ℕ) → Option (List ℕ) → Outcome → Type 0
Each f ok n j h a output puts same old new o =
    ServedEach h f ok (lent h (table_of a)) j n (inputs_of a) puts same (λ m s p. Tells (called_by (table_of a) m output) s p old new) (NoRoom old new) o
    ⊎ ((o ≡ NoMemory) × Says old new no_memory_text × same)
