-- What the command `sheet` answers of the files that it reads, one after another. Assumes nothing.
use Rattle.std.specs.Borrow.{Bor}
use Rattle.std.specs.Prelude.{ℕ, zero, suc, ◌≡◌, ◌-◌, ◌^◌, ◌<◌, ◌⊎◌, Bool, List, [], ◌∷◌, ◌++◌, length, map, Option, Some, IsUtf8, codes}
use Rattle.rules.specs.Text.{Text}
use Rattle.requests.specs.Sheet.{Totals, no_totals}
use Rattle.cli_error.specs.Fault.{Fault, failed}
use Rattle.cli_error.specs.Answered.{Answered, output_of, failure_of}
use Rattle.cli_error.specs.declared.What.{What}
use Rattle.cli_error.specs.declared.What.TheVariants.{Open, Read}
use Rattle.cli_run.specs.Items.{unread, Item, with_item}
use Rattle.cli_io.specs.World.{World, input_name}
use Rattle.cli_io.specs.Answers.{Reads}
use Rattle.cli_totals.specs.Series.{Sum, summed, halts, with_file, text_of}
use Rattle.cli_totals.specs.Names.{whole_names, left_of, last_name}
use Rattle.cli_totals.specs.declared.adding.Kind.{Kind}
use Rattle.cli_totals.specs.declared.adding.Kind.TheVariants.{Sheet, Script}

-- a script's name that is not UTF-8
abbrev pub bad_name : Text → Fault
bad_name name = failed Open name (codes "the name is not UTF-8")

-- an input that does not end
abbrev pub no_end : Option Text → Fault
no_end file = failed Read (input_name file) (codes "file too large")

-- totals with a file that was read, or was not
abbrev pub sum_with : Kind → Totals → Item → Sum
sum_with kind t i = with_item halts (λ b. with_file kind t b) i

-- the file of a name is read; a name that is not UTF-8 names none, and nothing is read
abbrev pub ReadsNamed : {H : Type 0} → World H → Text → H → H → Item → Type 0
ReadsNamed w name old new i =
    Reads w (Some name) old new i
    ⊎ ((IsUtf8 name → ⊥) × (new ≡ old) × (i ≡ record { name = name; found = unread Open (codes "the name is not UTF-8") }))

-- ---- the call ends in the state `new` with the answer a: by a fault, or with the text for totals
module _ {H : Type 0} (new : H) (a : Answered) where
  abbrev pub Ends : Fault → H → Type 0
  Ends e now = (new ≡ now) × (a ≡ failure_of e)

  abbrev pub Totalled : Bool → Totals → H → Type 0
  Totalled json t now = (new ≡ now) × (a ≡ output_of (text_of json t) 0)

  -- with totals it goes on, by k
  abbrev pub GoesOn : (Totals → H → Type 0) → Sum → H → Type 0
  GoesOn k (summed t) now = k t now
  GoesOn k (halts e) now = Ends e now

module _ {H : Type 0} (w : World H) (new : H) (a : Answered) where
  -- the files of some names are read and added, one after another, to totals t
  unfoldable pub AddsFiles : Kind → List Text → (Totals → H → Type 0) → Totals → H → Type 0
  AddsFiles kind [] k t now = k t now
  AddsFiles kind (n ∷ ns) k t now =
      (i : Item) × (mid : H) × ReadsNamed w n now mid i × GoesOn new a (λ u m. AddsFiles kind ns k u m) (sum_with kind t i) mid

  -- the input, which names scripts, was not opened, or not read on
  abbrev pub Breaks : Option Text → H → H → Type 0
  Breaks file now mid =
      (what : What) × (reason : Text) × w.reads now mid file (unread what reason)
      × Ends new a (failed what (input_name file) reason) mid

  -- Bytes of it are read, and the scripts whose names they end; and so on, n times at most. `rest` was read of the next name.
  unfoldable pub AddsNamed : Bool → Option Text → ℕ → Text → Totals → H → Type 0
  AddsNamed json file zero rest t now = Ends new a (no_end file) now
  AddsNamed json file (suc n) rest t now =
      (mid : H) × (Breaks file now mid
      ⊎ ((w.takes now mid file [] × AddsFiles Script (last_name rest) (λ u m. Totalled new a json u m) t mid)
      ⊎ ((chunk : Text) × (0 < length chunk) × w.takes now mid file chunk
      × AddsFiles Script (whole_names (rest ++ chunk)) (λ u m. AddsNamed json file n (left_of (rest ++ chunk)) u m) t mid)))

  -- it is opened first
  abbrev pub AddsInput : Bool → Option Text → Totals → H → Type 0
  AddsInput json file t now =
      (mid : H) × (Breaks file now mid ⊎ (w.opens now mid file × AddsNamed json file (2 ^ 64 - 1) [] t mid))

abbrev pub texts : List (Bor Text) → List Text
texts ns = map (λ n. n.now) ns

-- ---- the whole call: the sheets, in their order, and then the scripts
abbrev pub AnswersSheet : {H : Type 0} → World H → Bool → List Text → Option Text → H → H → Answered → Type 0
AnswersSheet w json sheets file old new a = AddsFiles w new a Sheet sheets (λ t m. AddsInput w new a json file t m) no_totals old
