-- What a call answers of the files that its words name, as they are read. Assumes nothing.
use Rattle.std.specs.Prelude.{◌≡◌, ◌⊎◌, List, [], ◌∷◌, Option, None, Some}
use Rattle.rules.specs.Text.{Text}
use Rattle.cli_error.specs.Fault.{failed}
use Rattle.cli_error.specs.Answered.{Answered, Made, answer_of, failure_of, out_of_memory}
use Rattle.cli_error.specs.Gives.{Gives}
use Rattle.cli_error.specs.declared.Answer.{Answer}
use Rattle.cli_run.specs.From.{From, standard, file, again}
use Rattle.cli_run.specs.Input.{Named}
use Rattle.cli_run.specs.Items.{Found, read, unread, Item, Rest, with_item}
use Rattle.cli_io.specs.World.{World, input_name}

-- what is made of a branch table, if one is named, and of a file
abbrev pub Both : Type 0
Both = Option Named → Named → Made

-- what is answered of a branch table and several files
abbrev pub Each : Type 0
Each = Option Named → Rest

module _ {H : Type 0} (w : World H) where
  -- ---- one file

  -- a file was read, or was not
  abbrev pub Reads : Option Text → H → H → Item → Type 0
  Reads n old new i = (i.name ≡ input_name n) × w.reads old new n i.found

  -- standard input is read once, to its end: no bytes are left
  abbrev pub ReadsFrom : From → H → H → Item → Type 0
  ReadsFrom standard old new i = Reads None old new i
  ReadsFrom (file n) old new i = Reads (Some n) old new i
  ReadsFrom again old new i = (new ≡ old) × (i ≡ record { name = input_name None; found = read [] })

  -- a branch table, if one is named
  abbrev pub ReadsTable : Option Text → H → H → Option Item → Type 0
  ReadsTable None old new None = new ≡ old
  ReadsTable (Some n) old new (Some i) = Reads (Some n) old new i
  ReadsTable _ old new _ = ⊥

  -- ---- what is answered, a, from the state `old` to the state `new`

  module _ (new : H) (a : Answered) where
    -- a table that is not read ends the call
    abbrev OnFound : H → (Option Named → Type 0) → Text → Found → Type 0
    OnFound mid k name (read b) = k (Some (record { name = name; text = b }))
    OnFound mid k name (unread what reason) = (new ≡ mid) × (a ≡ failure_of (failed what name reason))

    abbrev pub OnTable : H → (Option Named → Type 0) → Option Item → Type 0
    OnTable mid k None = k None
    OnTable mid k (Some i) = OnFound mid k i.name i.found

    -- there was no memory to go on
    abbrev pub Lacks : H → Type 0
    Lacks mid = (new ≡ mid) × (a ≡ out_of_memory)

    -- the branch table is read first
    abbrev pub WithTable : Option Text → H → (H → Option Named → Type 0) → Type 0
    WithTable branches old k = (t : Option Item) × (mid : H) × ReadsTable branches old mid t × OnTable mid (k mid) t

  -- a command on one file: the file is read, and f decides
  abbrev pub AnswersFile : Option Text → (Named → Made) → H → H → Answered → Type 0
  AnswersFile n f old new a = (i : Item) × Reads n old new i × (a ≡ with_item failure_of (λ b. answer_of (f b)) i)

  abbrev pub AnswersOne : Option Text → Option Text → Both → H → H → Answered → Type 0
  AnswersOne branches n f old new a = WithTable new a branches old (λ mid t. AnswersFile n (f t) mid new a) ⊎ Lacks new a old

  -- a command on several files: they are read one after another, up to one with which the answer does not depend on those that are left
  unfoldable pub Folds : Rest → List From → H → H → Answered → Type 0
  Folds f [] old new a = (new ≡ old) × (a ≡ f [])
  Folds f (x ∷ xs) old new a =
      (i : Item) × (mid : H) × ReadsFrom x old mid i
      × (((new ≡ mid) × ((left : List Item) → f (i ∷ left) ≡ a)) ⊎ (Lacks new a mid ⊎ Folds (λ left. f (i ∷ left)) xs mid new a))

  abbrev pub AnswersEach : Option Text → List From → Each → H → H → Answered → Type 0
  AnswersEach branches xs f old new a = WithTable new a branches old (λ mid t. Folds (f t) xs mid new a ⊎ Lacks new a mid) ⊎ Lacks new a old

-- ---- what the code answers, r
abbrev pub AnswersFrom : {H : Type 0} → World H → Option Text → (Named → Made) → H → H → Answer → Type 0
AnswersFrom w n f old new r = (a : Answered) × AnswersFile w n f old new a × Gives a r

abbrev pub Answers : {H : Type 0} → (H → H → Answered → Type 0) → H → H → Answer → Type 0
Answers P old new r = (a : Answered) × P old new a × Gives a r
