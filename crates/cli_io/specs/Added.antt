-- One of several files, read and added. Assumes nothing.
use Rattle.std.specs.Prelude.{ℕ, ◌≡◌, List, ◌∷◌, None, Some}
use Rattle.rules.specs.Text.{Text}
use Rattle.cli_error.specs.declared.Answer.{Answer}
use Rattle.cli_error.specs.Gives.{Gives}
use Rattle.cli_run.specs.From.{From, standard, file, again}
use Rattle.cli_run.specs.Items.{Item, Rest}
use Rattle.cli_io.specs.World.{World, WasRead, input_name}
use Rattle.cli_io.specs.Answers.{ReadsFrom}
use Rattle.cli_io.specs.Tabled.{NotRead}

abbrev pub from_name : From → Text
from_name standard = input_name None
from_name (file n) = n
from_name again = input_name None

module _ {H : Type 0} (w : World H) where
  -- all of n bytes was read, and the front is kept
  abbrev pub SourceRead : H → H → From → List ℕ → ℕ → Type 0
  SourceRead old new standard front n = WasRead (w.reads old new None) front n
  SourceRead old new (file name) front n = WasRead (w.reads old new (Some name)) front n
  SourceRead old new again front n = (new ≡ old) × (n ≡ 0)

  abbrev pub SourceNotRead : H → H → From → Answer → Type 0
  SourceNotRead old new standard a = NotRead w old new None a
  SourceNotRead old new (file name) a = NotRead w old new (Some name) a
  SourceNotRead old new again a = ⊥

  -- the call goes on with k of what is left
  abbrev pub GoesOn : (Rest → Type 0) → Rest → From → H → H → Type 0
  GoesOn k f x old new = (i : Item) × ReadsFrom w x old new i × k (λ left. f (i ∷ left))

  -- or it ends, whatever is left
  abbrev pub Stops : Rest → From → H → H → Answer → Type 0
  Stops f x old new a = (i : Item) × ReadsFrom w x old new i × ((left : List Item) → Gives (f (i ∷ left)) a)
