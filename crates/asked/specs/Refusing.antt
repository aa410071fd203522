-- What is said of names that are no UTF-8. Assumes nothing.
use Rattle.std.specs.Prelude.{◌≡◌, ℕ, List, Option, None, Some, codes}
use Rattle.std.specs.declared.io.Error.{Error}
use Rattle.rules.specs.Text.{Text}
use Rattle.commandline.specs.declared.Asked.{Asked}
use Rattle.diagnostic.specs.Said.{failed_text}
use Rattle.outcome.specs.declared.Outcome.{Outcome}
use Rattle.outcome.specs.declared.Outcome.TheVariants.{Failed}
use Rattle.outcome.specs.declared.What.{What}
use Rattle.outcome.specs.declared.What.TheVariants.{Open, Write}
use Rattle.outcome.specs.declared.Which.{Which}
use Rattle.outcome.specs.declared.Which.TheVariants.{Input}
use Rattle.asked.specs.Names.{shown, unread, unwritten}
use Rattle.asked.specs.Said.{Says}

abbrev pub reason : Text
reason = codes "the name is not UTF-8"

-- it is said of one, by which a file would have been opened or written; old and new, what standard error has taken before and after
abbrev pub Unnamed : What → Option Which → Text → Option (List ℕ) → Option (List ℕ) → Outcome → Type 0
Unnamed what which name old new o = (e : Error) × (o ≡ Failed what which e) × Says old new (failed_text what (shown name) reason)

abbrev pub Answered : What → Option Which → Text → Option (List ℕ) → Option (List ℕ) → Option Outcome → Type 0
Answered what which name old new None = ⊥
Answered what which name old new (Some o) = Unnamed what which name old new o

-- of the first that would have been read, or else of the output, where there is one
abbrev pub NamesRefusedBy : Option Text → Option Text → Option (List ℕ) → Option (List ℕ) → Option Outcome → Type 0
NamesRefusedBy (Some n) m old new o = Answered Open (Some Input) n old new o
NamesRefusedBy None (Some m) old new o = Answered Write None m old new o
NamesRefusedBy None None old new o = (o ≡ None) × (new ≡ old)

abbrev pub NamesRefused : Asked → Option (List ℕ) → Option (List ℕ) → Option Outcome → Type 0
NamesRefused a old new o = NamesRefusedBy (unread a) (unwritten a) old new o
