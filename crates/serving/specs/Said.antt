-- What is said on standard error of what a call comes to. Assumes nothing.
use Rattle.std.specs.Prelude.{ℕ, ◌≡◌, ◌⊎◌, Bool, true, false, cond, List, [], Option, None, Some, Result, ⊤}
use Rattle.std.specs.declared.io.Error.{Error}
use Rattle.rules.specs.Text.{Text, bytes}
use Rattle.outcome.specs.declared.Outcome.{Outcome}
use Rattle.outcome.specs.declared.Outcome.TheVariants.{Accepted, NotAll, Stopped, NoMemory, WrongUse, Failed}
use Rattle.outcome.specs.declared.Stop.{Stop}
use Rattle.outcome.specs.declared.Stop.TheVariants.{Refused, NotAList, NotASheet}
use Rattle.outcome.specs.declared.Which.{Which}
use Rattle.outcome.specs.declared.Which.TheVariants.{Input, Table, Sheet, Script}
use Rattle.outcome.specs.Outcome.{Left}
use Rattle.diagnostic.specs.Said.{stopped_text, failed_text, no_memory_text}
use Rattle.diagnostic.specs.Reason.{reason_of}
use Rattle.serving.specs.declared.telling.Names.{Names}

-- an input that has no name
unfoldable pub named : Option Text → Text
named None = bytes "standard input"
named (Some n) = n

-- how the branch table, the input and the output are named
pub record Called : Type 0 where
  pub table : Text
  pub input : Text
  pub output : Text

abbrev pub called : Names → Called
called n = record { table = n.table.now; input = n.input.now; output = n.output.now }

abbrev pub called_by : Option Text → Option Text → Text → Called
called_by branches file output = record { table = named branches; input = named file; output = output }

abbrev pub with_input : Called → Option Text → Called
with_input c n = record { table = c.table; input = named n; output = c.output }

abbrev pub name_of : Called → Option Which → Text
name_of c None = c.output
name_of c (Some Table) = c.table
name_of c (Some Input) = c.input
name_of c (Some (Sheet k)) = c.input
name_of c (Some Script) = c.input

abbrev pub of_table : Stop → Bool
of_table (Refused Table e) = true
of_table (Refused Input e) = false
of_table (Refused (Sheet k) e) = false
of_table (Refused Script e) = false
of_table (NotAList n) = false
of_table (NotASheet n) = false

-- a refusal is said of the file that it speaks of; s, the text of the input, whose line is shown: a table has no lines
abbrev pub said_of : Called → Text → Stop → Text
said_of c s e = cond (of_table e) (stopped_text c.table e []) (stopped_text c.input e s)

-- w is what is said of an outcome, or that there is no memory for it
abbrev pub Says : Called → Text → Outcome → Text → Type 0
Says c s Accepted w = w ≡ []
Says c s NotAll w = w ≡ []
Says c s (Stopped e) w = (w ≡ said_of c s e) ⊎ (w ≡ no_memory_text)
Says c s NoMemory w = w ≡ no_memory_text
Says c s WrongUse w = w ≡ []
Says c s (Failed what f e) w = ((shown : Text) × (w ≡ failed_text what (name_of c f) (reason_of shown))) ⊎ (w ≡ no_memory_text)

-- old and new, what standard error holds before and after: that was appended, or a front where a write failed
abbrev pub Tells : Called → Text → Outcome → Option (List ℕ) → Option (List ℕ) → Type 0
Tells c s o old new = (w : Text) × (r : Result ⊤ Error) × Says c s o w × Left old new w r
