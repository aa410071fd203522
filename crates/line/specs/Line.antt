-- What the code answers about a line, read against the source. Assumes nothing.
use Rattle.std.specs.Prelude.{◌≡◌, ℕ, ◌+◌, ◌≤◌, List, [], ◌∷◌, ◌++◌, map, Option, None, Some, IfSome}
use Rattle.rules.specs.Text.{Text}
use Rattle.rules.specs.Line.{Name, name, Task as SaidTask, skipped, end, org, no_org, label_only, instruction, value, space, instruction_of, Line as Said, line_of}
use Rattle.text.specs.declared.Span.{Span}
use Rattle.text.specs.Spans.{span_text, SpanIn}
use Rattle.outline.specs.Lines.{line_from}
use Rattle.line.specs.declared.Names.{Names}
use Rattle.line.specs.declared.Task.{Task}
use Rattle.line.specs.declared.Task.TheVariants.{Skipped, End, Org, NoOrg, LabelOnly, Instruction, Value, Space}
use Rattle.line.specs.declared.Line.{Line}

-- a label by its place in the source
abbrev pub name_at : Text → Span → Name
name_at source s = name s.start (span_text source s)

-- a label, where there is one
abbrev pub names_of : Text → Option Span → List Name
names_of source None = []
names_of source (Some s) = name_at source s ∷ []

abbrev pub names_at : Text → Names → List Name
names_at source ns = names_of source ns.first ++ names_of source ns.second

abbrev pub task_at : Text → Task → SaidTask
task_at source Skipped = skipped
task_at source End = end
task_at source (Org v) = org v
task_at source NoOrg = no_org
task_at source LabelOnly = label_only
task_at source (Instruction s) = instruction (instruction_of (span_text source s))
task_at source (Value n v) = value n v
task_at source (Space n) = space n

abbrev pub line_at : Text → Line → Said
line_at source r = record { names = names_at source r.names; task = task_at source r.task }

-- labels that lie in the source
pub record NamesIn (source : Text) (ns : Names) : Type 0 where
  pub first : IfSome ns.first (SpanIn source)
  pub second : IfSome ns.second (SpanIn source)

-- an instruction's text lies in the source, and data have a size of at most 4
abbrev pub TaskIn : Text → Task → Type 0
TaskIn source Skipped = Unit
TaskIn source End = Unit
TaskIn source (Org v) = Unit
TaskIn source NoOrg = Unit
TaskIn source LabelOnly = Unit
TaskIn source (Instruction s) = SpanIn source s
TaskIn source (Value n v) = n ≤ 4
TaskIn source (Space n) = n ≤ 4

-- the answer says what the rules say, its labels' starts counted in the source
pub record Says (source : Text) (said : Said) (r : Line) : Type 0 where
  pub says : line_at source r ≡ said
  pub names_in : NamesIn source r.names
  pub task_in : TaskIn source r.task

-- what the rules say of a line, with its labels' starts counted from i bytes before it
abbrev pub name_from : ℕ → Name → Name
name_from i n = name (i + n.start) n.text

abbrev pub from : ℕ → Said → Said
from i l = record { names = map (name_from i) l.names; task = l.task }

-- the line that starts at i
abbrev pub ReadLineGives : Text → ℕ → Line → Type 0
ReadLineGives source i r = Says source (from i (line_of (line_from source i))) r
