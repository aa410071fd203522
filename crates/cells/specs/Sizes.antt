-- By how much a line's task advances the address, its instruction read in the source: by the stations' sizes, or by whatever sizes. Assumes nothing.
use Rattle.std.specs.Prelude.{ℕ, ◌≤◌}
use Rattle.rules.specs.Text.{Text}
use Rattle.rules.specs.Line.{Instruction as Said, instruction_of}
use Rattle.rules.specs.Assemble.{Sizes}
use Rattle.text.specs.Spans.{span_text}
use Rattle.line.specs.declared.Task.{Task}
use Rattle.line.specs.declared.Task.TheVariants.{Skipped, End, Org, NoOrg, LabelOnly, Instruction, Value, Space}

abbrev pub size_of : Sizes → Text → Task → ℕ
size_of z source Skipped = 0
size_of z source End = 0
size_of z source (Org v) = 0
size_of z source NoOrg = 0
size_of z source LabelOnly = 0
size_of z source (Instruction s) = z (instruction_of (span_text source s))
size_of z source (Value n v) = n
size_of z source (Space n) = n

-- sizes that a line's cell has room for
pub record Small (z : Sizes) : Type 0 where
  pub most : (i : Said) → z i ≤ 7
