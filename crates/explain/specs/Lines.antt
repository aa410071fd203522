-- Lines explained: what the walk over the kept lines needs and gives. Assumes nothing.
use Rattle.std.specs.Prelude.{◌≡◌, ℕ, ◌*◌, ◌^◌, ◌≤◌, ◌<◌, List, map, length}
use Rattle.rules.specs.Limits.{max_source}
use Rattle.rules.specs.Text.{cut_at}
use Rattle.rules.specs.Encode.{Mnemonic}
use Rattle.rules.specs.Assemble.{Put}
use Rattle.requests.specs.Explain.{why_task, verdicts}
use Rattle.requests.specs.Explain.{Verdict as Said}
use Rattle.label.specs.Labelled.{Labelled}
use Rattle.line.specs.Line.{task_at, TaskIn}
use Rattle.line.specs.declared.Task.{Task}
use Rattle.cells.specs.Cells.{after_by, kept_at}
use Rattle.cells.specs.Puts.{address_at, puts_of}
use Rattle.first.specs.Pass.{pass_in, Holds}
use Rattle.first.specs.declared.Pass.{Pass}
use Rattle.explain.specs.Near.{Near}
use Rattle.explain.specs.Verdict.{verdict_of, signs_of, put_over}
use Rattle.explain.specs.declared.Verdict.{Verdict}

-- ---- one line
-- the verdict on a task that is read at address a, by the mnemonics in use
abbrev pub verdict_on : List Mnemonic → Labelled → ℕ → Task → Verdict
verdict_on names labels a task = verdict_of (why_task names labels.table a (task_at labels.source task))

pub record WhyTaskNeeds (labels : Labelled) (address : ℕ) (task : Task) : Type 0 where
  pub near : Near labels address
  pub short : length labels.source ≤ max_source
  pub within : TaskIn labels.source task

-- k lines are kept, and the addresses after them are below 2^32
pub record Walks (cells : List ℕ) (base k : ℕ) : Type 0 where
  pub room : 2 * k ≤ length cells
  pub low : (j : ℕ) → j < k → after_by base (address_at base cells j) (kept_at cells j) < 2 ^ 32

-- ---- all lines
-- the verdicts on the first k lines
abbrev pub verdicts_to : List Mnemonic → Labelled → List ℕ → Pass → ℕ → List Said
verdicts_to names labels cells pass k = map (λ (u : Put). why_task names labels.table u.address u.task) (puts_of labels.source pass.base cells k)

pub record WriteNeeds {V : Type 0} (labels : Labelled) (cells : List ℕ) (pass : Pass) (out : List V) : Type 0 where
  pub holds : Holds labels cells pass
  pub room : pass.lines ≤ length out
  pub end_room : length (cut_at 10 labels.source) ≤ length out

-- how many lines are read, and what stands for their verdicts, over the first places
pub record WriteGives {V : Type 0} (sign : Verdict → V) (names : List Mnemonic) (labels : Labelled) (cells : List ℕ) (pass : Pass) (out : List V) (r : ℕ) (out' : List V) : Type 0 where
  pub count : r ≡ length (verdicts names labels.source (pass_in labels cells pass))
  pub within : r ≤ length out
  pub written : out' ≡ put_over (signs_of sign (verdicts names labels.source (pass_in labels cells pass))) out
