-- What the lines ask, as the cells tell it: each line's address by the lines before it, and its task. Assumes nothing.
use Rattle.std.specs.Prelude.{◌≡◌, ℕ, zero, suc, ◌*◌, ◌≤◌, ◌<◌, List, [], ◌∷◌, ◌++◌, length}
use Rattle.rules.specs.Text.{Text}
use Rattle.rules.specs.Assemble.{Sizes, Put}
use Rattle.line.specs.Line.{task_at, TaskIn}
use Rattle.cells.specs.Cells.{after_by, kept_at}
use Rattle.cells.specs.Sizes.{size_of}
use Rattle.cells.specs.declared.Kept.{Kept}

-- the address of line k
unfoldable pub address_at : ℕ → List ℕ → ℕ → ℕ
address_at base cells zero = base
address_at base cells (suc k) = after_by base (address_at base cells k) (kept_at cells k)

-- what line k asks, at its address
abbrev pub put_at : Text → ℕ → List ℕ → ℕ → Put
put_at source base cells k = record { address = address_at base cells k; task = task_at source (kept_at cells k).task }

-- what the first n lines ask
unfoldable pub puts_of : Text → ℕ → List ℕ → ℕ → List Put
puts_of source base cells zero = []
puts_of source base cells (suc n) = puts_of source base cells n ++ (put_at source base cells n ∷ [])

-- what is kept of a line is true of it: the places that it names lie in the source, and its size is its task's, by the sizes z
pub record Tells (z : Sizes) (source : Text) (k : Kept) : Type 0 where
  pub within : TaskIn source k.task
  pub sized : k.size ≡ size_of z source k.task

-- n lines are kept
pub record LinesIn (z : Sizes) (source : Text) (cells : List ℕ) (n : ℕ) : Type 0 where
  pub room : 2 * n ≤ length cells
  pub line : (k : ℕ) → k < n → Tells z source (kept_at cells k)
