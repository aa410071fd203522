-- The values so far are tried, and each further one goes in as into the first words. Assumes nothing.
use Rattle.std.proofs.Common.{ℕ, ◌≡◌, ◌-◌, ◌≤◌, suc, [], map, length}
use Rattle.std.specs.List.{range_with_len}
use Rattle.benchtext.specs.BenchText.{with_value}
use Rattle.make_runs.specs.Runs.{run_with}
use Rattle.make_runs.proofs.rows.add_tried.Given as goal

abbrev pub invariant-loop-value : goal.invariant-loop-value
invariant-loop-value g l =
    ((v : ℕ) → with_value (length l.addresses) l.tries.address v l.addresses l.words ≡ with_value (length l.addresses) l.tries.address v l.addresses l.fn.words)
    × (length l.words ≡ length l.addresses)
    × (l.value - l.tries.from ≤ suc l.tries.to - l.tries.from)
    × (g.R.Rows.holds [] l.fn.rows → g.R.Rows.holds (map (run_with l.work l.tries l.addresses l.fn.words) (range_with_len l.tries.from (l.value - l.tries.from))) l.rows)
