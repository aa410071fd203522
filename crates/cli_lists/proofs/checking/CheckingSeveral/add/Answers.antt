-- The branch table is refused, or there is no memory.
use Rattle.std.proofs.Common.{◌∷◌, ◌++◌, false, cond}
use Rattle.cli_run.specs.Items.{item}
use Rattle.cli_lists.specs.Checked.{checked_on}
use Rattle.cli_lists.proofs.checking.CheckingSeveral.add.Goals as goal

pub returns-clause-ends : goal.returns-clause-ends
returns-clause-ends c = λ f h b i left.
    rw (h.2 (item b ∷ left)) (c.in-Err.ensures (λ row good. checked_on h.0 c.args.self.now.base left (c.args.self.now.rows.items ++ row) (cond good c.args.self.now.all false)) h.0 b h.1 i)
