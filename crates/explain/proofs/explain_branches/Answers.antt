-- `explain_branches` goes by what loading the table answered. Assumes nothing.
use Rattle.std.proofs.Common.{◌∙◌}
use Rattle.explain.proofs.Tabled.{line_loaded}
use Rattle.explain.proofs.explain_branches.Goals as goal

pub returns : goal.returns
returns c = c.explain_by.ensures ∙ line_loaded _ _ _ c.in_ok-load_branches.ensures _
