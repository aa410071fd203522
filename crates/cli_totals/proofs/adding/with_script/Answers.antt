-- What is kept of the file is added as all of it would be.
use Rattle.std.proofs.Common.{sym, subst}
use Rattle.sheet.specs.Totals.{said}
use Rattle.cli_totals.specs.Series.{Sum}
use Rattle.cli_totals.specs.Steps.{IsMade}
use Rattle.cli_totals.proofs.Summing.{script_read}
use Rattle.cli_totals.proofs.adding.with_script.Goals as goal

pub returns : goal.returns
returns c = λ b i.
    let kept = c.front.ensures 32769 b.text i.text in
    subst (λ (s : Sum). IsMade s c.sum_of.result) (sym (script_read b (said c.args.totals) i.name kept c.add_source.ensures)) c.sum_of.ensures
