-- The sheet is in what is kept of the file.
use Rattle.std.proofs.Common.{◌≡◌, length, min, refl, sym, subst, arith}
use Rattle.sheet.specs.Totals.{said}
use Rattle.cli_error.specs.Fault.{no_sheet}
use Rattle.cli_totals.specs.Series.{Sum}
use Rattle.cli_totals.specs.Steps.{IsMade}
use Rattle.cli_totals.proofs.Summing.{sheet_read, sheet_wrong}
use Rattle.cli_totals.proofs.adding.with_sheet.Goals as goal

pub returns-in-Ok : goal.returns-in-Ok
returns-in-Ok c = λ b i.
    let kept = c.front-kept.ensures 32769 b.text i.text in
    let few : c.min.result ≡ min (length c.front-kept.result.now) 32768 = omega arith in
    let sum = sheet_read b (said c.args.totals) i.name kept few c.in-Ok.ensures c.add_sheet.ensures in
    subst (λ (s : Sum). IsMade s c.sum_of.result) (sym sum) c.sum_of.ensures

pub returns-in-Err : goal.returns-in-Err
returns-in-Err c = λ b i.
    let kept = c.front-kept.ensures 32769 b.text i.text in
    let few : c.min.result ≡ min (length c.front-kept.result.now) 32768 = omega arith in
    (no_sheet c.args.input.name.now c.in-Err.line.number, sheet_wrong b (said c.args.totals) i.name kept few c.in-Err.ensures, refl)
