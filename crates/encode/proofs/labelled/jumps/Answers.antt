-- `jumps` meets its contract: a number where the operand looks like one, else a label. Assumes nothing.
use Rattle.std.proofs.Common.{sym, ap, ◌∙◌}
use Rattle.std.specs.Result.{is_ok}
use Rattle.rules.specs.Number.{reading16, number16}
use Rattle.rules.specs.Encode.{jumps}
use Rattle.encode.proofs.Readings.{number_read}
use Rattle.encode.proofs.labelled.jumps.Goals as goal

pub returns-then-looks_numeric : goal.returns-then-looks_numeric
unfolding jumps number16
returns-then-looks_numeric c =
    rw (sym c.looks_numeric.ensures ∙ c.if-looks_numeric.true) (c.is_ok.ensures.value ∙ (ap is_ok c.parse_u16.ensures ∙ sym (number_read (reading16 c.args.t.now))))
