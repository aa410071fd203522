-- `form::quick` reads a number from 1 to 8 and a data register. Assumes nothing.
use mathlib.Core.Path.{sym, ◌∙◌}
use Rattle.encode_manual.proofs.Forms.{stops, goes, said_word}
use Rattle.encode_manual.proofs.Operands.{low_three, within_eight}
use Rattle.encode_manual.proofs.form.quick.Goals as goal

pub returns-in_err-n : goal.returns-in_err-n
returns-in_err-n c = λ f w. goes _ _ c.quickly.ensures c.in_ok-k.was (stops _ _ c.parse_data_register.ensures c.in_err-n.was c.from_residual-in_err-n.ensures)

pub returns : goal.returns
returns c = λ f w. let k = within_eight c.args.s.now (sym c.quickly.ensures ∙ c.in_ok-k.was) in
    goes _ _ c.quickly.ensures c.in_ok-k.was (goes _ _ c.parse_data_register.ensures c.in_ok-n.was (said_word _ (w _ _) (rw (low_three _ k.0 k.1) at c.quick_word.ensures)))
