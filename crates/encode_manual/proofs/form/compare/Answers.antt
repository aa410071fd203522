-- `form::compare` reads an immediate and a data register. Assumes nothing.
use Rattle.rules.specs.Encode.{two}
use Rattle.requests.specs.ManualCall.{form_of}
use Rattle.encode_manual.proofs.Forms.{stops, goes, said_long}
use Rattle.encode_manual.proofs.Words.{the_words}
use Rattle.encode_manual.proofs.form.compare.Goals as goal

pub returns-in_err-n : goal.returns-in_err-n
unfolding form_of two
returns-in_err-n c = goes _ _ c.immediate32.ensures c.in_ok-v.was (stops _ _ c.parse_data_register.ensures c.in_err-n.was c.from_residual-in_err-n.ensures)

pub returns : goal.returns
unfolding form_of two
returns c = goes _ _ c.immediate32.ensures c.in_ok-v.was (goes _ _ c.parse_data_register.ensures c.in_ok-n.was (said_long _ (the_words.cmp_data _ _) c.with_low.ensures))
