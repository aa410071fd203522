-- `form::test` reads a data register. Assumes nothing.
use Rattle.rules.specs.Encode.{one}
use Rattle.requests.specs.ManualCall.{form_of}
use Rattle.encode_manual.proofs.Forms.{goes, said_word}
use Rattle.encode_manual.proofs.Words.{the_words}
use Rattle.encode_manual.proofs.form.test.Goals as goal

pub returns : goal.returns
unfolding form_of one
returns c = goes _ _ c.parse_data_register.ensures c.in_ok-n.was (said_word _ (the_words.tst _) c.with_low.ensures)
