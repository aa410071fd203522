-- What the line's number said.
use Rattle.std.proofs.Common.{sym, ◌∙◌}
use Rattle.rules.specs.Text.{bytes}
use Rattle.calls.proofs.line_number_text.Goals as goal

pub returns-in-None : goal.returns-in-None
unfolding bytes
returns-in-None c = rw (sym c.line_number.ensures ∙ c.in-None.is) c.write_words.ensures
