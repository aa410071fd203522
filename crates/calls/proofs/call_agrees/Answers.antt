-- `call_agrees` compares the text of a call that is known. Assumes nothing.
use mathlib.Core.Path.{sym, ◌∙◌}
use borrow.Author.Tests.{not-false}
use Rattle.calls.proofs.Compared.{compared}
use Rattle.std.proofs.Common.{ap, not}
use Rattle.calls.proofs.call_agrees.Goals as goal

pub returns : goal.returns
returns c = compared _ _ _ _ _ (sym c.is_call.ensures ∙ not-false _ (ap not c.if-not-is_call.false)) _ c.call_text-size.ensures.front _ c.same_text.ensures
