-- `with_argument` meets its contract: a name, `-t`, or another where that is asked for. Assumes nothing.
use mathlib.Core.Path.{sym, ◌∙◌}
use Rattle.sheettext.specs.Arguments.{with_argument}
use Rattle.sheettext.proofs.arguments.with_argument.Goals as goal

pub returns-then-given : goal.returns-then-given
unfolding with_argument
returns-then-given c = rw c.if-given.true

pub returns-then-is_sheet_option : goal.returns-then-is_sheet_option
unfolding with_argument
returns-then-is_sheet_option c = rw (c.if-given.false, sym c.is_sheet_option.ensures ∙ c.if-is_sheet_option.true)

pub returns : goal.returns
unfolding with_argument
returns c = rw (c.if-given.false, sym c.is_sheet_option.ensures ∙ c.if-is_sheet_option.false)
