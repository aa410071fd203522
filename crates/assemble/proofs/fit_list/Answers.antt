use Rattle.std.proofs.Common.{sym, ◌∙◌}
use Rattle.emit.specs.Emit.{names_of}
use Rattle.assemble.proofs.Lists.{list_few, more_room, fits_ok, fits_7}
use Rattle.assemble.proofs.fit_list.Goals as goal

pub returns-then-not-is_short-clause-room : goal.returns-then-not-is_short-clause-room
returns-then-not-is_short-clause-room c =
    more_room _ _ _ (sym c.is_short.ensures.short ∙ c.if-not-is_short.true) (list_few (names_of c.args.names) c.args.labels.now c.args.cells.now c.args.pass)

pub returns-then-not-is_short-clause-answer : goal.returns-then-not-is_short-clause-answer
returns-then-not-is_short-clause-answer c = fits_ok _ _ (returns-then-not-is_short-clause-room c)

pub returns-then-is_short-clause-answer : goal.returns-then-is_short-clause-answer
returns-then-is_short-clause-answer c = fits_7 _ _ _ c.count_words-count.ensures (sym c.is_short-2.ensures.short ∙ c.if-is_short.true)

pub returns-clause-room : goal.returns-clause-room
returns-clause-room c = rw (← c.count_words-count.ensures) (sym c.is_short-2.ensures.short ∙ c.if-is_short.false)

pub returns-clause-answer : goal.returns-clause-answer
returns-clause-answer c = fits_ok _ _ (returns-clause-room c)
