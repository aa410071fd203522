-- `push_unread` writes the number, the words between, and the line. Assumes nothing.
use Rattle.rules.specs.Text.{bytes}
use Rattle.printout.proofs.Columns.{unread_adds}
use Rattle.printout.proofs.Coding.{line_within, unread_row_lem}
use Rattle.printout.proofs.push_unread.Goals as goal

pub slice_bounds-push_bytes-end-2 : goal.slice_bounds-push_bytes-end-2
slice_bounds-push_bytes-end-2 c = line_within c.requires

pub returns-clause-text : goal.returns-clause-text
unfolding bytes
returns-clause-text c = unread_row_lem _ _ c.requires.ends _ (unread_adds _ _ _ c.requires.number c.push_number.ensures.text c.push_bytes.ensures c.push_bytes-2.ensures c.push.ensures).0
