-- `write_page` writes the rows, and the labels under them. Assumes nothing.
use Rattle.std.proofs.Common.{rules}
use Rattle.listing.proofs.Adding.{adds_all}
use Rattle.station.proofs.Printed.{printed}
use Rattle.printout.proofs.Told.{page_needs, labels_room, symbols_short, page_adds}
use Rattle.printout.proofs.write_page.Goals as goal

pub push_rows-requires : goal.push_rows-requires
push_rows-requires c = (c.requires.0, page_needs c.requires.0 c.new-text.ensures c.requires.1)

pub push_labels-requires : goal.push_labels-requires
push_labels-requires c = (labels_room c.requires.0 c.new-text.ensures c.requires.1 c.push_rows.ensures, symbols_short c.requires.0)

pub returns : goal.returns
returns c =
    let h = adds_all c.new-text.ensures (page_adds _ c.args.labels.now _ c.args.pass c.push_rows.ensures c.push_labels.ensures) in
    printed _ _ _ _ h.0 (search rules)
