-- The list of the text, or its first wrong line.
use mir.Facts.{to_z-of_z}
use Rattle.listing.specs.Reading.{places_in}
use Rattle.cli_lists.proofs.Moves.{filled_fits, lines_moved, wrong_line}
use Rattle.cli_lists.proofs.moving.move_list.Goals as goal

pub print_moved-requires : goal.print_moved-requires
print_moved-requires c = let h = rw c.in-Ok-Ok.field-0-is at c.in-Ok-Ok.ensures in filled_fits c.front_of.result.now c.in-Ok-Ok.list h

pub returns-in-Ok-Ok : goal.returns-in-Ok-Ok
returns-in-Ok-Ok c = λ b i.
    let h = rw c.in-Ok-Ok.field-0-is at c.in-Ok-Ok.ensures in
    let e = lines_moved c.args.distance b (c.front_of.ensures.front b.text i.text) h.0 in
    rw e (rw (to_z-of_z c.ranges.distance) at (c.print_moved.ensures (places_in c.in-Ok-Ok.list.count c.front_of.result.now) h.2 b i))

pub returns-in-Ok-Err : goal.returns-in-Ok-Err
returns-in-Ok-Err c = λ b i.
    let h = rw c.in-Ok-Err.field-0-is at c.in-Ok-Err.ensures in
    rw (wrong_line c.args.distance b (c.front_of.ensures.front b.text i.text) h, i.name)
