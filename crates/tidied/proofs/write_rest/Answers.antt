-- `write_rest` writes the name before the colon of data, and squeezes. Assumes nothing.
use Rattle.std.proofs.Common.{sym, drop, ◌+◌}
use Rattle.text.proofs.Kept.{rest_is}
use Rattle.listing.proofs.Adding.{adds_as, adds_both}
use Rattle.tidied.proofs.Colons.{rest_room, drop_le, second_within, second_none, second_at}
use Rattle.tidied.proofs.write_rest.Goals as goal

pub squeeze-requires : goal.squeeze-requires
squeeze-requires c =
    let i = c.in-Some.c in
    let s = c.args.s.now in
    rw (rest_is s (i + 1)) (rest_room s i c.write_name.ensures (second_within s i (sym c.in-Some.ensures)) c.requires (drop (i + 1) s) (drop_le s i))

pub returns-in-Some : goal.returns-in-Some
returns-in-Some c =
    let i = c.in-Some.c in
    let s = c.args.s.now in
    adds_as (adds_both c.write_name.ensures (rw (rest_is s (i + 1)) at c.squeeze.ensures)) (second_at s i (sym c.in-Some.ensures))

pub returns-in-None : goal.returns-in-None
returns-in-None c = adds_as c.squeeze-in-None.ensures (second_none c.args.s.now (sym c.in-None.ensures))
