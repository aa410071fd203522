-- `write_parts` writes the name before the first colon, and what follows it. Assumes nothing.
use Rattle.std.proofs.Common.{sym, drop, ◌+◌}
use Rattle.rules.specs.Text.{trim}
use Rattle.requests.specs.Tidy.{tidy_rest}
use Rattle.text.proofs.Kept.{rest_is}
use Rattle.listing.proofs.Adding.{adds_as, adds_both}
use Rattle.tidied.proofs.Colons.{rest_room, trimmed_le, colon_within, no_colon, at_colon}
use Rattle.tidied.proofs.write_parts.Goals as goal

pub write_rest-requires : goal.write_rest-requires
write_rest-requires c =
    let i = c.in-Some.c in
    let s = c.args.s.now in
    rw (rw (rest_is s (i + 1)) at c.trimmed.ensures) (rest_room s i c.write_name.ensures (colon_within s i (sym c.in-Some.ensures)) c.requires (trim (drop (i + 1) s)) (trimmed_le s i))

pub returns-in-Some : goal.returns-in-Some
returns-in-Some c =
    let i = c.in-Some.c in
    let s = c.args.s.now in
    adds_as (adds_both c.write_name.ensures (rw (rw (rest_is s (i + 1)) at c.trimmed.ensures) at c.write_rest.ensures)) (at_colon tidy_rest s i (sym c.in-Some.ensures))

pub returns-in-None : goal.returns-in-None
returns-in-None c = adds_as c.squeeze.ensures (sym (no_colon tidy_rest c.args.s.now (sym c.in-None.ensures)))
