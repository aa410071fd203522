-- `displacement::sixteen_bits`: the remainder modulo 65,536. Assumes nothing.
use Rattle.std.proofs.Common.{◌≡◌, pos, ◌∙◌, to_z-of_z}
use Rattle.manual.specs.Manual.{sixteen_bits}
use Rattle.encode_manual.proofs.Remainder.{remainder, bits_fit}
use Rattle.encode_manual.proofs.displacement.sixteen_bits.Goals as goal

pub returns : goal.returns
returns c =
    let d = c.args.d in
    let e : c.rem_euclid.result ≡ pos (sixteen_bits d) = (rw (to_z-of_z c.ranges.d) at c.rem_euclid.ensures.value) ∙ remainder d c.requires in
    rw (e, to_z-of_z (bits_fit d c.requires))
