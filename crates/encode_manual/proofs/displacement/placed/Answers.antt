-- `displacement::placed`: the displacement fits, or it does not. Assumes nothing.
use mathlib.Core.Path.{sym, ap, ◌∙◌}
use mir.Facts.{to_z-of_z}
use Rattle.std.specs.Prelude.{Ok}
use Rattle.encode_manual.proofs.Displaced.{near, far}
use Rattle.encode_manual.proofs.Written.{fits_word, fits_within}
use Rattle.encode_manual.proofs.displacement.placed.Goals as goal

pub sixteen_bits-requires : goal.sixteen_bits-requires
sixteen_bits-requires c = rw (to_z-of_z c.ranges.d) (fits_word c.args.room c.args.d (sym (rw (to_z-of_z c.ranges.d) at c.fits.ensures) ∙ c.if-fits.true))

pub returns-then-fits : goal.returns-then-fits
returns-then-fits c = ap Ok (rw (to_z-of_z c.ranges.d) at c.sixteen_bits.ensures) ∙ near _ _ (fits_within c.args.room _ ∙ sym (rw (to_z-of_z c.ranges.d) at c.fits.ensures) ∙ c.if-fits.true)

pub returns-else-fits : goal.returns-else-fits
returns-else-fits c = far _ _ (fits_within c.args.room _ ∙ sym (rw (to_z-of_z c.ranges.d) at c.fits.ensures) ∙ c.if-fits.false)
