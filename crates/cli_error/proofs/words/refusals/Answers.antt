-- The list of refusals is the table's rows. Assumes nothing.
use Rattle.std.proofs.Common.{refl}
use mathlib.Core.List.{flat_map}
use Rattle.listing.specs.Listing.{decimal, digits_of, decimal_places_by, digit_byte}
use Rattle.rules.specs.Text.{bytes}
use Rattle.cli_error.specs.Refusals.{words, row_of, padded, refusal_row, refusals_text}
use Rattle.cli_error.proofs.words.refusals.Goals as goal

pub returns : goal.returns
unfolding refusals_text refusal_row words row_of padded decimal digits_of decimal_places_by digit_byte bytes flat_map
returns c = refl
