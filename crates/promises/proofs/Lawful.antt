-- The stations' size and words are lawful: under a shift only label addresses change, and there are at most two words, none of a 32-bit address.
-- Assumes nothing.
use native.Mathlib.Omega.{arith}
use Rattle.promises.specs.Lawful.{RulesAreLawful, RulesAreShort}
use Rattle.promises.proofs.Words.{words_shift, words_short, at_most_two}

pub rules_are_lawful : RulesAreLawful
unfolding RulesAreLawful
rules_are_lawful names =
    record {
      shifts = words_shift names;
      few = at_most_two names;
      two = omega arith;
      ends = λ t a i. omega (arith, at_most_two names t a i);
    }

pub rules_are_short : RulesAreShort
unfolding RulesAreShort
rules_are_short names = words_short names
