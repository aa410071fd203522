-- The rows stand in the source. Assumes nothing.
use Rattle.std.proofs.Common.{ℕ, zero, suc, ◌+◌, ◌<◌, ◌≤◌, [], ◌∷◌, get_or, refl, arith}
use Rattle.rules.specs.Assemble.{first_high}
use Rattle.tests_texts.proofs.of_jsontext.labels_and_the_nearest.Goals as goal

inside : (k : ℕ) → k < 2 → get_or (11 ∷ 18 ∷ []) k 0 + get_or (2 ∷ 3 ∷ []) k 0 ≤ 26
inside zero h = omega arith
inside (suc zero) h = omega arith
inside (suc (suc k)) h = absurd (omega arith)

pub labels_text-requires : goal.labels_text-requires
unfolding first_high
labels_text-requires g c = record { lengths = refl; addresses = refl; lines = refl; within = inside; ascii = refl }

pub nearest_text-requires-clause-ascii : goal.nearest_text-requires-clause-ascii
unfolding first_high
nearest_text-requires-clause-ascii g c = refl
