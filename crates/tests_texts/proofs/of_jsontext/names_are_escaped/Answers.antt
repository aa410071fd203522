-- The name has no byte above 127. Assumes nothing.
use Rattle.std.proofs.Common.{refl}
use Rattle.rules.specs.Assemble.{first_high}
use Rattle.tests_texts.proofs.of_jsontext.names_are_escaped.Goals as goal

pub nearest_text-requires-clause-ascii : goal.nearest_text-requires-clause-ascii
unfolding first_high
nearest_text-requires-clause-ascii g c = refl
