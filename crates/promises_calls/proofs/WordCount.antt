-- How many words an instruction of the manual's call has. Assumes nothing.
use Prim.Native.Nat.{ℕ, ◌+◌}
use mathlib.Core.Path.{refl}
use mathlib.Core.List.{List, [], ◌∷◌}
use native.Mathlib.Omega.{arith}
use lib.ListN.{length}
use Rattle.rules.specs.Encode.{Content, literal, address, long_address}
use Rattle.rules.specs.Assemble.{places_at}
use Rattle.promises.specs.ManualCall.{ThreeWords}
use Rattle.promises.proofs.ManualCall.{size_is_length}
use Rattle.promises.proofs.ManualWords.{three_words}
use Rattle.promises_calls.specs.WordCount.{WordsTaken, takes_none, takes_number, takes_address, takes_long, ThreeWordsAtMost}

-- contents take as many words as they have places
taken : (a : ℕ) (cs : List Content) → WordsTaken cs (length (places_at a cs))
unfolding places_at
taken a [] = takes_none
taken a (literal w ∷ cs) = takes_number (taken (a + 2) cs)
taken a (address x ∷ cs) = takes_address (taken (a + 2) cs)
taken a (long_address x ∷ cs) = takes_long (taken (a + 4) cs)

pub three_words_at_most : ThreeWordsAtMost
unfolding ThreeWordsAtMost ThreeWords
three_words_at_most ls a i cs e = (length (places_at a cs), taken a cs, omega (arith, size_is_length.words ls a i cs e, three_words i), refl)
