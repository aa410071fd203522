-- For callers: the code of an instruction has all its places, and how many words it has. Assumes nothing.
use Rattle.std.specs.Prelude.{Option, None, Some, unwrap_or}
use Prim.Native.Nat.{ℕ}
use mathlib.Core.Path.{◌≡◌, refl}
use mathlib.Core.List.{List, []}
use lib.ListN.{length}
use Rattle.rules.specs.Line.{Instruction}
use Rattle.rules.specs.Label.{Table}
use Rattle.rules.specs.Encode.{Content, Mnemonic, encode_by}
use Rattle.rules.specs.Assemble.{places_at, words_by}
use Rattle.encode.specs.Code.{code_of, places_of, code_length}
use Rattle.encode.specs.declared.Code.{Code}
use Rattle.encode.specs.declared.Code.TheVariants.{Word, Value, Label}
use Rattle.encode.proofs.Shaped.{Shaped, no_word, one_word, with_value, with_address, shaped_encode}

-- the code loses nothing
places : {o : Option (List Content)} → Shaped o → (a : ℕ) → places_of a (code_of o) ≡ places_at a (unwrap_or o [])
unfolding places_at
places no_word a = refl
places (one_word w) a = refl
places (with_value w v) a = refl
places (with_address w x) a = refl

pub encode_places : (ns : List Mnemonic) (ls : Table) (a : ℕ) (i : Instruction) → places_of a (code_of (encode_by ns ls a i)) ≡ places_at a (words_by (encode_by ns) ls a i)
encode_places ns ls a i = places (shaped_encode ls a ns i) a

pub code_words_lem : (a : ℕ) (c : Option Code) → length (places_of a c) ≡ code_length c
code_words_lem a None = refl
code_words_lem a (Some (Word w)) = refl
code_words_lem a (Some (Value w v)) = refl
code_words_lem a (Some (Label w x)) = refl
