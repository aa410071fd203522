-- For callers: how many words the list has, and that it has at most three a line. Assumes nothing.
use mathlib.Core.Path.{◌≡◌}
use mathlib.Core.List.{List, [], ◌∷◌, flat_map}
use Prim.Native.Nat.{ℕ, ◌+◌, ◌*◌, ◌≤◌}
use native.Mathlib.Nat.{mul-suc}
use native.Mathlib.Omega.{arith}
use lib.ListN.{length, length-append}
use Rattle.rules.specs.Line.{Instruction, Task, skipped, end, org, no_org, label_only, instruction, value, space}
use Rattle.rules.specs.Label.{Table}
use Rattle.rules.specs.Encode.{Mnemonic, encode_by}
use Rattle.rules.specs.Assemble.{Pass, Put, places_at, data_contents, data_places, Encoder, words_by, code_contents_by, code_places_by, second_pass_by}
use Rattle.requests.specs.ManualCall.{manual_encode}
use Rattle.promises.specs.Lawful.{RulesAreLawful}
use Rattle.promises.specs.ManualCall.{ManualIsLawful}
use Rattle.promises.proofs.Lawful.{rules_are_lawful}
use Rattle.promises.proofs.ManualCall.{manual_is_lawful}

-- an encoder gives an instruction at most three words
pub record Few (e : Encoder) : Type 0 where
  pub few : (t : Table) (a : ℕ) (i : Instruction) → length (places_at a (words_by e t a i)) ≤ 3

pub named_few : (ns : List Mnemonic) → Few (encode_by ns)
unfolding RulesAreLawful
named_few ns = record { few = λ t a i. let h = (rules_are_lawful ns).few t a i in omega arith }

pub manual_few : Few manual_encode
unfolding ManualIsLawful
manual_few = record { few = λ t a i. manual_is_lawful.few t a i }

module _ (e : Encoder) where
  pub second_length : (p : Pass) → length (second_pass_by e p) ≡ length (flat_map data_places p.puts) + length (flat_map (code_places_by e p.labels) p.puts)
  unfolding second_pass_by
  second_length p = length-append (flat_map data_places p.puts) (flat_map (code_places_by e p.labels) p.puts)

-- where an instruction has at most so many words, so has a line
module _ (e : Encoder) (most : ℕ) (two : 2 ≤ most) (few : (t : Table) (a : ℕ) (i : Instruction) → length (places_at a (words_by e t a i)) ≤ most) where
  -- a line has a value or an instruction, not both
  put_few : (t : Table) (a : ℕ) (k : Task) → length (data_places (record { address = a; task = k })) + length (code_places_by e t (record { address = a; task = k })) ≤ most
  unfolding data_places data_contents code_places_by code_contents_by places_at
  put_few t a skipped = omega arith
  put_few t a end = omega arith
  put_few t a (org v) = omega arith
  put_few t a no_org = omega arith
  put_few t a label_only = omega arith
  put_few t a (instruction i) = let h = few t a i in omega arith
  put_few t a (value n v) = omega (arith, two)
  put_few t a (space n) = omega arith

  puts_few : (t : Table) (ps : List Put) → length (flat_map data_places ps) + length (flat_map (code_places_by e t) ps) ≤ most * length ps
  unfolding flat_map
  puts_few t [] = omega arith
  puts_few t (p ∷ ps) =
      rw (mul-suc most (length ps))
      (omega (
        arith,
        puts_few t ps,
        put_few t p.address p.task,
        length-append (data_places p) (flat_map data_places ps),
        length-append (code_places_by e t p) (flat_map (code_places_by e t) ps),
      ))

  list_few : (p : Pass) → length (second_pass_by e p) ≤ most * length p.puts
  list_few p = omega (arith, second_length e p, puts_few p.labels p.puts)

-- the list has at most three words a line, and by the names in use two
pub second_few : {e : Encoder} → Few e → (p : Pass) → length (second_pass_by e p) ≤ 3 * length p.puts
second_few {e} f = list_few e 3 (omega arith) f.few

pub named_two : (ns : List Mnemonic) (p : Pass) → length (second_pass_by (encode_by ns) p) ≤ 2 * length p.puts
unfolding RulesAreLawful
named_two ns = list_few (encode_by ns) 2 (omega arith) (rules_are_lawful ns).few
