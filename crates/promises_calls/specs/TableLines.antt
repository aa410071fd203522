-- Under an accepted table, the lines whose mnemonic is no row's: one that is none of the eleven either has the words that it has without the
-- table, and one of the eleven has none. Said of the lists, line by line. Assumes nothing.
use Rattle.std.specs.Prelude.{ℕ, ◌≡◌, ◌≢◌, List, ◌++◌}
use Rattle.rules.specs.Text.{Text}
use Rattle.rules.specs.Line.{Instruction, instruction, line_of, size}
use Rattle.rules.specs.Encode.{Mnemonic, other_mnemonics, encode_by, encode}
use Rattle.rules.specs.Answer.{accepted}
use Rattle.rules.specs.Assemble.{Pass, Place, pass_at, assemble}
use Rattle.manual.specs.Manual.{Condition}
use Rattle.requests.specs.Branches.{assemble_under}
use Rattle.promises.specs.Refusals.{IsLine, Reached}
use Rattle.promises.specs.ListedForms.{words_before, words_after}
use Rattle.promises.specs.Nearest.{In}
use Rattle.promises.specs.ManualWritten.{branch_named}
use Rattle.promises.specs.Branches.{Accepted}

-- no row of the table has the name m
abbrev pub NoRow : List Mnemonic → Text → Type 0
NoRow ns m = (n : Mnemonic) → In n ns → m ≢ n.name

-- the plain list l and that under the table, u, have the same places for the line after the first j ones
pub record StandInBoth (ns : List Mnemonic) (p : Pass) (j : ℕ) (l u : List Place) : Type 0 where
  pub places : List Place
  pub without_table : l ≡ words_before encode p j ++ (places ++ words_after encode p j)
  pub with_table : u ≡ words_before (encode_by (other_mnemonics ++ ns)) p j ++ (places ++ words_after (encode_by (other_mnemonics ++ ns)) p j)

pub record LinesUnder (ns : List Mnemonic) (base : ℕ) (s : Text) (p : Pass) (l u : List Place) : Type 0 where
  pub others : (j a : ℕ) (ms : List Text) (line : Text) (i : Instruction) → Reached size base s j a ms → IsLine s j line → (line_of line).task ≡ instruction i
      → NoRow ns i.mnemonic → ((c : Condition) → i.mnemonic ≢ branch_named c) → StandInBoth ns p j l u
  pub eleven : (j a : ℕ) (ms : List Text) (line : Text) (i : Instruction) → Reached size base s j a ms → IsLine s j line → (line_of line).task ≡ instruction i
      → NoRow ns i.mnemonic → (c : Condition) → i.mnemonic ≡ branch_named c
      → u ≡ words_before (encode_by (other_mnemonics ++ ns)) p j ++ words_after (encode_by (other_mnemonics ++ ns)) p j

unfoldable pub OthersAsWithout : Type 0
OthersAsWithout =
    (t : Text) (ns : List Mnemonic) → Accepted t ns → (base : ℕ) (s : Text) (p : Pass) (l u : List Place) → pass_at base s ≡ accepted p
    → assemble base s ≡ accepted l → assemble_under t base s ≡ accepted u → LinesUnder ns base s p l u
