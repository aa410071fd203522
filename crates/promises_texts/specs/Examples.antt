-- Texts byte for byte: those that stand with the crates of the texts, and what `symlist` prints. Assumes nothing.
use Rattle.std.specs.Prelude.{◌≡◌, [], ◌∷◌}
use Rattle.rules.specs.Text.{bytes}
use Rattle.listing.specs.Examples as Lists
use Rattle.station.specs.Examples as Moves
use Rattle.benchtext.specs.Examples as Runs
use Rattle.printout.specs.Examples as Printouts
use Rattle.symtext.specs.Symlist.{symbols_text}

abbrev pub ListExamples : Type 0
ListExamples = Lists.Examples

abbrev pub MoveExamples : Type 0
MoveExamples = Moves.Examples

abbrev pub BenchExamples : Type 0
BenchExamples = Runs.Examples

abbrev pub PrintoutExamples : Type 0
PrintoutExamples = Printouts.Examples

pub record LabelExamples : Type 0 where
  pub script : symbols_text 0 (bytes "ORG $1000\nLIM: DC.L 4160\nGO: MOVEQ #3,D1\nBNE GO") ≡ bytes "LIM 00001000 2\nGO 00001004 3\n"
  -- "inner blanks as they are"; the empty name; a name that looks like a row
  pub blanks : symbols_text 0 (bytes " B  A : NOP") ≡ bytes "B  A 00000000 1\n"
  pub empty : symbols_text 0 (bytes "NOP\n: NOP") ≡ bytes " 00000002 2\n"
  pub like_a_row : symbols_text 0 (bytes "A 00000001 2: NOP") ≡ bytes "A 00000001 2 00000000 1\n"
  -- a label set again; step 4's before step 5's; none; a letter over 9
  pub again : symbols_text 0 (bytes "A:\nB:\nA:") ≡ bytes "B 00000000 2\nA 00000000 3\n"
  pub two_of_a_line : symbols_text 0 (bytes "B: A: DC.B 1") ≡ bytes "B 00000000 1\nA 00000000 1\n"
  pub none : symbols_text 0 (bytes "NOP") ≡ []
  pub letters : symbols_text 0xABCDEF (bytes "X:") ≡ bytes "X 00ABCDEF 1\n"
  pub refused : symbols_text 0 (128 ∷ []) ≡ bytes "refused 2 0\n"
