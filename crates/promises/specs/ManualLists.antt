-- The manual's call: in the list of every accepted source each instruction line has the manual's words of the instruction
-- that it says, from its address on and in its place, with the rules' marks. Assumes nothing.
use Rattle.std.specs.Prelude.{ℕ, ◌+◌, ◌≡◌, List, [], ◌∷◌, ◌++◌}
use Rattle.rules.specs.Text.{Text}
use Rattle.rules.specs.Line.{Instruction as Said, instruction, line_of}
use Rattle.rules.specs.Answer.{accepted}
use Rattle.rules.specs.Assemble.{Pass, Place, pass_at_by}
use Rattle.manual.specs.Manual.{Instruction, manual_words}
use Rattle.requests.specs.ManualCall.{manual_size, manual_encode}
use Rattle.requests.specs.ManualAssemble.{assemble_manual}
use Rattle.promises.specs.Refusals.{IsLine, Reached}
use Rattle.promises.specs.ListedForms.{words_before, words_after}
use Rattle.promises.specs.ManualWritten.{WrittenHere}

-- words at a, a + 2 and so on, each with its mark
unfoldable pub marked : ℕ → List ℕ → List ℕ → List Place
marked a [] ms = []
marked a (w ∷ ws) [] = []
marked a (w ∷ ws) (m ∷ ms) = record { address = a; word = w; mark = m } ∷ marked (a + 2) ws ms

-- the line after the first j ones, read at address a, is the instruction i: it is written as one of the manual, whose words stand there
pub record StandsThere (base : ℕ) (s : Text) (p : Pass) (j a : ℕ) (i : Said) : Type 0 where
  pub instruction : Instruction
  pub marks : List ℕ
  pub written : WrittenHere p.labels a i.mnemonic i.suffix i.operands instruction marks
  pub list : assemble_manual base s ≡ accepted (words_before manual_encode p j ++ (marked a (manual_words instruction) marks ++ words_after manual_encode p j))

unfoldable pub ListsAreManual : Type 0
ListsAreManual =
    (base : ℕ) (s : Text) (p : Pass) (l : List Place) → pass_at_by manual_size base s ≡ accepted p → assemble_manual base s ≡ accepted l
    → (j a : ℕ) (ns : List Text) (line : Text) (i : Said) → Reached manual_size base s j a ns → IsLine s j line → (line_of line).task ≡ instruction i
    → StandsThere base s p j a i
