-- The words that the bench runs: each is a form's by the manual's fields, and they are the words of the lines that the rules list as the
-- manual's. Assumes nothing.
use Rattle.std.specs.Prelude.{ℕ, ◌^◌, ◌<◌, ◌≡◌, ◌↔◌, ◌∷◌}
use Rattle.rules.specs.Text.{Text}
use Rattle.rules.specs.Label.{Table}
use Rattle.manual.specs.Manual.{Instruction, operation_word, extensions}
use Rattle.machine.specs.Form.{Valid, word_of, manual}
use Rattle.machine.specs.Decode.{decode_of}
use Rattle.machine.specs.declared.Form.{Form}
use Rattle.machine.specs.declared.Decoded.TheVariants.{Is, Halt}
use Rattle.promises.specs.ListedForms.{LineSays, emitted, marked_zero}

-- a word is a form's exactly if it is the form's word by the manual's fields, so no other word runs; and $4E72 alone is the halt
unfoldable pub DecodesExactly : Type 0
DecodesExactly = (w : ℕ) (f : Form) → (decode_of w ≡ Is f) ↔ (Valid f × (word_of f ≡ w))

unfoldable pub HaltsExactly : Type 0
HaltsExactly = (w : ℕ) → (decode_of w ≡ Halt) ↔ (w ≡ 0x4E72)

-- the machine runs an instruction's first word as that instruction, with the word after it where there is one
pub record RunsAs (i : Instruction) : Type 0 where
  pub form : Form
  pub next : ℕ
  pub sixteen : next < 2 ^ 16
  pub decoded : decode_of (operation_word i) ≡ Is form
  pub says : manual next form ≡ i

-- a line of the listed forms says an instruction, at some address and with some labels
pub record Said (i : Instruction) : Type 0 where
  pub labels : Table
  pub address : ℕ
  pub line : Text
  pub says : LineSays labels address line i

-- "forms proved equal to the manual, less byte −1": those lines, whose words the assembling call puts into its list (`LinesAreTheManuals`,
-- `ListHoldsTheManuals`), say exactly the instructions that are run
unfoldable pub LinesRun : Type 0
LinesRun = (i : Instruction) → Said i ↔ RunsAs i

-- so every word that runs is the first that the assembling call puts for such a line, whatever word is after it, and the line says what it runs
-- as
pub record Puts (w : ℕ) (i : Instruction) : Type 0 where
  pub labels : Table
  pub address : ℕ
  pub line : Text
  pub says : LineSays labels address line i
  pub puts : emitted labels address line ≡ marked_zero address (w ∷ extensions i)

unfoldable pub WordsHaveLines : Type 0
WordsHaveLines = (w next : ℕ) (f : Form) → decode_of w ≡ Is f → next < 2 ^ 16 → Puts w (manual next f)
