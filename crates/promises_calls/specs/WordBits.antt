-- The manual's fields are the bits of its words: each field of an instruction's operation word stands in the word's bits, at its place, as a
-- division by powers of two reads them. Assumes nothing.
use Rattle.std.specs.Prelude.{ℕ, ◌/◌, ◌%◌, ◌^◌, ◌<◌, ◌≡◌, List, ◌∷◌, ◌++◌}
use Rattle.manual.specs.Manual.{Field, widths, Layout, layout, Instruction, operation_word}

-- the word w has the field f above the lowest n bits
pub record StandsAbove (w : ℕ) (f : Field) (n : ℕ) : Type 0 where
  pub bits : w / 2 ^ n % 2 ^ f.width ≡ f.bits

-- of every instruction none of whose fields runs over: its operation word has sixteen bits, and each field above those after it
pub record InItsBits (i : Instruction) : Type 0 where
  pub sixteen : operation_word i < 2 ^ 16
  pub each : (front : List Field) (f : Field) (back : List Field) → layout i ≡ front ++ (f ∷ back) → StandsAbove (operation_word i) f (widths back)

unfoldable pub FieldsAreBits : Type 0
FieldsAreBits = (i : Instruction) → Layout (layout i) → InItsBits i
