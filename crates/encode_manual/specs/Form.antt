-- What an instruction says, as the code reads it: the rules' forms with their words. Assumes nothing.
use Rattle.std.specs.Prelude.{ℕ, ◌+◌, ◌/◌, ◌%◌, ◌≡◌, [], ◌∷◌, Option, None, Some}
use Rattle.rules.specs.Text.{Text}
use Rattle.rules.specs.Encode.{R, data_register, ◌>>=◌}
use Rattle.manual.specs.Manual.{Instruction, condition, quick, operation_word, manual_words}
use Rattle.requests.specs.ManualCall.{Form, said, labelled, displaced, addressed, branch, loop, registers, quickly}
use Rattle.encode_manual.specs.declared.form.Form.{Form as Read}
use Rattle.encode_manual.specs.declared.form.Form.TheVariants.{Word, Value, Long, Labelled, Branch, Loop}

-- a form of the code says what a form of the rules says
abbrev pub Says : Form → Read → Type 0
Says (said i) (Word w) = manual_words i ≡ w ∷ []
Says (said i) (Value w v) = manual_words i ≡ w ∷ v ∷ []
Says (said i) (Long w v) = manual_words i ≡ w ∷ v / 65536 ∷ v % 65536 ∷ []
Says (said i) _ = ⊥
Says (labelled g l) (Labelled w name) = ((x : ℕ) → operation_word (addressed g x) ≡ w) × (l ≡ name.now)
Says (labelled g l) _ = ⊥
Says (displaced (branch c) s) (Branch n t) = (n ≡ condition c) × (s ≡ t.now)
Says (displaced (branch c) s) _ = ⊥
Says (displaced (loop n) s) (Loop w t) = (w ≡ 0x51C8 + n) × (s ≡ t.now)
Says (displaced (loop n) s) _ = ⊥

abbrev pub SaysIf : Option Form → Option Read → Type 0
SaysIf None None = Unit
SaysIf None (Some f) = ⊥
SaysIf (Some g) None = ⊥
SaysIf (Some g) (Some f) = Says g f

-- how many bytes it takes, whatever a label's address or a displacement is
abbrev pub size_of : Read → ℕ
size_of (Word w) = 2
size_of (Value w v) = 4
size_of (Long w v) = 6
size_of (Labelled w name) = 6
size_of (Branch n t) = 2
size_of (Loop w t) = 4

-- r is the form g, where there is one
pub record Reads (g : Option Form) (r : Option Read) : Type 0 where
  pub says : SaysIf g r

-- an instruction of two data registers whose word is the opcode with the second in bits 9 to 11 and the first in the low ones
abbrev pub RegistersGives : ℕ → Text → Text → Option Read → Type 0
RegistersGives opcode s t r = (f : ℕ → ℕ → Instruction) → ((n m : ℕ) → manual_words (f n m) ≡ (opcode + R m + n) ∷ []) → Reads (registers f s t) r

-- an instruction of a number from 1 to 8 and a data register
abbrev pub quick_form : (ℕ → ℕ → Instruction) → Text → Text → Option Form
quick_form f s t = do k ← quickly s; n ← data_register t; Some (said (f k n))

abbrev pub QuickGives : ℕ → Text → Text → Option Read → Type 0
QuickGives opcode s t r = (f : ℕ → ℕ → Instruction) → ((k n : ℕ) → manual_words (f k n) ≡ (opcode + n + R (quick k)) ∷ []) → Reads (quick_form f s t) r
