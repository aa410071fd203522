-- The manual's call: which instruction is refused by 14 and which by 15, said of its text, the labels and plain integers.
-- Assumes nothing.
use Rattle.std.specs.Prelude.{ℕ, ◌<◌, ◌≡◌, ◌↔◌, List, [], ◌∷◌, ℤ, Option, None, Some}
use Rattle.rules.specs.Text.{Text, bytes}
use Rattle.rules.specs.Line.{Instruction as Said}
use Rattle.rules.specs.Label.{Table}
use Rattle.rules.specs.Encode.{Content}
use Rattle.rules.specs.Forms.{text}
use Rattle.manual.specs.Manual.{InWord, Condition, Instruction}
use Rattle.requests.specs.ManualCall.{manual_encode, manual_fault}
use Rattle.promises.specs.Explain.{IsKind}
use Rattle.promises.specs.ListedForms.{D}
use Rattle.promises.specs.ManualWritten.{SignedNumber, Reaches, InBranch, branch_named, WrittenHere}

-- the text s gives the displacement d at address a: "of a recorded label or a signed number"
pub data Gives (ls : Table) (a : ℕ) (s : Text) (d : ℤ) : Type 0 where
  by_label : Reaches ls a s d → Gives ls a s d
  by_number : SignedNumber s d → Gives ls a s d

-- it gives one, and none that it gives is in the range R
pub record Outside (ls : Table) (a : ℕ) (R : ℤ → Type 0) (s : Text) : Type 0 where
  pub displacement : ℤ
  pub given : Gives ls a s displacement
  pub outside : (d : ℤ) → Gives ls a s d → ¬ R d

-- 15: an instruction "whose only fault is a displacement, of a recorded label or a signed number, out of range"
pub data OutOfRange (ls : Table) (a : ℕ) : Text → Option Text → List Text → Type 0 where
  branch : (c : Condition) {s : Text} → IsKind s text → Outside ls a InBranch s → OutOfRange ls a (branch_named c) None (s ∷ [])
  loop : {s : Text} {n : ℕ} → n < 8 → IsKind s text → Outside ls a InWord s → OutOfRange ls a (bytes "DBRA") None (D n ∷ s ∷ [])

-- 14: "an instruction with no encoding here": it is written as none of the forms, and that is not a displacement's fault
pub record NoEncoding (ls : Table) (a : ℕ) (i : Said) : Type 0 where
  pub unwritten : (ins : Instruction) (ms : List ℕ) → ¬ WrittenHere ls a i.mnemonic i.suffix i.operands ins ms
  pub in_range : ¬ OutOfRange ls a i.mnemonic i.suffix i.operands

pub record FaultsExactly : Type 0 where
  pub fourteen : (ls : Table) (a : ℕ) (i : Said) → (manual_fault ls a i ≡ Some 14) ↔ NoEncoding ls a i
  pub fifteen : (ls : Table) (a : ℕ) (i : Said) → (manual_fault ls a i ≡ Some 15) ↔ OutOfRange ls a i.mnemonic i.suffix i.operands

-- an instruction has words or one of the two faults, and not both
pub data Outcome : Option (List Content) → Option ℕ → Type 0 where
  emits : {cs : List Content} → Outcome (Some cs) None
  no_encoding : Outcome None (Some 14)
  out_of_range : Outcome None (Some 15)

unfoldable pub WordsOrFault : Type 0
WordsOrFault = (ls : Table) (a : ℕ) (i : Said) → Outcome (manual_encode ls a i) (manual_fault ls a i)
