-- None of what is said of a branch's word is said of nothing: of each of the eleven there is such a line, by a label and by a number. Assumes
-- nothing.
use Rattle.std.specs.Prelude.{[], ◌∷◌, ◌++◌, pos, negsuc, None}
use Rattle.rules.specs.Text.{Text, bytes}
use Rattle.rules.specs.Line.{Instruction}
use Rattle.manual.specs.Manual.{Condition}
use Rattle.promises.specs.ManualWritten.{branch_named}
use Rattle.promises.specs.Lands.{back, back_said}
use Rattle.promises_calls.specs.BranchWords.{BranchLine, OfEleven, own_number}

-- a branch 5 bytes on, by a number
abbrev pub ahead : Condition → Text
ahead c = branch_named c ++ bytes " +5"

abbrev pub ahead_said : Condition → Instruction
ahead_said c = record { mnemonic = branch_named c; suffix = None; operands = bytes "+5" ∷ [] }

pub record EveryBranchSays : Type 0 where
  pub by_label : (c : Condition) → BranchLine 0 (back c) 0 0 (back_said c) (negsuc 1) × OfEleven (own_number c) (back_said c)
  pub by_number : (c : Condition) → BranchLine 0 (ahead c) 0 0 (ahead_said c) (pos 5) × OfEleven (own_number c) (ahead_said c)
