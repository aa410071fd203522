-- The statements about branches are said of nothing at no base: at each base at which it ends below 2^30, a branch to its own line is accepted
-- and is a line that they ask for, of each of the eleven and of DBRA, and of a table's name on each of the 16 conditions. Assumes nothing.
use Rattle.std.specs.Prelude.{ℕ, ◌+◌, ◌^◌, ◌<◌, ◌≡◌, List, [], ◌∷◌, negsuc, None}
use Rattle.rules.specs.Text.{Text, bytes}
use Rattle.rules.specs.Line.{Instruction, size}
use Rattle.rules.specs.Encode.{branch, Mnemonic, mnemonic}
use Rattle.rules.specs.Answer.{accepted}
use Rattle.rules.specs.Assemble.{Place, assemble}
use Rattle.manual.specs.Manual.{Condition}
use Rattle.requests.specs.ManualCall.{manual_size}
use Rattle.requests.specs.ManualAssemble.{assemble_manual}
use Rattle.requests.specs.Branches.{assemble_under}
use Rattle.promises.specs.MovedLists.{Call}
use Rattle.promises.specs.Branches.{Accepted}
use Rattle.promises.specs.BranchCalls.{OfTable}
use Rattle.promises.specs.Lands.{Aims, back, back_said, loop, loop_said}

-- a source is accepted by a call at a base
abbrev pub AcceptsAt : Call → ℕ → Text → Type 0
AcceptsAt call base s = (l : List Place) × (call base s ≡ accepted l)

-- a table of one row, BHS on the condition c; its name; and a branch by it to its own line
abbrev pub bhs_table : ℕ → Text
bhs_table c = 1 ∷ 66 ∷ 72 ∷ 83 ∷ 32 ∷ c ∷ 0 ∷ []

abbrev pub bhs_names : ℕ → List Mnemonic
bhs_names c = mnemonic (bytes "BHS") (branch c) ∷ []

abbrev pub bhs_line : Text
bhs_line = bytes "X:BHS X"

abbrev pub bhs_said : Instruction
bhs_said = record { mnemonic = bytes "BHS"; suffix = None; operands = bytes "X" ∷ [] }

-- such a line, under that table
pub record BhsAsked (c base : ℕ) : Type 0 where
  pub table : Accepted (bhs_table c) (bhs_names c)
  pub accepts : AcceptsAt (assemble_under (bhs_table c)) base bhs_line
  pub aims : Aims size base bhs_line 0 base bhs_said (bytes "X") base (negsuc 1)
  pub named : OfTable (bhs_names c) bhs_said (bytes "X") (negsuc 1)

pub record AskedAtEveryBase : Type 0 where
  pub rules : (base : ℕ) → base + 2 < 2 ^ 30 → (c : Condition)
      → AcceptsAt assemble base (back c) × Aims size base (back c) 0 base (back_said c) (bytes "X") base (negsuc 1)
  pub manual : (base : ℕ) → base + 2 < 2 ^ 30 → (c : Condition)
      → AcceptsAt assemble_manual base (back c) × Aims manual_size base (back c) 0 base (back_said c) (bytes "X") base (negsuc 1)
  pub loops : (base : ℕ) → base + 4 < 2 ^ 30
      → AcceptsAt assemble_manual base loop × Aims manual_size base loop 0 base loop_said (bytes "X") base (negsuc 1)
  pub under_tables : (c : ℕ) → c < 16 → (base : ℕ) → base + 2 < 2 ^ 30 → BhsAsked c base
