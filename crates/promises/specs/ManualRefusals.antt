-- Refusals of the manual's call: which calls are refused, with which number and place and in which order, and what a call
-- writes. 1 to 6 are Refusals's with this call's sizes; 14 and 15 are said in ManualFaults. Assumes nothing.
use Rattle.std.specs.Prelude.{ℕ, suc, ◌≡◌, List, [], ◌∷◌, length}
use Rattle.rules.specs.Text.{Text}
use Rattle.rules.specs.Line.{Instruction, instruction, line_of}
use Rattle.rules.specs.Label.{Table}
use Rattle.rules.specs.Answer.{accepted, refused}
use Rattle.rules.specs.Assemble.{Pass, Place, Slices, pass_at_by}
use Rattle.rules.specs.Tally.{held}
use Rattle.requests.specs.ManualCall.{manual_size}
use Rattle.requests.specs.ManualAssemble.{assemble_manual, manual_answer, manual_slices}
use Rattle.promises.specs.Stages.{Stage, all, by_line, RefusesExactly}
use Rattle.promises.specs.Refusals.{IsLine, Reached, PassCondition, Shorter, SamePast}
use Rattle.promises.specs.ManualFaults.{NoEncoding, OutOfRange}

-- the line after the first j ones is read at address a and is the instruction i; ls are the labels that the source records (`FoundIsLast`)
pub record Instructs (base : ℕ) (s : Text) (j a : ℕ) (i : Instruction) (ls : Table) : Type 0 where
  pub pass : Pass
  pub passed : pass_at_by manual_size base s ≡ accepted pass
  pub labels : pass.labels ≡ ls
  pub names : List Text
  pub reached : Reached manual_size base s j a names
  pub line : Text
  pub is : IsLine s j line
  pub asks : (line_of line).task ≡ instruction i

-- refusals 1 to 6, 14 and 15, "both with the line as place, second pass", and 7
pub data ManualCondition (base : ℕ) (s : Text) (x : Slices) : ℕ → ℕ → Type 0 where
  of_pass : {n p : ℕ} → PassCondition manual_size base s n p → ManualCondition base s x n p
  unencoded : {j a : ℕ} {i : Instruction} {ls : Table} → Instructs base s j a i ls → NoEncoding ls a i → ManualCondition base s x 14 (suc j)
  far : {j a : ℕ} {i : Instruction} {ls : Table} → Instructs base s j a i ls → OutOfRange ls a i.mnemonic i.suffix i.operands
      → ManualCondition base s x 15 (suc j)
  slice_short : {l : List Place} → assemble_manual base s ≡ accepted l → Shorter x (length l) → ManualCondition base s x 7 (length l)

-- 1, 2, 3, 4, then line by line 6 before 5, then 14 and 15, "first line first, before 7"
abbrev pub assembling_manual : List Stage
assembling_manual = all 1 ∷ all 2 ∷ all 3 ∷ all 4 ∷ by_line (6 ∷ 5 ∷ []) ∷ by_line (14 ∷ 15 ∷ []) ∷ all 7 ∷ []

-- the answer is a refusal exactly by the first condition that holds
unfoldable pub ManualRefusesExactly : Type 0
ManualRefusesExactly = (base : ℕ) (s : Text) (x : Slices) → RefusesExactly assembling_manual (ManualCondition base s x) (manual_answer base s x)

-- "a refusal leaves every slice as it was"
unfoldable pub ManualRefusalChangesNothing : Type 0
ManualRefusalChangesNothing = (base : ℕ) (s : Text) (x : Slices) (n p : ℕ) → manual_answer base s x ≡ refused n p → manual_slices base s x ≡ x

-- a call accepted with the count n: no condition holds, the source's list stands in the first n places of y, the rest is that of x
pub record ManualWrites (base : ℕ) (s : Text) (n : ℕ) (x y : Slices) : Type 0 where
  pub clear : (m q : ℕ) → ¬ ManualCondition base s x m q
  pub list : List Place
  pub listed : assemble_manual base s ≡ accepted list
  pub counted : n ≡ length list
  pub written : held n y ≡ list
  pub past : SamePast n y x

unfoldable pub ManualAcceptedWrites : Type 0
ManualAcceptedWrites = (base : ℕ) (s : Text) (x : Slices) (n : ℕ) → manual_answer base s x ≡ accepted n → ManualWrites base s n x (manual_slices base s x)
