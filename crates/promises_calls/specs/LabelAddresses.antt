-- Where the labels of an accepted source lie; and what the manual's call says of its instructions by them, without a word on their addresses.
-- Assumes nothing.
use Rattle.std.specs.Prelude.{ℕ, ◌^◌, ◌<◌, ◌≡◌, List, Some}
use Rattle.rules.specs.Text.{Text}
use Rattle.rules.specs.Line.{Instruction as Said}
use Rattle.rules.specs.Encode.{Content}
use Rattle.rules.specs.Answer.{accepted}
use Rattle.rules.specs.Assemble.{Sizes, Pass, pass_at_by}
use Rattle.manual.specs.Manual.{Layout, layout, extensions, Instruction}
use Rattle.requests.specs.ManualCall.{manual_size, manual_encode}
use Rattle.promises.specs.Nearest.{RecordsBy}
use Rattle.promises.specs.ListedForms.{Words}
use Rattle.promises.specs.ManualWritten.{WrittenHere, Encoded, IsManual}

-- with any sizes: no record that a line of an accepted source makes lies at 2^30 or above
unfoldable pub LabelsAreLow : Type 0
LabelsAreLow =
    (z : Sizes) (base : ℕ) (s : Text) (p : Pass) → pass_at_by z base s ≡ accepted p
    → (n : Text) (i k x : ℕ) → RecordsBy z base s n i k x → x < 2 ^ 30

-- by the labels of an accepted source, at every base and every address: each form as it is written has its words, what has words is written as
-- a form and has its words, and no field of them runs over
pub record FormsOfSource (p : Pass) : Type 0 where
  pub encoded : (a : ℕ) (i : Said) (ins : Instruction) (ms : List ℕ) → WrittenHere p.labels a i.mnemonic i.suffix i.operands ins ms
      → Encoded p.labels a i ins ms
  pub written : (a : ℕ) (i : Said) (cs : List Content) → manual_encode p.labels a i ≡ Some cs → IsManual p.labels a i cs
  pub fields : (a : ℕ) (i : Said) (ins : Instruction) (ms : List ℕ) → WrittenHere p.labels a i.mnemonic i.suffix i.operands ins ms
      → Layout (layout ins) × Words (extensions ins)

unfoldable pub SourcesHaveForms : Type 0
SourcesHaveForms = (base : ℕ) (s : Text) (p : Pass) → pass_at_by manual_size base s ≡ accepted p → FormsOfSource p
