-- The labels of a pass stand in the order of their first records, and so do those of the copy. Assumes nothing.
use Rattle.std.specs.Prelude.{ℕ, ◌<◌, ◌≤◌, ◌≡◌, Some, slice_get}
use Rattle.rules.specs.Text.{Text}
use Rattle.rules.specs.Label.{Label, Table}
use Rattle.rules.specs.Answer.{accepted}
use Rattle.rules.specs.Assemble.{Sizes, Pass, pass_at_by}
use Rattle.requests.specs.Tidy.{tidy}
use Rattle.promises.specs.Nearest.{RecordsBy}
use Rattle.promises.specs.Tidy.{LabelsKept}

-- the first record of the name n starts at i: no record of it starts earlier
pub record FirstStart (z : Sizes) (base : ℕ) (s n : Text) (i : ℕ) : Type 0 where
  pub line : ℕ
  pub address : ℕ
  pub made : RecordsBy z base s n i line address
  pub first : {i' k' a' : ℕ} → RecordsBy z base s n i' k' a' → i ≤ i'

-- each label of the table has a first record, and of two labels that of the one in front starts first
pub record FirstsRise (z : Sizes) (base : ℕ) (s : Text) (t : Table) : Type 0 where
  pub has : (x : ℕ) (l : Label) → slice_get t x ≡ Some l → (i : ℕ) × FirstStart z base s l.name i
  pub rise : (x y : ℕ) (l m : Label) (i i' : ℕ) → x < y → slice_get t x ≡ Some l → slice_get t y ≡ Some m
      → FirstStart z base s l.name i → FirstStart z base s m.name i' → i < i'

unfoldable pub LabelsInOrder : Type 0
LabelsInOrder = (z : Sizes) (base : ℕ) (s : Text) (p : Pass) → pass_at_by z base s ≡ accepted p → FirstsRise z base s p.labels

-- the copy has the source's labels at their addresses, in the order of their first records in the source and in the copy
pub record CopyInOrder (z : Sizes) (base : ℕ) (s : Text) (p : Pass) : Type 0 where
  pub kept : LabelsKept z base s p
  pub of_source : FirstsRise z base s p.labels
  pub of_copy : FirstsRise z base (tidy s) kept.copy.labels

unfoldable pub CopyKeepsOrder : Type 0
CopyKeepsOrder = (z : Sizes) (base : ℕ) (s : Text) (p : Pass) → pass_at_by z base s ≡ accepted p → CopyInOrder z base s p
