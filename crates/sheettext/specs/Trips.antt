-- A sheet there and back: every one that is written is read as its totals, and what is read is written as that text. Assumes nothing.
use Rattle.std.specs.Prelude.{ℕ, ◌^◌, ◌<◌, ◌≡◌}
use Rattle.rules.specs.Text.{Text}
use Rattle.requests.specs.Sheet.{Totals, numbers_in}
use Rattle.promises.specs.Nearest.{In}
use Rattle.sheettext.specs.Rows.{sheet_text}
use Rattle.sheettext.specs.Back.{is_sheet, sheet_in}

pub record SheetsReadBack : Type 0 where
  -- of totals of at most 19 digits, which those of a series are
  pub written_is_read : (t : Totals) → ((n : ℕ) → In n (numbers_in t) → n < 10 ^ 19) → sheet_in (sheet_text t) ≡ is_sheet t
  pub read_is_written : (s : Text) (t : Totals) → sheet_in s ≡ is_sheet t → s ≡ sheet_text t
