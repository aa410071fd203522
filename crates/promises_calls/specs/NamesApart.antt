-- The names of one line, and the records of a source, never overlap, and a line names at most two. Assumes nothing.
use Rattle.std.specs.Prelude.{ℕ, ◌+◌, ◌<◌, ◌≤◌, ◌≡◌, length, Some, slice_get}
use Rattle.rules.specs.Text.{Text}
use Rattle.rules.specs.Line.{Name, line_of}
use Rattle.rules.specs.Assemble.{Sizes}
use Rattle.promises.specs.Nearest.{RecordsBy}

-- two records: they are one, or one's name ends before the other starts, with a byte between them
pub data PartedRecords (i : ℕ) (n : Text) (k a : ℕ) (i' : ℕ) (n' : Text) (k' a' : ℕ) : Type 0 where
  one_record : i ≡ i' → n ≡ n' → k ≡ k' → a ≡ a' → PartedRecords i n k a i' n' k' a'
  ends_in_front : i + length n < i' → k ≤ k' → PartedRecords i n k a i' n' k' a'
  ends_after : i' + length n' < i → k' ≤ k → PartedRecords i n k a i' n' k' a'

-- of three starts two are one
pub data TwoStarts (i i' i'' : ℕ) : Type 0 where
  two_first : i ≡ i' → TwoStarts i i' i''
  two_outer : i ≡ i'' → TwoStarts i i' i''
  two_last : i' ≡ i'' → TwoStarts i i' i''

pub record NamesApart : Type 0 where
  -- a line names at most two
  pub few : (l : Text) → length (line_of l).names ≤ 2
  -- and of two that it names the first ends before the second one starts
  pub on_line : (l : Text) (x y : ℕ) (m m' : Name) → x < y → slice_get (line_of l).names x ≡ Some m → slice_get (line_of l).names y ≡ Some m'
      → m.start + length m.text < m'.start
  -- any two records of a source, with whatever sizes
  pub apart : (z : Sizes) (base : ℕ) (s n n' : Text) (i i' k k' a a' : ℕ)
      → RecordsBy z base s n i k a → RecordsBy z base s n' i' k' a' → PartedRecords i n k a i' n' k' a'
  -- any three on one line
  pub two : (z : Sizes) (base : ℕ) (s n n' n'' : Text) (i i' i'' k a a' a'' : ℕ)
      → RecordsBy z base s n i k a → RecordsBy z base s n' i' k a' → RecordsBy z base s n'' i'' k a'' → TwoStarts i i' i''
