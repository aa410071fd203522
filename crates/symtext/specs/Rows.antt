-- The lines of labels whose numbers stand in four slices, and what writing them needs. Assumes nothing.
use Rattle.std.specs.Prelude.{ℕ, zero, suc, ◌+◌, ◌<◌, ◌≤◌, ◌≡◌, length, take, drop, get_or}
use mathlib.Core.List.{List, [], ◌∷◌, flat_map}
use Rattle.rules.specs.Text.{Text}
use Rattle.rules.specs.Label.{Label}
use Rattle.requests.specs.Symbols.{Rows}
use Rattle.symtext.specs.Symlist.{symbol_text}

-- the label of row k: its name stands in the source
abbrev pub label_at : Text → Rows → ℕ → Label
label_at s x k =
    record {
      name = take (get_or x.lengths k 0) (drop (get_or x.starts k 0) s);
      start = get_or x.starts k 0;
      address = get_or x.addresses k 0;
      line = get_or x.lines k 0;
    }

-- the labels of n rows from row k on
unfoldable pub labels_from : Text → Rows → ℕ → ℕ → List Label
labels_from s x k zero = []
labels_from s x k (suc n) = label_at s x k ∷ labels_from s x (suc k) n

-- the lines of n rows from row k on
abbrev pub lines_from : Text → Rows → ℕ → ℕ → Text
lines_from s x k n = flat_map symbol_text (labels_from s x k n)

-- the lines of all rows
abbrev pub rows_text : Text → Rows → Text
rows_text s x = lines_from s x 0 (length x.starts)

-- rows whose names lie in the source, and whose lines leave of 36,628 bytes the 20 that any number may take
pub record RowsFit (s : Text) (x : Rows) : Type 0 where
  pub lengths : length x.lengths ≡ length x.starts
  pub addresses : length x.addresses ≡ length x.starts
  pub lines : length x.lines ≡ length x.starts
  pub within : (k : ℕ) → k < length x.starts → get_or x.starts k 0 + get_or x.lengths k 0 ≤ length s
  pub room : length (rows_text s x) + 20 ≤ 36628
