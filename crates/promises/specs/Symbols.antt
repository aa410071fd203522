-- "Symbols with their lines": the list by the records that the lines make, apart from the table of labels and how it is sorted;
-- its refusals; what a call writes into the four slices; and the bounds of what is listed. Assumes nothing.
use Rattle.std.specs.Prelude.{ℕ, suc, ◌+◌, ◌<◌, ◌≤◌, ◌≡◌, ◌↔◌, List, [], ◌∷◌, map, length, take, drop, Some, slice_get}
use Rattle.rules.specs.Limits.{max_lines, max_labels, address_limit}
use Rattle.rules.specs.Text.{Text, cut_at}
use Rattle.rules.specs.Line.{Name, line_of, size}
use Rattle.rules.specs.Label.{Label}
use Rattle.rules.specs.Answer.{accepted, refused}
use Rattle.requests.specs.Symbols.{symbols, Rows, symbols_answer, symbols_rows}
use Rattle.promises.specs.Stages.{RefusesExactly}
use Rattle.promises.specs.Refusals.{IsLine, PassCondition, passing, assembling}
use Rattle.promises.specs.Nearest.{In, start_after, Records, LastRecord}

-- x is a list's entry i, from 0
abbrev pub IsEntry : List Label → ℕ → Label → Type 0
IsEntry l i x = slice_get l i ≡ Some x

-- x is what the name m of the line after the first j ones records
pub record IsNamed (s : Text) (j : ℕ) (m : Name) (x : Label) : Type 0 where
  pub name : x.name ≡ m.text
  pub start : x.start ≡ start_after j (cut_at 10 s) + m.start
  pub line : x.line ≡ suc j

-- x comes before y: "in order of that line, step 4's label before step 5's of the same line"
pub data Before (s : Text) (x y : Label) : Type 0 where
  earlier_line : x.line < y.line → Before s x y
  -- a line that names two has step 4's first
  earlier_step : {j : ℕ} {l : Text} {m m' : Name} → IsLine s j l → (line_of l).names ≡ m ∷ m' ∷ [] → IsNamed s j m x → IsNamed s j m' y → Before s x y

-- the list of a source at a base
pub record IsSymbols (base : ℕ) (s : Text) (l : List Label) : Type 0 where
  -- none of refusals 1 to 6 comes
  pub clear : (m q : ℕ) → ¬ PassCondition size base s m q
  -- each entry is the last record of its name, with that record's start, line and address
  pub last : {x : Label} → In x l → LastRecord base s x.name x.start x.line x.address
  -- each name that is recorded is there, and once
  pub complete : {n : Text} {i k a : ℕ} → Records base s n i k a → (x : Label) × In x l × (x.name ≡ n)
  pub once : {i j : ℕ} {x y : Label} → IsEntry l i x → IsEntry l j y → x.name ≡ y.name → i ≡ j
  pub order : {i j : ℕ} {x y : Label} → IsEntry l i x → IsEntry l j y → i < j → Before s x y

unfoldable pub SymbolsAreListed : Type 0
SymbolsAreListed = (base : ℕ) (s : Text) (l : List Label) → (symbols base s ≡ accepted l) ↔ IsSymbols base s l

-- one of the four slices is shorter than n
pub data RowsShorter (x : Rows) (n : ℕ) : Type 0 where
  short_starts : length x.starts < n → RowsShorter x n
  short_lengths : length x.lengths < n → RowsShorter x n
  short_addresses : length x.addresses < n → RowsShorter x n
  short_lines : length x.lines < n → RowsShorter x n

-- refusals 1 to 7 of a call that is lent four slices
pub data RowsCondition (base : ℕ) (s : Text) (x : Rows) : ℕ → ℕ → Type 0 where
  of_pass : {n p : ℕ} → PassCondition size base s n p → RowsCondition base s x n p
  -- "7 any slice shorter than the count needed; place that count"
  rows_short : {l : List Label} → IsSymbols base s l → RowsShorter x (length l) → RowsCondition base s x 7 (length l)

-- refusals 1 to 6 as in assembling; with four slices 7 after them
pub record SymbolsRefuseExactly : Type 0 where
  pub list : (base : ℕ) (s : Text) → RefusesExactly passing (PassCondition size base s) (symbols base s)
  pub rows : (base : ℕ) (s : Text) (x : Rows) → RefusesExactly assembling (RowsCondition base s x) (symbols_answer base s x)

-- the first n rows of y are the list, and the rest is that of x
pub record RowsHold (l : List Label) (n : ℕ) (x y : Rows) : Type 0 where
  pub starts : (take n y.starts ≡ map (λ m. m.start) l) × (drop n y.starts ≡ drop n x.starts)
  pub lengths : (take n y.lengths ≡ map (λ m. length m.name) l) × (drop n y.lengths ≡ drop n x.lengths)
  pub addresses : (take n y.addresses ≡ map (λ m. m.address) l) × (drop n y.addresses ≡ drop n x.addresses)
  pub lines : (take n y.lines ≡ map (λ m. m.line) l) × (drop n y.lines ≡ drop n x.lines)

-- a call accepted with the count n
pub record RowsWritten (base : ℕ) (s : Text) (n : ℕ) (x y : Rows) : Type 0 where
  pub clear : (m q : ℕ) → ¬ RowsCondition base s x m q
  pub list : List Label
  pub listed : IsSymbols base s list
  pub counted : n ≡ length list
  pub written : RowsHold list n x y

-- what a call leaves in the slices
pub record SymbolsAreWritten : Type 0 where
  pub by_refusal : (base : ℕ) (s : Text) (x : Rows) (n p : ℕ) → symbols_answer base s x ≡ refused n p → symbols_rows base s x ≡ x
  pub by_accepted : (base : ℕ) (s : Text) (x : Rows) (n : ℕ) → symbols_answer base s x ≡ accepted n → RowsWritten base s n x (symbols_rows base s x)

-- how long the names of a list are together
unfoldable pub names_length : List Label → ℕ
names_length [] = 0
names_length (x ∷ l) = length x.name + names_length l

-- an entry's name stands in the source, and its numbers are within the limits
pub record EntryFits (s : Text) (x : Label) : Type 0 where
  pub text : take (length x.name) (drop x.start s) ≡ x.name
  pub end : x.start + length x.name ≤ length s
  pub address : x.address < address_limit
  pub line : x.line ≤ max_lines

-- what a list takes at most
pub record SymbolsFit (s : Text) (l : List Label) : Type 0 where
  pub entry : {x : Label} → In x l → EntryFits s x
  pub count : length l ≤ max_labels
  pub names : names_length l ≤ length s

unfoldable pub EachListFits : Type 0
EachListFits = (base : ℕ) (s : Text) (l : List Label) → symbols base s ≡ accepted l → SymbolsFit s l
