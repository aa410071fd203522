-- What a call from C owes that prints a text or reads one: the text with or without a branch table, and what reading answers. Assumes nothing.
use Rattle.std.specs.Prelude.{ℕ, ◌≡◌, Bool, true, false, List, [], Result, Ok, Err}
use Rattle.rules.specs.Text.{Text}
use Rattle.rules.specs.Assemble.{Place, Slices, holding}
use Rattle.listing.specs.Reading.{read_list, places_in, room_in}
use Rattle.listing.specs.declared.reading.BadLine.{BadLine}
use Rattle.whytext.specs.WhyLine.{line_text, lines_text}
use Rattle.branchtext.specs.BranchText.{line_under_text, lines_under_text}
use Rattle.printout.specs.Printout.{printout_text, printout_under}
use Rattle.requests.specs.Sheet.{numbers_in}
use Rattle.sheettext.specs.Back.{is_sheet, wrong}
use Rattle.sheettext.specs.Back.{Read as Sheet}

-- ---- texts, under the table t where one is lent
-- the verdict on a line, and on every line that is read
abbrev pub line_for : Bool → Text → ℕ → ℕ → Text → Text
line_for false t base line s = line_text base line s
line_for true t base line s = line_under_text t base line s

abbrev pub lines_for : Bool → Text → ℕ → Text → Text
lines_for false t base s = lines_text base s
lines_for true t base s = lines_under_text t base s

-- the printout
abbrev pub printout_for : Bool → Text → ℕ → Text → Text
printout_for false t base s = printout_text base s
printout_for true t base s = printout_under t base s

-- ---- a list that is read: 0 and how many places there are, or 1 and the number of the first wrong line
abbrev pub wrong_of : Result ℕ BadLine → ℕ
wrong_of (Ok n) = 0
wrong_of (Err e) = 1

abbrev pub number_of : Result ℕ BadLine → ℕ
number_of (Ok n) = n
number_of (Err e) = e.number

-- the list that a text holds by an answer; none where the text is refused
abbrev pub places_read : Result ℕ BadLine → Text → List Place
places_read (Ok n) t = places_in n t
places_read (Err e) t = []

-- the contract of `lagvettu_read_list`, lent the slices x, which it leaves as y
pub record ReadsList (t : Text) (x y : Slices) (r n : ℕ) : Type 0 where
  pub answer : r ≡ wrong_of (read_list (room_in x) t)
  pub number : n ≡ number_of (read_list (room_in x) t)
  pub after : y ≡ holding (places_read (read_list (room_in x) t) t) x

-- ---- a sheet that is read: the contract of `lagvettu_read_sheet`, lent the numbers ns, which it leaves as ms: 0, line 0 and the totals, or
-- 1, the number of the first wrong line and the numbers as they were
abbrev pub ReadsSheet : Sheet → List ℕ → ℕ → ℕ → List ℕ → Type 0
ReadsSheet (is_sheet t) ns r n ms = (r ≡ 0) × (n ≡ 0) × (ms ≡ numbers_in t)
ReadsSheet (wrong k) ns r n ms = (r ≡ 1) × (n ≡ k) × (ms ≡ ns)
