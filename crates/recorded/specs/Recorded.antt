-- A recorded call of the assembler: what its terms, its source and its rows say, and when the code's answer agrees. Assumes nothing.
use Rattle.std.specs.Prelude.{◌≡◌, ℕ, zero, suc, ◌+◌, ◌*◌, ◌≤◌, cond, List, [], ◌∷◌, length, take, drop, replicate, ◌==◌}
use Rattle.rules.specs.Text.{Text}
use Rattle.rules.specs.Answer.{Answer}
use Rattle.rules.specs.Assemble.{Place, Slices, slices, over, holding, assemble_answer, assemble_slices}
use Rattle.answer.specs.Told.{told_number, told_place}

-- ---- numbers and lists in bytes

-- the number in bytes, the low one first
unfoldable pub little_in : Text → ℕ
little_in [] = 0
little_in (b ∷ s) = b + 256 * little_in s

-- the number in the k bytes from index i on
unfoldable pub number_at : ℕ → ℕ → Text → ℕ
number_at i k t = little_in (take k (drop i t))

-- the place in a row: four bytes of address, two of word, one of mark
unfoldable pub row_in : Text → Place
row_in t = record { address = number_at 0 4 t; word = number_at 4 2 t; mark = number_at 6 1 t }

-- the list in n rows
unfoldable pub rows_in : ℕ → Text → List Place
rows_in zero t = []
rows_in (suc n) t = row_in t ∷ rows_in n (drop 7 t)

-- ---- a call's terms: the source's size, the base, how many places of each slice are lent, the answer's number and its place

pub record Terms : Type 0 where
  pub size : ℕ
  pub base : ℕ
  pub addresses : ℕ
  pub words : ℕ
  pub marks : ℕ
  pub number : ℕ
  pub place : ℕ

unfoldable pub terms_in : Text → Terms
terms_in t =
    record {
      size = number_at 0 4 t;
      base = number_at 4 4 t;
      addresses = number_at 8 4 t;
      words = number_at 12 4 t;
      marks = number_at 16 4 t;
      number = number_at 20 1 t;
      place = number_at 21 4 t;
    }

-- how many places the recorded list has: a refusal has no list
unfoldable pub count_of : Terms → ℕ
count_of r = cond (r.number == 0) r.place 0

-- ---- the call that is made

-- the slices before it, with a pattern by which a place that changed is seen
unfoldable pub old : Slices
old = slices (replicate 9000 2863311530) (replicate 9000 43690) (replicate 9000 170)

-- the first i addresses, j words and k marks
unfoldable pub front : ℕ → ℕ → ℕ → Slices → Slices
front i j k x = slices (take i x.addresses) (take j x.words) (take k x.marks)

-- y over the first places of x
unfoldable pub onto : Slices → Slices → Slices
onto y x = slices (over y.addresses x.addresses) (over y.words x.words) (over y.marks x.marks)

-- what a call owes that lends the first i, j and k places of x to the assembler: those after them stay
pub record Called (base : ℕ) (source : Text) (i j k : ℕ) (x : Slices) (r : Answer ℕ) (y : Slices) : Type 0 where
  pub answer : r ≡ assemble_answer base source (front i j k x)
  pub after : y ≡ onto (assemble_slices base source (front i j k x)) x

-- the slices that a record lends
unfoldable pub lent : Terms → Slices
lent r = front r.addresses r.words r.marks old

-- ---- agreement

-- the three parts are as long as they say, and the places are within the slices
pub record WholeRecord (s t l : Text) : Type 0 where
  pub terms : length t ≡ 25
  pub source : length s ≡ (terms_in t).size
  pub count : count_of (terms_in t) ≤ 9000
  pub rows : length l ≡ 7 * count_of (terms_in t)
  pub addresses : (terms_in t).addresses ≤ 9000
  pub words : (terms_in t).words ≤ 9000
  pub marks : (terms_in t).marks ≤ 9000

-- the answer is the recorded one, and so is every place: the list, and the pattern after it
pub record Same (r : Terms) (source rows : Text) : Type 0 where
  pub number : told_number (assemble_answer r.base source (lent r)) ≡ r.number
  pub place : told_place (assemble_answer r.base source (lent r)) ≡ r.place
  pub after : onto (assemble_slices r.base source (lent r)) old ≡ holding (rows_in (count_of r) rows) old

-- a call of three parts agrees with the assembler
pub record Agrees (source terms rows : Text) : Type 0 where
  pub whole : WholeRecord source terms rows
  pub same : Same (terms_in terms) source rows
