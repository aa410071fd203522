-- "Which label is this near?": the answer by the records that the lines make, apart from the table of labels and the search
-- in it; its refusals; and that it moves with the base. Assumes nothing.
use Rattle.std.specs.Prelude.{ℕ, zero, suc, ◌+◌, ◌<◌, ◌≤◌, ◌≡◌, ◌↔◌, List, [], ◌∷◌, ◌++◌, length, take, drop, Some}
use Rattle.rules.specs.Text.{Text, cut_at}
use Rattle.rules.specs.Line.{Name, name, line_of, size}
use Rattle.rules.specs.Answer.{accepted}
use Rattle.rules.specs.Label.{find}
use Rattle.rules.specs.Assemble.{Sizes, Pass, pass_at_by, pass_at}
use Rattle.requests.specs.Nearest.{Nearest, nearest}
use Rattle.promises.specs.Stages.{Stage, all, RefusesExactly}
use Rattle.promises.specs.Refusals.{IsLine, Reached, PassCondition, passing}

-- x is one of the list
pub data In {A : Type 0} (x : A) : List A → Type 0 where
  head : {y : A} {ys : List A} → x ≡ y → In x (y ∷ ys)
  tail : {y : A} {ys : List A} → In x ys → In x (y ∷ ys)

-- where the line after the first j ones starts: after their bytes, and the byte 10 at the end of each
unfoldable pub start_after : ℕ → List Text → ℕ
start_after zero ls = 0
start_after (suc j) [] = 0
start_after (suc j) (l ∷ ls) = suc (length l + start_after j ls)

-- a record of the name n, with the sizes z: it starts at i in the source, on the line k, from 1, which is read at the address a
pub data RecordsBy (z : Sizes) (base : ℕ) (s n : Text) : ℕ → ℕ → ℕ → Type 0 where
  records : {j a m : ℕ} {ns : List Text} {l : Text} → Reached z base s j a ns → IsLine s j l → In (name m n) (line_of l).names
      → RecordsBy z base s n (start_after j (cut_at 10 s) + m) (suc j) a

-- "its last record": no record of the same name starts later
pub record LastRecordBy (z : Sizes) (base : ℕ) (s n : Text) (i k a : ℕ) : Type 0 where
  pub made : RecordsBy z base s n i k a
  pub last : {i' k' a' : ℕ} → RecordsBy z base s n i' k' a' → i' ≤ i

-- the last record of l has the address x
pub data RecordedAtBy (z : Sizes) (base : ℕ) (s l : Text) (x : ℕ) : Type 0 where
  recorded_at : {i k : ℕ} → LastRecordBy z base s l i k x → RecordedAtBy z base s l x

-- what a pass with any sizes finds for a name is the address of its last record, and it finds none for others
unfoldable pub FoundIsLast : Type 0
FoundIsLast =
    (z : Sizes) (base : ℕ) (s : Text) (p : Pass) → pass_at_by z base s ≡ accepted p
    → (l : Text) (x : ℕ) → (find l p.labels ≡ Some x) ↔ RecordedAtBy z base s l x

-- with the stations' sizes
abbrev pub Records : ℕ → Text → Text → ℕ → ℕ → ℕ → Type 0
Records base s n i k a = RecordsBy size base s n i k a

abbrev pub LastRecord : ℕ → Text → Text → ℕ → ℕ → ℕ → Type 0
LastRecord base s n i k a = LastRecordBy size base s n i k a

-- a record's name stands in the source, at its start, no two names overlap, and records start in the order in which they are made: line by
-- line, and on one line step 4's before step 5's
pub record RecordsStand : Type 0 where
  pub within : {base : ℕ} {s n : Text} {i k a : ℕ} → Records base s n i k a → i + length n ≤ length s
  pub text : {base : ℕ} {s n : Text} {i k a : ℕ} → Records base s n i k a → take (length n) (drop i s) ≡ n
  pub behind : {base : ℕ} {s n n' : Text} {i i' k k' a a' : ℕ} → Records base s n i k a → Records base s n' i' k' a' → i < i' → i + length n ≤ i'
  pub lines : {base : ℕ} {s n n' : Text} {i i' k k' a a' : ℕ} → Records base s n i k a → Records base s n' i' k' a' → k < k' → i < i'
  pub names : (l : Text) (m m' : Name) → (line_of l).names ≡ m ∷ m' ∷ [] → m.start < m'.start

-- the label that is named for the address a
pub record IsNear (base : ℕ) (s : Text) (a : ℕ) (r : Nearest) : Type 0 where
  pub name : Text
  pub line : ℕ
  pub address : ℕ
  -- "Refusals 1 to 6 come first."
  pub clear : (m q : ℕ) → ¬ PassCondition size base s m q
  -- "as start and length in its last record, and the distance"
  pub last : LastRecord base s name r.start line address
  pub length : r.length ≡ length name
  pub distance : address + r.distance ≡ a
  -- its "recorded address is greatest without passing it"
  pub greatest : {n : Text} {i k x : ℕ} → LastRecord base s n i k x → x ≤ a → x ≤ address
  -- "Of labels with equal addresses, the one whose last record stands first in the source is named."
  pub foremost : {n : Text} {i k : ℕ} → LastRecord base s n i k address → r.start ≤ i

unfoldable pub NearestIsNear : Type 0
NearestIsNear = (base : ℕ) (s : Text) (a : ℕ) (r : Nearest) → (nearest base s a ≡ accepted r) ↔ IsNear base s a r

-- refusals 1 to 6 and 12
pub data NearestCondition (base : ℕ) (s : Text) (a : ℕ) : ℕ → ℕ → Type 0 where
  of_pass : {n p : ℕ} → PassCondition size base s n p → NearestCondition base s a n p
  -- "12: no label at or below the address; place 0"
  none_near : ((n : Text) (i k x : ℕ) → LastRecord base s n i k x → a < x) → NearestCondition base s a 12 0

-- "after the others"
abbrev pub nearing : List Stage
nearing = passing ++ (all 12 ∷ [])

unfoldable pub NearestRefusesExactly : Type 0
NearestRefusesExactly = (base : ℕ) (s : Text) (a : ℕ) → RefusesExactly nearing (NearestCondition base s a) (nearest base s a)

-- for a source that is accepted at b, and so at 0, the answer at b is that at 0 for an address b lower
unfoldable pub NearestMoves : Type 0
NearestMoves = (b : ℕ) (s : Text) (p : Pass) → pass_at b s ≡ accepted p → (a : ℕ) → nearest b s (b + a) ≡ nearest 0 s a
