-- "A tidy copy": line by line what the copy is, said from the line's text and apart from the tasks and the pieces by which the
-- definition goes; that it is read as the original and gives its list in every call; its own copy; its length; its refusals. Assumes nothing.
use Rattle.std.specs.Prelude.{ℕ, ◌<◌, ◌≤◌, ◌≡◌, ◌≢◌, ◌↔◌, true, false, cond, List, [], ◌∷◌, ◌++◌, map, length, take, drop, eqb}
use Rattle.rules.specs.Text.{Text, bytes, blank, uppers, trim, cut_at, pieces, uncut, around, first_cut, starts}
use Rattle.rules.specs.Line.{Instruction, line_of, is_data, size}
use Rattle.rules.specs.Label.{Label, Table, find}
use Rattle.rules.specs.Encode.{Mnemonic, encode_by}
use Rattle.rules.specs.Answer.{accepted, refused}
use Rattle.rules.specs.Assemble.{Sizes, Encoder, Pass, Place, pass_at_by, assemble, assemble_by}
use Rattle.requests.specs.ManualCall.{manual_encode}
use Rattle.requests.specs.ManualAssemble.{assemble_manual}
use Rattle.requests.specs.Branches.{assemble_under}
use Rattle.requests.specs.Tidy.{tidy_line, tidy, tidy_answer, tidy_slice}
use Rattle.promises.specs.Stages.{Stage, all, RefusesExactly}
use Rattle.promises.specs.Refusals.{SourceCondition, checking, names_of}

-- ---- which lines
-- steps 1 to 3, by how a trimmed line starts: skipped, END, ORG, or a line that reaches step 4
pub data Kind : Type 0 where
  skip fin origin step4 : Kind

unfoldable pub kind_of : Text → Kind
kind_of [] = skip
kind_of (b ∷ s) =
    cond (eqb b 59) skip
    (cond (starts (bytes "END") (uppers (b ∷ s))) fin
    (cond (starts (bytes "ORG") (uppers (b ∷ s))) origin step4))

-- "each line that is read, the whole END line too"
unfoldable pub up_to_end : List Text → List Text
up_to_end [] = []
up_to_end (l ∷ ls) = elim (kind_of (trim l)) [ skip ↦ l ∷ up_to_end ls | fin ↦ l ∷ [] | origin ↦ l ∷ up_to_end ls | step4 ↦ l ∷ up_to_end ls ]

-- "without skipped lines"
unfoldable pub without_skipped : List Text → List Text
without_skipped [] = []
without_skipped (l ∷ ls) =
    elim (kind_of (trim l)) [
      | skip ↦ without_skipped ls
      | fin ↦ l ∷ without_skipped ls
      | origin ↦ l ∷ without_skipped ls
      | step4 ↦ l ∷ without_skipped ls
    ]

unfoldable pub lines_kept : Text → List Text
lines_kept s = without_skipped (up_to_end (cut_at 10 s))

-- "parted by one byte 10 and none at the end": cut at byte 10 the copy is those lines' copies, and it is empty where there are none
pub record CopyHasLines : Type 0 where
  pub some : (s l : Text) (ls : List Text) → lines_kept s ≡ l ∷ ls → cut_at 10 (tidy s) ≡ map tidy_line (l ∷ ls)
  pub none : (s : Text) → lines_kept s ≡ [] → tidy s ≡ []

-- ---- each line
-- no blank but lone spaces, each between two other bytes
pub data Spaced : Text → Type 0 where
  nothing : Spaced []
  byte : {b : ℕ} {s : Text} → blank b ≡ false → Spaced s → Spaced (b ∷ s)
  space : {b c : ℕ} {s : Text} → blank b ≡ false → Spaced (c ∷ s) → Spaced (b ∷ 32 ∷ c ∷ s)

-- "Outer blanks go and blank runs become one space.": t has the pieces of s, and so one space where they are parted
pub record Squeezes (s t : Text) : Type 0 where
  pub pieces_kept : pieces t ≡ pieces s
  pub spaced : Spaced t

-- the copy of a line l that is read
pub data CopyOf (l : Text) : Text → Type 0 where
  end_line : {t : Text} → kind_of (trim l) ≡ fin → Squeezes l t → CopyOf l t
  org_line : {t : Text} → kind_of (trim l) ≡ origin → Squeezes l t → CopyOf l t
  no_colon : {t : Text} → kind_of (trim l) ≡ step4 → first_cut 58 (trim l) ≡ uncut → Squeezes l t → CopyOf l t
  -- "On a line that reaches step 4, blanks inside the name before the first colon are kept and those around that colon go."
  not_data : {n r t : Text} → kind_of (trim l) ≡ step4 → first_cut 58 (trim l) ≡ around n r → is_data (trim r) ≡ false → Squeezes r t
      → CopyOf l (trim n ++ (58 ∷ t))
  one_colon : {n r t : Text} → kind_of (trim l) ≡ step4 → first_cut 58 (trim l) ≡ around n r → is_data (trim r) ≡ true → first_cut 58 (trim r) ≡ uncut
      → Squeezes r t → CopyOf l (trim n ++ (58 ∷ t))
  -- "The second colon is treated so only where the rest is data."
  two_colons : {n r m d t : Text} → kind_of (trim l) ≡ step4 → first_cut 58 (trim l) ≡ around n r → is_data (trim r) ≡ true
      → first_cut 58 (trim r) ≡ around m d → Squeezes d t → CopyOf l (trim n ++ (58 ∷ (trim m ++ (58 ∷ t))))

unfoldable pub LinesAreCopied : Type 0
LinesAreCopied = (l t : Text) → kind_of (trim l) ≢ skip → (tidy_line l ≡ t) ↔ CopyOf l t

-- the bytes that are no blanks
unfoldable pub solid : Text → Text
solid [] = []
solid (b ∷ s) = cond (blank b) (solid s) (b ∷ solid s)

-- of a line that is read only blanks change: no note is cut off
unfoldable pub CopyKeepsBytes : Type 0
CopyKeepsBytes = (l : Text) → kind_of (trim l) ≢ skip → solid (tidy_line l) ≡ solid l

-- a line's copy says what the line says: the same names in the same order, and the same task
pub record ReadsAlike (l : Text) : Type 0 where
  pub names : names_of (line_of (tidy_line l)) ≡ names_of (line_of l)
  pub task : (line_of (tidy_line l)).task ≡ (line_of l).task

unfoldable pub CopyReadsAlike : Type 0
CopyReadsAlike = (l : Text) → ReadsAlike l

-- ---- the same list
-- an encoder reads the labels by their addresses alone
unfoldable pub ByFind : Encoder → Type 0
ByFind e = (t u : Table) → ((n : Text) → find n t ≡ find n u) → (a : ℕ) (i : Instruction) → e t a i ≡ e u a i

-- "At every base where the original is accepted, the copy gives the same list": of whatever sizes and such an encoder; in the stations' call, with
-- whatever mnemonics in use and under every branch table; and in the manual's call
pub record CopyGivesList : Type 0 where
  pub by_find : (z : Sizes) (e : Encoder) → ByFind e → (base : ℕ) (s : Text) (l : List Place)
      → assemble_by z e base s ≡ accepted l → assemble_by z e base (tidy s) ≡ accepted l
  pub rules : (base : ℕ) (s : Text) (l : List Place) → assemble base s ≡ accepted l → assemble base (tidy s) ≡ accepted l
  pub mnemonics : (names : List Mnemonic) (base : ℕ) (s : Text) (l : List Place)
      → assemble_by size (encode_by names) base s ≡ accepted l → assemble_by size (encode_by names) base (tidy s) ≡ accepted l
  pub table : (t : Text) (base : ℕ) (s : Text) (l : List Place) → assemble_under t base s ≡ accepted l → assemble_under t base (tidy s) ≡ accepted l
  pub manual : (base : ℕ) (s : Text) (l : List Place) → assemble_manual base s ≡ accepted l → assemble_manual base (tidy s) ≡ accepted l

pub record EncodersFind : Type 0 where
  pub rules : (names : List Mnemonic) → ByFind (encode_by names)
  pub manual : ByFind manual_encode

-- a label's name and address, without its place in the source
pub record Named : Type 0 where
  pub name : Text
  pub address : ℕ

abbrev pub named : Label → Named
named x = record { name = x.name; address = x.address }

-- the copy has the same labels at the same addresses, in the order of their first records
pub record LabelsKept (z : Sizes) (base : ℕ) (s : Text) (p : Pass) : Type 0 where
  pub copy : Pass
  pub passed : pass_at_by z base (tidy s) ≡ accepted copy
  pub same : map named copy.labels ≡ map named p.labels

unfoldable pub CopyKeepsLabels : Type 0
CopyKeepsLabels = (z : Sizes) (base : ℕ) (s : Text) (p : Pass) → pass_at_by z base s ≡ accepted p → LabelsKept z base s p

-- ---- the copy of the copy, and its length
-- "a copy of the copy is itself"
unfoldable pub CopyOfCopy : Type 0
CopyOfCopy = (s : Text) → tidy (tidy s) ≡ tidy s

-- "It never exceeds the original's length."
unfoldable pub CopyIsShort : Type 0
CopyIsShort = (s : Text) → length (tidy s) ≤ length s

-- ---- the call
-- refusals 1 to 3 and 18, with so much room lent
pub data TidyCondition (room : ℕ) (s : Text) : ℕ → ℕ → Type 0 where
  of_source : {n p : ℕ} → SourceCondition s n p → TidyCondition room s n p
  -- "18: the lent slice is too short; place the length needed"
  too_short : room < length (tidy s) → TidyCondition room s 18 (length (tidy s))

-- "after 1 to 3, the only others here"
abbrev pub tidying : List Stage
tidying = checking ++ (all 18 ∷ [])

unfoldable pub TidyRefusesExactly : Type 0
TidyRefusesExactly = (room : ℕ) (s : Text) → RefusesExactly tidying (TidyCondition room s) (tidy_answer room s)

-- what a call leaves in the lent slice: as it was, or the copy in front and the rest as it was
pub record TidyWrites : Type 0 where
  pub refusal : (s out : Text) (n p : ℕ) → tidy_answer (length out) s ≡ refused n p → tidy_slice s out ≡ out
  pub copied : (s out : Text) (n : ℕ) → tidy_answer (length out) s ≡ accepted n
      → (n ≡ length (tidy s)) × (take n (tidy_slice s out) ≡ tidy s) × (drop n (tidy_slice s out) ≡ drop n out)
