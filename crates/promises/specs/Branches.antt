-- Branch tables, "Our own branch names": when a table is accepted, with which names, and which command is blamed with 16 or 17, said of the bytes as
-- rows written one after another and apart from how they are read; and how many of a table's bytes count. Assumes nothing.
use Rattle.std.specs.Prelude.{ℕ, ◌*◌, ◌≤◌, ◌<◌, ◌≡◌, ◌↔◌, ◌≢◌, List, [], ◌∷◌, ◌++◌, length, take, replicate}
use Rattle.rules.specs.Text.{Text}
use Rattle.rules.specs.Encode.{branch, Mnemonic, mnemonic, other_mnemonics}
use Rattle.rules.specs.Answer.{accepted}
use Rattle.requests.specs.Branches.{loaded}
use Rattle.promises.specs.Stages.{Stage, by_line, RefusesExactly}
use Rattle.promises.specs.Nearest.{In}

-- ---- rows
-- "a four-byte name padded with spaces, then one condition byte"
pub record Row : Type 0 where
  pub first : ℕ
  pub second : ℕ
  pub third : ℕ
  pub fourth : ℕ
  pub condition : ℕ

abbrev pub four : Row → Text
four r = r.first ∷ r.second ∷ r.third ∷ r.fourth ∷ []

-- a row as it stands in a table: "byte 1, then" these; and rows one after another
abbrev pub row_bytes : Row → Text
row_bytes r = 1 ∷ r.first ∷ r.second ∷ r.third ∷ r.fourth ∷ r.condition ∷ []

unfoldable pub rows_bytes : List Row → Text
rows_bytes [] = []
rows_bytes (r ∷ rs) = row_bytes r ++ rows_bytes rs

-- four bytes are a name and spaces after it, all that there are
pub record Padded (name bytes : Text) : Type 0 where
  pub spaces : ℕ
  pub padded : bytes ≡ name ++ replicate spaces 32
  pub all : (front : Text) → name ≢ front ++ (32 ∷ [])

-- the names of rows, and their conditions
pub data Named : List Row → List Mnemonic → Type 0 where
  no_row : Named [] []
  row : {r : Row} {rs : List Row} {n : Text} {ns : List Mnemonic} → Padded n (four r) → Named rs ns
      → Named (r ∷ rs) (mnemonic n (branch r.condition) ∷ ns)

-- ---- refusals
-- "a name starting with a blank": bytes 9 to 13 and 32
pub data Blank : ℕ → Type 0 where
  tab : {b : ℕ} → 9 ≤ b → b ≤ 13 → Blank b
  space : Blank 32

-- 17: what is wrong with the name of the row r after the rows rs
pub data Misnamed (rs : List Row) (r : Row) : Type 0 where
  starts_blank : Blank r.first → Misnamed rs r
  -- "with a lower-case letter"
  lower_case : {b : ℕ} → In b (four r) → 97 ≤ b → b ≤ 122 → Misnamed rs r
  -- "in an earlier row"
  twice : {q : Row} → In q rs → four q ≡ four r → Misnamed rs r
  -- "or a mnemonic other than the eleven"
  taken : {n : Mnemonic} → In n other_mnemonics → Padded n.name (four r) → Misnamed rs r

-- s stands in t after the rows rs; the row r does
pub record Behind (rs : List Row) (s t : Text) : Type 0 where
  pub stands : t ≡ rows_bytes rs ++ s

pub record RowBehind (rs : List Row) (r : Row) (t : Text) : Type 0 where
  pub rest : Text
  pub stands : t ≡ rows_bytes rs ++ (row_bytes r ++ rest)

-- what is wrong with the command after the rows rs; "place the command's offset"
pub data TableCondition (t : Text) : ℕ → ℕ → Type 0 where
  -- "16: a cut, missing or unknown command, a 17th row or a condition over 15"
  cut : {rs : List Row} {s : Text} → Behind rs (1 ∷ s) t → length s < 5 → TableCondition t 16 (6 * length rs)
  missing : {rs : List Row} → Behind rs [] t → TableCondition t 16 (6 * length rs)
  unknown : {rs : List Row} {b : ℕ} {s : Text} → Behind rs (b ∷ s) t → b ≢ 0 → b ≢ 1 → TableCondition t 16 (6 * length rs)
  row_17 : {rs : List Row} {r : Row} → RowBehind rs r t → length rs ≡ 16 → TableCondition t 16 (6 * length rs)
  over_15 : {rs : List Row} {r : Row} → RowBehind rs r t → 15 < r.condition → TableCondition t 16 (6 * length rs)
  -- 17
  wrong_name : {rs : List Row} {r : Row} → RowBehind rs r t → Misnamed rs r → TableCondition t 17 (6 * length rs)

-- "first command first, 16 before 17"
abbrev pub loading : List Stage
loading = by_line (16 ∷ 17 ∷ []) ∷ []

-- a table is refused exactly so
unfoldable pub LoadRefusesExactly : Type 0
LoadRefusesExactly = (t : Text) → RefusesExactly loading (TableCondition t) (loaded t)

-- ---- accepted tables
-- rows one after another, "At most 16", each with a condition "0 to 15" and a right name; "byte 0 ends it, and bytes after that are not read"
pub record Accepted (t : Text) (ns : List Mnemonic) : Type 0 where
  pub rows : List Row
  pub rest : Text
  pub stands : Behind rows (0 ∷ rest) t
  pub most : length rows ≤ 16
  pub right : (front : List Row) (r : Row) (back : List Row) → rows ≡ front ++ (r ∷ back) → (r.condition ≤ 15) × (¬ Misnamed front r)
  pub named : Named rows ns

-- a table is accepted, and its names are loaded, exactly if it is so
unfoldable pub LoadAcceptsExactly : Type 0
LoadAcceptsExactly = (t : Text) (ns : List Mnemonic) → (loaded t ≡ accepted ns) ↔ Accepted t ns

-- 16 rows of six bytes and an end byte: nothing after them counts
unfoldable pub FrontOfATable : Type 0
FrontOfATable = (t : Text) → loaded (take 97 t) ≡ loaded t
