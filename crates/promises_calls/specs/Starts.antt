-- Which names a line records, and where each starts: its bytes, and all that stands in front of them, in full for an empty name and for one that
-- stands twice in its line; and where a record starts in the source. Assumes nothing.
use Rattle.std.specs.Prelude.{ℕ, zero, suc, ◌+◌, ◌≡◌, ◌≢◌, ◌↔◌, false, List, [], ◌∷◌, ◌++◌, length, eqb}
use Rattle.rules.specs.Text.{Text, bytes}
use Rattle.rules.specs.Line.{Name, name, line_of}
use Rattle.rules.specs.Assemble.{Sizes}
use Rattle.promises.specs.Refusals.{Reached}
use Rattle.promises.specs.Nearest.{In, RecordsBy}
use Rattle.promises_calls.specs.Directives.{Each, Blanks, Solid, NoColon, Bare, Trims, Ends, Pieces, Begins, Holds, Skipped, Org, Fourth, NoLabel}

-- of a text r with `before` in front: the name m stands there after g and before t, and starts after all that is in front of it
pub record Starts (before r g : Text) (m : Name) (t : Text) : Type 0 where
  pub cut : r ≡ g ++ (m.text ++ t)
  pub place : m.start ≡ length (before ++ g)

-- "Upper-cased, contains `DC.` or `DS.`: data."
pub data Data (u : Text) : Type 0 where
  has_dc : Holds (bytes "DC.") u → Data u
  has_ds : Holds (bytes "DS.") u → Data u

-- ---- the fifth step, of the text r with `before` in front
-- no label: no data, nothing in front of a colon ("A nonempty label is recorded"), or no colon and no label's piece
pub data Fifth (before r : Text) : List Name → Type 0 where
  no_data : {u : Text} → Trims r u → ¬ Data u → Fifth before r []
  colon_first : {u g : Text} (t : Text) → Trims r u → Data u → Blanks g → r ≡ g ++ (58 ∷ t) → Fifth before r []
  no_label : {u : Text} {ps : List Text} → Trims r u → Data u → NoColon r → Pieces r ps → NoLabel ps → Fifth before r []
  -- the trimmed text in front of the first colon
  before_colon : {u g gap : Text} {m : Name} (t : Text) → Trims r u → Data u → Blanks g → Bare m.text → m.text ≢ [] → NoColon m.text → Blanks gap
      → Starts before r g m (gap ++ (58 ∷ t)) → Fifth before r (m ∷ [])
  -- "a first piece not starting DC or DS (upper-cased)", with another after it
  first_piece : {u g v q : Text} {m : Name} {ps : List Text} → Trims r u → Data u → NoColon r → Blanks g → Solid m.text → m.text ≢ [] → Ends v
      → Pieces v (q ∷ ps) → ¬ Begins (bytes "DC") m.text → ¬ Begins (bytes "DS") m.text → Starts before r g m v → Fifth before r (m ∷ [])

-- ---- the line s
pub data LineRecords (s : Text) : List Name → Type 0 where
  -- skipped, END and ORG: none
  when_skipped : {t : Text} → Trims s t → Skipped t → LineRecords s []
  when_end : {t : Text} → Trims s t → Begins (bytes "END") t → LineRecords s []
  when_org : {t : Text} → Org s t → LineRecords s []
  -- no colon: the fifth step's alone, if any
  without_fourth : {t : Text} {ms : List Name} → Fourth s t → NoColon s → Fifth [] s ms → LineRecords s ms
  -- "A colon: the trimmed text before the first one is recorded as a label (it may be empty)"; an empty one starts at its colon. Then the
  -- fifth step's, of all that stands after the colon
  with_fourth : {t f gap : Text} {m : Name} {ms : List Name} (r : Text) → Fourth s t → Blanks f → Bare m.text → NoColon m.text → Blanks gap
      → (m.text ≡ [] → gap ≡ []) → Starts [] s f m (gap ++ (58 ∷ r)) → Fifth (f ++ (m.text ++ (gap ++ bytes ":"))) r ms → LineRecords s (m ∷ ms)

-- a line records exactly those
unfoldable pub NamesStart : Type 0
NamesStart = (s : Text) (ns : List Name) → ((line_of s).names ≡ ns) ↔ LineRecords s ns

-- ---- the source
-- after the first j lines of s, and what stands in front of it, with the byte 10 at the end of each: the line l
pub data LineAt : Text → ℕ → Text → Text → Type 0 where
  this_line : {s l : Text} (rest : Text) → s ≡ l ++ rest → Each (eqb 10) false l → (rest ≢ [] → (t : Text) × (rest ≡ 10 ∷ t)) → LineAt s zero [] l
  line_behind : {s k t front l : Text} {j : ℕ} → s ≡ k ++ (10 ∷ t) → Each (eqb 10) false k → LineAt t j front l → LineAt s (suc j) (k ++ (10 ∷ front)) l

-- a record of the name n on the line k, from 1, which is read at the address a, starts at i: after all lines in front of its own, and all that
-- stands there in front of it
pub record StartsAt (z : Sizes) (base : ℕ) (s n : Text) (i k a : ℕ) : Type 0 where
  pub front : Text
  pub line : Text
  pub index : ℕ
  pub recorded : List Text
  pub names : List Name
  pub place : ℕ
  pub number : k ≡ suc index
  pub stands : LineAt s index front line
  pub reached : Reached z base s index a recorded
  pub line_names : LineRecords line names
  pub one : In (name place n) names
  pub start : i ≡ length front + place

-- the records are exactly those
unfoldable pub RecordsStart : Type 0
RecordsStart = (z : Sizes) (base : ℕ) (s n : Text) (i k a : ℕ) → RecordsBy z base s n i k a ↔ StartsAt z base s n i k a
