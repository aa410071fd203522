-- Which piece of a line is read as a number, said of the line's bytes by the rules' six steps; that the line's answer is what that piece means,
-- as the statements about numbers and sums say it of its bytes; and that what the line does goes by that answer. Assumes nothing.
use Rattle.std.specs.Prelude.{ℕ, ◌≡◌, ◌≢◌, ◌↔◌, Bool, true, false, List, [], ◌∷◌, ◌++◌, length, take, drop, eqb, Option, None, Some, ℤ}
use Rattle.rules.specs.Text.{Text, bytes, blank, uppers}
use Rattle.rules.specs.Number.{Failure, Reading, read, failed, reading32, immediate, imm8, imm16}
use Rattle.rules.specs.Line.{org, no_org, value, space, line_of}
use Rattle.rules.specs.Directive.{line_reading}
use Rattle.requests.specs.ManualCall.{imm32}
use Rattle.promises.specs.Readings.{Means32, Means16, Means8, MeansPiece, MeansImmediate, Exactly}
use Rattle.promises.specs.Sums.{MeansValue}

-- ---- parts of a text
-- the test says y of each byte
pub data Each (f : ℕ → Bool) (y : Bool) : Text → Type 0 where
  no_bytes : Each f y []
  next_byte : {b : ℕ} {s : Text} → f b ≡ y → Each f y s → Each f y (b ∷ s)

-- blanks and nothing else; no blank; no colon
abbrev pub Blanks : Text → Type 0
Blanks = Each blank true

abbrev pub Solid : Text → Type 0
Solid = Each blank false

abbrev pub NoColon : Text → Type 0
NoColon = Each (λ b. eqb b 58) false

-- no blank stands at either end
pub data Bare (t : Text) : Type 0 where
  bare_empty : t ≡ [] → Bare t
  bare_one : {b : ℕ} → t ≡ b ∷ [] → blank b ≡ false → Bare t
  bare_more : (b c : ℕ) (s : Text) → t ≡ b ∷ (s ++ (c ∷ [])) → blank b ≡ false → blank c ≡ false → Bare t

-- t is s without its outer blanks
pub record Trims (s t : Text) : Type 0 where
  pub front : Text
  pub behind : Text
  pub cut : s ≡ front ++ (t ++ behind)
  pub blanks_first : Blanks front
  pub blanks_last : Blanks behind
  pub bare : Bare t

-- l and r stand around the first colon of s
pub record Colon (s l r : Text) : Type 0 where
  pub cut : s ≡ l ++ (58 ∷ r)
  pub first : NoColon l

-- "blank-separated pieces", one after another: after each stands a blank, or nothing
pub data Ends : Text → Type 0 where
  at_end : Ends []
  at_blank : {b : ℕ} {s : Text} → blank b ≡ true → Ends (b ∷ s)

pub data Pieces : Text → List Text → Type 0 where
  no_more : {t : Text} → Blanks t → Pieces t []
  piece : {t f p u : Text} {ps : List Text} → t ≡ f ++ (p ++ u) → Blanks f → Solid p → p ≢ [] → Ends u → Pieces u ps → Pieces t (p ∷ ps)

-- t, upper-cased, starts with p; and p stands somewhere in it
abbrev pub Begins : Text → Text → Type 0
Begins p t = take (length p) (uppers t) ≡ p

pub record Holds (p t : Text) : Type 0 where
  pub place : ℕ
  pub there : take (length p) (drop place (uppers t)) ≡ p

-- ---- the steps
-- "Empty, or first byte `;`: skipped."
pub data Skipped : Text → Type 0 where
  nothing : Skipped []
  note : {s : Text} → Skipped (59 ∷ s)

-- the line s, trimmed, is t, and neither skipped nor END: ORG's line, or one that goes on to the fourth step
pub record Org (s t : Text) : Type 0 where
  pub trims : Trims s t
  pub said : ¬ Skipped t
  pub no_end : ¬ Begins (bytes "END") t
  pub is_org : Begins (bytes "ORG") t

pub record Fourth (s t : Text) : Type 0 where
  pub trims : Trims s t
  pub said : ¬ Skipped t
  pub no_end : ¬ Begins (bytes "END") t
  pub no_org : ¬ Begins (bytes "ORG") t

-- "A colon: .. the trimmed rest goes on", else all of it: what the fifth step looks at
pub data GoesOn (t u : Text) : Type 0 where
  without_colon : NoColon t → u ≡ t → GoesOn t u
  behind_colon : {l r : Text} → Colon t l r → Trims r u → GoesOn t u

-- what is no label in front of a directive: less than two pieces, or a first one "starting DC or DS (upper-cased)"
pub data NoLabel : List Text → Type 0 where
  no_piece : NoLabel []
  one_piece : {p : Text} → NoLabel (p ∷ [])
  starts_dc : {p : Text} {ps : List Text} → Begins (bytes "DC") p → NoLabel (p ∷ ps)
  starts_ds : {p : Text} {ps : List Text} → Begins (bytes "DS") p → NoLabel (p ∷ ps)

-- the pieces of the directive. "With a colon, label and directive are the trimmed texts around the first one. Otherwise, with two or more pieces
-- and a first piece not starting DC or DS (upper-cased), that piece is the label and the others the directive. Otherwise no label."
pub data Directive (u : Text) : List Text → Type 0 where
  around_colon : {l r d : Text} {ds : List Text} → Colon u l r → Trims r d → Pieces d ds → Directive u ds
  behind_label : {p q : Text} {ds : List Text} → NoColon u → Pieces u (p ∷ q ∷ ds) → ¬ Begins (bytes "DC") p → ¬ Begins (bytes "DS") p
      → Directive u (q ∷ ds)
  unlabelled : {ds : List Text} → NoColon u → Pieces u ds → NoLabel ds → Directive u ds

-- "the second blank-separated piece", if there is one
pub data Second : List Text → Option Text → Type 0 where
  none_at_all : Second [] None
  only_one : {p : Text} → Second (p ∷ []) None
  second : {p q : Text} {ps : List Text} → Second (p ∷ q ∷ ps) (Some q)

-- ---- which number a line asks for, and what it says
-- ORG: the second piece of the whole trimmed line, as a number
pub data OrgAsks (s : Text) (r : Reading ℕ) : Type 0 where
  org_asks : {t : Text} {ps : List Text} {o : Option Text} → Org s t → Pieces t ps → Second ps o → MeansPiece Means32 o r → OrgAsks s r

-- "With `DC.` in the line, the directive's second piece", a number or a sum
pub data DcAsks (s : Text) (r : Reading ℕ) : Type 0 where
  dc_asks : {t u : Text} {ds : List Text} {o : Option Text} → Fourth s t → GoesOn t u → Holds (bytes "DC.") u → Directive u ds → Second ds o
      → MeansPiece MeansValue o r → DcAsks s r

-- no number is asked for: by lines that are skipped, by END, and where no `DC.` stands
pub data AsksNothing (s : Text) : Type 0 where
  skipped_asks : {t : Text} → Trims s t → Skipped t → AsksNothing s
  end_asks : {t : Text} → Trims s t → Begins (bytes "END") t → AsksNothing s
  other_asks : {t u : Text} → Fourth s t → GoesOn t u → ¬ Holds (bytes "DC.") u → AsksNothing s

pub data LineAsks (s : Text) : Option (Reading ℕ) → Type 0 where
  by_org : {r : Reading ℕ} → OrgAsks s r → LineAsks s (Some r)
  by_dc : {r : Reading ℕ} → DcAsks s r → LineAsks s (Some r)
  by_nothing : AsksNothing s → LineAsks s None

-- "Every directive .. passes this on": a line's answer is exactly that
unfoldable pub DirectivesPassOn : Type 0
DirectivesPassOn = Exactly line_reading LineAsks

-- and what the line does goes by it: ORG has an address exactly if its number is read, and data a value exactly if DC's is
pub record NumbersAct : Type 0 where
  pub org_acts : (s : Text) (v : ℕ) → ((line_of s).task ≡ org v) ↔ OrgAsks s (read v)
  pub org_rests : (s : Text) → ((line_of s).task ≡ no_org) ↔ ((x : Failure) × OrgAsks s (failed x))
  pub value_acts : (s : Text) (v : ℕ) → ((n : ℕ) × ((line_of s).task ≡ value n v)) ↔ DcAsks s (read v)
  pub value_rests : (s : Text) (x : Failure) → DcAsks s (failed x) → (n : ℕ) × ((line_of s).task ≡ space n)

-- "and immediate": the number that an operand gives to an instruction, of each type, is the reading of what follows its `#`, exactly if it is read; and
-- those of 32 bits read as the others do
pub record ImmediatesAct : Type 0 where
  pub of_32_bits : Exactly (immediate reading32) (MeansImmediate Means32)
  pub eight_bits : (s : Text) (z : ℤ) → (imm8 s ≡ Some z) ↔ MeansImmediate Means8 s (Some (read z))
  pub sixteen_bits : (s : Text) (v : ℕ) → (imm16 s ≡ Some v) ↔ MeansImmediate Means16 s (Some (read v))
  pub long : (s : Text) (v : ℕ) → (imm32 s ≡ Some v) ↔ MeansImmediate Means32 s (Some (read v))
