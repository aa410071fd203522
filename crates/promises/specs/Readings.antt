-- "Number reading says what failed": what each of the reader's four answers means, said of the text's bytes and by plain sums,
-- apart from the reader and for each type of number; what a line's number has to do with its task; and examples. Assumes nothing.
use Rattle.std.specs.Prelude.{ℕ, ◌+◌, ◌*◌, ◌^◌, ◌<◌, ◌≤◌, ◌≡◌, ◌≢◌, ◌↔◌, Bool, true, false, ◌||◌, List, [], ◌∷◌, ◌++◌, map, length, get_or, ℤ, pos, negsuc, neg_ℤ, Option, None, Some}
use Rattle.rules.specs.Text.{Text, bytes, starts}
use Rattle.rules.specs.Number.{digit_value, Failure, no_digits, bad_digit, out_of_range, Reading, read, failed, unsigned_reading, signed_reading, reading32, reading16, reading8, immediate}
use Rattle.rules.specs.Line.{Task, skipped, end, org, no_org, label_only, Instruction, instruction, value, space, line_of, reading_in}
use Rattle.rules.specs.Directive.{line_reading}
use Rattle.rules.specs.Encode.{written_reading}

-- ---- what stands in front of the digits
-- "prefix `$` or `0x` hexadecimal, else decimal": the text's radix, and what follows its prefix
pub data Prefix : Text → ℕ → Text → Type 0 where
  dollar : {s t : Text} → s ≡ bytes "$" ++ t → Prefix s 16 t
  zero_x : {s t : Text} → s ≡ bytes "0x" ++ t → Prefix s 16 t
  no_prefix : {s : Text} → starts (bytes "$") s ≡ false → starts (bytes "0x") s ≡ false → Prefix s 10 s

-- "an allowed sign": `+`, and `−` in a signed type; whether it is `−`, and what follows it
pub data Sign (signed : Bool) : Text → Bool → Text → Type 0 where
  plus : {s t : Text} → s ≡ bytes "+" ++ t → Sign signed s false t
  minus : {s t : Text} → signed ≡ true → s ≡ bytes "-" ++ t → Sign signed s true t
  no_sign : {s : Text} → starts (bytes "+") s ≡ false → (signed ≡ true → starts (bytes "-") s ≡ false) → Sign signed s false s

-- ---- the digits
-- "a bad digit": a byte, wherever it stands, that is no digit of the radix
pub record BadDigit (radix : ℕ) (d : Text) : Type 0 where
  pub place : ℕ
  pub inside : place < length d
  pub no_digit : radix ≤ digit_value (get_or d place 0)

-- their value: each digit as often as the radix to the power of the digits after it says
unfoldable pub worth : ℕ → Text → ℕ
worth radix [] = 0
worth radix (b ∷ s) = digit_value b * radix ^ length s + worth radix s

-- ---- a type's value for digits worth v, and whether `−` stands in front: 0 to bound - 1, and -bound to bound - 1
pub data Unsigned (bound : ℕ) : Bool → ℕ → ℕ → Type 0 where
  below : {v : ℕ} → v < bound → Unsigned bound false v v

pub data Signed (bound : ℕ) : Bool → ℕ → ℤ → Type 0 where
  upwards : {v : ℕ} → v < bound → Signed bound false v (pos v)
  downwards : {v : ℕ} → v ≤ bound → Signed bound true v (neg_ℤ (pos v))

-- ---- the four answers on the digits d, where Has is the type: "No digits means nothing after the prefix and an allowed sign ..
-- It comes before a bad digit, and a bad digit before a value out of range."
pub data Answered {A : Type 0} (radix : ℕ) (Has : ℕ → A → Type 0) (d : Text) : Reading A → Type 0 where
  has_no_digits : d ≡ [] → Answered radix Has d (failed no_digits)
  has_bad_digit : BadDigit radix d → Answered radix Has d (failed bad_digit)
  has_out_of_range : d ≢ [] → ¬ BadDigit radix d → ((a : A) → ¬ Has (worth radix d) a) → Answered radix Has d (failed out_of_range)
  is_read : {a : A} → d ≢ [] → ¬ BadDigit radix d → Has (worth radix d) a → Answered radix Has d (read a)

-- what an answer on a text means, in a radix: after the sign; and where the prefix makes the radix
pub record Means {A : Type 0} (signed : Bool) (Has : Bool → ℕ → A → Type 0) (radix : ℕ) (s : Text) (r : Reading A) : Type 0 where
  pub negative : Bool
  pub rest : Text
  pub sign : Sign signed s negative rest
  pub answered : Answered radix (Has negative) rest r

pub record MeansPrefixed {A : Type 0} (signed : Bool) (Has : Bool → ℕ → A → Type 0) (s : Text) (r : Reading A) : Type 0 where
  pub radix : ℕ
  pub rest : Text
  pub prefix : Prefix s radix rest
  pub means : Means signed Has radix rest r

-- "or no piece at all"
pub data MeansPiece (P : Text → Reading ℕ → Type 0) : Option Text → Reading ℕ → Type 0 where
  missing : MeansPiece P None (failed no_digits)
  present : {s : Text} {r : Reading ℕ} → P s r → MeansPiece P (Some s) r

-- an operand that may be asked for a number: an immediate, which has `#` in front, and a branch's, which starts with a sign
pub data MeansImmediate {A : Type 0} (P : Text → Reading A → Type 0) : Text → Option (Reading A) → Type 0 where
  no_hash : {s : Text} → starts (bytes "#") s ≡ false → MeansImmediate P s None
  hash : {s t : Text} {r : Reading A} → s ≡ bytes "#" ++ t → P t r → MeansImmediate P s (Some r)

pub data MeansWritten (P : Text → Reading ℤ → Type 0) : Text → Option (Reading ℤ) → Type 0 where
  no_sign_first : {s : Text} → (starts (bytes "+") s || starts (bytes "-") s) ≡ false → MeansWritten P s None
  sign_first : {s : Text} {r : Reading ℤ} → (starts (bytes "+") s || starts (bytes "-") s) ≡ true → P s r → MeansWritten P s (Some r)

-- ---- the types
abbrev pub Means32 : Text → Reading ℕ → Type 0
Means32 = MeansPrefixed false (Unsigned (2 ^ 32))

abbrev pub Means16 : Text → Reading ℕ → Type 0
Means16 = MeansPrefixed false (Unsigned (2 ^ 16))

abbrev pub Means8 : Text → Reading ℤ → Type 0
Means8 = MeansPrefixed true (Signed 128)

-- a reader gives exactly the answers that P says
abbrev pub Exactly : {A B : Type 0} → (A → B) → (A → B → Type 0) → Type 0
Exactly {A} {B} reader P = (s : A) (r : B) → (reader s ≡ r) ↔ P s r

-- "Number reading is shown over the width and radix, not per type", then for each type and each place that asks
pub record ReadingsMean : Type 0 where
  pub unsigned : (radix bound : ℕ) → Exactly (unsigned_reading radix bound) (Means false (Unsigned bound) radix)
  pub signed : (radix bound : ℕ) → 0 < bound → Exactly (signed_reading radix bound) (Means true (Signed bound) radix)
  pub of_32_bits : Exactly reading32 Means32
  pub of_16_bits : Exactly reading16 Means16
  pub of_8_bits : Exactly reading8 Means8
  pub of_a_piece : Exactly reading_in (MeansPiece Means32)
  pub of_immediates_16 : Exactly (immediate reading16) (MeansImmediate Means16)
  pub of_immediates_8 : Exactly (immediate reading8) (MeansImmediate Means8)
  pub of_branches : Exactly written_reading (MeansWritten (Means true (Signed 128) 10))

-- a sign where none is allowed, as `−` in an unsigned type or a second sign, is a bad digit
pub record SignsNotAllowed : Type 0 where
  pub unsigned : (radix bound : ℕ) (s : Text) (n : Bool) (d : Text) → radix ≤ 16 → Sign false s n d → (starts (bytes "+") d || starts (bytes "-") d) ≡ true
      → unsigned_reading radix bound s ≡ failed bad_digit
  pub signed : (radix bound : ℕ) (s : Text) (n : Bool) (d : Text) → radix ≤ 16 → 0 < bound → Sign true s n d → (starts (bytes "+") d || starts (bytes "-") d) ≡ true
      → signed_reading radix bound s ≡ failed bad_digit

-- ---- lines
-- a line's task and what its number said: a number is in the task exactly if it is read
pub data Passes : Task → Option (Reading ℕ) → Type 0 where
  org_read : {v : ℕ} → Passes (org v) (Some (read v))
  org_failed : {x : Failure} → Passes no_org (Some (failed x))
  value_read : {n v : ℕ} → Passes (value n v) (Some (read v))
  value_failed : {n : ℕ} {x : Failure} → Passes (space n) (Some (failed x))
  no_value : {n : ℕ} → Passes (space n) None
  not_read : Passes skipped None
  ends : Passes end None
  only_labelled : Passes label_only None
  instructs : {i : Instruction} → Passes (instruction i) None

unfoldable pub LinesPassOn : Type 0
LinesPassOn = (s : Text) → Passes (line_of s).task (line_reading s)

-- ---- examples: texts, and what they read as
pub record Sample (B : Type 0) : Type 0 where
  pub text : Text
  pub answer : B

infix 80 ◌reads◌
abbrev pub ◌reads◌ : {B : Type 0} → Text → B → Sample B
◌reads◌ t a = record { text = t; answer = a }

abbrev pub SamplesHold : {B : Type 0} → (Text → B) → List (Sample B) → Type 0
SamplesHold f xs = map (λ x. f x.text) xs ≡ map (λ x. x.answer) xs

abbrev no : {A : Type 0} → Reading A
no = failed no_digits

abbrev bad : {A : Type 0} → Reading A
bad = failed bad_digit

abbrev far : {A : Type 0} → Reading A
far = failed out_of_range

unfoldable pub samples32 : List (Sample (Reading ℕ))
samples32 =
    bytes "" reads no ∷ bytes "+" reads no ∷ bytes "$" reads no ∷ bytes "0x" reads no ∷ bytes "0x+" reads no
    ∷ bytes "-" reads bad ∷ bytes "-1" reads bad ∷ bytes "++1" reads bad ∷ bytes "0X1" reads bad ∷ bytes "+$1" reads bad ∷ bytes "5,6" reads bad
    ∷ bytes "99999999999999O" reads bad ∷ bytes "99999999999999" reads far ∷ bytes "4294967296" reads far
    ∷ bytes "4294967295" reads read 4294967295 ∷ bytes "$+fF" reads read 255 ∷ bytes "0010" reads read 10 ∷ []

unfoldable pub samples16 : List (Sample (Option (Reading ℕ)))
samples16 =
    bytes "#-" reads Some bad ∷ bytes "#-1" reads Some bad ∷ bytes "#65536" reads Some far ∷ bytes "#$FFFF" reads Some (read 65535) ∷ bytes "5" reads None ∷ []

unfoldable pub samples8 : List (Sample (Option (Reading ℤ)))
samples8 =
    bytes "300" reads None ∷ bytes "#300" reads Some far ∷ bytes "#3O" reads Some bad ∷ bytes "#+" reads Some no ∷ bytes "#$-" reads Some no
    ∷ bytes "#+-1" reads Some bad ∷ bytes "#128" reads Some far ∷ bytes "#-129" reads Some far ∷ bytes "#0x-80" reads Some (read (negsuc 127)) ∷ []

unfoldable pub samples_of_lines : List (Sample (Option (Reading ℕ)))
samples_of_lines =
    bytes "ORG" reads Some no ∷ bytes "DC.L" reads Some no ∷ bytes "X DC.L" reads Some no ∷ bytes "FOODC.L 5" reads Some no ∷ bytes "X: DC.L: 5" reads Some no
    ∷ bytes "DC.L 5,6" reads Some bad ∷ bytes "ORG: 5" reads Some (read 5) ∷ bytes "x: dc.b $10" reads Some (read 16) ∷ bytes "ORG 4294967296" reads Some far
    ∷ bytes "X: ORG 5" reads None ∷ bytes "DS.L 5" reads None ∷ bytes "END 5" reads None ∷ bytes "; DC.L 5" reads None ∷ bytes "X:" reads None ∷ []

pub record ReadingExamples : Type 0 where
  pub of_32_bits : SamplesHold reading32 samples32
  pub of_immediates_16 : SamplesHold (immediate reading16) samples16
  pub of_immediates_8 : SamplesHold (immediate reading8) samples8
  pub lines_agree : SamplesHold line_reading samples_of_lines
