-- A row's words read back: what a line asks has a code, and its columns show the code's places. Assumes nothing.
use Rattle.std.specs.Prelude.{Option, None, Some}
use Prim.Native.Nat.{ℕ, ◌+◌, ◌*◌, ◌/◌, ◌%◌, ◌<◌}
use mathlib.Core.Path.{◌≡◌, refl, sym, ap, ◌∙◌}
use mathlib.Core.Bool.{Bool, true, false, cond}
use mathlib.Core.List.{List, [], ◌∷◌, ◌++◌, append_assoc, map}
use native.Mathlib.Nat.{mod-lt}
use native.Mathlib.Omega.{arith}
use borrow.Author.Tests.{ne_eqb}
use lib.Dec.{eqb, ltb}
use lib.ListN.{length, take, drop, get_or}
use lib.Seq.{take_at, drop_at, get_or-drop}
use Rattle.rules.specs.Text.{Text, bytes}
use Rattle.rules.specs.Line.{Task, skipped, end, org, no_org, label_only, instruction, value, space}
use Rattle.rules.specs.Label.{Table}
use Rattle.rules.specs.Encode.{Mnemonic, encode_by}
use Rattle.rules.specs.Assemble.{Put, Place, place, places_at, data_contents, data_places, code_contents_by, code_places_by}
use Rattle.encode.specs.Code.{code_of, places_of}
use Rattle.encode.specs.declared.Code.{Code}
use Rattle.encode.specs.declared.Code.TheVariants.{Word, Value, Label}
use Rattle.encode.proofs.Callers.{encode_places}
use Rattle.listing.specs.Listing.{digit_byte, digits_of}
use Rattle.listing.specs.Reading.{hex_in}
use Rattle.listing.proofs.Digits.{length_digits}
use Rattle.listing.proofs.Values.{number_read}
use Rattle.printout.specs.Printout.{word_text, words_text, places_of_put}
use Rattle.printout.specs.Shown.{word_in, sixteen}
use Rattle.printout.proofs.Columns.{word_length}

-- ---- a word
-- a digit off the low 16, 12 and 8 bits
off_16 : (q r : ℕ) → r < 65536 → (65536 * q + r) / 16 % 4096 ≡ r / 16
off_16 q r h = let d : (65536 * q + r) / 16 ≡ 4096 * q + r / 16 = omega arith in rw d (omega arith)

off_12 : (q r : ℕ) → r < 4096 → (4096 * q + r) / 16 % 256 ≡ r / 16
off_12 q r h = let d : (4096 * q + r) / 16 ≡ 256 * q + r / 16 = omega arith in rw d (omega arith)

off_8 : (q r : ℕ) → r < 256 → (256 * q + r) / 16 % 16 ≡ r / 16
off_8 q r h = let d : (256 * q + r) / 16 ≡ 16 * q + r / 16 = omega arith in rw d (omega arith)

low_16 : (w : ℕ) → w % 65536 / 16 ≡ w / 16 % 4096
low_16 w = let e : 65536 * (w / 65536) + w % 65536 ≡ w = omega arith in sym (rw e at (off_16 (w / 65536) (w % 65536) (omega arith)))

low_12 : (w : ℕ) → w % 4096 / 16 ≡ w / 16 % 256
low_12 w = let e : 4096 * (w / 4096) + w % 4096 ≡ w = omega arith in sym (rw e at (off_12 (w / 4096) (w % 4096) (omega arith)))

low_8 : (w : ℕ) → w % 256 / 16 ≡ w / 16 % 16
low_8 w = let e : 256 * (w / 256) + w % 256 ≡ w = omega arith in sym (rw e at (off_8 (w / 256) (w % 256) (omega arith)))

sixteen_digits : (w : ℕ) → digits_of 16 4 w ≡ digits_of 16 4 (w % 65536)
unfolding digits_of
sixteen_digits w =
    let a : w % 65536 % 16 ≡ w % 16 = omega arith in
    let e : w / 16 % 4096 % 16 ≡ w / 16 % 16 = omega arith in
    let f : w / 16 / 16 % 256 % 16 ≡ w / 16 / 16 % 16 = omega arith in
    let g : w / 16 / 16 / 16 % 16 % 16 ≡ w / 16 / 16 / 16 % 16 = omega arith in
    rw (a, low_16 w, low_12 (w / 16), low_8 (w / 16 / 16), e, f, g)

word_value : (w : ℕ) → hex_in 0 (digits_of 16 4 w) ≡ w % 65536
word_value w = rw (sixteen_digits w) (number_read 4 (w % 65536) (mod-lt w (omega arith)))

digit_no_blank : (d : ℕ) → eqb (digit_byte d) 32 ≡ false
unfolding digit_byte
digit_no_blank d = go (ltb d 10) refl
  where
    go : (x : Bool) → ltb d 10 ≡ x → eqb (digit_byte d) 32 ≡ false
    go true e = rw (digit_byte, e) (ne_eqb (48 + d) 32 (λ f. omega arith))
    go false e = rw (digit_byte, e) (ne_eqb (55 + d) 32 (λ f. omega arith))

starts_digit : (w : ℕ) (rest : Text) → eqb (get_or (digits_of 16 4 w ++ rest) 0 0) 32 ≡ false
unfolding digits_of
starts_digit w rest = digit_no_blank (w / 16 / 16 / 16 % 16)

module _ (a w m : ℕ) (rest : Text) where
  abbrev sign : ℕ
  sign = cond (eqb m 0) 32 42

  abbrev whole : Text
  whole = word_text w m ++ rest

  shape : whole ≡ digits_of 16 4 w ++ (sign ∷ rest)
  unfolding word_text
  shape = append_assoc (digits_of 16 4 w) (sign ∷ []) rest

  first_byte : eqb (get_or whole 0 0) 32 ≡ false
  first_byte = ap (λ (t : Text). eqb (get_or t 0 0) 32) shape ∙ starts_digit w (sign ∷ rest)

  digits_part : take 4 whole ≡ digits_of 16 4 w
  digits_part = ap (take 4) shape ∙ take_at (digits_of 16 4 w) (sign ∷ rest) 4 (length_digits 16 4 w)

  sign_part : get_or whole 4 0 ≡ sign
  sign_part =
      ap (λ (t : Text). get_or t 4 0) shape
      ∙ (sym (get_or-drop 4 (digits_of 16 4 w ++ (sign ∷ rest)) 0 0) ∙ ap (λ (t : Text). get_or t 0 0) (drop_at (digits_of 16 4 w) (sign ∷ rest) 4 (length_digits 16 4 w)))

  marked : ◌≡◌ {A = ℕ} (cond (eqb sign 42) 1 0) (cond (eqb m 0) 0 1)
  marked = go (eqb m 0)
    where
      go : (y : Bool) → ◌≡◌ {A = ℕ} (cond (eqb (cond y 32 42) 42) 1 0) (cond y 0 1)
      go true = refl
      go false = refl

  pub word_read : word_in a whole ≡ place a (w % 65536) (cond (eqb m 0) 0 1) ∷ []
  unfolding word_in
  word_read = rw (first_byte, digits_part, sign_part, word_value w, marked)

-- ---- two columns of five bytes
abbrev blanks : Text
blanks = 32 ∷ 32 ∷ 32 ∷ 32 ∷ 32 ∷ []

pub blank_read : (a : ℕ) (rest : Text) → word_in a (blanks ++ rest) ≡ []
unfolding word_in
blank_read a rest = refl

both_read : (a : ℕ) (x y rest : Text) (ps qs : List Place) → length x ≡ 5 → ((r : Text) → word_in a (x ++ r) ≡ ps) → ((r : Text) → word_in (a + 2) (y ++ r) ≡ qs)
    → word_in a ((x ++ y) ++ rest) ++ word_in (a + 2) (drop 5 ((x ++ y) ++ rest)) ≡ ps ++ qs
both_read a x y rest ps qs l f g =
    let s = append_assoc x y rest in
    let first : word_in a ((x ++ y) ++ rest) ≡ ps = ap (word_in a) s ∙ f (y ++ rest) in
    let second : word_in (a + 2) (drop 5 ((x ++ y) ++ rest)) ≡ qs = ap (λ (t : Text). word_in (a + 2) (drop 5 t)) s ∙ (ap (word_in (a + 2)) (drop_at x (y ++ rest) 5 l) ∙ g rest) in
    rw (first, second)

module _ (a : ℕ) (rest : Text) where
  pub code_read : (c : Option Code) → word_in a (words_text (places_of a c) ++ rest) ++ word_in (a + 2) (drop 5 (words_text (places_of a c) ++ rest)) ≡ map sixteen (places_of a c)
  unfolding words_text bytes sixteen
  code_read None = both_read a blanks blanks rest [] [] refl (blank_read a) (blank_read (a + 2))
  code_read (Some (Word w)) = both_read a (word_text w 0) blanks rest (place a (w % 65536) 0 ∷ []) [] (word_length w 0) (word_read a w 0) (blank_read (a + 2))
  code_read (Some (Value w v)) =
      both_read a (word_text w 0) (word_text v 0) rest (place a (w % 65536) 0 ∷ []) (place (a + 2) (v % 65536) 0 ∷ []) (word_length w 0) (word_read a w 0) (word_read (a + 2) v 0)
  code_read (Some (Label w x)) =
      both_read a (word_text w 0) (word_text x 1) rest (place a (w % 65536) 0 ∷ []) (place (a + 2) (x % 65536) 1 ∷ []) (word_length w 0) (word_read a w 0) (word_read (a + 2) x 1)

-- ---- what a line asks has a code
pub coded : (names : List Mnemonic) (t : Table) (a : ℕ) (k : Task) → (c : Option Code) × (places_of a c ≡ places_of_put names t (record { address = a; task = k }))
unfolding places_of_put data_places data_contents places_at code_places_by code_contents_by
coded names t a skipped = (None, refl)
coded names t a end = (None, refl)
coded names t a (org v) = (None, refl)
coded names t a no_org = (None, refl)
coded names t a label_only = (None, refl)
coded names t a (instruction i) = (code_of (encode_by names t a i), encode_places names t a i)
coded names t a (value n v) = (Some (Value (v / 65536) (v % 65536)), refl)
coded names t a (space n) = (None, refl)

-- the two columns of a line that asks u
pub places_read : (names : List Mnemonic) (t : Table) (u : Put) (rest : Text)
    → word_in u.address (words_text (places_of_put names t u) ++ rest) ++ word_in (u.address + 2) (drop 5 (words_text (places_of_put names t u) ++ rest)) ≡ map sixteen (places_of_put names t u)
places_read names t u rest = let c = coded names t u.address u.task in rw (← c.1) (code_read u.address rest c.0)
