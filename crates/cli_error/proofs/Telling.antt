-- The refusals' words are apart and plain, and a place is told where it is not always 0. Assumes nothing.
use Rattle.std.proofs.Common.{◌≡◌, ℕ, ◌+◌, ◌*◌, ◌/◌, ◌%◌, ◌<◌, Bool, true, false, not, ◌&&◌, ◌||◌, cond, eqb, ltb, leb, [], ◌∷◌, length, refl, ap, ◌∙◌, arith, Option, None, Some}
use borrow.Author.Tests.{eqb-true, ltb-true, leb-true}
use Rattle.rules.specs.Text.{Text, bytes, same}
use Rattle.rules.proofs.Tables.{same_below}
use Rattle.text.proofs.Compare.{same_self}
use Rattle.answer.specs.Refusal.{number_of, place_of}
use Rattle.answer.specs.declared.Refusal.{Refusal}
use Rattle.answer.specs.declared.Refusal.TheVariants.{LongSource, HighByte, ManyLines, HighBase, HighAddress, ManyLabels, ShortSlice, FarDistance, ShortList, BadMark, OutsideAddress, NoLabelNear, NoSuchLine, NoEncoding, OutOfReach, BadCommand, BadBranchName, LongCopy, Misplaced, ManySources, HighTotal}
use Rattle.cli_error.specs.Refusals.{row_of, counted, words}
use Rattle.cli_error.specs.Stated.{OwnWords, AllPlain, PlainWords, PlaceTold}
use Rattle.cli_error.specs.declared.words.Counts.{Counts}

-- ---- words of their own: all pairs tried
apart : ℕ → ℕ → ℕ
apart m n = cond (eqb m n || not (same (words m) (words n))) 1 0

pair_apart : ℕ → ℕ
pair_apart k = apart (k / 22) (k % 22)

all_apart : (k : ℕ) → k < 484 → pair_apart k ≡ 1
unfolding words row_of bytes same apart pair_apart
all_apart = same_below pair_apart (λ k. 1) 484 refl

apart_is : (m n : ℕ) → m < 22 → n < 22 → apart m n ≡ 1
unfolding pair_apart
apart_is m n h k =
    let q : (22 * m + n) / 22 ≡ m = omega arith in
    let r : (22 * m + n) % 22 ≡ n = omega arith in
    rw (q, r) at (all_apart (22 * m + n) (omega arith))

pub own_words : OwnWords
unfolding OwnWords apart
own_words m n a b c d e = go (eqb m n) refl
  where
    go : (y : Bool) → eqb m n ≡ y → m ≡ n
    go true f = eqb-true m n f
    go false f =
        let s : same (words m) (words n) ≡ true = rw (e) (same_self (words n)) in
        let z : ◌≡◌ {A = ℕ} 0 1 = rw (f, s) at (apart_is m n (omega arith) (omega arith)) in
        absurd (omega arith)

-- ---- plain words
plain : Text → Bool
plain [] = true
plain (b ∷ s) = elim (leb 32 b) [ true ↦ elim (ltb b 127) [ true ↦ plain s | false ↦ false ] | false ↦ false ]

plain_all : (s : Text) → plain s ≡ true → AllPlain s
unfolding plain AllPlain
plain_all [] e = tt
plain_all (b ∷ s) e = go (leb 32 b) (ltb b 127) refl refl (plain_all s)
  where
    go : (x y : Bool) → leb 32 b ≡ x → ltb b 127 ≡ y → (plain s ≡ true → AllPlain s) → AllPlain (b ∷ s)
    go true true f g ih = (leb-true 32 b f, ltb-true b 127 g, ih (rw (f, g, plain) at e))
    go true false f g ih = let z : false ≡ true = rw (f, g, plain) at e in cc
    go false y f g ih = let z : false ≡ true = rw (f, plain) at e in cc

good : ℕ → ℕ
good n = cond (eqb n 0 || (ltb 0 (length (words n)) && plain (words n))) 1 0

all_good : (n : ℕ) → n < 22 → good n ≡ 1
unfolding words row_of bytes plain good
all_good = same_below good (λ n. 1) 22 refl

pub plain_words : PlainWords
unfolding PlainWords good
plain_words n a b = go (eqb n 0) (ltb 0 (length (words n))) (plain (words n)) refl refl refl
  where
    go : (x y z : Bool) → eqb n 0 ≡ x → ltb 0 (length (words n)) ≡ y → plain (words n) ≡ z → (0 < length (words n)) × AllPlain (words n)
    go true y z e f g = let q = eqb-true n 0 e in absurd (omega arith)
    go false true true e f g = (ltb-true 0 (length (words n)) f, plain_all (words n) g)
    go false true false e f g = let q : ◌≡◌ {A = ℕ} 0 1 = rw (e, f, g) at (all_good n (omega arith)) in absurd (omega arith)
    go false false z e f g = let q : ◌≡◌ {A = ℕ} 0 1 = rw (e, f) at (all_good n (omega arith)) in absurd (omega arith)

-- ---- places
told : Option Counts → ℕ
told None = 0
told (Some c) = 1

untold : (d : Refusal) → told (counted (number_of d)) ≡ 0 → place_of d ≡ 0
unfolding counted row_of told
untold (LongSource p) e = absurd (omega (arith, e))
untold (HighByte p) e = absurd (omega (arith, e))
untold (ManyLines p) e = absurd (omega (arith, e))
untold HighBase e = refl
untold (HighAddress p) e = absurd (omega (arith, e))
untold (ManyLabels p) e = absurd (omega (arith, e))
untold (ShortSlice p) e = absurd (omega (arith, e))
untold FarDistance e = refl
untold (ShortList p) e = absurd (omega (arith, e))
untold (BadMark p) e = absurd (omega (arith, e))
untold (OutsideAddress p) e = absurd (omega (arith, e))
untold NoLabelNear e = refl
untold (NoSuchLine p) e = absurd (omega (arith, e))
untold (NoEncoding p) e = absurd (omega (arith, e))
untold (OutOfReach p) e = absurd (omega (arith, e))
untold (BadCommand p) e = absurd (omega (arith, e))
untold (BadBranchName p) e = absurd (omega (arith, e))
untold (LongCopy p) e = absurd (omega (arith, e))
untold (Misplaced p) e = absurd (omega (arith, e))
untold ManySources e = absurd (omega (arith, e))
untold HighTotal e = refl

abbrev Zero : Refusal → Type 0
Zero e = (d : Refusal) → number_of d ≡ number_of e → place_of d ≡ 0

zero_untold : (e : Refusal) → Zero e → counted (number_of e) ≡ None
unfolding counted row_of
zero_untold (LongSource p) h = absurd (omega (arith, h (LongSource 1) refl))
zero_untold (HighByte p) h = absurd (omega (arith, h (HighByte 1) refl))
zero_untold (ManyLines p) h = absurd (omega (arith, h (ManyLines 1) refl))
zero_untold HighBase h = refl
zero_untold (HighAddress p) h = absurd (omega (arith, h (HighAddress 1) refl))
zero_untold (ManyLabels p) h = absurd (omega (arith, h (ManyLabels 1) refl))
zero_untold (ShortSlice p) h = absurd (omega (arith, h (ShortSlice 1) refl))
zero_untold FarDistance h = refl
zero_untold (ShortList p) h = absurd (omega (arith, h (ShortList 1) refl))
zero_untold (BadMark p) h = absurd (omega (arith, h (BadMark 1) refl))
zero_untold (OutsideAddress p) h = absurd (omega (arith, h (OutsideAddress 1) refl))
zero_untold NoLabelNear h = refl
zero_untold (NoSuchLine p) h = absurd (omega (arith, h (NoSuchLine 1) refl))
zero_untold (NoEncoding p) h = absurd (omega (arith, h (NoEncoding 1) refl))
zero_untold (OutOfReach p) h = absurd (omega (arith, h (OutOfReach 1) refl))
zero_untold (BadCommand p) h = absurd (omega (arith, h (BadCommand 1) refl))
zero_untold (BadBranchName p) h = absurd (omega (arith, h (BadBranchName 1) refl))
zero_untold (LongCopy p) h = absurd (omega (arith, h (LongCopy 1) refl))
zero_untold (Misplaced p) h = absurd (omega (arith, h (Misplaced 1) refl))
zero_untold ManySources h = absurd (omega (arith, h ManySources refl))
zero_untold HighTotal h = refl

pub place_told : PlaceTold
unfolding PlaceTold told
place_told e = ((λ f. λ d g. untold d (ap told (ap counted g ∙ f))), zero_untold e)
