-- Texts without byte 10, and what a text of such rows is when it is cut there. Assumes nothing.
use Prim.Native.Nat.{ℕ, zero, suc, ◌+◌, ◌/◌, ◌%◌}
use mathlib.Core.Path.{◌≡◌, refl, ap, ◌∙◌}
use mathlib.Core.Bool.{Bool, true, false, not, ◌&&◌}
use mathlib.Core.List.{List, [], ◌∷◌, ◌++◌, append_assoc, flat_map}
use native.Mathlib.Omega.{arith}
use borrow.Author.Tests.{ne_eqb}
use lib.Dec.{eqb, ltb}
use lib.ListN.{drop}
use Rattle.rules.specs.Text.{Text, on_first, cut_where, cut_at}
use Rattle.promises.proofs.Lists.{All}
use Rattle.promises.proofs.Compared.{clash}
use Rattle.listing.specs.Listing.{digit_byte, digits_of, decimal}

unfoldable pub no_break : Text → Bool
no_break [] = true
no_break (b ∷ s) = not (eqb 10 b) && no_break s

abbrev pub Unbroken : Text → Type 0
Unbroken s = no_break s ≡ true

both : (x y : Bool) → (x && y) ≡ true → (x ≡ true) × (y ≡ true)
both true y e = (refl, e)
both false y e = clash cc

together : (x y : Bool) → x ≡ true → y ≡ true → (x && y) ≡ true
together x y e f = rw (e, f)

module _ (b : ℕ) (s : Text) where
  first_whole : Unbroken (b ∷ s) → eqb 10 b ≡ false
  unfolding no_break
  first_whole h = go (eqb 10 b) (both (not (eqb 10 b)) (no_break s) h).0
    where
      go : (x : Bool) → not x ≡ true → x ≡ false
      go true e = clash cc
      go false e = refl

  rest_whole : Unbroken (b ∷ s) → Unbroken s
  unfolding no_break
  rest_whole h = (both (not (eqb 10 b)) (no_break s) h).1

  whole_cons : eqb 10 b ≡ false → Unbroken s → Unbroken (b ∷ s)
  unfolding no_break
  whole_cons e h = rw (e, h)

pub whole_append : (s t : Text) → Unbroken s → Unbroken t → Unbroken (s ++ t)
whole_append [] t h k = k
whole_append (b ∷ s) t h k = whole_cons b (s ++ t) (first_whole b s h) (whole_append s t (rest_whole b s h) k)

pub whole_drop : (k : ℕ) (s : Text) → Unbroken s → Unbroken (drop k s)
whole_drop zero s h = h
whole_drop (suc k) [] h = h
whole_drop (suc k) (b ∷ s) h = whole_drop k s (rest_whole b s h)

-- ---- digits
digit_whole : (d : ℕ) → eqb 10 (digit_byte d) ≡ false
unfolding digit_byte
digit_whole d = go (ltb d 10) refl
  where
    go : (x : Bool) → ltb d 10 ≡ x → eqb 10 (digit_byte d) ≡ false
    go true e = rw (digit_byte, e) (ne_eqb 10 (48 + d) (λ f. omega arith))
    go false e = rw (digit_byte, e) (ne_eqb 10 (55 + d) (λ f. omega arith))

pub digits_whole : (base k n : ℕ) → Unbroken (digits_of base k n)
unfolding digits_of no_break
digits_whole base zero n = refl
digits_whole base (suc k) n =
    whole_append (digits_of base k (n / base)) (digit_byte (n % base) ∷ []) (digits_whole base k (n / base)) (whole_cons (digit_byte (n % base)) [] (digit_whole (n % base)) refl)

pub decimal_whole : (n : ℕ) → Unbroken (decimal n)
unfolding decimal
decimal_whole n = digits_whole 10 _ n

-- ---- cut at byte 10
abbrev pub AllUnbroken : List Text → Type 0
AllUnbroken rs = All Unbroken rs

cut_row : (r rest : Text) → Unbroken r → cut_at 10 (r ++ (10 ∷ rest)) ≡ r ∷ cut_at 10 rest
unfolding cut_at cut_where on_first
cut_row [] rest h = refl
cut_row (b ∷ r) rest h = rw (cut_where, first_whole b r h, cut_row r rest (rest_whole b r h))

-- rows, each with byte 10 after it
abbrev pub ended : Text → Text
ended r = r ++ (10 ∷ [])

pub cut_rows : (rs : List Text) (rest : Text) → AllUnbroken rs → cut_at 10 (flat_map ended rs ++ rest) ≡ rs ++ cut_at 10 rest
unfolding flat_map
cut_rows [] rest h = refl
cut_rows (r ∷ rs) rest h =
    ap (cut_at 10) (append_assoc (ended r) (flat_map ended rs) rest ∙ append_assoc r (10 ∷ []) (flat_map ended rs ++ rest))
    ∙ (cut_row r (flat_map ended rs ++ rest) h.0 ∙ ap (λ (x : List Text). r ∷ x) (cut_rows rs rest h.1))

-- the lines of a source have none
on_first_lem : (b : ℕ) (ps : List Text) → eqb 10 b ≡ false → AllUnbroken ps → AllUnbroken (on_first b ps)
unfolding on_first no_break
on_first_lem b [] e h = (whole_cons b [] e refl, tt)
on_first_lem b (p ∷ ps) e h = (whole_cons b p e h.0, h.1)

pub lines_whole : (s : Text) → AllUnbroken (cut_at 10 s)
unfolding cut_at cut_where no_break
lines_whole [] = (refl, tt)
lines_whole (b ∷ s) = go (eqb 10 b) refl (lines_whole s)
  where
    go : (x : Bool) → eqb 10 b ≡ x → AllUnbroken (cut_at 10 s) → AllUnbroken (cut_at 10 (b ∷ s))
    go true e h = rw (cut_where, e) (refl, h)
    go false e h = rw (cut_where, e) (on_first_lem b (cut_where (eqb 10) s) e h)
