-- A sheet read back: the loops, and what the answer says; every sheet that is written is read as its totals, and nothing else is. Assumes nothing.
use Prim.Native.Nat.{ℕ, suc, ◌+◌, ◌<◌, ◌≤◌, min}
use mathlib.Core.Path.{◌≡◌, refl, sym, ap, ◌∙◌}
use mathlib.Core.Bool.{Bool, true, false, ◌&&◌, cond}
use mathlib.Core.List.{List, [], ◌∷◌}
use native.Mathlib.Numerals.{add-one}
use native.Mathlib.Omega.{arith}
use borrow.Author.Tests.{eq-eqb, eqb-true, ne_eqb}
use lib.Dec.{eqb}
use lib.ListN.{length, take, drop, get_or, set, drop_of_length-le}
use lib.Seq.{drop-cons, length-take-le}
use Rattle.rules.specs.Text.{Text, cut_at}
use Rattle.requests.specs.Sheet.{Totals as Said}
use Rattle.sheettext.specs.Rows.{sheet_text}
use Rattle.sheettext.specs.Back.{with_byte, next_row, read_from, totals_in, same_front, is_sheet, wrong, judged, sheet_in}

-- ---- the rows' numbers, byte by byte
pub row_low : (row b : ℕ) → row ≤ 12 → next_row row b ≤ 12
unfolding next_row
row_low row b h = go (eqb b 10)
  where
    go : (x : Bool) → cond x (min (row + 1) 12) row ≤ 12
    go true = omega arith
    go false = h

pub row_same : (row b : ℕ) → (b ≡ 10 → ⊥) → row ≡ next_row row b
unfolding next_row
row_same row b n = rw (ne_eqb b 10 n)

pub row_next : (row b : ℕ) → b ≡ 10 → {m : ℕ} → m ≡ min row 11 → m + 1 ≡ next_row row b
unfolding next_row
row_next row b e f = rw (eq-eqb b 10 e) (omega arith)

-- before byte i: what is left comes to the same
pub record Rowed (t : Text) (first : List ℕ) (row i : ℕ) (ns : List ℕ) : Type 0 where
  pub inside : i ≤ length t
  pub low : row ≤ 12
  pub same : read_from 0 first t ≡ read_from row ns (drop i t)

module _ {t : Text} {first : List ℕ} {row i : ℕ} {ns : List ℕ} (r : Rowed t first row i ns) where
  pub rowed_more : i < length t → {n m : ℕ} → n ≡ with_byte (get_or ns row 0) (get_or t i 0) → m ≡ next_row row (get_or t i 0) → Rowed t first m (i + 1) (set ns row n)
  unfolding read_from
  rowed_more h {n} {m} e f =
      rw (add-one i)
      (record { inside = omega arith; low = rw f (row_low row (get_or t i 0) r.low); same = rw (e, f) (rw (drop-cons t i 0 h) at r.same) })

  pub rowed_end : length t ≤ i → ns ≡ read_from 0 first t
  unfolding read_from
  rowed_end h = sym (rw (drop_of_length-le t h) at r.same)

-- ---- the front that two texts have in common
pub front_right : (s t : Text) → same_front s t ≤ length t
unfolding same_front
front_right [] t = omega arith
front_right (a ∷ s) [] = omega arith
front_right (a ∷ s) (b ∷ t) = go (eqb a b) (front_right s t)
  where
    go : (x : Bool) → same_front s t ≤ length t → cond x (1 + same_front s t) 0 ≤ suc (length t)
    go true h = omega arith
    go false h = omega arith

pub record Fronted (s t : Text) (i : ℕ) : Type 0 where
  pub left : i ≤ length s
  pub right : i ≤ length t
  pub same : same_front s t ≡ i + same_front (drop i s) (drop i t)

module _ {s t : Text} {i : ℕ} (r : Fronted s t i) where
  pub fronted_more : i < length s → i < length t → get_or s i 0 ≡ get_or t i 0 → Fronted s t (i + 1)
  unfolding same_front
  fronted_more h k e =
      let f = rw (drop-cons s i 0 h, drop-cons t i 0 k) at r.same in
      let g = rw (eq-eqb (get_or s i 0) (get_or t i 0) e) at f in
      rw (add-one i) (record { left = omega arith; right = omega arith; same = omega arith })

  pub fronted_differ : i < length s → i < length t → (get_or s i 0 ≡ get_or t i 0 → ⊥) → i ≡ same_front s t
  unfolding same_front
  fronted_differ h k n =
      let f = rw (drop-cons s i 0 h, drop-cons t i 0 k) at r.same in
      let g = rw (ne_eqb (get_or s i 0) (get_or t i 0) n) at f in
      omega arith

  pub fronted_short : i < length s → length t ≤ i → i ≡ same_front s t
  unfolding same_front
  fronted_short h k =
      let f = rw (drop-cons s i 0 h, drop_of_length-le t k) at r.same in
      omega arith

  pub fronted_all : length s ≤ i → length s ≡ same_front s t
  unfolding same_front
  fronted_all h =
      let f = rw (drop_of_length-le s h) at r.same in
      omega (arith, r.left)

-- ---- the answer
module _ (t : Text) {u : Said} (e : u ≡ totals_in t) {size common : ℕ} (z : size ≡ length (sheet_text u)) (f : common ≡ same_front (sheet_text u) t) where
  pub read_wrong : (common ≡ size → common ≡ length t → ⊥) → {n : ℕ} → n ≡ length (cut_at 10 (take common t)) → wrong n ≡ sheet_in t
  unfolding sheet_in judged
  read_wrong g {n} h = go (eqb (same_front (sheet_text u) t) (length (sheet_text u))) refl (eqb (same_front (sheet_text u) t) (length t)) refl
    where
      told : (x : Bool) → (eqb (same_front (sheet_text u) t) (length (sheet_text u)) && eqb (same_front (sheet_text u) t) (length t)) ≡ x → x ≡ false → wrong n ≡ sheet_in t
      told x k l =
          let w : judged u (sheet_text u) t ≡ wrong (length (cut_at 10 (take (same_front (sheet_text u) t) t))) = rw (k, l) in
          rw (h, f) (sym w ∙ ap (λ v. judged v (sheet_text v) t) e)

      go : (x : Bool) → eqb (same_front (sheet_text u) t) (length (sheet_text u)) ≡ x → (y : Bool) → eqb (same_front (sheet_text u) t) (length t) ≡ y → wrong n ≡ sheet_in t
      go true p true q = absurd (g (f ∙ eqb-true _ _ p ∙ sym z) (f ∙ eqb-true _ _ q))
      go true p false q = told _ refl (rw (p, q))
      go false p y q = told _ refl (rw p)

  pub read_whole : common ≡ size → common ≡ length t → is_sheet u ≡ sheet_in t
  unfolding sheet_in judged
  read_whole q g =
      let a : eqb (same_front (sheet_text u) t) (length (sheet_text u)) ≡ true = eq-eqb _ _ (sym f ∙ q ∙ z) in
      let k : eqb (same_front (sheet_text u) t) (length t) ≡ true = eq-eqb _ _ (sym f ∙ g) in
      let w : judged u (sheet_text u) t ≡ is_sheet u = rw (a, k) in
      sym w ∙ ap (λ v. judged v (sheet_text v) t) e

-- what they have in common is a part of the text
module _ (s t : Text) {common : ℕ} (f : common ≡ same_front s t) where
  pub common_inside : common ≤ length t
  common_inside = rw f (front_right s t)

  pub common_long : common ≡ length (take common t)
  common_long = sym (length-take-le common t common_inside)
