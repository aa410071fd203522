-- A sheet that is written is read as its totals, row by row; and nothing else is read. Assumes nothing.
use Prim.Native.Nat.{ℕ, zero, suc, ◌+◌, ◌-◌, ◌*◌, ◌/◌, ◌%◌, ◌^◌, ◌<◌, ◌≤◌, min}
use mathlib.Core.Path.{◌≡◌, refl, sym, ap, ap₂, ◌∙◌}
use mathlib.Core.Bool.{Bool, true, false, ◌&&◌, not, cond}
use mathlib.Core.List.{List, [], ◌∷◌, ◌++◌}
use native.Mathlib.Nat.{pow-suc}
use native.Mathlib.Omega.{arith}
use borrow.Author.Tests.{eqb-true, eq-eqb, le-leb, lt-ltb, ltb-true, ltb-false}
use lib.Dec.{eqb, leb, ltb}
use lib.ListN.{length, take, get_or, set, replicate, length-set}
use lib.Seq.{get_or-set_other}
use Rattle.rules.specs.Text.{Text, bytes, cut_at}
use Rattle.requests.specs.Sheet.{Totals as Said, numbers_in, mean_of}
use Rattle.promises.specs.Nearest.{In, head, tail}
use Rattle.listing.specs.Listing.{digit_byte, digits_of, decimal_places_by, decimal_places, decimal}
use Rattle.sheet.specs.Totals.{lent_totals}
use Rattle.sheettext.specs.Rows.{part_text, plain_text, code_text, counts_text, mean_text, sheet_text}
use Rattle.sheettext.specs.Back.{with_byte, next_row, read_from, totals_in, same_front, is_sheet, wrong, judged, sheet_in}
use Rattle.sheettext.specs.Trips.{SheetsReadBack}

-- two constructors are never equal
clash : {X : Type 0} → ◌≡◌ {A = ℕ} 0 1 → X
clash e = absurd (let h : ◌≡◌ {A = ℕ} 0 1 = e in omega arith)

-- ---- lists by index
same_there : (ns : List ℕ) (k : ℕ) → k < length ns → set ns k (get_or ns k 0) ≡ ns
same_there [] k h = absurd (omega arith)
same_there (n ∷ ns) zero h = refl
same_there (n ∷ ns) (suc k) h = ap (λ (x : List ℕ). n ∷ x) (same_there ns k (omega arith))

set_again : (ns : List ℕ) (k a b : ℕ) → set (set ns k a) k b ≡ set ns k b
set_again [] k a b = refl
set_again (n ∷ ns) zero a b = refl
set_again (n ∷ ns) (suc k) a b = ap (λ (x : List ℕ). n ∷ x) (set_again ns k a b)

set_there : (ns : List ℕ) (k a : ℕ) → k < length ns → get_or (set ns k a) k 0 ≡ a
set_there [] k a h = absurd (omega arith)
set_there (n ∷ ns) zero a h = refl
set_there (n ∷ ns) (suc k) a h = set_there ns k a (omega arith)

-- ---- a part of a text passes: row k and the numbers before it, and those after it
unfoldable row_after : ℕ → Text → ℕ
row_after k [] = k
row_after k (b ∷ s) = row_after (next_row k b) s

record Passes (k : ℕ) (ns : List ℕ) (s : Text) (k' : ℕ) (ns' : List ℕ) : Type 0 where
  pub rows : row_after k s ≡ k'
  pub numbers : read_from k ns s ≡ ns'

rows_append : (k : ℕ) (s t : Text) → row_after k (s ++ t) ≡ row_after (row_after k s) t
unfolding row_after
rows_append k [] t = refl
rows_append k (b ∷ s) t = rows_append (next_row k b) s t

read_append : (k : ℕ) (ns : List ℕ) (s t : Text) → read_from k ns (s ++ t) ≡ read_from (row_after k s) (read_from k ns s) t
unfolding row_after read_from
read_append k ns [] t = refl
read_append k ns (b ∷ s) t = read_append (next_row k b) (set ns k (with_byte (get_or ns k 0) b)) s t

then : {k l m : ℕ} {ns os ps : List ℕ} {s t : Text} → Passes k ns s l os → Passes l os t m ps → Passes k ns (s ++ t) m ps
then {k} {l} {m} {ns} {os} {ps} {s} {t} p q =
    record {
      rows = rows_append k s t ∙ ap (λ (x : ℕ). row_after x t) p.rows ∙ q.rows;
      numbers = read_append k ns s t ∙ ap₂ (λ (x : ℕ) (y : List ℕ). read_from x y t) p.rows p.numbers ∙ q.numbers;
    }

-- ---- a name
unfoldable quiet_byte : ℕ → Bool
quiet_byte b = not (leb 48 b && leb b 57) && not (eqb b 10)

unfoldable quiet : Text → Bool
quiet [] = true
quiet (b ∷ s) = quiet_byte b && quiet s

and_both : (x y : Bool) → (x && y) ≡ true → (x ≡ true) × (y ≡ true)
and_both true y e = (refl, e)
and_both false y e = absurd (let h : ltb 0 1 ≡ false = sym e in let k = ltb-false 0 1 h in omega arith)

not_is : (x : Bool) → not x ≡ true → x ≡ false
not_is true e = absurd (let h : ltb 0 1 ≡ false = sym e in let k = ltb-false 0 1 h in omega arith)
not_is false e = refl

byte_quiet : (b v : ℕ) → quiet_byte b ≡ true → with_byte v b ≡ v
unfolding with_byte quiet_byte
byte_quiet b v e = rw (not_is (leb 48 b && leb b 57) (and_both _ _ e).0)

row_quiet : (b k : ℕ) → quiet_byte b ≡ true → next_row k b ≡ k
unfolding next_row quiet_byte
row_quiet b k e = rw (not_is (eqb b 10) (and_both (not (leb 48 b && leb b 57)) (not (eqb b 10)) e).1)

name_passes : (s : Text) (k : ℕ) (ns : List ℕ) → k < length ns → quiet s ≡ true → Passes k ns s k ns
unfolding row_after read_from quiet
name_passes [] k ns h e = record { rows = refl; numbers = refl }
name_passes (b ∷ s) k ns h e =
    let q = and_both (quiet_byte b) (quiet s) e in
    let p = name_passes s k ns h q.1 in
    let r = row_quiet b k q.0 in
    let w : set ns k (with_byte (get_or ns k 0) b) ≡ ns = rw (byte_quiet b (get_or ns k 0) q.0) (same_there ns k h) in
    record { rows = rw r p.rows; numbers = rw (r, w) p.numbers }

-- ---- a number
digit_is : (d : ℕ) → d < 10 → digit_byte d ≡ 48 + d
unfolding digit_byte
digit_is d h = rw (lt-ltb d 10 h)

digit_read : (v d : ℕ) → v < 10 ^ 18 → d < 10 → with_byte v (48 + d) ≡ 10 * v + d
unfolding with_byte
digit_read v d h l =
    let z : 48 + d - 48 ≡ d = omega arith in
    rw (le-leb 48 (48 + d) (omega arith), le-leb (48 + d) 57 (omega arith), lt-ltb v (10 ^ 18) h, z)

digit_row : (k d : ℕ) → d < 10 → next_row k (48 + d) ≡ k
unfolding next_row
digit_row k d l = go (eqb (48 + d) 10) refl
  where
    go : (x : Bool) → eqb (48 + d) 10 ≡ x → cond x (min (k + 1) 12) k ≡ k
    go true e = absurd (let h = eqb-true (48 + d) 10 e in omega arith)
    go false e = refl

digit_passes : (k : ℕ) (ns : List ℕ) (n : ℕ) → k < length ns → n < 10 ^ 19 → Passes k (set ns k (n / 10)) (digit_byte (n % 10) ∷ []) k (set ns k n)
unfolding row_after read_from
digit_passes k ns n h l =
    let d : n % 10 < 10 = omega arith in
    let g = set_there ns k (n / 10) h in
    let v : n / 10 < 10 ^ 18 = omega arith in
    let w : 10 * (n / 10) + n % 10 ≡ n = omega arith in
    rw (digit_is (n % 10) d)
    (record {
      rows = digit_row k (n % 10) d;
      numbers = rw (g, digit_read (n / 10) (n % 10) v d, w) (set_again ns k (n / 10) n);
    })

digits_pass : (m : ℕ) (k : ℕ) (ns : List ℕ) (n : ℕ) → k < length ns → get_or ns k 0 ≡ 0 → n < 10 ^ m → n < 10 ^ 19 → Passes k ns (digits_of 10 m n) k (set ns k n)
unfolding digits_of row_after read_from
digits_pass zero k ns n h z l b =
    let e : n ≡ 0 = omega arith in
    record { rows = refl; numbers = rw e (sym (same_there ns k h) ∙ ap (set ns k) z) }
digits_pass (suc m) k ns n h z l b =
    then (digits_pass m k ns (n / 10) h z (let p = pow-suc 10 m in omega arith) (omega arith)) (digit_passes k ns n h b)

-- n has as many digits as its places
places_enough : (steps n : ℕ) → n ≤ steps → n < 10 ^ decimal_places_by steps n
unfolding decimal_places_by
places_enough zero n h = omega arith
places_enough (suc steps) n h = go (ltb n 10) refl (places_enough steps (n / 10))
  where
    go : (x : Bool) → ltb n 10 ≡ x → (n / 10 ≤ steps → n / 10 < 10 ^ decimal_places_by steps (n / 10)) → n < 10 ^ elim x [ true ↦ 1 | false ↦ suc (decimal_places_by steps (n / 10)) ]
    go true e ih = let k = ltb-true n 10 e in omega arith
    go false e ih =
        let k = ltb-false n 10 e in
        let q = ih (omega arith) in
        let p = pow-suc 10 (decimal_places_by steps (n / 10)) in
        omega arith

decimal_passes : (k : ℕ) (ns : List ℕ) (n : ℕ) → k < length ns → get_or ns k 0 ≡ 0 → n < 10 ^ 19 → Passes k ns (decimal n) k (set ns k n)
unfolding decimal
decimal_passes k ns n h z b = digits_pass (decimal_places n) k ns n h z (places_enough n n (omega arith)) b

-- ---- a row
stop_passes : (k : ℕ) (ns : List ℕ) → k < length ns → Passes k ns (10 ∷ []) (min (k + 1) 12) ns
unfolding row_after read_from next_row with_byte
stop_passes k ns h = record { rows = refl; numbers = same_there ns k h }

long_set : (ns : List ℕ) (k n : ℕ) → k < length ns → k < length (set ns k n)
long_set ns k n h = rw (length-set ns k n) h

row_passes : (s : Text) (k : ℕ) (ns : List ℕ) (n : ℕ) → quiet s ≡ true → k < length ns → get_or ns k 0 ≡ 0 → n < 10 ^ 19 → Passes k ns (part_text s n 10) (min (k + 1) 12) (set ns k n)
unfolding part_text
row_passes s k ns n q h z b = then (name_passes s k ns h q) (then (decimal_passes k ns n h z b) (stop_passes k (set ns k n) (long_set ns k n h)))

-- ---- the rest of a text, at the thirteenth row
last_row : (b : ℕ) → next_row 12 b ≡ 12
unfolding next_row
last_row b = go (eqb b 10)
  where
    go : (x : Bool) → cond x (min (12 + 1) 12) 12 ≡ 12
    go true = refl
    go false = refl

others_stay : (s : Text) (ns : List ℕ) (j : ℕ) → j < 12 → get_or (read_from 12 ns s) j 0 ≡ get_or ns j 0
unfolding read_from
others_stay [] ns j h = refl
others_stay (b ∷ s) ns j h =
    rw (last_row b) (others_stay s (set ns 12 (with_byte (get_or ns 12 0) b)) j h ∙ get_or-set_other ns 12 j (with_byte (get_or ns 12 0) b) 0 (λ e. omega arith))

rest_stays : (s : Text) (ns : List ℕ) → lent_totals (read_from 12 ns s) ≡ lent_totals ns
rest_stays s ns =
    rw (
      others_stay s ns 0 (omega arith),
      others_stay s ns 1 (omega arith),
      others_stay s ns 2 (omega arith),
      others_stay s ns 3 (omega arith),
      others_stay s ns 4 (omega arith),
      others_stay s ns 5 (omega arith),
      others_stay s ns 6 (omega arith),
      others_stay s ns 7 (omega arith),
      others_stay s ns 8 (omega arith),
      others_stay s ns 9 (omega arith),
      others_stay s ns 10 (omega arith),
      others_stay s ns 11 (omega arith),
    )

-- ---- a sheet
module _ (t : Said) (b : (n : ℕ) → In n (numbers_in t) → n < 10 ^ 19) where
  row_0 : Passes 0 (0 ∷ 0 ∷ 0 ∷ 0 ∷ 0 ∷ 0 ∷ 0 ∷ 0 ∷ 0 ∷ 0 ∷ 0 ∷ 0 ∷ 0 ∷ []) (part_text (bytes "skipped ") t.skipped_lines 10) 1 (t.skipped_lines ∷ 0 ∷ 0 ∷ 0 ∷ 0 ∷ 0 ∷ 0 ∷ 0 ∷ 0 ∷ 0 ∷ 0 ∷ 0 ∷ 0 ∷ [])
  unfolding bytes quiet quiet_byte numbers_in
  row_0 = row_passes (bytes "skipped ") 0 (0 ∷ 0 ∷ 0 ∷ 0 ∷ 0 ∷ 0 ∷ 0 ∷ 0 ∷ 0 ∷ 0 ∷ 0 ∷ 0 ∷ 0 ∷ []) t.skipped_lines refl (omega arith) refl (b t.skipped_lines (head refl))

  row_1 : Passes 1 (t.skipped_lines ∷ 0 ∷ 0 ∷ 0 ∷ 0 ∷ 0 ∷ 0 ∷ 0 ∷ 0 ∷ 0 ∷ 0 ∷ 0 ∷ 0 ∷ []) (part_text (bytes "org ") t.org_lines 10) 2 (t.skipped_lines ∷ t.org_lines ∷ 0 ∷ 0 ∷ 0 ∷ 0 ∷ 0 ∷ 0 ∷ 0 ∷ 0 ∷ 0 ∷ 0 ∷ 0 ∷ [])
  unfolding bytes quiet quiet_byte numbers_in
  row_1 = row_passes (bytes "org ") 1 (t.skipped_lines ∷ 0 ∷ 0 ∷ 0 ∷ 0 ∷ 0 ∷ 0 ∷ 0 ∷ 0 ∷ 0 ∷ 0 ∷ 0 ∷ 0 ∷ []) t.org_lines refl (omega arith) refl (b t.org_lines (tail (head refl)))

  row_2 : Passes 2 (t.skipped_lines ∷ t.org_lines ∷ 0 ∷ 0 ∷ 0 ∷ 0 ∷ 0 ∷ 0 ∷ 0 ∷ 0 ∷ 0 ∷ 0 ∷ 0 ∷ []) (part_text (bytes "label ") t.label_lines 10) 3 (t.skipped_lines ∷ t.org_lines ∷ t.label_lines ∷ 0 ∷ 0 ∷ 0 ∷ 0 ∷ 0 ∷ 0 ∷ 0 ∷ 0 ∷ 0 ∷ 0 ∷ [])
  unfolding bytes quiet quiet_byte numbers_in
  row_2 = row_passes (bytes "label ") 2 (t.skipped_lines ∷ t.org_lines ∷ 0 ∷ 0 ∷ 0 ∷ 0 ∷ 0 ∷ 0 ∷ 0 ∷ 0 ∷ 0 ∷ 0 ∷ 0 ∷ []) t.label_lines refl (omega arith) refl (b t.label_lines (tail (tail (head refl))))

  row_3 : Passes 3 (t.skipped_lines ∷ t.org_lines ∷ t.label_lines ∷ 0 ∷ 0 ∷ 0 ∷ 0 ∷ 0 ∷ 0 ∷ 0 ∷ 0 ∷ 0 ∷ 0 ∷ []) (part_text (bytes "data ") t.data_lines 10) 4 (t.skipped_lines ∷ t.org_lines ∷ t.label_lines ∷ t.data_lines ∷ 0 ∷ 0 ∷ 0 ∷ 0 ∷ 0 ∷ 0 ∷ 0 ∷ 0 ∷ 0 ∷ [])
  unfolding bytes quiet quiet_byte numbers_in
  row_3 = row_passes (bytes "data ") 3 (t.skipped_lines ∷ t.org_lines ∷ t.label_lines ∷ 0 ∷ 0 ∷ 0 ∷ 0 ∷ 0 ∷ 0 ∷ 0 ∷ 0 ∷ 0 ∷ 0 ∷ []) t.data_lines refl (omega arith) refl (b t.data_lines (tail (tail (tail (head refl)))))

  row_4 : Passes 4 (t.skipped_lines ∷ t.org_lines ∷ t.label_lines ∷ t.data_lines ∷ 0 ∷ 0 ∷ 0 ∷ 0 ∷ 0 ∷ 0 ∷ 0 ∷ 0 ∷ 0 ∷ []) (part_text (bytes "word ") t.word_lines 10) 5 (t.skipped_lines ∷ t.org_lines ∷ t.label_lines ∷ t.data_lines ∷ t.word_lines ∷ 0 ∷ 0 ∷ 0 ∷ 0 ∷ 0 ∷ 0 ∷ 0 ∷ 0 ∷ [])
  unfolding bytes quiet quiet_byte numbers_in
  row_4 = row_passes (bytes "word ") 4 (t.skipped_lines ∷ t.org_lines ∷ t.label_lines ∷ t.data_lines ∷ 0 ∷ 0 ∷ 0 ∷ 0 ∷ 0 ∷ 0 ∷ 0 ∷ 0 ∷ 0 ∷ []) t.word_lines refl (omega arith) refl (b t.word_lines (tail (tail (tail (tail (head refl))))))

  row_5 : Passes 5 (t.skipped_lines ∷ t.org_lines ∷ t.label_lines ∷ t.data_lines ∷ t.word_lines ∷ 0 ∷ 0 ∷ 0 ∷ 0 ∷ 0 ∷ 0 ∷ 0 ∷ 0 ∷ []) (part_text (bytes "wordless ") t.wordless_lines 10) 6 (t.skipped_lines ∷ t.org_lines ∷ t.label_lines ∷ t.data_lines ∷ t.word_lines ∷ t.wordless_lines ∷ 0 ∷ 0 ∷ 0 ∷ 0 ∷ 0 ∷ 0 ∷ 0 ∷ [])
  unfolding bytes quiet quiet_byte numbers_in
  row_5 = row_passes (bytes "wordless ") 5 (t.skipped_lines ∷ t.org_lines ∷ t.label_lines ∷ t.data_lines ∷ t.word_lines ∷ 0 ∷ 0 ∷ 0 ∷ 0 ∷ 0 ∷ 0 ∷ 0 ∷ 0 ∷ []) t.wordless_lines refl (omega arith) refl (b t.wordless_lines (tail (tail (tail (tail (tail (head refl)))))))

  row_6 : Passes 6 (t.skipped_lines ∷ t.org_lines ∷ t.label_lines ∷ t.data_lines ∷ t.word_lines ∷ t.wordless_lines ∷ 0 ∷ 0 ∷ 0 ∷ 0 ∷ 0 ∷ 0 ∷ 0 ∷ []) (part_text (bytes "end ") t.end_lines 10) 7 (t.skipped_lines ∷ t.org_lines ∷ t.label_lines ∷ t.data_lines ∷ t.word_lines ∷ t.wordless_lines ∷ t.end_lines ∷ 0 ∷ 0 ∷ 0 ∷ 0 ∷ 0 ∷ 0 ∷ [])
  unfolding bytes quiet quiet_byte numbers_in
  row_6 = row_passes (bytes "end ") 6 (t.skipped_lines ∷ t.org_lines ∷ t.label_lines ∷ t.data_lines ∷ t.word_lines ∷ t.wordless_lines ∷ 0 ∷ 0 ∷ 0 ∷ 0 ∷ 0 ∷ 0 ∷ 0 ∷ []) t.end_lines refl (omega arith) refl (b t.end_lines (tail (tail (tail (tail (tail (tail (head refl))))))))

  row_7 : Passes 7 (t.skipped_lines ∷ t.org_lines ∷ t.label_lines ∷ t.data_lines ∷ t.word_lines ∷ t.wordless_lines ∷ t.end_lines ∷ 0 ∷ 0 ∷ 0 ∷ 0 ∷ 0 ∷ 0 ∷ []) (part_text (bytes "words ") t.words 10) 8 (t.skipped_lines ∷ t.org_lines ∷ t.label_lines ∷ t.data_lines ∷ t.word_lines ∷ t.wordless_lines ∷ t.end_lines ∷ t.words ∷ 0 ∷ 0 ∷ 0 ∷ 0 ∷ 0 ∷ [])
  unfolding bytes quiet quiet_byte numbers_in
  row_7 = row_passes (bytes "words ") 7 (t.skipped_lines ∷ t.org_lines ∷ t.label_lines ∷ t.data_lines ∷ t.word_lines ∷ t.wordless_lines ∷ t.end_lines ∷ 0 ∷ 0 ∷ 0 ∷ 0 ∷ 0 ∷ 0 ∷ []) t.words refl (omega arith) refl (b t.words (tail (tail (tail (tail (tail (tail (tail (head refl)))))))))

  row_8 : Passes 8 (t.skipped_lines ∷ t.org_lines ∷ t.label_lines ∷ t.data_lines ∷ t.word_lines ∷ t.wordless_lines ∷ t.end_lines ∷ t.words ∷ 0 ∷ 0 ∷ 0 ∷ 0 ∷ 0 ∷ []) (part_text (bytes "marked ") t.marked 10) 9 (t.skipped_lines ∷ t.org_lines ∷ t.label_lines ∷ t.data_lines ∷ t.word_lines ∷ t.wordless_lines ∷ t.end_lines ∷ t.words ∷ t.marked ∷ 0 ∷ 0 ∷ 0 ∷ 0 ∷ [])
  unfolding bytes quiet quiet_byte numbers_in
  row_8 = row_passes (bytes "marked ") 8 (t.skipped_lines ∷ t.org_lines ∷ t.label_lines ∷ t.data_lines ∷ t.word_lines ∷ t.wordless_lines ∷ t.end_lines ∷ t.words ∷ 0 ∷ 0 ∷ 0 ∷ 0 ∷ 0 ∷ []) t.marked refl (omega arith) refl (b t.marked (tail (tail (tail (tail (tail (tail (tail (tail (head refl))))))))))

  row_9 : Passes 9 (t.skipped_lines ∷ t.org_lines ∷ t.label_lines ∷ t.data_lines ∷ t.word_lines ∷ t.wordless_lines ∷ t.end_lines ∷ t.words ∷ t.marked ∷ 0 ∷ 0 ∷ 0 ∷ 0 ∷ []) (part_text (bytes "labels ") t.labels 10) 10 (t.skipped_lines ∷ t.org_lines ∷ t.label_lines ∷ t.data_lines ∷ t.word_lines ∷ t.wordless_lines ∷ t.end_lines ∷ t.words ∷ t.marked ∷ t.labels ∷ 0 ∷ 0 ∷ 0 ∷ [])
  unfolding bytes quiet quiet_byte numbers_in
  row_9 = row_passes (bytes "labels ") 9 (t.skipped_lines ∷ t.org_lines ∷ t.label_lines ∷ t.data_lines ∷ t.word_lines ∷ t.wordless_lines ∷ t.end_lines ∷ t.words ∷ t.marked ∷ 0 ∷ 0 ∷ 0 ∷ 0 ∷ []) t.labels refl (omega arith) refl (b t.labels (tail (tail (tail (tail (tail (tail (tail (tail (tail (head refl)))))))))))

  row_10 : Passes 10 (t.skipped_lines ∷ t.org_lines ∷ t.label_lines ∷ t.data_lines ∷ t.word_lines ∷ t.wordless_lines ∷ t.end_lines ∷ t.words ∷ t.marked ∷ t.labels ∷ 0 ∷ 0 ∷ 0 ∷ []) (part_text (bytes "accepted ") t.accepted_sources 10) 11 (t.skipped_lines ∷ t.org_lines ∷ t.label_lines ∷ t.data_lines ∷ t.word_lines ∷ t.wordless_lines ∷ t.end_lines ∷ t.words ∷ t.marked ∷ t.labels ∷ t.accepted_sources ∷ 0 ∷ 0 ∷ [])
  unfolding bytes quiet quiet_byte numbers_in
  row_10 = row_passes (bytes "accepted ") 10 (t.skipped_lines ∷ t.org_lines ∷ t.label_lines ∷ t.data_lines ∷ t.word_lines ∷ t.wordless_lines ∷ t.end_lines ∷ t.words ∷ t.marked ∷ t.labels ∷ 0 ∷ 0 ∷ 0 ∷ []) t.accepted_sources refl (omega arith) refl (b t.accepted_sources (tail (tail (tail (tail (tail (tail (tail (tail (tail (tail (head refl))))))))))))

  row_11 : Passes 11 (t.skipped_lines ∷ t.org_lines ∷ t.label_lines ∷ t.data_lines ∷ t.word_lines ∷ t.wordless_lines ∷ t.end_lines ∷ t.words ∷ t.marked ∷ t.labels ∷ t.accepted_sources ∷ 0 ∷ 0 ∷ []) (part_text (bytes "refused ") t.refused_sources 10) 12 (t.skipped_lines ∷ t.org_lines ∷ t.label_lines ∷ t.data_lines ∷ t.word_lines ∷ t.wordless_lines ∷ t.end_lines ∷ t.words ∷ t.marked ∷ t.labels ∷ t.accepted_sources ∷ t.refused_sources ∷ 0 ∷ [])
  unfolding bytes quiet quiet_byte numbers_in
  row_11 = row_passes (bytes "refused ") 11 (t.skipped_lines ∷ t.org_lines ∷ t.label_lines ∷ t.data_lines ∷ t.word_lines ∷ t.wordless_lines ∷ t.end_lines ∷ t.words ∷ t.marked ∷ t.labels ∷ t.accepted_sources ∷ 0 ∷ 0 ∷ []) t.refused_sources refl (omega arith) refl (b t.refused_sources (tail (tail (tail (tail (tail (tail (tail (tail (tail (tail (tail (head refl)))))))))))))

  front_passes : Passes 0 (replicate 13 0) ((plain_text t ++ code_text t) ++ counts_text t) 12 (t.skipped_lines ∷ t.org_lines ∷ t.label_lines ∷ t.data_lines ∷ t.word_lines ∷ t.wordless_lines ∷ t.end_lines ∷ t.words ∷ t.marked ∷ t.labels ∷ t.accepted_sources ∷ t.refused_sources ∷ 0 ∷ [])
  unfolding plain_text code_text counts_text
  front_passes =
      then (then (then (then (then row_0 row_1) row_2) row_3) (then (then row_4 row_5) row_6)) (then (then (then (then row_7 row_8) row_9) row_10) row_11)

  totals_back : totals_in (sheet_text t) ≡ t
  unfolding totals_in sheet_text
  totals_back =
      let p = front_passes in
      let m = mean_text (mean_of t) in
      ap lent_totals (read_append 0 (replicate 13 0) ((plain_text t ++ code_text t) ++ counts_text t) m ∙ ap₂ (λ (x : ℕ) (y : List ℕ). read_from x y m) p.rows p.numbers)
      ∙ rest_stays m (t.skipped_lines ∷ t.org_lines ∷ t.label_lines ∷ t.data_lines ∷ t.word_lines ∷ t.wordless_lines ∷ t.end_lines ∷ t.words ∷ t.marked ∷ t.labels ∷ t.accepted_sources ∷ t.refused_sources ∷ 0 ∷ [])

-- ---- the same text
front_itself : (s : Text) → same_front s s ≡ length s
unfolding same_front
front_itself [] = refl
front_itself (a ∷ s) = rw (eq-eqb a a refl, front_itself s) (omega arith)

front_same : (s t : Text) → same_front s t ≡ length s → same_front s t ≡ length t → s ≡ t
unfolding same_front
front_same [] [] e f = refl
front_same [] (b ∷ t) e f = absurd (omega arith)
front_same (a ∷ s) [] e f = absurd (omega arith)
front_same (a ∷ s) (b ∷ t) e f = go (eqb a b) refl (front_same s t) e f
  where
    go : (x : Bool) → eqb a b ≡ x → (same_front s t ≡ length s → same_front s t ≡ length t → s ≡ t) → cond x (1 + same_front s t) 0 ≡ suc (length s)
        → cond x (1 + same_front s t) 0 ≡ suc (length t) → a ∷ s ≡ b ∷ t
    go true h ih e f = ap₂ (λ (x : ℕ) (y : Text). x ∷ y) (eqb-true a b h) (ih (omega arith) (omega arith))
    go false h ih e f = absurd (omega arith)

judged_itself : (u : Said) (s : Text) → judged u s s ≡ is_sheet u
unfolding judged
judged_itself u s = rw (eq-eqb (same_front s s) (length s) (front_itself s))

judged_same : (u : Said) (s t : Text) (v : Said) → judged u s t ≡ is_sheet v → (s ≡ t) × (u ≡ v)
unfolding judged
judged_same u s t v = go (eqb (same_front s t) (length s)) refl (eqb (same_front s t) (length t)) refl
  where
    go : (x : Bool) → eqb (same_front s t) (length s) ≡ x → (y : Bool) → eqb (same_front s t) (length t) ≡ y
        → cond (x && y) (is_sheet u) (wrong (length (cut_at 10 (take (same_front s t) t)))) ≡ is_sheet v → (s ≡ t) × (u ≡ v)
    go true e true f g = (front_same s t (eqb-true (same_front s t) (length s) e) (eqb-true (same_front s t) (length t) f), cc)
    go true e false f g = clash cc
    go false e y f g = clash cc

pub sheets_read_back : SheetsReadBack
unfolding sheet_in
sheets_read_back =
    record {
      written_is_read = λ t b. rw (totals_back t b) (judged_itself t (sheet_text t));
      read_is_written = λ s t e.
          let h = judged_same (totals_in s) (sheet_text (totals_in s)) s t e in
          sym h.0 ∙ ap sheet_text h.1;
    }
