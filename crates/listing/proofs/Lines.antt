-- Laws of lines: their length, that a text begins with one, and the loop that counts them. Assumes nothing.
use Prim.Native.Nat.{ℕ, zero, suc, ◌+◌, ◌-◌, ◌*◌, ◌<◌, ◌≤◌}
use mathlib.Core.Path.{◌≡◌, refl, sym, ap, ◌∙◌}
use mathlib.Core.Bool.{Bool, true, false, false≢true}
use mathlib.Core.List.{List, [], ◌∷◌, ◌++◌, append-nil}
use native.Mathlib.Nat.{le_refl}
use native.Mathlib.Numerals.{add-one}
use native.Mathlib.Omega.{arith}
use borrow.Author.Tests.{eq-eqb, eqb-true, ltb-true, ltb-false}
use lib.Dec.{eqb, ltb}
use lib.ListN.{length, take, drop, set, replicate, length-append, length-replicate, length-drop, length-set, drop_of_length-le}
use lib.Seq.{drop-drop, take_all}
use Rattle.rules.specs.Text.{Text, starts}
use Rattle.rules.specs.Assemble.{Place, over}
use Rattle.text.proofs.Compare.{starts_equal, starts_unequal, starts_short}
use Rattle.listing.specs.Listing.{digits_of, mark_byte, place_text}
use Rattle.text.specs.Spans.{over_from}
use Rattle.text.proofs.Over.{put_both, put_one, put_nil, length_put}
use Rattle.listing.specs.Reading.{place_in, is_line, bad, read_lines, read_list}
use Rattle.std.specs.Prelude.{Ok}
use Rattle.listing.proofs.Digits.{length_digits}

-- a line is 16 bytes
pub length_place : (p : Place) → length (place_text p) ≡ 16
unfolding place_text
length_place p = simp (length-append, length_digits)

pub next_line : (p : Place) (i : ℕ) → 16 * (i + 1) ≡ 16 * i + length (place_text p)
next_line p i = rw (length_place p) (omega arith)

-- a line is put part by part: x is the list after the address, y after the word
pub line_put : (i : ℕ) (p : Place) (l x y : Text) (m : ℕ) → i + 16 ≤ length l → x ≡ over_from i (digits_of 16 8 p.address) l
    → y ≡ over_from (i + 9) (digits_of 16 4 p.word) (set x (i + 8) 32) → m ≡ mark_byte p.mark
    → set (set (set y (i + 13) 32) (i + 14) m) (i + 15) 10 ≡ over_from i (place_text p) l
unfolding place_text
line_put i p l x y m h ex ey em =
    let a = digits_of 16 8 p.address in
    let w = digits_of 16 4 p.word in
    let la = length_digits 16 8 p.address in
    let lw = length_digits 16 4 p.word in
    let x' = set x (i + 8) 32 in
    let lx : length x ≡ length l = ap length ex ∙ length_put i a l (omega arith) in
    let lx' : length x' ≡ length l = length-set x (i + 8) 32 ∙ lx in
    let ly : length y ≡ length l = ap length ey ∙ length_put (i + 9) w x' (omega arith) ∙ lx' in
    let y' = set y (i + 13) 32 in
    let ly' : length y' ≡ length l = length-set y (i + 13) 32 ∙ ly in
    let y'' = set y' (i + 14) m in
    let ly'' : length y'' ≡ length l = length-set y' (i + 14) m ∙ ly' in
    rw (← em)
    (sym
    (put_both i (i + 8) a l (omega arith) (omega arith) (32 ∷ (w ++ (32 ∷ m ∷ 10 ∷ [])))
    ∙ ap (over_from (i + 8) (32 ∷ (w ++ (32 ∷ m ∷ 10 ∷ [])))) (sym ex)
    ∙ put_one (i + 8) (i + 9) 32 (w ++ (32 ∷ m ∷ 10 ∷ [])) x (omega arith) (omega arith)
    ∙ put_both (i + 9) (i + 13) w x' (omega arith) (omega arith) (32 ∷ m ∷ 10 ∷ [])
    ∙ ap (over_from (i + 13) (32 ∷ m ∷ 10 ∷ [])) (sym ey)
    ∙ put_one (i + 13) (i + 14) 32 (m ∷ 10 ∷ []) y (omega arith) (omega arith)
    ∙ put_one (i + 14) (i + 15) m (10 ∷ []) y' (omega arith) (omega arith)
    ∙ put_one (i + 15) (i + 16) 10 [] y'' (omega arith) (omega arith)
    ∙ put_nil (i + 16) (set y'' (i + 15) 10)))

-- ---- a text that starts with another
pub starts_whole : (p s : Text) → starts p (p ++ s) ≡ true
unfolding starts
starts_whole [] s = refl
starts_whole (a ∷ p) s = starts_equal a p a (p ++ s) (eq-eqb a a refl) ∙ starts_whole p s

pub starts_split : (p t : Text) → starts p t ≡ true → p ++ drop (length p) t ≡ t
unfolding starts
starts_split [] t e = refl
starts_split (a ∷ p) [] e = absurd (false≢true e)
starts_split (a ∷ p) (b ∷ t) e = go (eqb a b) refl (λ u. starts_split p t u)
  where
    go : (y : Bool) → eqb a b ≡ y → (starts p t ≡ true → p ++ drop (length p) t ≡ t) → a ∷ (p ++ drop (length p) t) ≡ b ∷ t
    go true q ih = let d = eqb-true a b q in let rest = ih (sym (starts_equal a p b t q) ∙ e) in cc
    go false q ih = absurd (false≢true (sym (starts_unequal a p b t q) ∙ e))

-- ---- the line that is compared
-- a line over all of a list of its length
put_whole : (s l : List ℕ) → length s ≡ length l → over s l ≡ s
unfolding over
put_whole s l e = rw (drop_of_length-le l {i = length s} (omega arith)) (append-nil s)

pub line_written : (p : Place) {line : List ℕ} → line ≡ over (place_text p) (replicate 16 0) → line ≡ place_text p
line_written p e = e ∙ put_whole (place_text p) (replicate 16 0) (length_place p ∙ sym (length-replicate {A = ℕ} 16 0))

pub no_line : (t : Text) → length t < 16 → is_line t ≡ false
unfolding is_line
no_line t h = starts_short (place_text (place_in t)) t (rw (length_place (place_in t)) h)

-- ---- the clauses of reading
pub read_end : (room n : ℕ) → read_lines room n [] ≡ Ok n
unfolding read_lines
read_end zero n = refl
read_end (suc room) n = refl

pub read_full : (n : ℕ) (t : Text) → 0 < length t → read_lines 0 n t ≡ bad (suc n)
unfolding read_lines
read_full n [] h = absurd (omega arith)
read_full n (b ∷ t) h = refl

pub read_bad : (room n : ℕ) (t : Text) → 0 < length t → is_line t ≡ false → read_lines room n t ≡ bad (suc n)
unfolding read_lines
read_bad room n [] h e = absurd (omega arith)
read_bad zero n (b ∷ t) h e = refl
read_bad (suc room) n (b ∷ t) h e = rw (e, read_lines)

pub read_line : (room n : ℕ) (t : Text) → 0 < length t → is_line t ≡ true → read_lines (suc room) n t ≡ read_lines room (suc n) (drop 16 t)
unfolding read_lines
read_line room n [] h e = absurd (omega arith)
read_line room n (b ∷ t) h e = rw (e, read_lines)

-- what is lent from an index on
pub rest_is : (t : Text) (k : ℕ) → take (length t - k) (drop k t) ≡ drop k t
rest_is t k = take_all (length t - k) (drop k t) (rw (length-drop k t) (le_refl (length t - k)))

-- ---- the loop that counts lines
pub record Counting (t : Text) (room n : ℕ) : Type 0 where
  pub upto : 16 * n ≤ length t
  pub same : read_list room t ≡ read_lines (room - n) n (drop (16 * n) t)

pub counting_start : (t : Text) (room : ℕ) → Counting t room 0
counting_start t room = let all : room - 0 ≡ room = omega arith in record { upto = omega arith; same = rw all }

module _ {t : Text} {room n : ℕ} (r : Counting t room n) where
  pub counting_end : length t ≤ 16 * n → Ok n ≡ read_list room t
  counting_end h = sym (r.same ∙ rw (drop_of_length-le t h) (read_end (room - n) n))

  left : 16 * n < length t → 0 < length (drop (16 * n) t)
  left h = rw (length-drop (16 * n) t) (omega arith)

  pub counting_full : 16 * n < length t → room ≤ n → bad (n + 1) ≡ read_list room t
  counting_full h k =
      let none : room - n ≡ 0 = omega arith in
      sym (r.same ∙ rw (none, add-one n) (read_full n (drop (16 * n) t) (left h)))

  pub counting_bad : 16 * n < length t → is_line (drop (16 * n) t) ≡ false → bad (n + 1) ≡ read_list room t
  counting_bad h e = sym (r.same ∙ rw (add-one n) (read_bad (room - n) n (drop (16 * n) t) (left h) e))

  -- a line is 16 bytes of what is left
  line_in : is_line (drop (16 * n) t) ≡ true → 16 * (n + 1) ≤ length t
  line_in e = go (ltb (length (drop (16 * n) t)) 16) refl
    where
      go : (y : Bool) → ltb (length (drop (16 * n) t)) 16 ≡ y → 16 * (n + 1) ≤ length t
      go true q = absurd (false≢true (sym (no_line (drop (16 * n) t) (ltb-true (length (drop (16 * n) t)) 16 q)) ∙ e))
      go false q = omega (arith, ltb-false (length (drop (16 * n) t)) 16 q, length-drop (16 * n) t, r.upto)

  pub counting_more : n < room → 16 * n < length t → is_line (drop (16 * n) t) ≡ true → Counting t room (n + 1)
  counting_more k h e =
      let one : room - n ≡ suc (room - (n + 1)) = omega arith in
      let next : 16 * (n + 1) ≡ 16 * n + 16 = omega arith in
      record {
        upto = line_in e;
        same = r.same ∙ rw (one, next, add-one n, ← (drop-drop 16 (16 * n) t)) (read_line (room - suc n) n (drop (16 * n) t) (left h) e);
      }
