-- What is written is read, and what is read was written. Assumes nothing.
use Prim.Native.Nat.{ℕ, zero, suc, ◌+◌, ◌-◌, ◌*◌, ◌<◌, ◌≤◌}
use mathlib.Core.Path.{◌≡◌, refl, sym, ap, ◌∙◌}
use mathlib.Core.Bool.{Bool, true, false}
use mathlib.Core.List.{List, [], ◌∷◌, ◌++◌, append_assoc, flat_map}
use native.Mathlib.Omega.{arith}
use lib.ListN.{length, take, drop, get_or, length-append}
use lib.Seq.{take_at, drop_at, drop-drop, get_or-drop}
use Rattle.rules.specs.Text.{Text}
use Rattle.rules.specs.Assemble.{Place}
use Rattle.listing.specs.Listing.{digits_of, mark_byte, place_text, list_text}
use Rattle.listing.specs.Reading.{place_in, is_line, read_lines, read_list, places_in}
use Rattle.listing.specs.RoundTrip.{Printable, AllPrintable, WrittenIsRead, ReadIsWritten}
use Rattle.std.specs.Prelude.{Result, Ok}
use Rattle.listing.specs.declared.reading.BadLine.{BadLine}
use Rattle.listing.proofs.Digits.{length_digits}
use Rattle.listing.proofs.Values.{number_read, number_small, mark_read, digit_small}
use Rattle.listing.proofs.Lines.{length_place, starts_whole, starts_split, read_end, read_line}

-- ---- what is written is read
-- the parts of a line: 8 bytes, a byte, 4 bytes, a byte, and the mark
module _ (a w s : Text) (m : ℕ) (la : length a ≡ 8) (lw : length w ≡ 4) where
  abbrev tail : Text
  tail = w ++ ((32 ∷ m ∷ 10 ∷ []) ++ s)

  abbrev whole : Text
  whole = a ++ (32 ∷ tail)

  behind : drop 9 whole ≡ tail
  behind = sym (drop-drop 1 8 whole) ∙ ap (drop 1) (drop_at a (32 ∷ tail) 8 la)

  address_part : take 8 whole ≡ a
  address_part = take_at a (32 ∷ tail) 8 la

  word_part : take 4 (drop 9 whole) ≡ w
  word_part = ap (take 4) behind ∙ take_at w ((32 ∷ m ∷ 10 ∷ []) ++ s) 4 lw

  mark_part : get_or whole 14 0 ≡ m
  mark_part =
      sym (get_or-drop 9 whole 5 0) ∙ ap (λ (l : Text). get_or l 5 0) behind ∙ sym (get_or-drop 4 tail 1 0)
      ∙ ap (λ (l : Text). get_or l 1 0) (drop_at w ((32 ∷ m ∷ 10 ∷ []) ++ s) 4 lw)

-- a line shows the place that it was written from
pub shown : (p : Place) (s : Text) → Printable p → place_in (place_text p ++ s) ≡ p
unfolding place_text place_in
shown p s h =
    let a = digits_of 16 8 p.address in
    let w = digits_of 16 4 p.word in
    let m = mark_byte p.mark in
    let la = length_digits 16 8 p.address in
    let lw = length_digits 16 4 p.word in
    simp (append_assoc, address_part a w s m la lw, word_part a w s m la lw, mark_part a w s m la lw, number_read 8 p.address h.address, number_read 4 p.word h.word, mark_read p.mark h.mark)

pub line_there : (p : Place) (s : Text) → Printable p → is_line (place_text p ++ s) ≡ true
unfolding is_line
line_there p s h = rw (shown p s h) (starts_whole (place_text p) s)

behind_line : (p : Place) (s : Text) → drop 16 (place_text p ++ s) ≡ s
behind_line p s = drop_at (place_text p) s 16 (length_place p)

written_counts : (l : List Place) (room n : ℕ) → AllPrintable l → length l ≤ room → read_lines room n (list_text l) ≡ Ok (n + length l)
unfolding AllPrintable list_text flat_map
written_counts [] room n a h = let e : n + 0 ≡ n = omega arith in rw e (read_end room n)
written_counts (p ∷ l) zero n a h = absurd (omega arith)
written_counts (p ∷ l) (suc room) n a h =
    let e : n + suc (length l) ≡ suc n + length l = omega arith in
    let some : 0 < length (place_text p ++ list_text l) = rw (length-append (place_text p) (list_text l), length_place p) (omega arith) in
    read_line room n (place_text p ++ list_text l) some (line_there p (list_text l) a.0)
    ∙ rw (behind_line p (list_text l), e) (written_counts l room (suc n) a.1 (omega arith))

written_places : (l : List Place) → AllPrintable l → places_in (length l) (list_text l) ≡ l
unfolding AllPrintable list_text flat_map places_in
written_places [] a = refl
written_places (p ∷ l) a = rw (shown p (list_text l) a.0, behind_line p (list_text l), written_places l a.1)

pub written_is_read : WrittenIsRead
unfolding WrittenIsRead
written_is_read l room a h = let e : 0 + length l ≡ length l = omega arith in (rw e at (written_counts l room 0 a h), written_places l a)

-- ---- what is read was written
pub printable : (t : Text) → Printable (place_in t)
unfolding place_in
printable t = record { address = number_small 8 t; word = number_small 4 (drop 9 t); mark = digit_small 10 (get_or t 14 0) (omega arith) }

-- a text that begins with a line is that line and what stands after it
pub line_split : (t : Text) → is_line t ≡ true → place_text (place_in t) ++ drop 16 t ≡ t
unfolding is_line
line_split t e = rw (length_place (place_in t)) at (starts_split (place_text (place_in t)) t e)

-- m lines were read before, and n are in the end
record Read (room m n : ℕ) (t : Text) : Type 0 where
  over : m ≤ n
  within : n ≤ m + room
  text : list_text (places_in (n - m) t) ≡ t
  fit : AllPrintable (places_in (n - m) t)

none_read : (room m n : ℕ) → ◌≡◌ {A = Result ℕ BadLine} (Ok m) (Ok n) → Read room m n []
unfolding places_in list_text flat_map AllPrintable
none_read room m n e =
    let q : m ≡ n = cc in
    let z : n - m ≡ 0 = omega arith in
    record { over = omega arith; within = omega arith; text = rw z; fit = rw z tt }

one_read : (room m n : ℕ) (t : Text) → is_line t ≡ true → Read room (suc m) n (drop 16 t) → Read (suc room) m n t
unfolding places_in list_text flat_map AllPrintable
one_read room m n t e r =
    let z : n - m ≡ suc (n - suc m) = omega (arith, r.over) in
    record { over = omega (arith, r.over); within = omega (arith, r.within); text = rw (z, r.text) (line_split t e); fit = rw z (printable t, r.fit) }

read_whole : (room m n : ℕ) (t : Text) → read_lines room m t ≡ Ok n → Read room m n t
unfolding read_lines
read_whole zero m n [] e = none_read zero m n e
read_whole zero m n (b ∷ s) e = let z : ◌≡◌ {A = ℕ} 0 1 = cc in absurd (omega arith)
read_whole (suc room) m n [] e = none_read (suc room) m n e
read_whole (suc room) m n (b ∷ s) e = go (is_line (b ∷ s)) refl (λ q. read_whole room (suc m) n (drop 16 (b ∷ s)) q)
  where
    go : (y : Bool) → is_line (b ∷ s) ≡ y → (read_lines room (suc m) (drop 16 (b ∷ s)) ≡ Ok n → Read room (suc m) n (drop 16 (b ∷ s))) → Read (suc room) m n (b ∷ s)
    go true q ih = one_read room m n (b ∷ s) q (ih (rw (q, read_lines) at e))
    go false q ih = let f = rw (q, read_lines) at e in let z : ◌≡◌ {A = ℕ} 0 1 = cc in absurd (omega arith)

pub read_is_written : ReadIsWritten
unfolding ReadIsWritten
read_is_written t room n e =
    let r = read_whole room 0 n t e in
    let z : n - 0 ≡ n = omega arith in
    (rw z at r.text, rw z at r.fit, omega (arith, r.within))

-- ---- a text of a list is 16 bytes a place
pub length_list : (l : List Place) → length (list_text l) ≡ 16 * length l
unfolding list_text flat_map
length_list [] = refl
length_list (p ∷ l) = rw (length-append (place_text p) (list_text l), length_place p, length_list l) (omega arith)

pub length_places : (n : ℕ) (t : Text) → length (places_in n t) ≡ n
unfolding places_in
length_places zero t = refl
length_places (suc n) t = ap suc (length_places n (drop 16 t))

pub read_length : (t : Text) (room n : ℕ) → read_list room t ≡ Ok n → 16 * n ≡ length t
unfolding ReadIsWritten
read_length t room n e = rw (length_list (places_in n t), length_places n t) at (ap length (read_is_written t room n e).0)

pub read_within : (t : Text) (room n : ℕ) → read_list room t ≡ Ok n → n ≤ room
unfolding ReadIsWritten
read_within t room n e = (read_is_written t room n e).2
