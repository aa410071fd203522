-- A line with a sum reads as the line with its number, and one whose sum has no value as the Rust reads it. Assumes nothing.
use Rattle.std.specs.Prelude.{None, Some}
use Prim.Native.Nat.{ℕ, suc, ◌^◌, ◌≤◌, ◌<◌}
use mathlib.Core.Path.{◌≡◌, refl, sym, ap, ◌∙◌}
use mathlib.Core.Logic.{◌≢◌}
use mathlib.Core.Bool.{Bool, true, false, ◌&&◌, false≢true}
use mathlib.Core.List.{List, [], ◌∷◌}
use native.Mathlib.Omega.{arith}
use lib.Dec.{eqb, leb, ltb}
use Rattle.promises.proofs.Compared.{clash}
use Rattle.rules.specs.Option.{bind}
use borrow.Author.Tests.{eqb-true, leb-true, ltb-true, ltb-false, lt-ltb, ne_eqb}
use Rattle.rules.specs.Text.{Text, bytes, after}
use Rattle.rules.specs.Number.{digit_value, Failure, Reading, read, failed, value_of, reading32, by_prefix, hex_tail, unsigned_reading, ranged, some_digits, without}
use Rattle.rules.specs.Number as Rules
use Rattle.rules.specs.Sum.{Expression}
use Rattle.rules.specs.Line.{Line, line, sized, value_reading, value_reading_in, number_in, reading_in, line_of}
use Rattle.promises.specs.Readings.{Prefix, dollar, zero_x, no_prefix, BadDigit}
use Rattle.promises.specs.Sums.{Sum, one_product, adding, subtracting, Product, one_atom, multiplying, Atom, plain_digits, parenthesised, Derives, MeansSum, has_value}
use Rattle.promises.proofs.Sums.{sums_mean, sum_low}
use Rattle.promises_rust.specs.RustStr.{all, is_ascii_digit, is_empty, digits, u_from_str_radix, strip_plus, starts_with}
use Rattle.promises_rust.specs.RustLists.{line_value, is_sum, asks_for_a_sum, perform}
use Rattle.promises_rust.specs.RustSums.{put_value, SumsReadAsTheirNumbers, FailedSumsAreTheRusts, Given, without_sum, sum_fails, sum_worth, AllGiven, no_line, a_line, SourcesWithSumsAreTheRusts}
use Rattle.promises_rust.proofs.RustText.{starts_is}
use Rattle.promises_rust.proofs.RustNumber.{number32, number32_is}
use Rattle.promises_rust.proofs.RustPlain.{line_piece, line_value_is, Plain, plain_line}
use Rattle.promises_rust.proofs.RustLine.{body_is, Done, AllDone, over, next}
use Rattle.promises_rust.proofs.RustLists.{list_is}
use Rattle.promises_rust.proofs.RustRefused.{refuses_as, accepts_within, within_if_accepted}
use Rattle.promises_rust.proofs.RustHole.{Quiet, quiet_of, AllQuiet, quiet_end, quiet, quiet_append}
use Rattle.promises_rust.proofs.RustFrames.{Piece, one_piece, line_reads, line_hole}

-- ---- a sum holds no blank, no colon and no dot
record InDigits (b : ℕ) : Type 0 where
  high : 48 ≤ b
  no_colon : b ≢ 58

digit_high : (b : ℕ) → digit_value b < 16 → InDigits b
unfolding digit_value
digit_high b h = go (leb 48 b) refl (leb b 57) refl (leb 65 b) refl (leb 97 b) refl
  where
    from : (k : ℕ) → 65 ≤ k → leb k b ≡ true → InDigits b
    from k l e = let m = leb-true k b e in record { high = omega arith; no_colon = λ q. omega (arith, q) }

    go : (x : Bool) → leb 48 b ≡ x → (y : Bool) → leb b 57 ≡ y → (z : Bool) → leb 65 b ≡ z → (w : Bool) → leb 97 b ≡ w → InDigits b
    go true e true f z g w k = let l = leb-true 48 b e in let m = leb-true b 57 f in record { high = omega arith; no_colon = λ q. omega (arith, q) }
    go x e y f true g w k = from 65 (omega arith) g
    go x e y f z g true k = from 97 (omega arith) k
    go true e false f false g false k = let v : digit_value b ≡ 255 = rw (digit_value, e, f, g, k) in omega (arith, v)
    go false e y f false g false k = let v : digit_value b ≡ 255 = rw (digit_value, e, g, k) in omega (arith, v)

quiet_digit : (b : ℕ) → digit_value b < 16 → Quiet b
quiet_digit b h = let d = digit_high b h in let l : 48 ≤ b = d.high in quiet_of b (omega arith) d.no_colon (λ q. omega (arith, q))

quiet_digits : (radix : ℕ) → radix ≤ 16 → (d : Text) → ¬ BadDigit radix d → AllQuiet d
quiet_digits radix h [] n = quiet_end
quiet_digits radix h (b ∷ s) n = quiet (quiet_digit b (go (ltb (digit_value b) radix) refl)) (quiet_digits radix h s later)
  where
    later : ¬ BadDigit radix s
    later k = n (record { place = suc k.place; inside = omega (arith, k.inside); no_digit = k.no_digit })

    go : (x : Bool) → ltb (digit_value b) radix ≡ x → digit_value b < 16
    go true e = let l = ltb-true (digit_value b) radix e in omega arith
    go false e = let l = ltb-false (digit_value b) radix e in absurd (n (record { place = 0; inside = omega arith; no_digit = l }))

byte : (b : ℕ) → 33 ≤ b → b < 46 → Quiet b
byte b h k = quiet_of b h (λ q. omega (arith, q)) (λ q. omega (arith, q))

letter : (b : ℕ) → 59 ≤ b → Quiet b
letter b h = quiet_of b (omega arith) (λ q. omega (arith, q)) (λ q. omega (arith, q))

quiet_number : {t d : Text} {radix : ℕ} → Prefix t radix d → ¬ BadDigit radix d → AllQuiet t
unfolding bytes
quiet_number (dollar {t = d} e) n = rw e (quiet (byte 36 (omega arith) (omega arith)) (quiet_digits 16 (omega arith) d n))
quiet_number (zero_x {t = d} e) n =
    rw e (quiet (quiet_of 48 (omega arith) (λ q. omega (arith, q)) (λ q. omega (arith, q))) (quiet (letter 120 (omega arith)) (quiet_digits 16 (omega arith) d n)))
quiet_number (no_prefix {s = d} e f) n = quiet_digits 10 (omega arith) d n

mutual
  unfolding bytes

  quiet_sum : {t : Text} {a : Expression} → Sum t a → AllQuiet t
  quiet_sum (one_product p) = quiet_product p
  quiet_sum (adding x y e q) = rw e (quiet_append (quiet_sum x) (quiet (byte 43 (omega arith) (omega arith)) (quiet_product y)))
  quiet_sum (subtracting x y e q) = rw e (quiet_append (quiet_sum x) (quiet (byte 45 (omega arith) (omega arith)) (quiet_product y)))

  quiet_product : {t : Text} {a : Expression} → Product t a → AllQuiet t
  quiet_product (one_atom p) = quiet_atom p
  quiet_product (multiplying x y e q) = rw e (quiet_append (quiet_product x) (quiet (byte 42 (omega arith) (omega arith)) (quiet_atom y)))

  quiet_atom : {t : Text} {a : Expression} → Atom t a → AllQuiet t
  quiet_atom (plain_digits p e n q) = quiet_number p n
  quiet_atom (parenthesised x e q) =
      rw e (quiet (byte 40 (omega arith) (omega arith)) (quiet_append (quiet_sum x) (quiet (byte 41 (omega arith) (omega arith)) quiet_end)))

sum_piece : {t : Text} {a : Expression} → Derives t a → Piece t
unfolding bytes
sum_piece d = rw d.brackets (one_piece (letter 91 (omega arith)) (quiet_append (quiet_sum d.derived) (quiet (letter 93 (omega arith)) quiet_end)))

sum_piece_of : {t : Text} {v : ℕ} → MeansSum t (read v) → Piece t
sum_piece_of (has_value d l i e) = sum_piece d

-- ---- digits
both : (x y : Bool) → (x && y) ≡ true → (x ≡ true) × (y ≡ true)
both true true e = (refl, refl)
both true false e = absurd (false≢true e)
both false y e = absurd (false≢true e)

ascii_quiet : (b : ℕ) → is_ascii_digit b ≡ true → Quiet b
unfolding is_ascii_digit
ascii_quiet b e =
    let k = both (leb 48 b) (leb b 57) e in
    let l = leb-true 48 b k.0 in
    let m = leb-true b 57 k.1 in
    quiet_of b (omega arith) (λ q. omega (arith, q)) (λ q. omega (arith, q))

not_byte : (a b : ℕ) → a < 48 → is_ascii_digit b ≡ true → eqb a b ≡ false
unfolding is_ascii_digit
not_byte a b h e = let k = both (leb 48 b) (leb b 57) e in let l = leb-true 48 b k.0 in ne_eqb a b (λ q. omega (arith, q))

not_letter : (a b : ℕ) → 57 < a → is_ascii_digit b ≡ true → eqb a b ≡ false
unfolding is_ascii_digit
not_letter a b h e = let k = both (leb 48 b) (leb b 57) e in let l = leb-true b 57 k.1 in ne_eqb a b (λ q. omega (arith, q))

ascii_all : (n : Text) → all is_ascii_digit n ≡ true → AllQuiet n
unfolding all
ascii_all [] a = quiet_end
ascii_all (b ∷ s) a = let k = both (is_ascii_digit b) (all is_ascii_digit s) a in quiet (ascii_quiet b k.0) (ascii_all s k.1)

-- digits are such a piece, no sum, and the number that they are worth
record Digits (n : Text) (v : ℕ) : Type 0 where
  piece : Piece n
  plain : starts_with n (bytes "[") ≡ false
  number : v < 2 ^ 32 → number32 n ≡ Some v

digits_are : (n : Text) (v : ℕ) → all is_ascii_digit n ≡ true → digits 10 n ≡ Some v → Digits n v
unfolding all digits is_empty starts_with bytes u_from_str_radix strip_plus bind
digits_are [] v a e = clash cc
digits_are (b ∷ s) v a e =
    let k = both (is_ascii_digit b) (all is_ascii_digit s) a in
    record {
      piece = one_piece (ascii_quiet b k.0) (ascii_all s k.1);
      plain = rw (not_letter 91 b (omega arith) k.0);
      number =
          λ l.
          sym (number32_is (b ∷ s))
          ∙ rw (not_byte 36 b (omega arith) k.0, no_x s k.1, and-false (eqb 48 b), not_byte 43 b (omega arith) k.0, e, lt-ltb v (2 ^ 32) l);
    }
  where
    no_x : (s : Text) → all is_ascii_digit s ≡ true → starts_with s (120 ∷ []) ≡ false
    no_x [] a = refl
    no_x (c ∷ s) a = let k = both (is_ascii_digit c) (all is_ascii_digit s) a in rw (not_letter 120 c (omega arith) k.0)

    and-false : (x : Bool) → (x && false) ≡ false
    and-false true = refl
    and-false false = refl

-- ---- the two statements
value_of_sum : (t : Text) (r : Reading ℕ) → starts_with t (bytes "[") ≡ true → MeansSum t r → value_reading t ≡ r
unfolding value_reading
value_of_sum t r b m = rw (rw (starts_is (bytes "[") t) at b) ((sums_mean.of_a_sum t r).1 m)

no_number : (t : Text) → starts_with t (bytes "[") ≡ true → number32 t ≡ None
unfolding starts_with bytes value_of reading32 by_prefix hex_tail after unsigned_reading ranged some_digits without Rules.digits digit_value
no_number [] e = absurd (false≢true e)
no_number (b ∷ s) e = rw (← eqb-true 91 b (both (eqb 91 b) true e).0) (bracket s)
  where
    bracket : (s : Text) → number32 (91 ∷ s) ≡ None
    bracket s = refl

pub failed_sums_are_the_rusts : FailedSumsAreTheRusts
unfolding FailedSumsAreTheRusts value_reading_in number_in reading_in value_of
failed_sums_are_the_rusts l t x e b m s = body_is l (rw (← line_value_is l, e) plain) s
  where
    plain : Plain (Some t)
    plain = record { is = rw (value_of_sum t (failed x) b m) (sym (no_number t b)) }

pub sums_read_as_their_numbers : SumsReadAsTheirNumbers
unfolding SumsReadAsTheirNumbers value_of value_reading asks_for_a_sum is_sum
sums_read_as_their_numbers l t n v e b m a d =
    let piece : line_piece l ≡ Some t = sym (line_value_is l) ∙ e in
    let k = sum_piece_of m in
    let h = line_hole t l piece in
    let r = line_reads h.frame h.opened k (rw h.is at piece) in
    let g = digits_are n v a d in
    let sum : value_reading t ≡ read v = value_of_sum t (read v) b m in
    let number : value_reading n ≡ reading32 n = rw (rw (starts_is (bytes "[") n) at g.plain) in
    let low : v < 2 ^ 32 = sum_low t v ((sums_mean.of_a_sum t (read v)).1 m) in
    let of_sum : line_of l ≡ line r.names (sized r.size (Some v)) = ap line_of h.is ∙ rw sum at (r.reads t k) in
    let of_number : line_of (put_value n l) ≡ line r.names (sized r.size (Some v)) = ap line_of (h.put n) ∙ rw (number, g.number low) at (r.reads n g.piece) in
    let value : line_value (put_value n l) ≡ Some n = line_value_is (put_value n l) ∙ ap line_piece (h.put n) ∙ r.piece n g.piece in
    let none : asks_for_a_sum (put_value n l) ≡ false = rw value g.plain in
    record {
      value = value;
      reads = of_sum ∙ sym of_number;
      loop = λ s. body_is (put_value n l) (plain_line (put_value n l) none) s ∙ ap (λ (k : Line). perform k s) (of_number ∙ sym of_sum);
    }

-- ---- whole sources
given_done : {l m : Text} → Given l m → Done l m
unfolding FailedSumsAreTheRusts SumsReadAsTheirNumbers
given_done (without_sum {l} e) = record { does = λ st. body_is l (plain_line l e) st }
given_done (sum_fails {l} {t} {x} e b m) = record { does = λ st. failed_sums_are_the_rusts l t x e b m st }
given_done (sum_worth {l} {m = k} {t} {v} e b m n a d q) = record { does = λ st. rw q ((sums_read_as_their_numbers l t n v e b m a d).loop st) }

given_all : {ls ms : List Text} → AllGiven ls ms → AllDone ls ms
given_all no_line = over
given_all (a_line g h) = next (given_done g) (λ k. given_all h)

pub sources_with_sums_are_the_rusts : SourcesWithSumsAreTheRusts
unfolding SourcesWithSumsAreTheRusts
sources_with_sums_are_the_rusts s ls g =
    let all = given_all g in
    record {
      list = λ l e. list_is s ls all l e;
      within = λ w. accepts_within s ls all w;
      no_other = λ l e. within_if_accepted s ls all l e;
      refuses = refuses_as s ls all;
    }
