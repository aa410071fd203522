-- Every number has decimal digits, so every source has lines to give to the Rust. Assumes nothing.
use Rattle.std.specs.Prelude.{Option, None, Some}
use Prim.Native.Nat.{ℕ, zero, suc, ◌+◌, ◌-◌, ◌*◌, ◌/◌, ◌%◌, ◌<◌}
use mathlib.Core.Path.{◌≡◌, refl}
use mathlib.Core.Bool.{Bool, true, false, ◌&&◌, false≢true}
use mathlib.Core.List.{List, [], ◌∷◌, ◌++◌}
use native.Mathlib.Omega.{arith}
use lib.Dec.{ltb}
use borrow.Author.Tests.{le-leb, lt-ltb, ltb-true, ltb-false}
use Rattle.promises.proofs.Compared.{clash}
use Rattle.rules.specs.Option.{bind}
use Rattle.rules.specs.Text.{Text, bytes}
use Rattle.rules.specs.Number.{Reading, read, failed}
use Rattle.rules.specs.Sum.{sum_reading}
use Rattle.promises.proofs.Sums.{sums_mean}
use Rattle.promises_rust.specs.RustStr.{all, is_ascii_digit, is_empty, digit, to_digit, digits, digits_from, split, starts_with}
use Rattle.promises_rust.specs.RustLists.{line_value, is_sum, asks_for_a_sum}
use Rattle.promises_rust.specs.RustSums.{Given, without_sum, sum_fails, sum_worth, AllGiven, no_line, a_line, put_value, EverySourceIsGiven}

-- ---- digits of a number
record Decimal (v : ℕ) : Type 0 where
  text : Text
  ascii : all is_ascii_digit text ≡ true
  worth : digits_from 10 0 text ≡ Some v
  some : is_empty text ≡ false

module _ (d : ℕ) (h : d < 10) where
  ascii_digit : is_ascii_digit (48 + d) ≡ true
  unfolding is_ascii_digit
  ascii_digit = rw (le-leb 48 (48 + d) (omega arith), le-leb (48 + d) 57 (omega arith))

  is_digit : to_digit (48 + d) 10 ≡ Some d
  unfolding to_digit digit bind
  is_digit = let z : 48 + d - 48 ≡ d = omega arith in rw (ascii_digit, z, lt-ltb d 10 h)

  -- a digit after others
  digits_last : (s : Text) (w v : ℕ) → digits_from 10 w s ≡ Some v → digits_from 10 w (s ++ ((48 + d) ∷ [])) ≡ Some (v * 10 + d)
  unfolding digits_from
  digits_last [] w v e = let z : Some w ≡ Some v = e in let q : w ≡ v = cc in rw (digits_from, is_digit, q)
  digits_last (c ∷ s) w v e = go (to_digit c 10) refl (λ u. digits_last s u v)
    where
      go : (o : Option ℕ) → to_digit c 10 ≡ o → ((u : ℕ) → digits_from 10 u s ≡ Some v → digits_from 10 u (s ++ ((48 + d) ∷ [])) ≡ Some (v * 10 + d))
          → digits_from 10 w (c ∷ (s ++ ((48 + d) ∷ []))) ≡ Some (v * 10 + d)
      go None f ih = let z : None ≡ Some v = rw (digits_from, f) at e in clash cc
      go (Some x) f ih = rw (digits_from, f) (ih (w * 10 + x) (rw (digits_from, f) at e))

  all_last : (s : Text) → all is_ascii_digit s ≡ true → all is_ascii_digit (s ++ ((48 + d) ∷ [])) ≡ true
  unfolding all
  all_last [] e = rw ascii_digit
  all_last (c ∷ s) e = go (is_ascii_digit c) refl e (all_last s)
    where
      go : (x : Bool) → is_ascii_digit c ≡ x → (x && all is_ascii_digit s) ≡ true → (all is_ascii_digit s ≡ true → all is_ascii_digit (s ++ ((48 + d) ∷ [])) ≡ true)
          → (is_ascii_digit c && all is_ascii_digit (s ++ ((48 + d) ∷ []))) ≡ true
      go true f g ih = rw f (ih g)
      go false f g ih = absurd (false≢true g)

  one_more : {v : ℕ} → Decimal v → Decimal (v * 10 + d)
  unfolding is_empty
  one_more {v} k = record { text = k.text ++ ((48 + d) ∷ []); ascii = all_last k.text k.ascii; worth = digits_last k.text 0 v k.worth; some = go k.text }
    where
      go : (s : Text) → is_empty (s ++ ((48 + d) ∷ [])) ≡ false
      go [] = refl
      go (c ∷ s) = refl

  one_alone : Decimal d
  unfolding digits_from all is_empty
  one_alone = let z : 0 * 10 + d ≡ d = omega arith in record { text = (48 + d) ∷ []; ascii = rw ascii_digit; worth = rw (digits_from, is_digit, z); some = refl }

decimal_by : (k v : ℕ) → v < k → Decimal v
decimal_by zero v h = absurd (omega arith)
decimal_by (suc k) v h = go (ltb v 10) refl (decimal_by k (v / 10))
  where
    go : (x : Bool) → ltb v 10 ≡ x → (v / 10 < k → Decimal (v / 10)) → Decimal v
    go true e ih = let l = ltb-true v 10 e in one_alone v l
    go false e ih =
        let l = ltb-false v 10 e in
        let w : v / 10 * 10 + v % 10 ≡ v = omega arith in
        rw (← w) (one_more (v % 10) (omega arith) (ih (omega arith)))

decimal : (v : ℕ) → Decimal v
decimal v = decimal_by (suc v) v (omega arith)

-- ---- lines
record GivenFor (l : Text) : Type 0 where
  line : Text
  given : Given l line

given_for : (l : Text) → GivenFor l
unfolding asks_for_a_sum is_sum digits
given_for l = go (line_value l) refl
  where
    read_as : (t : Text) → line_value l ≡ Some t → starts_with t (bytes "[") ≡ true → (r : Reading ℕ) → sum_reading t ≡ r → GivenFor l
    read_as t e b (failed x) q = record { line = l; given = sum_fails e b ((sums_mean.of_a_sum t (failed x)).0 q) }
    read_as t e b (read v) q =
        let k = decimal v in
        let w : digits 10 k.text ≡ Some v = rw (digits, k.some) k.worth in
        record { line = put_value k.text l; given = sum_worth e b ((sums_mean.of_a_sum t (read v)).0 q) k.text k.ascii w refl }

    piece : (t : Text) → line_value l ≡ Some t → (x : Bool) → starts_with t (bytes "[") ≡ x → GivenFor l
    piece t e true b = read_as t e b (sum_reading t) refl
    piece t e false b = record { line = l; given = without_sum (rw (asks_for_a_sum, e) b) }

    go : (o : Option Text) → line_value l ≡ o → GivenFor l
    go None e = record { line = l; given = without_sum (rw (asks_for_a_sum, e)) }
    go (Some t) e = piece t e (starts_with t (bytes "[")) refl

given_lines : (ls : List Text) → (ms : List Text) × AllGiven ls ms
given_lines [] = ([], no_line)
given_lines (l ∷ ls) = let k = given_for l in let r = given_lines ls in (k.line ∷ r.0, a_line k.given r.1)

pub every_source_is_given : EverySourceIsGiven
unfolding EverySourceIsGiven
every_source_is_given s = given_lines (split 10 s)
