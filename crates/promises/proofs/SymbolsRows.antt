-- The refusals of the list of labels, and what a call leaves in the four slices. Assumes nothing.
use Prim.Native.Nat.{ℕ, ◌≤◌}
use mathlib.Core.Path.{◌≡◌, refl, ap}
use mathlib.Core.Bool.{Bool, true, false, ◌||◌}
use mathlib.Core.List.{List, [], ◌∷◌, map}
use native.Mathlib.Omega.{arith}
use borrow.Author.Tests.{ltb-true, ltb-false}
use lib.Dec.{ltb}
use lib.ListN.{length, take, drop, length-map}
use lib.Seq.{take_at, drop_at}
use Rattle.rules.specs.Text.{Text}
use Rattle.rules.specs.Line.{size}
use Rattle.rules.specs.Label.{Label}
use Rattle.rules.specs.Answer.{Answer, accepted, refused, refuse_if, and_then}
use Rattle.rules.specs.Assemble.{pass_at, over}
use Rattle.requests.specs.Symbols.{in_order, symbols, Rows, short_rows, room_rows, symbols_answer, holding_rows, write_rows, symbols_rows}
use Rattle.promises.specs.Stages.{all, Checked}
use Rattle.promises.specs.Refusals.{PassCondition, passing, assembling}
use Rattle.promises.specs.Symbols.{SymbolsAreListed, RowsShorter, short_starts, short_lengths, short_addresses, short_lines, RowsCondition, of_pass, rows_short, SymbolsRefuseExactly, RowsWritten, SymbolsAreWritten}
use Rattle.promises.proofs.Compared.{clash}
use Rattle.promises.proofs.Stages.{is_checked, not_checked, checked_by, still_checked, apart, are_apart, Runs, done, none_holds, refuse_if_lem, and_then_lem, runs_by, refuses_exactly}
use Rattle.promises.proofs.RefusalsAssemble.{pass_known, pass_answered}
use Rattle.promises.proofs.Symbols.{symbols_are_listed}

-- the four lengths, by what the test answers
data Lengths (x : Rows) (n : ℕ) : Bool → Type 0 where
  less : RowsShorter x n → Lengths x n true
  enough : n ≤ length x.starts → n ≤ length x.lengths → n ≤ length x.addresses → n ≤ length x.lines → Lengths x n false

lengths : (x : Rows) (n : ℕ) → Lengths x n (short_rows x n)
unfolding short_rows
lengths x n = go (ltb (length x.starts) n) (ltb (length x.lengths) n) (ltb (length x.addresses) n) (ltb (length x.lines) n) refl refl refl refl
  where
    go : (a b c d : Bool) → ltb (length x.starts) n ≡ a → ltb (length x.lengths) n ≡ b → ltb (length x.addresses) n ≡ c → ltb (length x.lines) n ≡ d
        → Lengths x n (a || b || c || d)
    go true b c d e f g h = less (short_starts (ltb-true (length x.starts) n e))
    go false true c d e f g h = less (short_lengths (ltb-true (length x.lengths) n f))
    go false false true d e f g h = less (short_addresses (ltb-true (length x.addresses) n g))
    go false false false true e f g h = less (short_lines (ltb-true (length x.lines) n h))
    go false false false false e f g h =
        enough (ltb-false (length x.starts) n e) (ltb-false (length x.lengths) n f) (ltb-false (length x.addresses) n g) (ltb-false (length x.lines) n h)

-- the test passes: one of them is too short
shorter : (x : Rows) (n : ℕ) → short_rows x n ≡ true → RowsShorter x n
shorter x n = go (lengths x n)
  where
    go : {y : Bool} → Lengths x n y → y ≡ true → RowsShorter x n
    go (less h) e = h
    go (enough h k l m) e = clash cc

-- the test fails: each slice has n places
pub long_enough : (x : Rows) (n : ℕ) → short_rows x n ≡ false → (n ≤ length x.starts) × (n ≤ length x.lengths) × (n ≤ length x.addresses) × (n ≤ length x.lines)
long_enough x n = go (lengths x n)
  where
    go : {y : Bool} → Lengths x n y → y ≡ false → (n ≤ length x.starts) × (n ≤ length x.lengths) × (n ≤ length x.addresses) × (n ≤ length x.lines)
    go (less h) e = clash cc
    go (enough h k l m) e = (h, k, l, m)

is_short : (x : Rows) (n : ℕ) → RowsShorter x n → short_rows x n ≡ true
is_short x n r = go r (lengths x n)
  where
    go : {y : Bool} → RowsShorter x n → Lengths x n y → y ≡ true
    go r (less h) = refl
    go (short_starts s) (enough h k l m) = absurd (omega arith)
    go (short_lengths s) (enough h k l m) = absurd (omega arith)
    go (short_addresses s) (enough h k l m) = absurd (omega arith)
    go (short_lines s) (enough h k l m) = absurd (omega arith)

-- 1 to 6 of a list, and 7 after them
module _ (base : ℕ) (s : Text) where
  list_answered : (C : ℕ → ℕ → Type 0) → Runs C passing (pass_at base s) → Runs C passing (symbols base s)
  unfolding symbols
  list_answered C r = and_then_lem C [] (pass_at base s) (λ p. accepted (in_order p.labels)) r (λ p e. done)

  module _ (x : Rows) where
    abbrev C : ℕ → ℕ → Type 0
    C = RowsCondition base s x

    known : (n p : ℕ) → C n p → Checked n assembling
    unfolding is_checked
    known n p (of_pass c) = still_checked (all 7 ∷ []) (pass_known size base s n p c)
    known n p (rows_short h r) = checked_by 7 assembling refl

    from_rows : (n p : ℕ) → Checked n passing → C n p → PassCondition size base s n p
    unfolding is_checked
    from_rows n p k (of_pass c) = c
    from_rows n p k (rows_short h r) = absurd (not_checked 7 passing refl k)

    to_7 : (l : List Label) → symbols base s ≡ accepted l → (q : ℕ) → C 7 q → (short_rows x (length l) ≡ true) × (q ≡ length l)
    unfolding is_checked SymbolsAreListed
    to_7 l e q (rows_short {l = k} h r) =
        let f = (symbols_are_listed base s k).1 h in
        let u : k ≡ l = cc in
        (is_short x (length l) (rw u at r), ap length u)
    to_7 l e q (of_pass c) = absurd (not_checked 7 passing refl (pass_known size base s 7 q c))

    answered : Runs C assembling (symbols_answer base s x)
    unfolding symbols_answer room_rows SymbolsAreListed
    answered =
        and_then_lem C (all 7 ∷ []) (symbols base s) (room_rows x)
        (list_answered C (runs_by (PassCondition size base s) C passing (pass_at base s) (λ n p. of_pass) from_rows (pass_answered size base s))) λ l e.
        refuse_if_lem C 7 (length l) (short_rows x (length l)) (accepted (length l))
        (λ f. rows_short ((symbols_are_listed base s l).0 e) (shorter x (length l) f)) (to_7 l e) (λ f. done)

pub symbols_refuse_exactly : SymbolsRefuseExactly
unfolding apart
symbols_refuse_exactly =
    record {
      list = λ base s. refuses_exactly (PassCondition size base s) passing (are_apart passing refl) (pass_known size base s) (symbols base s)
          (list_answered base s (PassCondition size base s) (pass_answered size base s));
      rows = λ base s x. refuses_exactly (RowsCondition base s x) assembling (are_apart assembling refl) (known base s x) (symbols_answer base s x) (answered base s x);
    }

-- numbers of the labels put over a slice
over_held : (f : Label → ℕ) (l : List Label) (xs : List ℕ) → (take (length l) (over (map f l) xs) ≡ map f l) × (drop (length l) (over (map f l) xs) ≡ drop (length l) xs)
unfolding over
over_held f l xs =
    let n = length-map l f in
    (take_at (map f l) (drop (length (map f l)) xs) (length l) n, rw n (drop_at (map f l) (drop (length l) xs) (length l) n))

module _ (base : ℕ) (s : Text) (x : Rows) where
  by_refusal : (n p : ℕ) → symbols_answer base s x ≡ refused n p → symbols_rows base s x ≡ x
  unfolding symbols_answer symbols_rows and_then write_rows room_rows refuse_if
  by_refusal n p e = go (symbols base s) refl
    where
      on : (l : List Label) (b : Bool) → short_rows x (length l) ≡ b → refuse_if b 7 (length l) (accepted (length l)) ≡ refused n p → write_rows (accepted l) x ≡ x
      on l true f g = rw (write_rows, f)
      on l false f g = clash cc

      go : (r : Answer (List Label)) → symbols base s ≡ r → symbols_rows base s x ≡ x
      go (refused m q) f = rw (f, symbols_rows)
      go (accepted l) f = rw (symbols_rows, f) (on l (short_rows x (length l)) refl (rw (symbols_answer, f) at e))

  written : (n : ℕ) → symbols_answer base s x ≡ accepted n → (l : List Label) → symbols base s ≡ accepted l → short_rows x (length l) ≡ false → n ≡ length l
      → RowsWritten base s n x (symbols_rows base s x)
  unfolding SymbolsAreListed apart symbols_rows write_rows holding_rows
  written n e l f g h =
      record {
        clear = none_holds (RowsCondition base s x) assembling (are_apart assembling refl) (known base s x) n (symbols_answer base s x) e (answered base s x);
        list = l;
        listed = (symbols_are_listed base s l).0 f;
        counted = h;
        written = rw (h, f, write_rows, g) (record {
          starts = over_held (λ m. m.start) l x.starts;
          lengths = over_held (λ m. length m.name) l x.lengths;
          addresses = over_held (λ m. m.address) l x.addresses;
          lines = over_held (λ m. m.line) l x.lines;
        });
      }

  by_accepted : (n : ℕ) → symbols_answer base s x ≡ accepted n → RowsWritten base s n x (symbols_rows base s x)
  unfolding symbols_answer and_then room_rows refuse_if
  by_accepted n e = go (symbols base s) refl
    where
      on : (l : List Label) → symbols base s ≡ accepted l → (b : Bool) → short_rows x (length l) ≡ b → refuse_if b 7 (length l) (accepted (length l)) ≡ accepted n
          → RowsWritten base s n x (symbols_rows base s x)
      on l f true g h = clash cc
      on l f false g h = written n e l f g cc

      go : (r : Answer (List Label)) → symbols base s ≡ r → RowsWritten base s n x (symbols_rows base s x)
      go (refused m q) f = let g : refused m q ≡ accepted n = rw f at e in clash cc
      go (accepted l) f = on l f (short_rows x (length l)) refl (rw f at e)

pub symbols_are_written : SymbolsAreWritten
symbols_are_written = record { by_refusal = by_refusal; by_accepted = by_accepted }
