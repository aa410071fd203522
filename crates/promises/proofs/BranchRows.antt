-- Branch tables: rows written one after another against a table's commands by their number. Assumes nothing.
use Prim.Native.Nat.{ℕ, zero, suc, ◌+◌, ◌*◌, ◌<◌}
use mathlib.Core.Path.{◌≡◌, refl, sym, ap, ◌∙◌}
use mathlib.Core.Logic.{◌≢◌}
use mathlib.Core.Bool.{Bool, true, false, ◌&&◌}
use mathlib.Core.List.{List, [], ◌∷◌, ◌++◌}
use native.Mathlib.Omega.{arith}
use borrow.Author.Tests.{ltb-true, ltb-false, lt-ltb, le-ltb, eqb-true, eqb-false}
use lib.Dec.{ltb, eqb}
use lib.ListN.{length}
use Rattle.rules.specs.Text.{Text}
use Rattle.requests.specs.Branches.{command_of, byte_of, is_end, is_row}
use Rattle.promises.specs.Nearest.{In, head, tail}
use Rattle.promises.specs.Branches.{Row, row_bytes, rows_bytes}
use Rattle.promises.proofs.Compared.{clash}
use Rattle.promises.proofs.Stages.{and_both}

-- the row that command k would be
abbrev pub row_at : Text → ℕ → Row
row_at t k =
    record { first = byte_of t k 1; second = byte_of t k 2; third = byte_of t k 3; fourth = byte_of t k 4; condition = byte_of t k 5 }

-- six bytes on
abbrev on : ℕ → ℕ
on p = suc (suc (suc (suc (suc (suc p)))))

less_on : (p n : ℕ) → ltb (on p) (on n) ≡ ltb p n
less_on p n = go (ltb p n) refl
  where
    go : (y : Bool) → ltb p n ≡ y → ltb (on p) (on n) ≡ y
    go true e = let h = ltb-true p n e in lt-ltb (on p) (on n) (omega arith)
    go false e = let h = ltb-false p n e in le-ltb (on p) (on n) (omega arith)

module _ (r : Row) (t : Text) (k : ℕ) where
  byte_on : (i : ℕ) → byte_of (row_bytes r ++ t) (suc k) i ≡ byte_of t k i
  byte_on i = let z : 6 * suc k + i ≡ on (6 * k + i) = omega arith in rw z

  command_on : command_of (row_bytes r ++ t) (suc k) ≡ command_of t k
  command_on = let z : 6 * suc k ≡ on (6 * k) = omega arith in rw z

  end_on : is_end (row_bytes r ++ t) (suc k) ≡ is_end t k
  unfolding is_end
  end_on =
      let z : 6 * suc k ≡ on (6 * k) = omega arith in
      rw z (ap (λ (b : Bool). b && eqb (command_of t k) 0) (less_on (6 * k) (length t)))

  pub row_on : is_row (row_bytes r ++ t) (suc k) ≡ is_row t k
  unfolding is_row
  row_on =
      let z : 6 * suc k + 5 ≡ on (6 * k + 5) = omega arith in
      let y : 6 * suc k ≡ on (6 * k) = omega arith in
      rw (z, y) (ap (λ (b : Bool). b && eqb (command_of t k) 1) (less_on (6 * k + 5) (length t)))

  pub at_on : row_at (row_bytes r ++ t) (suc k) ≡ row_at t k
  at_on = rw (byte_on 1, byte_on 2, byte_on 3, byte_on 4, byte_on 5)

-- a row is its bytes
pub is_first : (r : Row) (t : Text) → (is_row (row_bytes r ++ t) 0 ≡ true) × (is_end (row_bytes r ++ t) 0 ≡ false) × (row_at (row_bytes r ++ t) 0 ≡ r)
unfolding is_row is_end
is_first r t = (rw (lt-ltb 5 (on (length t)) (omega arith)), rw (lt-ltb 0 (on (length t)) (omega arith)), refl)

-- ---- after rows: command k of the whole is the first of what follows k rows
pub record Same (t : Text) (k : ℕ) (s : Text) : Type 0 where
  pub end : is_end t k ≡ is_end s 0
  pub row : is_row t k ≡ is_row s 0
  pub at : row_at t k ≡ row_at s 0

pub behind : (rs : List Row) (s : Text) → Same (rows_bytes rs ++ s) (length rs) s
unfolding rows_bytes
behind [] s = record { end = refl; row = refl; at = refl }
behind (r ∷ rs) s =
    let h = behind rs s in
    record {
      end = end_on r (rows_bytes rs ++ s) (length rs) ∙ h.end;
      row = row_on r (rows_bytes rs ++ s) (length rs) ∙ h.row;
      at = at_on r (rows_bytes rs ++ s) (length rs) ∙ h.at;
    }

-- the rows in front are its first commands, and those are the rows
pub front_rows : (rs : List Row) (s : Text) (j : ℕ) → j < length rs → (is_row (rows_bytes rs ++ s) j ≡ true) × (is_end (rows_bytes rs ++ s) j ≡ false) × In (row_at (rows_bytes rs ++ s) j) rs
unfolding rows_bytes
front_rows [] s j h = absurd (omega arith)
front_rows (r ∷ rs) s zero h = let f = is_first r (rows_bytes rs ++ s) in (f.0, f.1, head f.2)
front_rows (r ∷ rs) s (suc j) h =
    let f = front_rows rs s j (omega arith) in
    (row_on r (rows_bytes rs ++ s) j ∙ f.0, end_on r (rows_bytes rs ++ s) j ∙ f.1, tail {ys = rs} (rw (at_on r (rows_bytes rs ++ s) j) f.2))

pub front_command : {q : Row} {rs : List Row} (s : Text) → In q rs → (j : ℕ) × (j < length rs) × (row_at (rows_bytes rs ++ s) j ≡ q)
unfolding rows_bytes
front_command s (head {y = r} {ys = rs} e) = (0, omega arith, (is_first r (rows_bytes rs ++ s)).2 ∙ sym e)
front_command s (tail {y = r} {ys = rs} i) =
    let f = front_command s i in (suc f.0, (let h = f.1 in omega arith), at_on r (rows_bytes rs ++ s) f.0 ∙ f.2)

-- ---- what stands first in a text
pub ended : (s : Text) → is_end s 0 ≡ true → (rest : Text) × (s ≡ 0 ∷ rest)
unfolding is_end
ended [] e = clash cc
ended (b ∷ s) e = (s, ap (λ (c : ℕ). c ∷ s) (eqb-true b 0 (and_both (ltb 0 (suc (length s))) (eqb b 0) e).1))

pub whole : (s : Text) → is_row s 0 ≡ true → (rest : Text) × (s ≡ row_bytes (row_at s 0) ++ rest)
unfolding is_row
whole [] e = clash cc
whole (a ∷ []) e = clash cc
whole (a ∷ b ∷ []) e = clash cc
whole (a ∷ b ∷ c ∷ []) e = clash cc
whole (a ∷ b ∷ c ∷ d ∷ []) e = clash cc
whole (a ∷ b ∷ c ∷ d ∷ f ∷ []) e = clash cc
whole (a ∷ b ∷ c ∷ d ∷ f ∷ g ∷ s) e = (s, ap (λ (x : ℕ). x ∷ b ∷ c ∷ d ∷ f ∷ g ∷ s) (eqb-true a 1 (and_both (ltb 5 (on (length s))) (eqb a 1) e).1))

-- neither an end nor a row: nothing, a row that is cut, or an unknown command
pub data Neither : Text → Type 0 where
  nothing : Neither []
  cut_off : {s : Text} → length s < 5 → Neither (1 ∷ s)
  strange : {b : ℕ} {s : Text} → b ≢ 0 → b ≢ 1 → Neither (b ∷ s)

pub neither : (s : Text) → is_end s 0 ≡ false → is_row s 0 ≡ false → Neither s
unfolding is_end is_row
neither [] e r = nothing
neither (b ∷ s) e r = go (eqb b 1) refl (ltb 5 (suc (length s))) refl (eqb b 0) refl
  where
    go : (x : Bool) → eqb b 1 ≡ x → (y : Bool) → ltb 5 (suc (length s)) ≡ y → (z : Bool) → eqb b 0 ≡ z → Neither (b ∷ s)
    go x f y g true h = let u : (ltb 0 (suc (length s)) && eqb b 0) ≡ true = rw (lt-ltb 0 (suc (length s)) (omega arith), h) in clash cc
    go true f true g false h = let u : (ltb 5 (suc (length s)) && eqb b 1) ≡ true = rw (g, f) in clash cc
    go true f false g false h = let k = ltb-false 5 (suc (length s)) g in rw (eqb-true b 1 f) (cut_off {s = s} (omega arith))
    go false f y g false h = strange (eqb-false b 0 h) (eqb-false b 1 f)

-- the other way
pub not_either : {s : Text} → Neither s → (is_end s 0 ≡ false) × (is_row s 0 ≡ false)
unfolding is_end is_row
not_either nothing = (refl, refl)
not_either (cut_off {s} h) = (go_end, go_row)
  where
    go_end : (ltb 0 (suc (length s)) && eqb 1 0) ≡ false
    go_end = rw (lt-ltb 0 (suc (length s)) (omega arith))

    go_row : (ltb 5 (suc (length s)) && eqb 1 1) ≡ false
    go_row = rw (le-ltb 5 (suc (length s)) (omega arith))
not_either (strange {b} {s} e f) = (by (ltb 0 (suc (length s))) (eqb b 0) refl e, by (ltb 5 (suc (length s))) (eqb b 1) refl f)
  where
    by : {n : ℕ} (x y : Bool) → eqb b n ≡ y → b ≢ n → (x && y) ≡ false
    by {n} x true g h = absurd (h (eqb-true b n g))
    by true false g h = refl
    by false false g h = refl

-- ---- a table whose first k commands are rows
pub all_rows : (k : ℕ) (t : Text) → ((j : ℕ) → j < k → is_row t j ≡ true) → (rs : List Row) × (s : Text) × (t ≡ rows_bytes rs ++ s) × (length rs ≡ k)
unfolding rows_bytes
all_rows zero t h = ([], t, refl, refl)
all_rows (suc k) t h =
    let w = whole t (h 0 (omega arith)) in
    let f = all_rows k w.0 (λ j l. sym (row_on (row_at t 0) w.0 j) ∙ rw (← w.1) (h (suc j) (omega arith))) in
    (row_at t 0 ∷ f.0, f.1, w.1 ∙ ap (λ (x : Text). row_bytes (row_at t 0) ++ x) f.2, ap suc f.3)
