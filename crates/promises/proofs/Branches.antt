-- What is promised of branch tables holds: what is loaded, and which command is blamed. Assumes nothing.
use Prim.Native.Nat.{ℕ, zero, suc, ◌+◌, ◌*◌, ◌<◌, ◌≤◌}
use mathlib.Core.Path.{◌≡◌, refl, sym, ap, ◌∙◌}
use mathlib.Core.Bool.{Bool, true, false, not, ◌&&◌, ◌||◌, cond}
use mathlib.Core.List.{List, [], ◌∷◌, ◌++◌, append_assoc}
use native.Mathlib.Omega.{arith}
use borrow.Author.Tests.{ltb-true, ltb-false, lt-ltb, le-ltb, eqb-true}
use lib.Dec.{ltb}
use lib.ListN.{length, length-append}
use Rattle.rules.specs.Text.{Text}
use Rattle.rules.specs.Encode.{branch, Mnemonic, mnemonic}
use Rattle.rules.specs.Answer.{Answer, accepted, refused, refuse_if, and_then}
use Rattle.requests.specs.Branches.{command_of, is_end, is_row, four_of, condition_of, unpadded, broken, misnamed, check_from, checked, row_of, rows_from, rows, loaded}
use Rattle.promises.specs.Stages.{OneOf, here, there, Ahead, ahead, behind, Checked}
use Rattle.promises.specs.Branches.{Row, four, row_bytes, rows_bytes, Named, no_row, row, Misnamed, RowBehind, TableCondition, cut, missing, unknown, row_17, over_15, wrong_name, loading, LoadRefusesExactly, Accepted, LoadAcceptsExactly}
use Rattle.promises.proofs.Compared.{clash, Compared, less, more, equal, compared}
use Rattle.promises.proofs.Stages.{is_checked, checked_by, apart, are_apart, Runs, done, stop_line, pass_lines, and_then_lem, refuses_exactly}
use Rattle.promises.proofs.BranchRows as Rows
use Rattle.promises.proofs.BranchRows.{row_at, is_first, front_rows, ended, whole, Neither, nothing, cut_off, strange, neither, not_either, all_rows, row_on, at_on}
use Rattle.promises.proofs.BranchNames.{padded_is, is_padded, misnamed_is, is_misnamed}

-- command k is a row without a fault; all before k are
record Good (t : Text) (k : ℕ) : Type 0 where
  row : is_row t k ≡ true
  fine : broken t k ≡ false
  named : misnamed t k ≡ false

abbrev AllGood : Text → ℕ → Type 0
AllGood t k = (j : ℕ) → j < k → Good t j

-- 16 and 17 by the tests
data Tested (t : Text) (k : ℕ) : ℕ → Type 0 where
  broken_16 : is_end t k ≡ false → broken t k ≡ true → Tested t k 16
  past_16 : is_end t k ≡ false → k ≡ 16 → Tested t k 16
  named_17 : is_row t k ≡ true → misnamed t k ≡ true → Tested t k 17

record Located (t : Text) (n p : ℕ) : Type 0 where
  k : ℕ
  place : p ≡ 6 * k
  rows : (j : ℕ) → j < k → is_row t j ≡ true
  fault : Tested t k n

-- ---- tests of a row
end_or_row : (t : Text) (k : ℕ) → is_end t k ≡ true → is_row t k ≡ true → ⊥
unfolding is_end is_row
end_or_row t k e r =
    let a = eqb-true (command_of t k) 0 (second (ltb (6 * k) (length t)) _ e) in
    let b = eqb-true (command_of t k) 1 (second (ltb (6 * k + 5) (length t)) _ r) in
    omega arith
  where
    second : (x y : Bool) → (x && y) ≡ true → y ≡ true
    second true y h = h
    second false y h = clash cc

row_no_end : (t : Text) (k : ℕ) → is_row t k ≡ true → is_end t k ≡ false
row_no_end t k r = go (is_end t k) refl
  where
    go : (x : Bool) → is_end t k ≡ x → x ≡ false
    go true e = absurd (end_or_row t k e r)
    go false e = refl

broken_row : (t : Text) (k : ℕ) → is_row t k ≡ true → broken t k ≡ ltb 15 (row_at t k).condition
unfolding broken condition_of
broken_row t k r = rw r

broken_none : (t : Text) (k : ℕ) → is_row t k ≡ false → broken t k ≡ true
unfolding broken
broken_none t k r = rw r

good_row : (t : Text) (k : ℕ) → broken t k ≡ false → is_row t k ≡ true
good_row t k e = go (is_row t k) refl
  where
    go : (x : Bool) → is_row t k ≡ x → x ≡ true
    go true r = refl
    go false r = let u = sym (broken_none t k r) ∙ e in clash cc

-- ---- a condition, in the bytes and by the tests
module _ (rs : List Row) (s : Text) where
  first : (j : ℕ) → j < length rs → is_row (rows_bytes rs ++ s) j ≡ true
  first j h = (front_rows rs s j h).0

  at_neither : Neither s → Located (rows_bytes rs ++ s) 16 (6 * length rs)
  at_neither h =
      let b = Rows.behind rs s in
      let n = not_either h in
      record {
        k = length rs;
        place = refl;
        rows = first;
        fault = broken_16 (b.end ∙ n.0) (broken_none (rows_bytes rs ++ s) (length rs) (b.row ∙ n.1));
      }

module _ (rs : List Row) (r : Row) (s : Text) where
  abbrev whole_at : Text
  whole_at = rows_bytes rs ++ (row_bytes r ++ s)

  is_row_lem : is_row whole_at (length rs) ≡ true
  is_row_lem = (Rows.behind rs (row_bytes r ++ s)).row ∙ (is_first r s).0

  is_at : row_at whole_at (length rs) ≡ r
  is_at = (Rows.behind rs (row_bytes r ++ s)).at ∙ (is_first r s).2

  at_row : {n : ℕ} → Tested whole_at (length rs) n → Located whole_at n (6 * length rs)
  at_row f = record { k = length rs; place = refl; rows = first rs (row_bytes r ++ s); fault = f }

located : {t : Text} {n p : ℕ} → TableCondition t n p → Located t n p
located (cut {rs} {s} b h) = rw b.stands (at_neither rs (1 ∷ s) (cut_off h))
located (missing {rs} b) = rw b.stands (at_neither rs [] nothing)
located (unknown {rs} {b} {s} h e f) = rw h.stands (at_neither rs (b ∷ s) (strange e f))
located (row_17 {rs} {r} b e) =
    rw b.stands (at_row rs r b.rest (past_16 (row_no_end (whole_at rs r b.rest) (length rs) (is_row_lem rs r b.rest)) e))
located (over_15 {rs} {r} b h) =
    rw b.stands
    (at_row rs r b.rest
    (broken_16 (row_no_end (whole_at rs r b.rest) (length rs) (is_row_lem rs r b.rest))
    (broken_row (whole_at rs r b.rest) (length rs) (is_row_lem rs r b.rest) ∙ ap (λ (q : Row). ltb 15 q.condition) (is_at rs r b.rest) ∙ lt-ltb 15 r.condition h)))
located (wrong_name {rs} {r} b m) =
    rw b.stands
    (at_row rs r b.rest
    (named_17 (is_row_lem rs r b.rest) (is_misnamed rs (row_bytes r ++ b.rest) (rw (is_at rs r b.rest) m))))

-- the other way, where the first commands are rows
module _ (rs : List Row) (s t : Text) (e : t ≡ rows_bytes rs ++ s) where
  here_row : is_row t (length rs) ≡ true → RowBehind rs (row_at t (length rs)) t
  here_row r =
      let b = Rows.behind rs s in
      let f : is_row s 0 ≡ true = sym b.row ∙ rw (← e) r in
      let w = whole s f in
      let g : row_at t (length rs) ≡ row_at s 0 = rw e b.at in
      record { rest = w.0; stands = e ∙ ap (λ (x : Text). rows_bytes rs ++ x) w.1 ∙ ap (λ (q : Row). rows_bytes rs ++ (row_bytes q ++ w.0)) (sym g) }

  here_neither : is_end t (length rs) ≡ false → is_row t (length rs) ≡ false → TableCondition t 16 (6 * length rs)
  here_neither f r = let b = Rows.behind rs s in go (neither s (sym b.end ∙ rw (← e) f) (sym b.row ∙ rw (← e) r)) e
    where
      go : {x : Text} → Neither x → t ≡ rows_bytes rs ++ x → TableCondition t 16 (6 * length rs)
      go nothing h = missing {rs = rs} (record { stands = h })
      go (cut_off l) h = cut {rs = rs} (record { stands = h }) l
      go (strange u v) h = unknown {rs = rs} (record { stands = h }) u v

  by_tests : {n : ℕ} → Tested t (length rs) n → TableCondition t n (6 * length rs)
  by_tests (broken_16 f b) = go (is_row t (length rs)) refl
    where
      go : (x : Bool) → is_row t (length rs) ≡ x → TableCondition t 16 (6 * length rs)
      go true r = over_15 (here_row r) (ltb-true 15 (row_at t (length rs)).condition (sym (broken_row t (length rs) r) ∙ b))
      go false r = here_neither f r
  by_tests (past_16 f k) = go (is_row t (length rs)) refl
    where
      go : (x : Bool) → is_row t (length rs) ≡ x → TableCondition t 16 (6 * length rs)
      go true r = row_17 (here_row r) k
      go false r = here_neither f r
  by_tests (named_17 r m) = wrong_name (here_row r) (rw (← e) at (misnamed_is rs s (rw (← e) m)))

condition : (t : Text) (k : ℕ) {n : ℕ} → ((j : ℕ) → j < k → is_row t j ≡ true) → Tested t k n → TableCondition t n (6 * k)
condition t k {n} h f =
    let a = all_rows k t h in
    rw a.3 at (by_tests a.0 a.1 t a.2 {n = n} (rw a.3 f))

-- ---- the walk over the commands
data Judged (t : Text) : Answer ℕ → Type 0 where
  passes : {n : ℕ} → AllGood t n → n ≤ 16 → is_end t n ≡ true → Judged t (accepted n)
  stops : {n k : ℕ} → AllGood t k → k ≤ 16 → Tested t k n → (n ≡ 17 → (broken t k ≡ false) × (k < 16)) → Judged t (refused n (6 * k))

one_more : (t : Text) (k : ℕ) → AllGood t k → Good t k → AllGood t (suc k)
one_more t k b g j l = go (compared j k)
  where
    go : Compared j k → Good t j
    go (less h) = b j h
    go (more h) = absurd (omega arith)
    go (equal h) = rw h g

judged : (t : Text) (left k : ℕ) → k + left ≡ 16 → AllGood t k → Judged t (check_from left t k)
unfolding check_from refuse_if
judged t zero k s b = go (is_end t k) refl
  where
    go : (x : Bool) → is_end t k ≡ x → Judged t (cond x (accepted k) (refused 16 (6 * k)))
    go true e = passes b (omega arith) e
    go false e = stops b (omega arith) (past_16 e (omega arith)) (λ z. absurd (omega arith))
judged t (suc left) k s b = go (is_end t k) refl (broken t k) refl (misnamed t k) refl (λ u. judged t left (suc k) (omega arith) u)
  where
    go : (x : Bool) → is_end t k ≡ x → (y : Bool) → broken t k ≡ y → (z : Bool) → misnamed t k ≡ z
        → (AllGood t (suc k) → Judged t (check_from left t (suc k)))
        → Judged t (cond x (accepted k) (refuse_if y 16 (6 * k) (refuse_if z 17 (6 * k) (check_from left t (suc k)))))
    go true e y f z g ih = passes b (omega arith) e
    go false e true f z g ih = stops b (omega arith) (broken_16 e f) (λ u. absurd (omega arith))
    go false e false f true g ih = stops b (omega arith) (named_17 (good_row t k f) g) (λ u. (f, omega arith))
    go false e false f false g ih = ih (one_more t k b (record { row = good_row t k f; fine = f; named = g }))

all_judged : (t : Text) → Judged t (checked t)
unfolding checked
all_judged t = judged t 16 0 refl (λ j l. absurd (omega arith))

-- ---- no condition at a good row, nor after an end
not_good : (t : Text) (k : ℕ) {n : ℕ} → k < 16 → Good t k → Tested t k n → ⊥
not_good t k l g (broken_16 e b) = let u = sym g.fine ∙ b in clash cc
not_good t k l g (past_16 e h) = omega arith
not_good t k l g (named_17 r m) = let u = sym g.named ∙ m in clash cc

not_end : (t : Text) (k : ℕ) {n : ℕ} → is_end t k ≡ true → Tested t k n → ⊥
not_end t k e (broken_16 f b) = let u = sym e ∙ f in clash cc
not_end t k e (past_16 f h) = let u = sym e ∙ f in clash cc
not_end t k e (named_17 r m) = end_or_row t k e r

before_good : (t : Text) (k m q : ℕ) → AllGood t k → k ≤ 16 → q < 6 * k → ¬ TableCondition t m q
before_good t k m q b l h c = let f = located c in let p = f.place in let z : f.k < k = omega arith in not_good t f.k (omega arith) (b f.k z) f.fault

none_at_all : (t : Text) (n m q : ℕ) → AllGood t n → n ≤ 16 → is_end t n ≡ true → ¬ TableCondition t m q
none_at_all t n m q b l e c = go (located c)
  where
    go : Located t m q → ⊥
    go f = by (compared f.k n)
      where
        by : Compared f.k n → ⊥
        by (less h) = not_good t f.k (omega arith) (b f.k h) f.fault
        by (more h) = end_or_row t n e (f.rows n h)
        by (equal h) = not_end t f.k (rw h e) f.fault

-- 16 is the first of the two
alone : {m n k : ℕ} → Ahead m n (k ∷ []) → ⊥
alone (ahead e i) = elim i [ ]
alone (behind a) = elim a [ ]

none_ahead : (t : Text) (k m n : ℕ) → (n ≡ 17 → (broken t k ≡ false) × (k < 16)) → Tested t k n → Ahead m n (16 ∷ 17 ∷ []) → ¬ TableCondition t m (6 * k)
none_ahead t k m n f g (ahead e (here h)) c =
    let l = located c in
    let p = l.place in
    let z : l.k ≡ k = omega arith in
    let w = f h in
    broken_only (rw (z, e) at l.fault) w.0 w.1
  where
    broken_only : Tested t k 16 → broken t k ≡ false → k < 16 → ⊥
    broken_only (broken_16 u v) x y = let a = sym x ∙ v in clash cc
    broken_only (past_16 u v) x y = omega arith
none_ahead t k m n f g (behind a) c = alone a
none_ahead t k m n f g (ahead e (there i)) c = elim i [ ]

one_of : {t : Text} {k n : ℕ} → Tested t k n → OneOf n (16 ∷ 17 ∷ [])
one_of (broken_16 e b) = here refl
one_of (past_16 e h) = here refl
one_of (named_17 r m) = there (here refl)

runs : (t : Text) → Runs (TableCondition t) loading (checked t)
runs t = go (all_judged t)
  where
    go : {x : Answer ℕ} → Judged t x → Runs (TableCondition t) loading x
    go (passes {n} b l e) = pass_lines (λ m q i. none_at_all t n m q b l e) done
    go (stops {n} {k} b l f g) =
        stop_line (one_of f) (condition t k (λ j h. (b j h).row) f) (λ m q i h. before_good t k m q b l h) (λ m a. none_ahead t k m n g f a)

pub load_known : (t : Text) (n p : ℕ) → TableCondition t n p → Checked n loading
unfolding is_checked
load_known t n p (cut b h) = checked_by 16 loading refl
load_known t n p (missing b) = checked_by 16 loading refl
load_known t n p (unknown b e f) = checked_by 16 loading refl
load_known t n p (row_17 b e) = checked_by 16 loading refl
load_known t n p (over_15 b h) = checked_by 16 loading refl
load_known t n p (wrong_name b m) = checked_by 17 loading refl

pub load_answered : (t : Text) → Runs (TableCondition t) loading (loaded t)
unfolding loaded
load_answered t = and_then_lem (TableCondition t) [] (checked t) (λ n. accepted (rows t)) (runs t) (λ n e. done)

pub load_refuses_exactly : LoadRefusesExactly
unfolding LoadRefusesExactly apart
load_refuses_exactly t = refuses_exactly (TableCondition t) loading (are_apart loading refl) (load_known t) (loaded t) (load_answered t)

-- ---- the names of rows
broken_on : (r : Row) (t : Text) (k : ℕ) → broken (row_bytes r ++ t) (suc k) ≡ broken t k
unfolding broken condition_of
broken_on r t k = rw (row_on r t k) (ap (λ (q : Row). not (is_row t k) || ltb 15 q.condition) (at_on r t k))

rows_on : (r : Row) (t : Text) (left k : ℕ) → rows_from left (row_bytes r ++ t) (suc k) ≡ rows_from left t k
unfolding rows_from row_of four_of condition_of
rows_on r t zero k = refl
rows_on r t (suc left) k =
    rw (broken_on r t k, rows_on r t left (suc k))
    (ap (λ (q : Row). cond (broken t k) [] (mnemonic (unpadded (four q)) (branch q.condition) ∷ rows_from left t (suc k))) (at_on r t k))

-- rows each with a condition
abbrev Conditions : List Row → Type 0
Conditions rs = (front : List Row) (r : Row) (back : List Row) → rs ≡ front ++ (r ∷ back) → r.condition ≤ 15

names_are : (rs : List Row) (s : Text) (left : ℕ) → length rs ≤ left → Conditions rs → is_row s 0 ≡ false → Named rs (rows_from left (rows_bytes rs ++ s) 0)
unfolding rows_bytes rows_from row_of four_of condition_of
names_are [] s zero l c e = no_row
names_are [] s (suc left) l c e = rw (broken_none s 0 e) no_row
names_are (r ∷ rs) s zero l c e = absurd (omega arith)
names_are (r ∷ rs) s (suc left) l c e =
    let f = is_first r (rows_bytes rs ++ s) in
    let fine : broken (row_bytes r ++ (rows_bytes rs ++ s)) 0 ≡ false =
    broken_row (row_bytes r ++ (rows_bytes rs ++ s)) 0 f.0 ∙ le-ltb 15 r.condition (c [] r rs refl) in
    rw (fine, rows_on r (rows_bytes rs ++ s) left 0)
    (row (padded_is (four r)) (names_are rs s left (omega arith) (λ front q back g. c (r ∷ front) q back (ap (λ (x : List Row). r ∷ x) g)) e))

named_once : {rs : List Row} {ms ns : List Mnemonic} → Named rs ms → Named rs ns → ms ≡ ns
named_once no_row no_row = refl
named_once (row {n = m} p h) (row {n = n} q k) =
    let e : m ≡ n = is_padded p ∙ sym (is_padded q) in
    let f = named_once h k in
    rw (e, f)

-- ---- a table's rows, cut at one of them
bytes_append : (ps qs : List Row) → rows_bytes (ps ++ qs) ≡ rows_bytes ps ++ rows_bytes qs
unfolding rows_bytes
bytes_append [] qs = refl
bytes_append (r ∷ ps) qs = ap (λ (x : Text). row_bytes r ++ x) (bytes_append ps qs)

-- the row r of such a table
row_there : (front : List Row) (r : Row) (back : List Row) (s : Text) → rows_bytes (front ++ (r ∷ back)) ++ s ≡ rows_bytes front ++ (row_bytes r ++ (rows_bytes back ++ s))
unfolding rows_bytes
row_there front r back s = rw (bytes_append front (r ∷ back)) (append_assoc (rows_bytes front) (row_bytes r ++ rows_bytes back) s)

cut_at_lem : (rs : List Row) (j : ℕ) → j < length rs → (front : List Row) × (r : Row) × (back : List Row) × (rs ≡ front ++ (r ∷ back)) × (length front ≡ j)
cut_at_lem [] j h = absurd (omega arith)
cut_at_lem (q ∷ rs) zero h = ([], q, rs, refl, refl)
cut_at_lem (q ∷ rs) (suc j) h =
    let c = cut_at_lem rs j (omega arith) in
    (q ∷ c.0, c.1, c.2, ap (λ (x : List Row). q ∷ x) c.3, ap suc c.4)

-- right rows are good by the tests, and good ones right
module _ (front : List Row) (r : Row) (back : List Row) (s t : Text) (e : t ≡ rows_bytes (front ++ (r ∷ back)) ++ s) where
  there_at : t ≡ rows_bytes front ++ (row_bytes r ++ (rows_bytes back ++ s))
  there_at = e ∙ row_there front r back s

  is_row_there : is_row t (length front) ≡ true
  is_row_there = rw there_at (is_row_lem front r (rows_bytes back ++ s))

  is_at_there : row_at t (length front) ≡ r
  is_at_there = rw there_at (is_at front r (rows_bytes back ++ s))

  row_right : Good t (length front) → (r.condition ≤ 15) × (¬ Misnamed front r)
  row_right g = (
    ltb-false 15 r.condition (ap (λ (q : Row). ltb 15 q.condition) (sym is_at_there) ∙ sym (broken_row t (length front) is_row_there) ∙ g.fine),
    λ m.
        let u : misnamed t (length front) ≡ true = rw there_at (is_misnamed front (row_bytes r ++ (rows_bytes back ++ s)) (rw (is_at front r (rows_bytes back ++ s)) m)) in
        let v = sym u ∙ g.named in
        clash cc,
  )

  right_row : r.condition ≤ 15 → ¬ Misnamed front r → Good t (length front)
  right_row c m =
      record {
        row = is_row_there;
        fine = broken_row t (length front) is_row_there ∙ ap (λ (q : Row). ltb 15 q.condition) is_at_there ∙ le-ltb 15 r.condition c;
        named = go (misnamed t (length front)) refl;
      }
    where
      go : (x : Bool) → misnamed t (length front) ≡ x → x ≡ false
      go false f = refl
      go true f =
          absurd (m (rw (is_at front r (rows_bytes back ++ s)) at (misnamed_is front (row_bytes r ++ (rows_bytes back ++ s)) (rw there_at at f))))

-- ---- accepted tables
zero_ends : (x : Text) → is_end (0 ∷ x) 0 ≡ true
unfolding is_end
zero_ends x = rw (lt-ltb 0 (suc (length x)) (omega arith))

zero_no_row : (x : Text) → is_row (0 ∷ x) 0 ≡ false
zero_no_row x = go (is_row (0 ∷ x) 0) refl
  where
    go : (y : Bool) → is_row (0 ∷ x) 0 ≡ y → y ≡ false
    go false h = refl
    go true h = absurd (end_or_row (0 ∷ x) 0 (zero_ends x) h)

names_in : (rs : List Row) (x t : Text) → t ≡ rows_bytes rs ++ (0 ∷ x) → length rs ≤ 16 → Conditions rs → Named rs (rows t)
unfolding rows
names_in rs x t e l c = rw e (names_are rs (0 ∷ x) 16 l c (zero_no_row x))

good_table : (t : Text) (n : ℕ) → AllGood t n → n ≤ 16 → is_end t n ≡ true → Accepted t (rows t)
good_table t n b l e =
    let a = all_rows n t (λ j h. (b j h).row) in
    let rs = a.0 in
    let f : t ≡ rows_bytes rs ++ a.1 = a.2 in
    let same = Rows.behind rs a.1 in
    let z : is_end t (length rs) ≡ true = rw a.3 e in
    let i : is_end a.1 0 ≡ true = sym same.end ∙ rw (← f) z in
    let w = ended a.1 i in
    let u : t ≡ rows_bytes rs ++ (0 ∷ w.0) = f ∙ ap (λ (x : Text). rows_bytes rs ++ x) w.1 in
    let right : (front : List Row) (r : Row) (back : List Row) → rs ≡ front ++ (r ∷ back) → (r.condition ≤ 15) × (¬ Misnamed front r) =
    λ front r back g. row_right front r back a.1 t (f ∙ ap (λ (x : List Row). rows_bytes x ++ a.1) g)
    (b (length front) (omega (arith, a.3, simp length-append at (ap length g)))) in
    record {
      rows = rs;
      rest = w.0;
      stands = record { stands = u };
      most = omega (arith, a.3);
      right = right;
      named = names_in rs w.0 t u (omega (arith, a.3)) (λ front r back g. (right front r back g).0);
    }

-- its rows are good, and after them it ends
table_good : (t : Text) (ns : List Mnemonic) (a : Accepted t ns) → AllGood t (length a.rows) × (is_end t (length a.rows) ≡ true)
table_good t ns a = (
  λ j h.
      let c = cut_at_lem a.rows j h in
      let e : t ≡ rows_bytes (c.0 ++ (c.1 ∷ c.2)) ++ (0 ∷ a.rest) = a.stands.stands ∙ ap (λ (x : List Row). rows_bytes x ++ (0 ∷ a.rest)) c.3 in
      let r = a.right c.0 c.1 c.2 c.3 in
      rw c.4 at (right_row c.0 c.1 c.2 (0 ∷ a.rest) t e r.0 r.1),
  rw a.stands.stands ((Rows.behind a.rows (0 ∷ a.rest)).end ∙ zero_ends a.rest),
)

pub load_accepts_exactly : LoadAcceptsExactly
unfolding LoadAcceptsExactly loaded and_then
load_accepts_exactly t ns = (λ e. to (checked t) (all_judged t) e, λ a. from a (checked t) (all_judged t))
  where
    to : (x : Answer ℕ) → Judged t x → and_then x (λ n. accepted (rows t)) ≡ accepted ns → Accepted t ns
    to (accepted n) (passes b l h) e = let z : rows t ≡ ns = cc in rw z at (good_table t n b l h)
    to (refused m q) j e = clash cc

    from : Accepted t ns → (x : Answer ℕ) → Judged t x → and_then x (λ n. accepted (rows t)) ≡ accepted ns
    from a (accepted n) (passes b l h) =
        ap accepted (named_once (names_in a.rows a.rest t a.stands.stands a.most (λ front r back g. (a.right front r back g).0)) a.named)
    from a (refused m q) (stops {n} {k} b l f g) =
        let h = table_good t ns a in
        absurd (none_at_all t (length a.rows) n (6 * k) h.0 a.most h.1 (condition t k (λ j i. (b j i).row) f))
