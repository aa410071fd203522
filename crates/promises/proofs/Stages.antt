-- Checks made one after another: an answer that runs through a list of stages refuses exactly by the first condition that holds,
-- over any stages and any conditions by number and place. Assumes nothing.
use Rattle.std.specs.Prelude.{Option, None, Some}
use Prim.Native.Nat.{ℕ, ◌<◌}
use mathlib.Core.Path.{◌≡◌, refl}
use mathlib.Core.Bool.{Bool, true, false, not, ◌&&◌, ◌||◌}
use mathlib.Core.List.{List, [], ◌∷◌, ◌++◌}
use native.Mathlib.Omega.{arith}
use borrow.Author.Tests.{eqb-true, eqb-false}
use lib.Dec.{eqb}
use Rattle.rules.specs.Answer.{Answer, accepted, refused, refuse_if, refuse_at, and_then}
use Rattle.promises.specs.Refusals.{Lowest}
use Rattle.promises.specs.Stages.{Stage, all, by_line, numbers, OneOf, here, there, Ahead, ahead, behind, Checked, at_once, after, CheckedBefore, by_stage, within_line, on_line, further_on, FirstOf, RefusesExactly}
use Rattle.promises.proofs.Compared.{clash, Compared, less, more, equal, compared}
use Rattle.promises.proofs.RefusalsSearch.{Found, found, nowhere, lowest_once}

-- no number has two stages
abbrev pub Apart : List Stage → Type 0
Apart [] = Unit {0}
Apart (s ∷ ss) = ((n : ℕ) → OneOf n (numbers s) → ¬ Checked n ss) × Apart ss

-- a number of one of the stages, and stages apart, by computation
unfoldable pub is_one_of : ℕ → List ℕ → Bool
is_one_of n [] = false
is_one_of n (k ∷ ns) = eqb n k || is_one_of n ns

unfoldable pub is_checked : ℕ → List Stage → Bool
unfolding is_one_of
is_checked n [] = false
is_checked n (s ∷ ss) = is_one_of n (numbers s) || is_checked n ss

unfoldable pub none_checked : List ℕ → List Stage → Bool
none_checked [] ss = true
none_checked (n ∷ ns) ss = not (is_checked n ss) && none_checked ns ss

unfoldable pub apart : List Stage → Bool
unfolding is_checked none_checked
apart [] = true
apart (s ∷ ss) = none_checked (numbers s) ss && apart ss

-- of tests joined
or_left : (x y : Bool) → x ≡ true → (x || y) ≡ true
or_left true y e = refl
or_left false y e = clash cc

or_right : (x y : Bool) → y ≡ true → (x || y) ≡ true
or_right true y e = refl
or_right false y e = e

pub and_both : (x y : Bool) → (x && y) ≡ true → (x ≡ true) × (y ≡ true)
and_both true y e = (refl, e)
and_both false y e = clash cc

not_true : (x : Bool) → not x ≡ true → x ≡ true → ⊥
not_true true e f = clash cc
not_true false e f = clash cc

-- the tests decide it
one_of : {n : ℕ} {ns : List ℕ} → OneOf n ns → is_one_of n ns ≡ true
unfolding is_one_of
one_of {n} (here {k} {ns} e) = go (eqb n k) refl
  where
    go : (y : Bool) → eqb n k ≡ y → (y || is_one_of n ns) ≡ true
    go true f = refl
    go false f = absurd (eqb-false n k f e)
one_of {n} (there {k} {ns} i) = or_right (eqb n k) (is_one_of n ns) (one_of i)

is_checked_lem : {n : ℕ} {ss : List Stage} → Checked n ss → is_checked n ss ≡ true
unfolding is_checked
is_checked_lem {n} (at_once {s} {ss} i) = or_left (is_one_of n (numbers s)) (is_checked n ss) (one_of i)
is_checked_lem {n} (after {s} {ss} c) = or_right (is_one_of n (numbers s)) (is_checked n ss) (is_checked_lem c)

-- for a number and stages that are written out: `checked_by 5 passing refl`, `not_checked 7 passing refl`, `are_apart passing refl`
pub not_checked : (n : ℕ) (ss : List Stage) → is_checked n ss ≡ false → ¬ Checked n ss
not_checked n ss e c = let f = is_checked_lem c in clash cc

one_of_by : (n : ℕ) (ns : List ℕ) → is_one_of n ns ≡ true → OneOf n ns
unfolding is_one_of
one_of_by n [] e = clash cc
one_of_by n (k ∷ ns) e = go (eqb n k) refl (one_of_by n ns)
  where
    go : (y : Bool) → eqb n k ≡ y → (is_one_of n ns ≡ true → OneOf n ns) → OneOf n (k ∷ ns)
    go true f ih = here (eqb-true n k f)
    go false f ih = there (ih (rw f at e))

pub checked_by : (n : ℕ) (ss : List Stage) → is_checked n ss ≡ true → Checked n ss
unfolding is_checked
checked_by n [] e = clash cc
checked_by n (s ∷ ss) e = go (is_one_of n (numbers s)) refl (checked_by n ss)
  where
    go : (y : Bool) → is_one_of n (numbers s) ≡ y → (is_checked n ss ≡ true → Checked n ss) → Checked n (s ∷ ss)
    go true f ih = at_once (one_of_by n (numbers s) f)
    go false f ih = after (ih (rw f at e))

none_checked_lem : (ns : List ℕ) (ss : List Stage) → none_checked ns ss ≡ true → (n : ℕ) → OneOf n ns → ¬ Checked n ss
unfolding none_checked
none_checked_lem (k ∷ ns) ss e n (here f) c = not_true (is_checked k ss) (and_both (not (is_checked k ss)) (none_checked ns ss) e).0 (is_checked_lem (rw f at c))
none_checked_lem (k ∷ ns) ss e n (there i) c = none_checked_lem ns ss (and_both (not (is_checked k ss)) (none_checked ns ss) e).1 n i c
none_checked_lem [] ss e n i c = elim i [ ]

pub are_apart : (ss : List Stage) → apart ss ≡ true → Apart ss
unfolding apart
are_apart [] e = tt
are_apart (s ∷ ss) e =
    let h = and_both (none_checked (numbers s) ss) (apart ss) e in
    (none_checked_lem (numbers s) ss h.0, are_apart ss h.1)

-- an answer that runs through the stages: it stops at the first condition that holds, or passes them all
pub data Runs (C : ℕ → ℕ → Type 0) {A : Type 0} : List Stage → Answer A → Type 0 where
  done : {a : A} → Runs C [] (accepted a)
  stop : {n p : ℕ} {ss : List Stage} → C n p → ((q : ℕ) → C n q → q ≡ p) → Runs C (all n ∷ ss) (refused n p)
  pass : {n : ℕ} {ss : List Stage} {r : Answer A} → ((q : ℕ) → ¬ C n q) → Runs C ss r → Runs C (all n ∷ ss) r
  stop_line : {n p : ℕ} {ns : List ℕ} {ss : List Stage} → OneOf n ns → C n p → ((m q : ℕ) → OneOf m ns → q < p → ¬ C m q)
      → ((m : ℕ) → Ahead m n ns → ¬ C m p) → Runs C (by_line ns ∷ ss) (refused n p)
  pass_lines : {ns : List ℕ} {ss : List Stage} {r : Answer A} → ((m q : ℕ) → OneOf m ns → ¬ C m q) → Runs C ss r → Runs C (by_line ns ∷ ss) r

-- of two numbers of a line, one stands ahead of the other, or they are one
data Placed (m n : ℕ) (ns : List ℕ) : Type 0 where
  same : m ≡ n → Placed m n ns
  before : Ahead m n ns → Placed m n ns
  behind_it : Ahead n m ns → Placed m n ns

placed : {m n : ℕ} {ns : List ℕ} → OneOf m ns → OneOf n ns → Placed m n ns
placed {m} {n} (here e) (here f) = same (omega arith)
placed (here e) (there j) = before (ahead e j)
placed (there i) (here f) = behind_it (ahead f i)
placed {m} {n} (there {k} {ns} i) (there j) = go (placed i j)
  where
    go : Placed m n ns → Placed m n (k ∷ ns)
    go (same e) = same e
    go (before a) = before (behind a)
    go (behind_it a) = behind_it (behind a)

pub ahead_is : {m n : ℕ} {ns : List ℕ} → Ahead m n ns → OneOf m ns
ahead_is (ahead e i) = here e
ahead_is (behind a) = there (ahead_is a)

ahead_of : {m n : ℕ} {ns : List ℕ} → Ahead m n ns → OneOf n ns
ahead_of (ahead e i) = there i
ahead_of (behind a) = there (ahead_of a)

-- what is checked after something is checked
pub behind_checked : {m q n p : ℕ} {ss : List Stage} → CheckedBefore m q n p ss → Checked n ss
behind_checked (by_stage i c) = after c
behind_checked (within_line i j h) = at_once j
behind_checked (on_line a e) = at_once (ahead_of a)
behind_checked (further_on b) = after (behind_checked b)

-- what is checked is so with more stages after
pub still_checked : {n : ℕ} {ss : List Stage} (ss' : List Stage) → Checked n ss → Checked n (ss ++ ss')
still_checked ss' (at_once i) = at_once i
still_checked ss' (after c) = after (still_checked ss' c)

-- a stage of one number has that one
sole : {m n : ℕ} → OneOf m (n ∷ []) → m ≡ n
sole (here e) = e
sole (there i) = elim i [ ]

-- the first condition of a later stage
first_later : (C : ℕ → ℕ → Type 0) {s : Stage} {ss : List Stage} {n p : ℕ} → FirstOf (s ∷ ss) C n p → FirstOf ss C n p
first_later C h = (h.0, λ m q b. h.1 m q (further_on b))

module _ (C : ℕ → ℕ → Type 0) {A : Type 0} where
  -- a refusal's condition holds
  holds : {ss : List Stage} {n p : ℕ} → Runs C {A = A} ss (refused n p) → C n p
  holds (stop c o) = c
  holds (pass h k) = holds k
  holds (stop_line i c f g) = c
  holds (pass_lines h k) = holds k

  -- and none that is checked before it
  none_before : {ss : List Stage} {n p : ℕ} → Apart ss → Runs C {A = A} ss (refused n p) → (m q : ℕ) → CheckedBefore m q n p ss → ¬ C m q
  none_before {n = n} d (stop c o) m q (by_stage i k) v = d.0 n (here refl) k
  none_before {n = n} d (stop c o) m q (further_on b) v = d.0 n (here refl) (behind_checked b)
  none_before d (pass h k) m q (by_stage i j) v = let e = sole i in h q (rw e at v)
  none_before d (pass h k) m q (further_on b) v = none_before d.1 k m q b v
  none_before {n = n} d (stop_line i c f g) m q (by_stage j k) v = d.0 n i k
  none_before d (stop_line i c f g) m q (within_line j k h) v = f m q j h v
  none_before d (stop_line i c f g) m q (on_line a e) v = g m a (rw e at v)
  none_before {n = n} d (stop_line i c f g) m q (further_on b) v = d.0 n i (behind_checked b)
  none_before d (pass_lines h k) m q (by_stage j i) v = h m q j v
  none_before d (pass_lines h k) m q (within_line j i l) v = h m q j v
  none_before d (pass_lines h k) m q (on_line a e) v = h m q (ahead_is a) v
  none_before d (pass_lines h k) m q (further_on b) v = none_before d.1 k m q b v

  -- the first condition that holds is the refusal
  is_first : {ss : List Stage} {r : Answer A} → Runs C ss r → (n p : ℕ) → Checked n ss → FirstOf ss C n p → r ≡ refused n p
  is_first (stop {n = m} {p = q} c o) n p (at_once i) h = let e = sole i in let f = o p (rw e at h.0) in rw (e, f)
  is_first (stop {n = m} {p = q} c o) n p (after k) h = absurd (h.1 m q (by_stage (here refl) k) c)
  is_first (pass d k) n p (at_once i) h = let e = sole i in absurd (d p (rw e at h.0))
  is_first (pass d k) n p (after j) h = is_first k n p j (first_later C h)
  is_first (stop_line {n = m} {p = q} {ns = ns} i c f g) n p (at_once j) h = go (compared q p) (placed i j)
    where
      go : Compared q p → Placed m n ns → ◌≡◌ {A = Answer A} (refused m q) (refused n p)
      go (less l) r = absurd (h.1 m q (within_line i j l) c)
      go (more l) r = absurd (f n p j l h.0)
      go (equal l) (same e) = rw (l, e)
      go (equal l) (before a) = absurd (h.1 m q (on_line a l) c)
      go (equal l) (behind_it a) = absurd (g n a (rw l h.0))
  is_first (stop_line {n = m} {p = q} i c f g) n p (after k) h = absurd (h.1 m q (by_stage i k) c)
  is_first (pass_lines d k) n p (at_once j) h = absurd (d n p j h.0)
  is_first (pass_lines d k) n p (after j) h = is_first k n p j (first_later C h)
  is_first done n p i h = elim i [ ]

  -- an accepted answer: no condition of its stages holds
  none_checked_holds : {ss : List Stage} {r : Answer A} (a : A) → r ≡ accepted a → Runs C ss r → (m q : ℕ) → Checked m ss → ¬ C m q
  none_checked_holds a f (stop c o) m q k v = clash cc
  none_checked_holds a f (pass h k) m q (at_once i) v = let e = sole i in h q (rw e at v)
  none_checked_holds a f (pass h k) m q (after c) v = none_checked_holds a f k m q c v
  none_checked_holds a f (stop_line i c h g) m q k v = clash cc
  none_checked_holds a f (pass_lines h k) m q (at_once i) v = h m q i v
  none_checked_holds a f (pass_lines h k) m q (after c) v = none_checked_holds a f k m q c v
  none_checked_holds a f done m q k v = elim k [ ]

  -- so an answer whose conditions all have a number in its stages refuses exactly by them
  module _ (ss : List Stage) (d : Apart ss) (known : (n p : ℕ) → C n p → Checked n ss) where
    pub refuses_exactly : (r : Answer A) → Runs C ss r → RefusesExactly ss C r
    refuses_exactly r k n p = (λ e. let g = rw e at k in (holds g, none_before d g), λ h. is_first k n p (known n p h.0) h)

    pub none_holds : (a : A) (r : Answer A) → r ≡ accepted a → Runs C ss r → (m q : ℕ) → ¬ C m q
    none_holds a r e k m q v = none_checked_holds a e k m q (known m q v) v

module _ (C : ℕ → ℕ → Type 0) where
  -- a check by a test that decides its condition
  pub refuse_if_lem : {A : Type 0} {ss : List Stage} (n p : ℕ) (y : Bool) (r : Answer A) → (y ≡ true → C n p) → ((q : ℕ) → C n q → (y ≡ true) × (q ≡ p))
      → (y ≡ false → Runs C ss r) → Runs C (all n ∷ ss) (refuse_if y n p r)
  unfolding refuse_if
  refuse_if_lem n p true r v w g = stop (v refl) (λ q c. (w q c).1)
  refuse_if_lem n p false r v w g = pass (λ q c. let e = (w q c).0 in clash cc) (g refl)

  -- a check by a search
  pub refuse_at_lem : {A : Type 0} {ss : List Stage} (P : ℕ → Type 0) (n c : ℕ) (o : Option ℕ) (r : Answer A) → Found P c o
      → ((p : ℕ) → Lowest P c p → C n p) → ((q : ℕ) → C n q → Lowest P c q) → Runs C ss r → Runs C (all n ∷ ss) (refuse_at o n r)
  unfolding refuse_at
  refuse_at_lem P n c (Some p) r (found h) v w g = stop (v p h) (λ q k. lowest_once P c q p (w q k) h)
  refuse_at_lem P n c None r (nowhere h) v w g = pass (λ q k. let l = w q k in h q l.inside l.holds) g

  -- what follows an accepted answer
  pub and_then_lem : {A B : Type 0} {ss : List Stage} (ss' : List Stage) (r : Answer A) (f : A → Answer B) → Runs C ss r
      → ((a : A) → r ≡ accepted a → Runs C ss' (f a)) → Runs C (ss ++ ss') (and_then r f)
  unfolding and_then
  and_then_lem ss' (accepted a) f done g = g a refl
  and_then_lem ss' (accepted a) f (pass h k) g = pass h (and_then_lem ss' (accepted a) f k g)
  and_then_lem ss' (accepted a) f (pass_lines h k) g = pass_lines h (and_then_lem ss' (accepted a) f k g)
  and_then_lem ss' (refused n p) f (stop c o) g = stop c o
  and_then_lem ss' (refused n p) f (pass h k) g = pass h (and_then_lem ss' (refused n p) f k g)
  and_then_lem ss' (refused n p) f (stop_line i c h l) g = stop_line i c h l
  and_then_lem ss' (refused n p) f (pass_lines h k) g = pass_lines h (and_then_lem ss' (refused n p) f k g)

-- conditions that agree on the numbers of the stages
module _ (C D : ℕ → ℕ → Type 0) where
  pub runs_by : {A : Type 0} (ss : List Stage) (r : Answer A) → ((n p : ℕ) → C n p → D n p) → ((n p : ℕ) → Checked n ss → D n p → C n p) → Runs C ss r → Runs D ss r
  runs_by ss r t f done = done
  runs_by ss r t f (stop {n} {p} c o) = stop (t n p c) (λ q d. o q (f n q (at_once (here refl)) d))
  runs_by ss r t f (pass {n} {ss = ss'} h k) = pass (λ q d. h q (f n q (at_once (here refl)) d)) (runs_by ss' r t (λ m p i. f m p (after i)) k)
  runs_by ss r t f (stop_line {n} {p} i c h g) =
      stop_line i (t n p c) (λ m q j l d. h m q j l (f m q (at_once j) d)) (λ m a d. g m a (f m p (at_once (ahead_is a)) d))
  runs_by ss r t f (pass_lines {ns} {ss = ss'} h k) = pass_lines (λ m q j d. h m q j (f m q (at_once j) d)) (runs_by ss' r t (λ m p i. f m p (after i)) k)
