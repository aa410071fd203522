-- Conditions 6 and 5 over the lines of a pass: what is common to all ways to say them. Assumes nothing.
use Rattle.std.specs.Prelude.{Some, slice_get}
use Prim.Native.Nat.{ℕ, zero, suc, ◌≤◌}
use mathlib.Core.Path.{◌≡◌, refl}
use mathlib.Core.Logic.{◌≢◌}
use mathlib.Core.List.{List, [], ◌∷◌}
use native.Mathlib.Omega.{arith}
use lib.ListN.{drop}
use Rattle.rules.specs.Text.{Text}
use Rattle.rules.specs.Line.{Task, numbered}
use Rattle.rules.specs.Label.{Table}
use Rattle.rules.specs.Answer.{Answer, accepted, refused, and_then}
use Rattle.rules.specs.Assemble.{Sizes, Pass, putting, first_pass_by}
use Rattle.promises.specs.Stages.{by_line, OneOf, here, there, Ahead, ahead, behind}
use Rattle.promises.proofs.Compared.{clash, Compared, less, more, equal, compared}
use Rattle.promises.proofs.Stages.{Runs, done, stop_line, pass_lines}

-- a line from what is left of the lines
pub line_at : (ls : List Text) (j : ℕ) (l : Text) (rest : List Text) → drop j ls ≡ l ∷ rest → (slice_get ls j ≡ Some l) × (drop (suc j) ls ≡ rest)
line_at [] zero l rest e = clash cc
line_at [] (suc j) l rest e = clash cc
line_at (k ∷ ls) zero l rest e = (cc, cc)
line_at (k ∷ ls) (suc j) l rest e = line_at ls j l rest e

-- after the last line there is none
pub no_line : (ls : List Text) (i j : ℕ) (l : Text) → drop j ls ≡ [] → j ≤ i → slice_get ls i ≢ Some l
no_line [] i j l e h f = clash cc
no_line (k ∷ ls) i zero l e h f = clash cc
no_line (k ∷ ls) zero (suc j) l e h f = absurd (omega arith)
no_line (k ∷ ls) (suc i) (suc j) l e h f = no_line ls i j l e (omega arith) f

abbrev pub Lines : ℕ → Type 0
Lines m = OneOf m (6 ∷ 5 ∷ [])

-- one of the two
pub data Either (m : ℕ) : Type 0 where
  six : m ≡ 6 → Either m
  five : m ≡ 5 → Either m

pub either : {m : ℕ} → Lines m → Either m
either (here e) = six e
either (there (here e)) = five e
either (there (there i)) = elim i [ ]

module _ (C : ℕ → ℕ → Type 0) where
  -- neither 5 nor 6 holds at the first j lines
  abbrev pub Fine : ℕ → Type 0
  Fine j = (m q : ℕ) → Lines m → q ≤ j → ¬ C m q

  -- one more line
  pub fine_next : (j : ℕ) → Fine j → ¬ C 5 (suc j) → ¬ C 6 (suc j) → Fine (suc j)
  fine_next j f d e m q r h c = go (compared q (suc j)) (either r)
    where
      go : Compared q (suc j) → Either m → ⊥
      go (less k) i = f m q r (omega arith) c
      go (more k) i = omega arith
      go (equal k) (six u) = e (rw (u, k) at c)
      go (equal k) (five u) = d (rw (u, k) at c)

  -- an answer of the lines: 6 and 5, line by line
  abbrev pub Through : Answer Pass → Type 0
  Through r = Runs C (by_line (6 ∷ 5 ∷ []) ∷ []) r

  -- the first refusal at a line
  pub stop_labels : (j : ℕ) → Fine j → C 6 (suc j) → Through (refused 6 (suc j))
  stop_labels j f c = stop_line (here refl) c (λ m q i h. f m q i (omega arith)) none_ahead
    where
      none_ahead : (m : ℕ) → Ahead m 6 (6 ∷ 5 ∷ []) → ¬ C m (suc j)
      none_ahead m (ahead e (here g)) = absurd (omega arith)
      none_ahead m (behind (ahead e i)) = no_one i
        where
          no_one : OneOf 6 [] → ¬ C m (suc j)
          no_one = elim [ ]
      none_ahead m (ahead e (there i)) = elim i [ ]
      none_ahead m (behind (behind i)) = elim i [ ]

  pub stop_address : (j : ℕ) → Fine j → ¬ C 6 (suc j) → C 5 (suc j) → Through (refused 5 (suc j))
  stop_address j f d c = stop_line (there (here refl)) c (λ m q i h. f m q i (omega arith)) none_ahead
    where
      none_ahead : (m : ℕ) → Ahead m 5 (6 ∷ 5 ∷ []) → ¬ C m (suc j)
      none_ahead m (ahead e i) = rw e d
      none_ahead m (behind (ahead e i)) = no_one i
        where
          no_one : OneOf 5 [] → ¬ C m (suc j)
          no_one = elim [ ]
      none_ahead m (behind (behind i)) = elim i [ ]

  -- no condition at the first j lines, and none after them
  pub clear : (j : ℕ) → Fine j → ((m q : ℕ) → Lines m → C m q → q ≤ j) → (p : Pass) → Through (accepted p)
  clear j f g p = pass_lines (λ m q i c. f m q i (g m q i c) c) done

  -- what a line asks changes no refusal
  pub putting_through : (a : ℕ) (k : Task) (r : Answer Pass) → Through r → Through (and_then r (putting a k))
  unfolding and_then putting
  putting_through a k (accepted p) (pass_lines h done) = pass_lines h done
  putting_through a k (refused n p) h = h

  -- the first pass over the lines ls, after j lines and i bytes
  abbrev pub From : Sizes → (base j i a : ℕ) → Table → List Text → Type 0
  From z base j i a t ls = Through (first_pass_by z base a t (numbered (suc j) i ls))
