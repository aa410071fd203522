-- Why a line has no word: the call's answer on a line, by what the first pass came to. Assumes nothing.
use Rattle.std.specs.Prelude.{None, Some, slice_get}
use Rattle.std.proofs.lemmas.Option.{none-some, same_Some}
use Prim.Native.Nat.{ℕ, zero, suc, ◌<◌, ◌≤◌}
use mathlib.Core.Path.{◌≡◌, refl, ap}
use mathlib.Core.Bool.{Bool, true, false, cond}
use mathlib.Core.List.{List, [], ◌∷◌, ◌++◌, map}
use native.Mathlib.Omega.{arith}
use borrow.Author.Tests.{ltb-true, lt-ltb}
use lib.Dec.{ltb}
use lib.ListN.{length, length-append, length-map}
use Rattle.rules.specs.Text.{Text, cut_at}
use Rattle.rules.specs.Encode.{Mnemonic}
use Rattle.rules.specs.Answer.{accepted, refused, and_then}
use Rattle.rules.specs.Assemble.{Put, Pass, pass_at}
use Rattle.requests.specs.Explain.{not_instruction, Verdict, because, why_task, verdicts, verdict_at, told_line, explain_all_by, explain_by}

-- ---- a list with a last element, by index
module _ {A B : Type 0} (f : A → B) where
  mapped : (xs : List A) (ys : List B) (j : ℕ) (x : A) → slice_get xs j ≡ Some x → slice_get (map f xs ++ ys) j ≡ Some (f x)
  mapped [] ys j x e = absurd (none-some x e)
  mapped (y ∷ xs) ys zero x e = ap (λ z. Some (f z)) (same_Some y x e)
  mapped (y ∷ xs) ys (suc j) x e = mapped xs ys j x e

  last : (xs : List A) (y : B) (j : ℕ) → length xs ≡ j → slice_get (map f xs ++ (y ∷ [])) j ≡ Some y
  last [] y zero e = refl
  last [] y (suc j) e = absurd (omega arith)
  last (x ∷ xs) y zero e = absurd (omega arith)
  last (x ∷ xs) y (suc j) e = last xs y j (omega arith)

past : {A : Type 0} (xs : List A) (j : ℕ) → length xs ≤ j → slice_get xs j ≡ None
past [] j h = refl
past (x ∷ xs) zero h = absurd (omega arith)
past (x ∷ xs) (suc j) h = past xs j (omega arith)

-- ---- one line's verdict is that of all lines
module _ (names : List Mnemonic) (base : ℕ) (s : Text) where
  pub one_of_all : (vs : List Verdict) → explain_all_by names base s ≡ accepted vs → (n : ℕ) → explain_by names base s n ≡ told_line n (verdict_at n vs)
  unfolding explain_by and_then
  one_of_all vs e n = rw e

  -- a source that is refused, and one that is not
  pub all_refused : (m q : ℕ) → pass_at base s ≡ refused m q → explain_all_by names base s ≡ refused m q
  unfolding explain_all_by and_then
  all_refused m q e = rw e

  pub one_refused : (m q : ℕ) → pass_at base s ≡ refused m q → (n : ℕ) → explain_by names base s n ≡ refused m q
  unfolding explain_by and_then
  one_refused m q e n = rw (all_refused m q e)

  pub all_told : (p : Pass) → pass_at base s ≡ accepted p → explain_all_by names base s ≡ accepted (verdicts names s p)
  unfolding explain_all_by and_then
  all_told p e = rw e

-- ---- each line of a source that is not refused
module _ (names : List Mnemonic) (base : ℕ) (s : Text) (p : Pass) (accepts : pass_at base s ≡ accepted p) where
  told : (n : ℕ) → explain_by names base s n ≡ told_line n (verdict_at n (verdicts names s p))
  told n = one_of_all names base s (verdicts names s p) (all_told names base s p accepts) n

  -- lines count from 1
  pub line_0 : explain_by names base s 0 ≡ refused 13 0
  unfolding told_line verdict_at
  line_0 = told 0

  -- a line that asks for something
  pub line_asks : (j : ℕ) (x : Put) → slice_get p.puts j ≡ Some x
      → explain_by names base s (suc j) ≡ accepted (why_task names p.labels x.address x.task)
  unfolding told_line verdict_at verdicts
  line_asks j x e = rw (told (suc j), mapped (λ (k : Put). why_task names p.labels k.address k.task) p.puts _ j x e)

  -- END, where there are more lines than ask for something
  pub line_ends : (j : ℕ) → length p.puts ≡ j → j < length (cut_at 10 s) → explain_by names base s (suc j) ≡ accepted (because not_instruction)
  unfolding told_line verdict_at verdicts
  line_ends j e h =
      let more = lt-ltb (length p.puts) (length (cut_at 10 s)) (omega arith) in
      rw (told (suc j), more, last (λ (k : Put). why_task names p.labels k.address k.task) p.puts (because not_instruction) j e)

  -- a line after END, and one past the last
  unread : (j : ℕ) → length (verdicts names s p) ≤ j → explain_by names base s (suc j) ≡ refused 13 (suc j)
  unfolding told_line verdict_at
  unread j h = rw (told (suc j), past (verdicts names s p) j h)

  verdict_count : (x : Bool) → ltb (length p.puts) (length (cut_at 10 s)) ≡ x → length (verdicts names s p) ≡ cond x (suc (length p.puts)) (length p.puts)
  unfolding verdicts
  verdict_count true e = rw e (simp (length-append, length-map) (omega arith))
  verdict_count false e = rw e (simp (length-append, length-map) (omega arith))

  pub line_after_end : (j : ℕ) → length p.puts < j → explain_by names base s (suc j) ≡ refused 13 (suc j)
  line_after_end j h = unread j (go (ltb (length p.puts) (length (cut_at 10 s))) refl)
    where
      go : (x : Bool) → ltb (length p.puts) (length (cut_at 10 s)) ≡ x → length (verdicts names s p) ≤ j
      go true e = omega (arith, verdict_count true e)
      go false e = omega (arith, verdict_count false e)

  pub line_past_last : (j : ℕ) → length p.puts ≤ j → length (cut_at 10 s) ≤ j → explain_by names base s (suc j) ≡ refused 13 (suc j)
  line_past_last j h i = unread j (go (ltb (length p.puts) (length (cut_at 10 s))) refl)
    where
      go : (x : Bool) → ltb (length p.puts) (length (cut_at 10 s)) ≡ x → length (verdicts names s p) ≤ j
      go true e = omega (arith, verdict_count true e, ltb-true (length p.puts) (length (cut_at 10 s)) e)
      go false e = omega (arith, verdict_count false e)
