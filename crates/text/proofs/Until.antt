-- Laws of the bytes before the first that passes a test: the loops that count them, and the cut there. Assumes nothing.
use mathlib.Core.Path.{◌≡◌, refl, ap, ◌∙◌}
use mathlib.Core.Bool.{Bool, true, false, cond}
use mathlib.Core.List.{[], ◌∷◌}
use Prim.Native.Nat.{ℕ, suc, ◌+◌, ◌-◌, ◌≤◌, ◌<◌}
use native.Mathlib.Numerals.{add-one}
use native.Mathlib.Omega.{arith}
use lib.Dec.{ltb}
use borrow.Author.Tests.{ltb-false}
use lib.ListN.{length, take, drop, get_or, drop_of_length-le, length-drop}
use lib.Seq.{drop-cons, take_all}
use Rattle.std.specs.List.{position, position_or_len}
use Rattle.std.specs.Prelude.{None, Some}
use Rattle.std.proofs.lemmas.List.Recursion.{is_position_or_len}
use Rattle.rules.specs.Text.{Text, on_first, cut_where, other_texts}
use Rattle.text.specs.Pieces.{until}

module _ (f : ℕ → Bool) where
  -- ---- the clauses, by the test
  module _ (b : ℕ) (s : Text) where
    module _ (e : f b ≡ true) where
      pub until_here : until f (b ∷ s) ≡ 0
      unfolding until
      until_here = rw (e, until)

      pub cut_here : cut_where f (b ∷ s) ≡ [] ∷ cut_where f s
      unfolding cut_where
      cut_here = rw (e, cut_where)

    module _ (e : f b ≡ false) where
      pub until_later : until f (b ∷ s) ≡ suc (until f s)
      unfolding until
      until_later = rw (e, until)

      pub cut_later : cut_where f (b ∷ s) ≡ on_first b (cut_where f s)
      unfolding cut_where
      cut_later = rw (e, cut_where)

  pub until_le : (t : Text) → until f t ≤ length t
  unfolding until
  until_le [] = omega arith
  until_le (b ∷ s) = go (f b) refl (until_le s)
    where
      go : (y : Bool) → f b ≡ y → until f s ≤ length s → until f (b ∷ s) ≤ suc (length s)
      go true e ih = omega (arith, until_here b s e)
      go false e ih = omega (arith, until_later b s e)

  -- after them stands a byte that passes, or nothing
  pub until_rest : (t : Text) → until f (drop (until f t) t) ≡ 0
  unfolding until
  until_rest [] = refl
  until_rest (b ∷ s) = go (f b) refl (until_rest s)
    where
      go : (y : Bool) → f b ≡ y → until f (drop (until f s) s) ≡ 0 → until f (drop (until f (b ∷ s)) (b ∷ s)) ≡ 0
      go true e ih = rw (until_here b s e) (until_here b s e)
      go false e ih = rw (until_later b s e) ih

  -- they are the first text of the cut, and the others are those of what is after them
  pub cut_first : (t : Text) → cut_where f t ≡ take (until f t) t ∷ other_texts (cut_where f (drop (until f t) t))
  unfolding until cut_where other_texts on_first
  cut_first [] = refl
  cut_first (b ∷ s) = go (f b) refl (cut_first s)
    where
      go : (y : Bool) → f b ≡ y → cut_where f s ≡ take (until f s) s ∷ other_texts (cut_where f (drop (until f s) s))
          → cut_where f (b ∷ s) ≡ take (until f (b ∷ s)) (b ∷ s) ∷ other_texts (cut_where f (drop (until f (b ∷ s)) (b ∷ s)))
      go true e ih = rw (until_here b s e, cut_here b s e)
      go false e ih = rw (until_later b s e, cut_later b s e) (ap (on_first b) ih)

  -- they are as many as `position` counts
  until_step : (b : ℕ) (s : Text) → until f (b ∷ s) ≡ cond (f b) 0 (1 + until f s)
  until_step b s = go (f b) refl
    where
      go : (y : Bool) → f b ≡ y → until f (b ∷ s) ≡ cond y 0 (1 + until f s)
      go true e = until_here b s e
      go false e = until_later b s e ∙ omega arith

  pub until_position : (t : Text) → until f t ≡ position_or_len f t
  unfolding until
  until_position t = is_position_or_len (until f) f refl until_step t

  -- as `skip_to` finds them from `at` on
  module _ (t : Text) (at : ℕ) where
    rest_is : take (length t - at) (drop at t) ≡ drop at t
    rest_is = take_all (length t - at) (drop at t) (rw length-drop (omega arith))

    pub until_found : (n : ℕ) → Some n ≡ position f (take (length t - at) (drop at t)) → at + n ≡ at + until f (drop at t)
    until_found n e = go (ltb (position_or_len f (drop at t)) (length (drop at t))) (rw rest_is at e)
      where
        go : (y : Bool) → Some n ≡ cond y (Some (position_or_len f (drop at t))) None → at + n ≡ at + until f (drop at t)
        go true q = let z : n ≡ position_or_len f (drop at t) = cc in omega (arith, until_position (drop at t))
        go false q = cc

    pub until_unfound : at ≤ length t → None ≡ position f (take (length t - at) (drop at t)) → length t ≡ at + until f (drop at t)
    until_unfound h e = go (ltb (position_or_len f (drop at t)) (length (drop at t))) refl (rw rest_is at e)
      where
        go : (y : Bool) → ltb (position_or_len f (drop at t)) (length (drop at t)) ≡ y → None ≡ cond y (Some (position_or_len f (drop at t))) None → length t ≡ at + until f (drop at t)
        go true p q = cc
        go false p q = let k = ltb-false (position_or_len f (drop at t)) (length (drop at t)) p in omega (arith, until_le (drop at t), until_position (drop at t), length-drop at t)

  -- ---- a loop that steps over them, from `at`
  -- what it keeps: those that are left lead to the same place
  abbrev pub Stepped : Text → ℕ → ℕ → Type 0
  Stepped t at i = i + until f (drop i t) ≡ at + until f (drop at t)

  module _ (t : Text) (at i : ℕ) where
    pub stepped_all : length t ≡ i → Stepped t at i → length t ≡ at + until f (drop at t)
    unfolding until
    stepped_all h inv = let l : length t ≤ i = omega arith in omega (arith, rw (drop_of_length-le t l) at inv)

    module _ (h : i < length t) where
      pub stepped_stop : f (get_or t i 0) ≡ true → Stepped t at i → i ≡ at + until f (drop at t)
      stepped_stop e inv = omega (arith, until_here (get_or t i 0) (drop (suc i) t) e, rw (drop-cons t i 0 h) at inv)

      pub stepped_more : f (get_or t i 0) ≡ false → Stepped t at i → Stepped t at (i + 1)
      stepped_more e inv = rw (add-one i) (omega (arith, until_later (get_or t i 0) (drop (suc i) t) e, rw (drop-cons t i 0 h) at inv))
