-- Laws of a list that is put into another: in two parts, from its front, and from its end. Assumes nothing.
use Prim.Native.Nat.{ℕ, suc, ◌+◌, ◌<◌, ◌≤◌}
use mathlib.Core.Path.{◌≡◌, refl, sym, ap, ◌∙◌}
use mathlib.Core.List.{List, [], ◌∷◌, ◌++◌, append_assoc}
use native.Mathlib.Nat.{add-zero, zero-add, add_assoc}
use native.Mathlib.Numerals.{add-one}
use native.Mathlib.Omega.{arith}
use lib.ListN.{length, take, drop, get_or, set, length-append, length-drop, length-set, take-append-drop}
use lib.Seq.{length-take-le, take_at, drop_at, drop-drop, set_split, take-set-le, drop-cons}
use Rattle.rules.specs.Assemble.{over}
use Rattle.text.specs.Spans.{over_from}

module _ (i j : ℕ) (a l : List ℕ) (e : j ≡ i + length a) (h : i ≤ length l) where
  pub front_length : length (take i l ++ a) ≡ j
  front_length = rw (length-append (take i l) a, length-take-le i l h) (sym e)

  pub put_front : over_from i a l ≡ (take i l ++ a) ++ drop j l
  unfolding over_from
  put_front = rw (append_assoc, e)

  after_front : (b : List ℕ) → over_from j b ((take i l ++ a) ++ drop j l) ≡ over_from i (a ++ b) l
  unfolding over_from
  after_front b =
      rw
      (take_at (take i l ++ a) (drop j l) j front_length, ← (drop-drop (length b) j ((take i l ++ a) ++ drop j l)), drop_at (take i l ++ a) (drop j l) j front_length, drop-drop (length b) j l, length-append a b, e, add_assoc)
      (simp append_assoc)

  -- a, and b after it
  pub put_both : (b : List ℕ) → over_from i (a ++ b) l ≡ over_from j b (over_from i a l)
  put_both b = sym (ap (over_from j b) put_front ∙ after_front b)

pub set_put : (i v : ℕ) (l : List ℕ) → i < length l → set l i v ≡ over_from i (v ∷ []) l
unfolding over_from
set_put i v l h = rw (set_split l i v h, add-one i)

-- the first one is set, and the others are put after it
pub put_one : (i j v : ℕ) (s l : List ℕ) → j ≡ i + 1 → i < length l → over_from i (v ∷ s) l ≡ over_from j s (set l i v)
put_one i j v s l e h = put_both i j (v ∷ []) l e (omega arith) s ∙ ap (over_from j s) (sym (set_put i v l h))

drop_set : (i v : ℕ) (l : List ℕ) → i < length l → drop i (set l i v) ≡ v ∷ drop (suc i) l
drop_set i v l h = ap (drop i) (set_split l i v h) ∙ drop_at (take i l) (v ∷ drop (suc i) l) i (length-take-le i l (omega arith))

-- the last one is set, and the others are put before it
pub put_last : (i v : ℕ) (s l : List ℕ) → i + length s < length l → over_from i (s ++ (v ∷ [])) l ≡ over_from i s (set l (i + length s) v)
unfolding over_from
put_last i v s l h =
    let j = i + length s in
    let next : i + (length s + 1) ≡ suc j = omega arith in
    rw (take-set-le i l j v (omega arith), drop_set j v l h, length-append s (v ∷ []), next, append_assoc)

pub put_nil : (i : ℕ) (l : List ℕ) → over_from i [] l ≡ l
unfolding over_from
put_nil i l = rw (add-zero i) (take-append-drop i l)

pub put_over : (s l : List ℕ) → over_from 0 s l ≡ over s l
unfolding over_from over
put_over s l = rw (zero-add (length s))

pub length_put : (i : ℕ) (s l : List ℕ) → i + length s ≤ length l → length (over_from i s l) ≡ length l
unfolding over_from
length_put i s l h =
    rw (length-append (take i l) (s ++ drop (i + length s) l), length-append s (drop (i + length s) l), length-drop (i + length s) l, length-take-le i l (omega arith)) (omega arith)

-- ---- a loop that puts a list from its front on: the rest is still to be put, at index i
pub record Putting (start : ℕ) (whole first : List ℕ) (i : ℕ) (rest l : List ℕ) : Type 0 where
  pub long : length l ≡ length first
  pub same : over_from start whole first ≡ over_from i rest l

pub putting_start : (start i : ℕ) (whole rest l : List ℕ) → i ≡ start → rest ≡ whole → Putting start whole l i rest l
putting_start start i whole rest l e f = record { long = refl; same = rw (e, f) }

module _ {start : ℕ} {whole first : List ℕ} {i : ℕ} {rest l : List ℕ} (r : Putting start whole first i rest l) where
  -- the first of the rest is set
  pub putting_one : (j v : ℕ) (b : List ℕ) → rest ≡ v ∷ b → j ≡ i + 1 → i < length l → Putting start whole first j b (set l i v)
  putting_one j v b e p h = record { long = length-set l i v ∙ r.long; same = r.same ∙ rw e (put_one i j v b l p h) }

  -- a part of the rest is put, and last is the list after that
  pub putting_part : (j : ℕ) (a b last : List ℕ) → rest ≡ a ++ b → j ≡ i + length a → i ≤ length l → length last ≡ length l → last ≡ over_from i a l
      → Putting start whole first j b last
  putting_part j a b last e p h k w = record { long = k ∙ r.long; same = r.same ∙ rw (e, w) (put_both i j a l p h b) }

  pub putting_end : rest ≡ [] → l ≡ over_from start whole first
  putting_end e = sym (r.same ∙ rw e (put_nil i l))

-- a rest begins with the element at its index
pub drop_more : (l : List ℕ) (i : ℕ) → i < length l → drop i l ≡ get_or l i 0 ∷ drop (i + 1) l
drop_more l i h = rw (add-one i) (drop-cons l i 0 h)
