-- Numbers stored in a list: one run after another, two runs apart, in the rest that was lent, and from the front. Assumes nothing.
use mathlib.Core.Path.{◌≡◌, refl, sym, ap, ◌∙◌}
use mathlib.Core.List.{List, [], ◌∷◌, ◌++◌, append-nil}
use Prim.Native.Nat.{ℕ, suc, ◌+◌, ◌-◌, ◌≤◌, ◌<◌}
use native.Mathlib.Nat.{le_refl, add-zero, zero-add}
use native.Mathlib.Omega.{arith}
use lib.ListN.{length, take, drop, set, length-drop, take-append-drop, drop_of_length-le}
use lib.Seq.{sets, sets-eq, set_comm, take-set-le, drop-set-add, take_all}
use borrow.Rule.Slice.PartMut.{put_mid}
use Rattle.rules.specs.Assemble.{over}

pub sets_append : (vs ws l : List ℕ) (i : ℕ) → sets l i (vs ++ ws) ≡ sets (sets l i vs) (i + length vs) ws
sets_append [] ws l i = rw (add-zero i)
sets_append (v ∷ vs) ws l i =
    let e : i + suc (length vs) ≡ suc i + length vs = omega arith in
    rw e (sets_append vs ws (set l i v) (suc i))

-- ---- two runs apart may be stored in either order
set_sets : (vs l : List ℕ) (i j a : ℕ) → i < j → set (sets l j vs) i a ≡ sets (set l i a) j vs
set_sets [] l i j a h = refl
set_sets (v ∷ vs) l i j a h =
    set_sets vs (set l j v) i (suc j) a (omega arith) ∙ ap (λ r. sets r (suc j) vs) (set_comm l j i v a (λ e. omega arith))

pub sets_swap : (vs ws l : List ℕ) (i j : ℕ) → i + length vs ≤ j → sets (sets l j ws) i vs ≡ sets (sets l i vs) j ws
sets_swap [] ws l i j h = refl
sets_swap (v ∷ vs) ws l i j h =
    ap (λ r. sets r (suc i) vs) (set_sets ws l i j v (omega arith)) ∙ sets_swap vs ws (set l i v) (suc i) j (omega arith)

-- ---- the rest of a list was lent, from v on, and came back
take_sets : (v : ℕ) (vs l : List ℕ) (i : ℕ) → v ≤ i → take v (sets l i vs) ≡ take v l
take_sets v [] l i h = refl
take_sets v (a ∷ vs) l i h = take_sets v vs (set l i a) (suc i) (omega arith) ∙ take-set-le v l i a h

drop_sets : (v : ℕ) (vs l : List ℕ) (i : ℕ) → drop v (sets l (v + i) vs) ≡ sets (drop v l) i vs
drop_sets v [] l i = refl
drop_sets v (a ∷ vs) l i =
    let e : suc (v + i) ≡ v + suc i = omega arith in
    rw e (drop_sets v vs (set l (v + i) a) (suc i) ∙ ap (λ r. sets r (suc i) vs) (drop-set-add v l i a))

pub sets_lent : (v m : ℕ) (vs l last : List ℕ) → last ≡ sets (take (length l - v) (drop v l)) m vs → put_mid v (length l - v) l last ≡ sets l (v + m) vs
sets_lent v m vs l last e =
    let short : length (drop v l) ≤ length l - v = rw (length-drop v l) (le_refl (length l - v)) in
    let rest : last ≡ drop v (sets l (v + m) vs) = e ∙ ap (λ r. sets r m vs) (take_all (length l - v) (drop v l) short) ∙ sym (drop_sets v vs l m) in
    rw (drop_of_length-le (drop v l) {i = length l - v} short, append-nil, rest, ← take_sets v vs l (v + m) (omega arith)) (take-append-drop v (sets l (v + m) vs))

-- ---- from the front: the numbers over the list
pub sets_over : (vs l : List ℕ) → length vs ≤ length l → sets l 0 vs ≡ over vs l
unfolding over
sets_over vs l h = sets-eq vs l 0 (omega arith) ∙ rw (zero-add (length vs))
