-- For whoever calls the mover: what a move leaves, and what an accepted one has passed. Assumes nothing.
use Rattle.std.specs.Prelude.{Option, None, Some}
use Rattle.std.proofs.Common.{◌≡◌, ℕ, ◌≤◌, Bool, true, false, ◌||◌, ltb, List, length, ℤ, refl, arith, ltb-false}
use Rattle.rules.specs.Answer.{Answer, accepted, refused, refuse_if, refuse_at}
use Rattle.rules.specs.Assemble.{Slices, slices, short}
use Rattle.rules.specs.Relocate.{far, first_index, first_bad_mark, move_answer, move_by, move_slices}
use Rattle.relocate.specs.Moves.{leaving}

-- marks stay
keeps_marks : (a : Answer ℕ) (d : ℤ) (x : Slices) → x.marks ≡ (move_by a d x).marks
unfolding move_by
keeps_marks (accepted n) d x = refl
keeps_marks (refused r p) d x = refl

pub move_keeps_marks : (x : Slices) (n : ℕ) (d : ℤ) → x.marks ≡ (move_slices x n d).marks
unfolding move_slices
move_keeps_marks x n d = keeps_marks (move_answer x n d) d x

pub by_slice : (x : Slices) (xs ws ms : List ℕ) → xs ≡ x.addresses → ws ≡ x.words → ms ≡ x.marks → slices xs ws ms ≡ x
by_slice x xs ws ms p q r = rw (p, q, r)

-- a refusal that did not come
past_if : (b : Bool) (r p : ℕ) {n : ℕ} {a : Answer ℕ} → refuse_if b r p a ≡ accepted n → (b ≡ false) × (a ≡ accepted n)
unfolding refuse_if
past_if true r p e = absurd (let z : ◌≡◌ {A = ℕ} 0 1 = cc in omega arith)
past_if false r p e = (refl, e)

past_at : (o : Option ℕ) (r : ℕ) {n : ℕ} {a : Answer ℕ} → refuse_at o r a ≡ accepted n → a ≡ accepted n
unfolding refuse_at
past_at (Some p) r e = absurd (let z : ◌≡◌ {A = ℕ} 0 1 = cc in omega arith)
past_at None r e = e

past_or : (a b : Bool) → (a || b) ≡ false → a ≡ false
past_or true b e = absurd (let z : ◌≡◌ {A = ℕ} 0 1 = cc in omega arith)
past_or false b e = refl

has_places : (x : Slices) (n : ℕ) → short x n ≡ false → n ≤ length x.addresses
unfolding short
has_places x n e = ltb-false _ _ (past_or (ltb (length x.addresses) n) (ltb (length x.words) n) (past_or (ltb (length x.addresses) n || ltb (length x.words) n) (ltb (length x.marks) n) e))

pub accepted_fits : (x : Slices) (n : ℕ) (d : ℤ) (m : ℕ) → move_answer x n d ≡ accepted m → (m ≡ n) × (m ≤ length x.addresses)
unfolding move_answer
accepted_fits x n d m e =
    let p = past_if (short x n) 9 n (past_if (far d) 8 0 e).1 in
    let same : accepted n ≡ accepted m = past_at (first_index (leaving d) 0 n x.addresses) 11 (past_at (first_bad_mark 0 0 n x.marks) 10 p.1) in
    let k : m ≡ n = cc in
    (k, rw k (has_places x n p.0))
