-- What a call gives once the list is known: refusal 7, or the list in the slices. Assumes nothing.
use Rattle.std.proofs.Common.{◌≡◌, ℕ, ◌*◌, ◌≤◌, List, Bool, true, false, ◌||◌, ltb, ltb-false, le-ltb, length, refl, sym, ◌∙◌, arith}
use mathlib.Core.Bool.{false≢true}
use Rattle.rules.specs.Encode.{Mnemonic, encode_by}
use Rattle.rules.specs.Answer.{Answer, accepted, refused, refuse_if, and_then}
use Rattle.rules.specs.Assemble.{Place, Slices, slices, short, room, holding, write_list, second_pass_by}
use Rattle.label.specs.Labelled.{Labelled}
use Rattle.first.specs.Pass.{pass_in}
use Rattle.first.specs.declared.Pass.{Pass}
use Rattle.cells.proofs.Puts.{puts_length}
use Rattle.emit.specs.Places.{Room, placed}
use Rattle.emit.proofs.Callers.{named_two}
use Rattle.emit.specs.declared.places.Places.{Places}
use Rattle.assemble.specs.Assembled.{called, fits}

-- ---- how long a list is
-- "at most two a line"
pub list_few : (ns : List Mnemonic) (labels : Labelled) (cells : List ℕ) (p : Pass) → length (second_pass_by (encode_by ns) (pass_in labels cells p)) ≤ 2 * p.lines
list_few ns labels cells p = omega (arith, puts_length labels.source p.base cells p.lines, named_two ns (pass_in labels cells p))

-- ---- room
none_of : (a b c : Bool) → (a || b || c) ≡ false → (a ≡ false) × (b ≡ false) × (c ≡ false)
none_of false false false e = (refl, refl, refl)
none_of false false true e = absurd (false≢true (sym e))
none_of false true c e = absurd (false≢true (sym e))
none_of true b c e = absurd (false≢true (sym e))

pub has_room : (x : Slices) (n : ℕ) → short x n ≡ false → Room n x
unfolding short
has_room x n s =
    let t = none_of (ltb (length x.addresses) n) (ltb (length x.words) n) (ltb (length x.marks) n) s in
    record { addresses = ltb-false _ n t.0; words = ltb-false _ n t.1; marks = ltb-false _ n t.2 }

-- more room than it needs
pub more_room : (x : Slices) (m n : ℕ) → short x m ≡ false → n ≤ m → short x n ≡ false
unfolding short
more_room x m n s h = let r = has_room x m s in rw (le-ltb (length x.addresses) n (omega (arith, r.addresses)), le-ltb (length x.words) n (omega (arith, r.words)), le-ltb (length x.marks) n (omega (arith, r.marks)))

-- ---- a call by its list
module _ (list : Answer (List Place)) (x : Slices) (r p : ℕ) (e : list ≡ refused r p) where
  pub refusal : refused r p ≡ called list x
  unfolding and_then
  refusal = rw e

  pub refusal_keeps : x ≡ write_list list x
  unfolding write_list
  refusal_keeps = rw e

module _ (l : List Place) (x : Slices) where
  pub fits_ok : short x (length l) ≡ false → accepted tt ≡ fits x l
  unfolding refuse_if
  fits_ok s = rw s

  module _ (n : ℕ) (e : n ≡ length l) where
    pub fits_7 : short x n ≡ true → refused 7 n ≡ fits x l
    unfolding refuse_if
    fits_7 s = let t = rw e at s in rw (t, e)

    pub short_7 : short x n ≡ true → refused 7 n ≡ called (accepted l) x
    unfolding and_then room refuse_if
    short_7 s = let t = rw e at s in rw (t, e)

    pub short_keeps : short x n ≡ true → x ≡ write_list (accepted l) x
    unfolding write_list
    short_keeps s = let t = rw e at s in rw (t, write_list)

    pub listed : short x (length l) ≡ false → accepted n ≡ called (accepted l) x
    unfolding and_then room refuse_if
    listed s = rw (s, e)

  module _ (r p : ℕ) (e : refused r p ≡ fits x l) where
    pub no_room : refused r p ≡ called (accepted l) x
    unfolding and_then room refuse_if
    no_room = go (short x (length l)) refl
      where
        go : (b : Bool) → short x (length l) ≡ b → refused r p ≡ refuse_if (short x (length l)) 7 (length l) (accepted (length l))
        go true s = let d = rw s at e in let u : r ≡ 7 = cc in let v : p ≡ length l = cc in rw (s, u, v)
        go false s = absurd (let d = rw s at e in false≢true cc)

    pub no_room_keeps : x ≡ write_list (accepted l) x
    unfolding write_list refuse_if
    no_room_keeps = go (short x (length l)) refl
      where
        go : (b : Bool) → short x (length l) ≡ b → x ≡ write_list (accepted l) x
        go true s = rw (s, write_list)
        go false s = absurd (let d = rw s at e in false≢true cc)

  pub listed_slices : short x (length l) ≡ false → (q : Places) → placed q ≡ holding l x → {xs ws ms : List ℕ}
      → xs ≡ q.addresses.now → ws ≡ q.words.now → ms ≡ q.marks.now → slices xs ws ms ≡ write_list (accepted l) x
  unfolding write_list
  listed_slices s q h a b c = rw (a, b, c) (h ∙ rw (s, write_list))
