-- What the tally has at a total for each place, in plain integers. Assumes nothing.
use Rattle.std.specs.Prelude.{Option, None, Some, slice_get}
use Rattle.std.proofs.lemmas.Option.{same_Some, none-some}
use Prim.Native.Nat.{ℕ, zero, suc, ◌+◌, ◌*◌, ◌^◌}
use mathlib.Core.Path.{◌≡◌, refl, ap, ◌∙◌}
use mathlib.Core.List.{List, [], ◌∷◌}
use native.Mathlib.Omega.{arith}
use lib.ListN.{length}
use lib.IntN.{ℤ, pos, ◌+ℤ◌}
use Rattle.rules.specs.Answer.{Answer, accepted, refused, refuse_at}
use Rattle.rules.specs.Assemble.{Place}
use Rattle.rules.specs.Relocate.{moved_address, moved_word, added_word, added_high}
use Rattle.rules.specs.Tally.{Tallied, first_outside, tally_answer, add_if, new_total, first_word, moved_place, tally_list, tallied}
use Rattle.promises.specs.Refusals.{Congruent}
use Rattle.promises.proofs.Accepted.{not_refused}
use Rattle.promises.proofs.Compared.{clash}
use Rattle.promises.proofs.RefusalsWritten.{pair_congruent}
use Rattle.promises.proofs.Lists.{All, all_at}
use Rattle.promises.proofs.Residues.{pair_added, low_lt}
use Rattle.promises.proofs.Twice.{Reached, inside_reached, reached_zero, none_inside}
use Rattle.promises_calls.specs.TallyPlaces.{PlaceAt, TallyPlaces}

-- a word with mark 1, as the low one of a pair with 0
word_congruent : (d : ℤ) (w : ℕ) → Congruent 65536 (pos (added_word d w)) (pos w +ℤ d)
word_congruent d w =
    let c = pair_congruent d 0 w in
    let p = pair_added d 0 w in
    let low : 65536 * 0 + w ≡ w = omega arith in
    let times : 2 ^ 32 * c.down ≡ 65536 * (65536 * c.down) = omega arith in
    record { up = added_high d 0 w + 65536 * c.up; down = 65536 * c.down; meet = ap pos (omega arith) ∙ c.meet ∙ rw (low, times) }

-- a place that has not gone below 0
at_total : (total : ℤ) (p : Place) (next : ℕ) → Reached total p → PlaceAt total p (moved_place total p next)
unfolding moved_place moved_word
at_total total p next h = record { address = h; mark = refl; plain = λ e. rw e refl; marked = λ e. rw e (low_lt total p.word, word_congruent total p.word) }

count_lem : (total : ℤ) (l : List Place) → length (tally_list total l) ≡ length l
unfolding tally_list
count_lem total [] = refl
count_lem total (p ∷ ps) = ap suc (count_lem total ps)

each_lem : (total : ℤ) (l : List Place) (i : ℕ) (p p' : Place) → slice_get l i ≡ Some p → slice_get (tally_list total l) i ≡ Some p'
    → Reached total p → PlaceAt total p p'
unfolding tally_list
each_lem total [] i p p' e f h = absurd (none-some p e)
each_lem total (q ∷ l) zero p p' e f h =
    let a = same_Some q p e in
    rw (← same_Some (moved_place total q (first_word l)) p' f, ← a) (at_total total q (first_word l) (rw (← a) at h))
each_lem total (q ∷ l) (suc i) p p' e f h = each_lem total l i p p' e f h

-- a total that is reached leaves no address below 0
next_reached : (l : List Place) (t d : ℤ) → All (Reached t) l → All (Reached (new_total l t d)) l
unfolding new_total add_if tally_answer refuse_at
next_reached l t d h = go (tally_answer l t d) refl
  where
    go : (r : Answer ℕ) → tally_answer l t d ≡ r → All (Reached (add_if r t d)) l
    go (refused n i) e = h
    go (accepted n) e = on (first_outside (t +ℤ d) 0 l) refl
      where
        k : refuse_at (first_outside (t +ℤ d) 0 l) 11 (accepted (length l)) ≡ accepted n
        k = (not_refused _ 8 0 _ n e).1

        on : (o : Option ℕ) → first_outside (t +ℤ d) 0 l ≡ o → All (Reached (t +ℤ d)) l
        on None f = inside_reached (t +ℤ d) l (none_inside (t +ℤ d) 0 l f)
        on (Some i) f = let u : refused 11 i ≡ accepted n = rw f at k in clash cc

all_reached : (l : List Place) (t : ℤ) (ds : List ℤ) (j : ℕ) (x : Tallied) → All (Reached t) l → slice_get (tallied l t ds) j ≡ Some x
    → All (Reached x.total) l × (x.list ≡ tally_list x.total l)
unfolding tallied
all_reached l t [] j x h e = absurd (none-some x e)
all_reached l t (d ∷ ds) zero x h e = rw (← same_Some _ x e) (next_reached l t d h, refl)
all_reached l t (d ∷ ds) (suc j) x h e = all_reached l (new_total l t d) ds j x (next_reached l t d h) e

pub tally_places : TallyPlaces
unfolding moved_address
tally_places =
    record {
      count = count_lem;
      each = λ total l i p p' e f a g. each_lem total l i p p' e f (rw (← g) refl);
      long = λ l ds j t e. let h = all_reached l (pos 0) ds j t (reached_zero l) e in rw h.1 (count_lem t.total l);
      comes_to = λ l ds j t e i p p' f g.
          let h = all_reached l (pos 0) ds j t (reached_zero l) e in
          each_lem t.total l i p p' f (rw h.1 at g) (all_at (Reached t.total) l i p h.0 f);
    }
