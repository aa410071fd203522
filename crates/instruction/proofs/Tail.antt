-- Laws of pieces joined by one space, and what the loop of `join_pieces` keeps. Assumes nothing.
use borrow.Rule.Slice.PartMut.{put_mid}
use mathlib.Core.Path.{◌≡◌, refl, sym, ap, ◌∙◌}
use mathlib.Core.Bool.{Bool, true, false}
use mathlib.Core.List.{List, [], ◌∷◌, ◌++◌, append_assoc, append-nil}
use Prim.Native.Nat.{ℕ, zero, suc, ◌+◌, ◌-◌, ◌≤◌, ◌<◌}
use native.Mathlib.Omega.{arith}
use lib.ListN.{length, take, drop, set, length-append, length-drop, take-append-drop}
use lib.Seq.{length-take-le, drop-drop}
use Rattle.rules.specs.Text.{Text, blank, on_first, cut_where, drop_empty, pieces, join_more, joined}
use Rattle.rules.specs.Assemble.{over}
use Rattle.text.specs.Pieces.{next_piece}
use Rattle.text.specs.declared.Span.{Span}
use Rattle.text.proofs.Until.{cut_here, cut_later}
use Rattle.text.proofs.Pieces.{Next, next_start_lem, next_some, next_none}
use Rattle.text.specs.Spans.{part}
use Rattle.text.specs.Spans.{over_from}
use Rattle.instruction.specs.Tail.{space, spaced}
use Rattle.text.proofs.Over.{set_put, put_nil, length_put}
use Rattle.instruction.proofs.Lists.{take_over_from, drop_over_from, over_after}

-- ---- joined pieces are no longer than the text
join_more_on_first : (b : ℕ) (ps : List Text) → 0 < length ps → length (join_more (on_first b ps)) ≡ suc (length (join_more ps))
unfolding join_more on_first
join_more_on_first b [] h = absurd (omega arith)
join_more_on_first b (p ∷ ps) h = refl

-- the cut texts, a byte before each
cut_length : (s : Text) → (0 < length (cut_where blank s)) × (length (join_more (cut_where blank s)) ≡ suc (length s))
unfolding join_more cut_where on_first
cut_length [] = (omega arith, refl)
cut_length (b ∷ s) = go (blank b) refl (cut_length s)
  where
    long : (ps : List Text) → 0 < length ps → 0 < length (on_first b ps)
    long [] h = absurd (omega arith)
    long (p ∷ ps) h = omega arith

    go : (y : Bool) → blank b ≡ y → (0 < length (cut_where blank s)) × (length (join_more (cut_where blank s)) ≡ suc (length s))
        → (0 < length (cut_where blank (b ∷ s))) × (length (join_more (cut_where blank (b ∷ s))) ≡ suc (suc (length s)))
    go true e ih = rw (cut_here blank b s e) (omega arith, ap suc ih.1)
    go false e ih = rw (cut_later blank b s e) (long (cut_where blank s) ih.0, join_more_on_first b (cut_where blank s) ih.0 ∙ ap suc ih.1)

drop_empty_le : (ps : List Text) → length (join_more (drop_empty ps)) ≤ length (join_more ps)
unfolding join_more drop_empty
drop_empty_le [] = omega arith
drop_empty_le ([] ∷ ps) = omega (arith, drop_empty_le ps)
drop_empty_le ((b ∷ p) ∷ ps) = rw (length-append p (join_more (drop_empty ps)), length-append p (join_more ps)) (omega (arith, drop_empty_le ps))

joined_more : (ps : List Text) → length (joined ps) ≤ length (join_more ps) - 1
unfolding joined join_more
joined_more [] = omega arith
joined_more (p ∷ ps) = omega arith

pub joined_le : (s : Text) → length (joined (pieces s)) ≤ length s
unfolding pieces
joined_le s = omega (arith, joined_more (drop_empty (cut_where blank s)), drop_empty_le (cut_where blank s), (cut_length s).1)

-- ---- `copy_piece`
pub piece_put : (n : ℕ) (p old : Text) {new : Text} → new ≡ p → put_mid n (n + length p - n) old new ≡ over_from n p old
unfolding over_from
piece_put n p old e = let k : n + length p - n ≡ length p = omega arith in rw (e, k, drop-drop (length p) n old)

-- ---- `put_space` and `add_piece`
pub space_zero : (n : ℕ) → n ≡ 0 → 0 ≡ n + length (space n)
space_zero zero e = refl
space_zero (suc n) e = absurd (omega arith)

pub space_none : (n : ℕ) (old : Text) → n ≡ 0 → old ≡ over_from n (space n) old
space_none zero old e = sym (put_nil 0 old)
space_none (suc n) old e = absurd (omega arith)

pub space_length : (n : ℕ) → (n ≡ 0 → ⊥) → n + 1 ≡ n + length (space n)
space_length zero d = absurd (d refl)
space_length (suc n) d = refl

pub space_put : (n : ℕ) (old : Text) → (n ≡ 0 → ⊥) → n < length old → set old n 32 ≡ over_from n (space n) old
space_put zero old d h = absurd (d refl)
space_put (suc n) old d h = set_put (suc n) 32 old h

module _ (p old : Text) (n : ℕ) (h : (0 < length p) × (n + length (spaced n p) ≤ length old)) where
  spaced_length : length (spaced n p) ≡ length (space n) + length p
  spaced_length = length-append (space n) p

  pub adding_starts : n < length old
  adding_starts = omega (arith, spaced_length)

  -- after the space
  module _ {m : ℕ} (e : m ≡ n + length (space n)) where
    pub adding_length : m + length p ≡ n + length (spaced n p)
    adding_length = omega (arith, spaced_length)

    module _ {l : Text} (q : l ≡ over_from n (space n) old) where
      pub adding_asks : m + length p ≤ length l
      adding_asks = omega (arith, spaced_length, ap length q, length_put n (space n) old (omega (arith, spaced_length)))

      pub adding_whole : {k : Text} → k ≡ over_from m p l → k ≡ over_from n (spaced n p) old
      adding_whole r = r ∙ rw (e, q) (over_after n (space n) p old (omega (arith, spaced_length)))

-- ---- the loop of `join_pieces`
-- what is still to come after n bytes
unfoldable pub more : ℕ → List Text → Text
more zero ps = joined ps
more (suc n) ps = join_more ps

more_none : (n : ℕ) → more n [] ≡ []
unfolding more joined join_more
more_none zero = refl
more_none (suc n) = refl

more_next : (n : ℕ) (p : Text) (ps : List Text) → more n (p ∷ ps) ≡ spaced n p ++ join_more ps
unfolding more joined join_more
more_next zero p ps = refl
more_next (suc n) p ps = refl

more_some : (n : ℕ) (ps : List Text) → 0 < n → more n ps ≡ join_more ps
unfolding more
more_some zero ps h = absurd (omega arith)
more_some (suc n) ps h = refl

-- what it keeps: what is written and what is still to come are the joined pieces, and the slice is as it was after them
pub record Joining (t : Text) (at : ℕ) (old : Text) (i n : ℕ) (out : Text) : Type 0 where
  pub upto : i ≤ length t
  pub fits : length (joined (pieces (drop at t))) ≤ length old
  pub room : n ≤ length out
  pub long : length out ≡ length old
  pub front : take n out ++ more n (pieces (drop i t)) ≡ joined (pieces (drop at t))
  pub past : drop n out ≡ drop n old

pub joining_start : (t : Text) (at : ℕ) (old : Text) → at ≤ length t → length t ≤ length old → Joining t at old at 0 old
unfolding more
joining_start t at old h l =
    record {
      upto = h;
      fits = omega (arith, joined_le (drop at t), length-drop at t);
      room = omega arith;
      long = refl;
      front = refl;
      past = refl;
    }

module _ {t : Text} {at : ℕ} {old : Text} {i n : ℕ} {out : Text} (inv : Joining t at old i n out) {r : Span} (e : r ≡ next_piece t i) where
  -- no piece is left
  module _ (h : r.start ≡ length t) where
    all : take n out ≡ joined (pieces (drop at t))
    all = sym (append-nil (take n out)) ∙ rw (next_none t i r e (omega arith), more_none n) at inv.front

    pub joining_length : n ≡ length (joined (pieces (drop at t)))
    joining_length = sym (length-take-le n out inv.room) ∙ ap length all

    pub joining_whole : out ≡ over (joined (pieces (drop at t))) old
    unfolding over
    joining_whole = rw (← joining_length, ← all, ← inv.past) (sym (take-append-drop n out))

  -- one more piece
  module _ (h : r.start ≡ length t → ⊥) where
    next : Next t i r
    next = next_some t i r e (omega (arith, next_start_lem t i r e inv.upto))

    pub joining_within : (r.start ≤ r.end) × (r.end ≤ length t)
    joining_within = (omega (arith, next.some), next.within)

    abbrev new : Text
    new = spaced n (part t r.start r.end)

    front_new : take n out ++ (new ++ join_more (pieces (drop r.end t))) ≡ joined (pieces (drop at t))
    front_new = rw (next.parts, more_next n) at inv.front

    some : 0 < length (part t r.start r.end)
    some = rw (length-take-le (r.end - r.start) (drop r.start t) (rw length-drop (omega (arith, next.within)))) (omega (arith, next.some))

    enough : n + length new ≤ length out
    enough =
        omega (
          arith,
          inv.fits,
          inv.long,
          inv.room,
          ap length front_new,
          length-append (take n out) (new ++ join_more (pieces (drop r.end t))),
          length-append new (join_more (pieces (drop r.end t))),
          length-take-le n out inv.room,
        )

    -- what `add_piece` asks
    pub joining_asks : (0 < length (part t r.start r.end)) × (n + length new ≤ length out)
    joining_asks = (some, enough)

    pub joining_less : length t - r.end < length t - i
    joining_less = omega (arith, next.from, next.some, next.within)

    pub joining_more : {m : ℕ} {l : Text} → m ≡ n + length new → l ≡ over_from n new out → Joining t at old r.end m l
    joining_more p q =
        let positive : 0 < n + length new = omega (arith, some, length-append (space n) (part t r.start r.end)) in
        rw (p, q) (record {
          upto = next.within;
          fits = inv.fits;
          room = omega (arith, length_put n new out enough, enough);
          long = length_put n new out enough ∙ inv.long;
          front = rw (take_over_from n new out enough, more_some (n + length new) (pieces (drop r.end t)) positive) (append_assoc (take n out) new _ ∙ front_new);
          past = drop_over_from n new out enough ∙ sym (drop-drop (length new) n out) ∙ ap (drop (length new)) inv.past ∙ drop-drop (length new) n old;
        })
