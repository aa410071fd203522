-- Laws of the pieces of a text, one after the other by position. Assumes nothing.
use mathlib.Core.Path.{◌≡◌, refl, sym, ap, ◌∙◌}
use mathlib.Core.Bool.{Bool, true, false}
use mathlib.Core.List.{List, [], ◌∷◌}
use Prim.Native.Nat.{ℕ, ◌+◌, ◌-◌, ◌≤◌, ◌<◌}
use native.Mathlib.Omega.{arith}
use lib.ListN.{length, take, drop, length-drop, drop_of_length-le}
use lib.Seq.{drop-drop, take-length, drop-length, length-take-le}
use Rattle.rules.specs.Text.{Text, blank, leading, trim_start, keep_end, trim_end, trim, on_first, cut_where, drop_empty, pieces, first_text, other_texts}
use Rattle.text.specs.Pieces.{run, next_start, next_piece}
use Rattle.text.specs.declared.Span.{Span}
use Rattle.text.proofs.Until.{until_later, until_le, until_rest, cut_here, cut_later, cut_first}
use Rattle.text.proofs.Trim.{leading_le, first_none, drop_leading, leading_trim_start, keep_end_none}

-- ---- the first of the pieces
pub pieces_blank : (b : ℕ) (s : Text) → blank b ≡ true → pieces (b ∷ s) ≡ pieces s
unfolding pieces drop_empty
pieces_blank b s e = ap drop_empty (cut_here blank b s e)

-- blanks in front make no piece
pub pieces_trim_start : (t : Text) → pieces (trim_start t) ≡ pieces t
unfolding trim_start
pieces_trim_start [] = refl
pieces_trim_start (b ∷ s) = go (blank b) refl (pieces_trim_start s)
  where
    go : (y : Bool) → blank b ≡ y → pieces (trim_start s) ≡ pieces s → pieces (trim_start (b ∷ s)) ≡ pieces (b ∷ s)
    go true e ih = rw (e, trim_start) (ih ∙ sym (pieces_blank b s e))
    go false e ih = rw (e, trim_start)

pub drop_empty_keep : (p : Text) (ps : List Text) → 0 < length p → drop_empty (p ∷ ps) ≡ p ∷ drop_empty ps
unfolding drop_empty
drop_empty_keep [] ps h = absurd (omega arith)
drop_empty_keep (b ∷ p) ps h = refl

-- after a first piece stands a blank or nothing, so that the cut there starts with an empty text
pieces_rest : (t : Text) → pieces (drop (run t) t) ≡ drop_empty (other_texts (cut_where blank (drop (run t) t)))
unfolding pieces drop_empty
pieces_rest t = ap drop_empty (rw (until_rest blank t) at (cut_first blank (drop (run t) t)))

run_some : (t : Text) → leading t ≡ 0 → 0 < length t → 0 < run t
run_some [] z h = absurd (omega arith)
run_some (b ∷ s) z h = omega (arith, until_later blank b s (first_none b s z))

-- the first piece of a text that no blank leads, and those of the rest
pieces_first : (t : Text) → leading t ≡ 0 → 0 < length t → pieces t ≡ take (run t) t ∷ pieces (drop (run t) t)
unfolding pieces
pieces_first t z h =
    let some : 0 < length (take (run t) t) = rw (length-take-le (run t) t (until_le blank t)) (run_some t z h) in
    ap drop_empty (cut_first blank t) ∙ drop_empty_keep (take (run t) t) _ some ∙ ap (λ (ps : List Text). take (run t) t ∷ ps) (sym (pieces_rest t))

-- a text without blanks is one piece
pub pieces_one : (t : Text) → run t ≡ length t → 0 < length t → pieces t ≡ t ∷ []
unfolding pieces cut_where drop_empty other_texts
pieces_one t e h = ap drop_empty (rw (e, take-length t, drop-length t) at (cut_first blank t)) ∙ drop_empty_keep t [] h

-- ---- the next piece from a position
pub next_within : (t : Text) (at s : ℕ) → at ≤ length t → s ≡ next_start t at → s ≤ length t
next_within t at s h e = omega (arith, rw length-drop at (leading_le (drop at t)))

-- what stands from its start on
from_start : (t : Text) (at s : ℕ) → s ≡ next_start t at → trim_start (drop at t) ≡ drop s t
from_start t at s e = sym (drop_leading (drop at t)) ∙ rw (drop-drop (leading (drop at t)) at t, e)

-- a piece that is found: it is not empty, and the first of the pieces
pub record Next (t : Text) (at : ℕ) (r : Span) : Type 0 where
  pub from : at ≤ r.start
  pub some : r.start < r.end
  pub within : r.end ≤ length t
  pub parts : pieces (drop at t) ≡ take (r.end - r.start) (drop r.start t) ∷ pieces (drop r.end t)

module _ (t : Text) (at : ℕ) (r : Span) (e : r ≡ next_piece t at) where
  starts : r.start ≡ next_start t at
  starts = ap (λ (x : Span). x.start) e

  ends : r.end ≡ r.start + run (drop r.start t)
  ends = ap (λ (x : Span). x.end) e ∙ rw starts

  pub next_start_lem : at ≤ length t → r.start ≤ length t
  next_start_lem h = next_within t at r.start h starts

  -- there is none
  pub next_none : length t ≤ r.start → pieces (drop at t) ≡ []
  unfolding pieces cut_where drop_empty
  next_none h = sym (pieces_trim_start (drop at t)) ∙ rw (from_start t at r.start starts, drop_of_length-le t h)

  pub next_some : r.start < length t → Next t at r
  next_some h =
      let rest : Text = drop r.start t in
      let z : leading rest ≡ 0 = rw (from_start t at r.start starts) at (leading_trim_start (drop at t)) in
      let l : length rest ≡ length t - r.start = length-drop r.start t in
      let n : r.end - r.start ≡ run rest = omega (arith, ends) in
      let g : drop (run rest) rest ≡ drop r.end t = drop-drop (run rest) r.start t ∙ rw (← ends) in
      record {
        from = omega (arith, starts);
        some = omega (arith, ends, run_some rest z (omega arith));
        within = omega (arith, ends, until_le blank rest);
        parts = sym (pieces_trim_start (drop at t)) ∙ rw (from_start t at r.start starts, n, ← g) (pieces_first rest z (omega arith));
      }

-- ---- trimming changes no piece
-- two cuts with the same first text, and the same others but for empty ones
record Alike (ps qs : List Text) : Type 0 where
  first : first_text ps ≡ first_text qs
  others : drop_empty (other_texts ps) ≡ drop_empty (other_texts qs)

on_first_first : (b : ℕ) (ps : List Text) → first_text (on_first b ps) ≡ b ∷ first_text ps
unfolding on_first first_text
on_first_first b [] = refl
on_first_first b (p ∷ ps) = refl

on_first_others : (b : ℕ) (ps : List Text) → other_texts (on_first b ps) ≡ other_texts ps
unfolding on_first other_texts
on_first_others b [] = refl
on_first_others b (p ∷ ps) = refl

alike_on_first : (b : ℕ) (ps qs : List Text) → Alike ps qs → Alike (on_first b ps) (on_first b qs)
alike_on_first b ps qs a = record { first = rw (on_first_first b ps, on_first_first b qs, a.first); others = rw (on_first_others b ps, on_first_others b qs) a.others }

alike_pieces : (p : Text) (ps : List Text) (q : Text) (qs : List Text) → Alike (p ∷ ps) (q ∷ qs) → drop_empty (p ∷ ps) ≡ drop_empty (q ∷ qs)
unfolding first_text other_texts drop_empty
alike_pieces p ps q qs a = rw a.first (go q)
  where
    go : (x : Text) → drop_empty (x ∷ ps) ≡ drop_empty (x ∷ qs)
    go [] = a.others
    go (b ∷ x) = ap (λ (l : List Text). (b ∷ x) ∷ l) a.others

alike_cut : (s t : Text) → Alike (cut_where blank s) (cut_where blank t) → pieces s ≡ pieces t
unfolding pieces
alike_cut s t a = ap drop_empty (cut_first blank s) ∙ alike_pieces _ _ _ _ (rw (← cut_first blank s, ← cut_first blank t) a) ∙ ap drop_empty (sym (cut_first blank t))

cut_trim_end : (t : Text) → Alike (cut_where blank (trim_end t)) (cut_where blank t)
unfolding trim_end keep_end cut_where first_text drop_empty pieces other_texts
cut_trim_end [] = record { first = refl; others = refl }
cut_trim_end (b ∷ s) = go (blank b) refl (cut_trim_end s)
  where
    gone : (r : Text) → blank b ≡ true → pieces r ≡ pieces s → Alike (cut_where blank (keep_end b r)) ([] ∷ cut_where blank s)
    gone [] e h = rw (e, keep_end) (record { first = refl; others = h })
    gone (c ∷ r) e h = rw (cut_here blank b (c ∷ r) e, keep_end) (record { first = refl; others = h })

    go : (y : Bool) → blank b ≡ y → Alike (cut_where blank (trim_end s)) (cut_where blank s) → Alike (cut_where blank (keep_end b (trim_end s))) (cut_where blank (b ∷ s))
    go true e ih = rw (cut_here blank b s e) (gone (trim_end s) e (alike_cut (trim_end s) s ih))
    go false e ih = rw (keep_end_none b (trim_end s) e, cut_later blank b (trim_end s) e, cut_later blank b s e) (alike_on_first b _ _ ih)

pub pieces_trim : (t : Text) → pieces (trim t) ≡ pieces t
unfolding trim
pieces_trim t = alike_cut (trim_end (trim_start t)) (trim_start t) (cut_trim_end (trim_start t)) ∙ pieces_trim_start t
