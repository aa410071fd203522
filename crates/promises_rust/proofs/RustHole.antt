-- Texts with a piece in the middle, front ++ (n ++ back), where front ends and back begins at a blank or an end: what is trimmed, cut,
-- looked for and parted there, whatever the piece is. Assumes nothing.
use Rattle.std.specs.Prelude.{Some}
use Prim.Native.Nat.{ℕ, zero, suc, ◌-◌, ◌≤◌}
use mathlib.Core.Path.{◌≡◌, refl, sym, ap, ◌∙◌}
use mathlib.Core.Logic.{◌≢◌}
use mathlib.Core.Bool.{Bool, true, false, ◌&&◌, ◌||◌, cond, false≢true}
use mathlib.Core.List.{List, [], ◌∷◌, ◌++◌}
use native.Mathlib.Omega.{arith}
use lib.Dec.{eqb, leb}
use lib.ListN.{length}
use borrow.Author.Tests.{eq-eqb, eqb-true, leb-true, lt-leb, le-leb, ne_eqb}
use Rattle.rules.specs.Text.{Text, blank, upper, uppers, leading, trim_start, keep_end, trim_end, trim, cut_where, drop_empty, pieces, Cut, uncut, around, in_front, first_cut, starts, contains, nth}
use Rattle.promises_rust.specs.RustStr.{is_whitespace}
use Rattle.promises_rust.specs.RustSums.{from_blank, put_piece}
use Rattle.promises.proofs.Compared.{clash}
use Rattle.promises_rust.proofs.RustText.{eqb_comm, Solid, nil, cons}
use Rattle.promises_rust.proofs.RustPieces.{Open, at_end, at_blank, pieces_solid}

-- ---- a front: read from inside a piece or from between pieces, it ends between pieces
pub data Closed : Bool → Text → Type 0 where
  over : Closed false []
  blank_next : {x : Bool} {b : ℕ} {s : Text} → blank b ≡ true → Closed false s → Closed x (b ∷ s)
  full_next : {x : Bool} {b : ℕ} {s : Text} → blank b ≡ false → Closed true s → Closed x (b ∷ s)

-- the rest of a piece, and what is after it
unfoldable pub run : Text → Text
run [] = []
run (b ∷ s) = elim (blank b) [ true ↦ [] | false ↦ b ∷ run s ]

unfoldable pub behind : Text → Text
behind [] = []
behind (b ∷ s) = elim (blank b) [ true ↦ b ∷ s | false ↦ behind s ]

run_solid : (s : Text) → Solid (run s)
unfolding run
run_solid [] = nil
run_solid (b ∷ s) = go (blank b) refl (run_solid s)
  where
    go : (x : Bool) → blank b ≡ x → Solid (run s) → Solid (run (b ∷ s))
    go true e r = rw (e, run) nil
    go false e r = rw (e, run) (cons e r)

behind_open : (s : Text) → Open (behind s)
unfolding behind
behind_open [] = at_end
behind_open (b ∷ s) = go (blank b) refl (behind_open s)
  where
    go : (x : Bool) → blank b ≡ x → Open (behind s) → Open (behind (b ∷ s))
    go true e r = rw (e, behind) (at_blank e)
    go false e r = rw (e, behind) r

run_behind : (s : Text) → s ≡ run s ++ behind s
unfolding run behind
run_behind [] = refl
run_behind (b ∷ s) = go (blank b) refl (run_behind s)
  where
    go : (x : Bool) → blank b ≡ x → s ≡ run s ++ behind s → b ∷ s ≡ run (b ∷ s) ++ behind (b ∷ s)
    go true e r = rw (e, run, behind)
    go false e r = rw (e, run, behind) (ap (λ (u : Text). b ∷ u) r)

-- the first piece of a text that a byte of it leads
pub pieces_full : (b : ℕ) (s : Text) → blank b ≡ false → pieces (b ∷ s) ≡ (b ∷ run s) ∷ pieces (behind s)
pieces_full b s e = ap (λ (u : Text). pieces (b ∷ u)) (run_behind s) ∙ pieces_solid (cons e (run_solid s)) (behind_open s)

pub pieces_blank : (b : ℕ) (s : Text) → blank b ≡ true → pieces (b ∷ s) ≡ pieces s
unfolding pieces cut_where drop_empty
pieces_blank b s e = rw (cut_where, e)

run_closed : {f : Text} → Closed true f → (y : Text) → run (f ++ y) ≡ run f
unfolding run
run_closed (blank_next e c) y = rw (run, e)
run_closed (full_next {b = b} e c) y = rw (run, e) (ap (λ (u : Text). b ∷ u) (run_closed c y))

-- the pieces ahead, read from inside a piece or from between pieces; a front's come first
unfoldable pub ahead : Bool → Text → List Text
ahead false s = pieces s
ahead true s = pieces (behind s)

ahead_blank : (x : Bool) (b : ℕ) (s : Text) → blank b ≡ true → ahead x (b ∷ s) ≡ pieces s
unfolding ahead behind
ahead_blank false b s e = pieces_blank b s e
ahead_blank true b s e = rw (behind, e) (pieces_blank b s e)

ahead_true : (b : ℕ) (s : Text) → blank b ≡ false → ahead true (b ∷ s) ≡ ahead true s
unfolding ahead behind
ahead_true b s e = rw (behind, e)

closed_ahead : {x : Bool} {f : Text} → Closed x f → (y : Text) → ahead x (f ++ y) ≡ ahead x f ++ pieces y
unfolding ahead pieces cut_where drop_empty
closed_ahead over y = refl
closed_ahead {x} (blank_next {b = b} {s = s} e c) y = rw (ahead_blank x b (s ++ y) e, ahead_blank x b s e) (closed_ahead c y)
closed_ahead {x = false} (full_next {b = b} {s = s} e c) y =
    rw (pieces_full b (s ++ y) e, pieces_full b s e, run_closed c y) (ap (λ (ps : List Text). (b ∷ run s) ∷ ps) (closed_ahead c y))
closed_ahead {x = true} (full_next {b = b} {s = s} e c) y = rw (ahead_true b (s ++ y) e, ahead_true b s e) (closed_ahead c y)

pub closed_pieces : {f : Text} → Closed false f → (y : Text) → pieces (f ++ y) ≡ pieces f ++ pieces y
unfolding ahead
closed_pieces c y = closed_ahead c y

pub closed_any : {x : Bool} {b : ℕ} {s : Text} (y : Bool) → Closed x (b ∷ s) → Closed y (b ∷ s)
closed_any y (blank_next e c) = blank_next e c
closed_any y (full_next e c) = full_next e c

-- the k-th piece has a front and a back, and in its place another text is put
pub record Hole (x : Bool) (k : ℕ) (t s : Text) : Type 0 where
  pub front : Text
  pub back : Text
  pub closed : Closed x front
  pub opened : Open back
  pub count : length (ahead x front) ≡ k
  pub is : s ≡ front ++ (t ++ back)
  pub put : (n : Text) → put_piece x k n s ≡ front ++ (n ++ back)

from_is : (s : Text) → from_blank s ≡ behind s
unfolding from_blank behind is_whitespace blank
from_is [] = refl
from_is (b ∷ s) = go (blank b) refl (from_is s)
  where
    go : (x : Bool) → blank b ≡ x → from_blank s ≡ behind s → from_blank (b ∷ s) ≡ behind (b ∷ s)
    go true e ih = rw (from_blank, behind, e)
    go false e ih = rw (from_blank, behind, e) ih

white : (b : ℕ) (x : Bool) → blank b ≡ x → is_whitespace b ≡ x
unfolding is_whitespace blank
white b x e = e

module _ (b : ℕ) (s t : Text) where
  hole_blank : (x : Bool) (k : ℕ) → blank b ≡ true → Hole false k t s → Hole x k t (b ∷ s)
  unfolding put_piece ahead
  hole_blank x k e h =
      record {
        front = b ∷ h.front;
        back = h.back;
        closed = blank_next e h.closed;
        opened = h.opened;
        count = rw (ahead_blank x b h.front e) h.count;
        is = ap (λ (u : Text). b ∷ u) h.is;
        put = λ n. rw (put_piece, white b true e) (ap (λ (u : Text). b ∷ u) (h.put n));
      }

  hole_true : (k : ℕ) → blank b ≡ false → Hole true k t s → Hole true k t (b ∷ s)
  unfolding put_piece
  hole_true k e h =
      record {
        front = b ∷ h.front;
        back = h.back;
        closed = full_next e h.closed;
        opened = h.opened;
        count = rw (ahead_true b h.front e) h.count;
        is = ap (λ (u : Text). b ∷ u) h.is;
        put = λ n. rw (put_piece, white b false e) (ap (λ (u : Text). b ∷ u) (h.put n));
      }

  hole_here : blank b ≡ false → b ∷ run s ≡ t → Hole false 0 t (b ∷ s)
  unfolding put_piece ahead pieces cut_where drop_empty
  hole_here e q =
      record {
        front = [];
        back = behind s;
        closed = over;
        opened = behind_open s;
        count = refl;
        is = rw (← q) (ap (λ (u : Text). b ∷ u) (run_behind s));
        put = λ n. rw (put_piece, white b false e, from_is s);
      }

  hole_next : (k : ℕ) → blank b ≡ false → Hole true k t s → Hole false (suc k) t (b ∷ s)
  unfolding put_piece ahead
  hole_next k e h =
      record {
        front = b ∷ h.front;
        back = h.back;
        closed = full_next e h.closed;
        opened = h.opened;
        count = rw (pieces_full b h.front e) (ap suc h.count);
        is = ap (λ (u : Text). b ∷ u) h.is;
        put = λ n. rw (put_piece, white b false e) (ap (λ (u : Text). b ∷ u) (h.put n));
      }

pub hole : (t s : Text) (x : Bool) (k : ℕ) → nth k (ahead x s) ≡ Some t → Hole x k t s
unfolding ahead behind pieces cut_where drop_empty nth
hole t [] false k e = clash cc
hole t [] true k e = clash cc
hole t (b ∷ s) x k e = go (blank b) refl x k e (hole t s)
  where
    go : (y : Bool) → blank b ≡ y → (x : Bool) (k : ℕ) → nth k (ahead x (b ∷ s)) ≡ Some t → ((x : Bool) (k : ℕ) → nth k (ahead x s) ≡ Some t → Hole x k t s)
        → Hole x k t (b ∷ s)
    go true h x k e ih = hole_blank b s t x k h (ih false k (rw (ahead_blank x b s h) at e))
    go false h true k e ih = hole_true b s t k h (ih true k (rw (ahead_true b s h) at e))
    go false h false zero e ih = let z : Some (b ∷ run s) ≡ Some t = rw (pieces_full b s h) at e in let q : b ∷ run s ≡ t = cc in hole_here b s t h q
    go false h false (suc k) e ih = hole_next b s t k h (ih true k (rw (pieces_full b s h) at e))

-- ---- a front with a piece in it: trimmed
-- a text that is not blank
pub record Filled (f : Text) : Type 0 where
  pub first : Text
  pub others : List Text
  pub are : pieces f ≡ first ∷ others

filled_on : {b : ℕ} {f : Text} → blank b ≡ true → Filled (b ∷ f) → Filled f
filled_on {b} {f} e k = record { first = k.first; others = k.others; are = sym (pieces_blank b f e) ∙ k.are }

pub not_filled : {A : Type 0} → Filled [] → A
unfolding pieces cut_where drop_empty
not_filled k = go k.are
  where
    go : {A : Type 0} {p : Text} {ps : List Text} → ◌≡◌ {A = List Text} [] (p ∷ ps) → A
    go e = clash cc

pub start_front : (f : Text) → Filled f → (y : Text) → trim_start (f ++ y) ≡ trim_start f ++ y
unfolding trim_start
start_front [] k y = not_filled k
start_front (b ∷ f) k y = go (blank b) refl (λ e. start_front f (filled_on e k) y)
  where
    go : (x : Bool) → blank b ≡ x → (blank b ≡ true → trim_start (f ++ y) ≡ trim_start f ++ y) → trim_start (b ∷ (f ++ y)) ≡ trim_start (b ∷ f) ++ y
    go true e ih = rw (trim_start, e) (ih e)
    go false e ih = rw (trim_start, e)

pub leading_front : (f : Text) → Filled f → (y : Text) → leading (f ++ y) ≡ leading f
unfolding leading
leading_front [] k y = not_filled k
leading_front (b ∷ f) k y = go (blank b) refl (λ e. leading_front f (filled_on e k) y)
  where
    go : (x : Bool) → blank b ≡ x → (blank b ≡ true → leading (f ++ y) ≡ leading f) → leading (b ∷ (f ++ y)) ≡ leading (b ∷ f)
    go true e ih = rw (leading, e) (ap suc (ih e))
    go false e ih = rw (leading, e)

pub pieces_start : (f : Text) → pieces (trim_start f) ≡ pieces f
unfolding trim_start
pieces_start [] = refl
pieces_start (b ∷ f) = go (blank b) refl (pieces_start f)
  where
    go : (x : Bool) → blank b ≡ x → pieces (trim_start f) ≡ pieces f → pieces (trim_start (b ∷ f)) ≡ pieces (b ∷ f)
    go true e ih = rw (trim_start, e, pieces_blank b f e) ih
    go false e ih = rw (trim_start, e)

keep_full : (b : ℕ) (s : Text) → blank b ≡ false → keep_end b s ≡ b ∷ s
unfolding keep_end
keep_full b [] e = rw e
keep_full b (c ∷ s) e = refl

keep_more : (b c : ℕ) (s : Text) → keep_end b (c ∷ s) ≡ b ∷ c ∷ s
unfolding keep_end
keep_more b c s = refl

run_end : (s : Text) → run (trim_end s) ≡ run s
unfolding trim_end keep_end run
run_end [] = refl
run_end (b ∷ s) = go (blank b) refl (run_end s)
  where
    kept : (r : Text) → blank b ≡ true → run (keep_end b r) ≡ []
    kept [] e = rw (keep_end, e)
    kept (c ∷ r) e = rw (run, e)

    go : (x : Bool) → blank b ≡ x → run (trim_end s) ≡ run s → run (keep_end b (trim_end s)) ≡ run (b ∷ s)
    go true e ih = rw (kept (trim_end s) e, run, e)
    go false e ih = rw (keep_full b (trim_end s) e, run, e) (ap (λ (u : Text). b ∷ u) ih)

ahead_end : (s : Text) (x : Bool) → ahead x (trim_end s) ≡ ahead x s
unfolding trim_end keep_end ahead behind pieces cut_where drop_empty
ahead_end [] x = refl
ahead_end (b ∷ s) x = go (blank b) refl x (ahead_end s)
  where
    kept : (x : Bool) (r : Text) → blank b ≡ true → ahead x (keep_end b r) ≡ pieces r
    kept false [] e = rw (keep_end, e)
    kept true [] e = rw (keep_end, e)
    kept x (c ∷ r) e = ahead_blank x b (c ∷ r) e

    go : (y : Bool) → blank b ≡ y → (x : Bool) → ((x : Bool) → ahead x (trim_end s) ≡ ahead x s) → ahead x (keep_end b (trim_end s)) ≡ ahead x (b ∷ s)
    go true e x ih = rw (kept x (trim_end s) e, ahead_blank x b s e) (ih false)
    go false e false ih = rw (keep_full b (trim_end s) e, pieces_full b (trim_end s) e, pieces_full b s e, run_end s) (ap (λ (ps : List Text). (b ∷ run s) ∷ ps) (ih true))
    go false e true ih = rw (keep_full b (trim_end s) e, ahead_true b (trim_end s) e, ahead_true b s e) (ih true)

pub pieces_trim : (s : Text) → pieces (trim s) ≡ pieces s
unfolding trim ahead
pieces_trim s = ahead_end (trim_start s) false ∙ pieces_start s

pub closed_start : {f : Text} → Closed false f → Closed false (trim_start f)
unfolding trim_start
closed_start over = over
closed_start (blank_next e c) = rw (trim_start, e) (closed_start c)
closed_start (full_next e c) = rw (trim_start, e) (full_next e c)

-- a back
pub open_end : {b : Text} → Open b → Open (trim_end b)
unfolding trim_end keep_end
open_end at_end = at_end
open_end (at_blank {b} {s} e) = go (trim_end s)
  where
    go : (r : Text) → Open (keep_end b r)
    go [] = rw (keep_end, e) at_end
    go (c ∷ r) = at_blank e

-- a piece keeps what stands in front of it
end_piece : {b : ℕ} {p : Text} → Solid (b ∷ p) → (y : Text) → trim_end ((b ∷ p) ++ y) ≡ (b ∷ p) ++ trim_end y
unfolding trim_end
end_piece {b} (cons e nil) y = keep_full b (trim_end y) e
end_piece {b} (cons e (cons {b = c} {s = s} g r)) y = ap (keep_end b) (end_piece (cons g r) y) ∙ keep_more b c (s ++ trim_end y)

pub end_front : (f : Text) {b : ℕ} {p : Text} → Solid (b ∷ p) → (y : Text) → trim_end (f ++ ((b ∷ p) ++ y)) ≡ f ++ ((b ∷ p) ++ trim_end y)
unfolding trim_end
end_front [] r y = end_piece r y
end_front (c ∷ f) {b} {p} r y = ap (keep_end c) (end_front f r y) ∙ go f
  where
    go : (f : Text) → keep_end c (f ++ ((b ∷ p) ++ trim_end y)) ≡ c ∷ (f ++ ((b ∷ p) ++ trim_end y))
    go [] = keep_more c b (p ++ trim_end y)
    go (d ∷ f) = keep_more c d (f ++ ((b ∷ p) ++ trim_end y))

pub trim_hole : (f : Text) → Filled f → {b : ℕ} {p : Text} → Solid (b ∷ p) → (y : Text) → trim (f ++ ((b ∷ p) ++ y)) ≡ trim_start f ++ ((b ∷ p) ++ trim_end y)
unfolding trim
trim_hole f k {b} {p} r y = ap trim_end (start_front f k ((b ∷ p) ++ y)) ∙ end_front (trim_start f) r y

-- a byte that is no blank, anywhere
pub start_at : (m : Text) (c : ℕ) → blank c ≡ false → (y : Text) → trim_start (m ++ (c ∷ y)) ≡ trim_start m ++ (c ∷ y)
unfolding trim_start
start_at [] c e y = rw (trim_start, e)
start_at (b ∷ m) c e y = go (blank b) refl (start_at m c e y)
  where
    go : (x : Bool) → blank b ≡ x → trim_start (m ++ (c ∷ y)) ≡ trim_start m ++ (c ∷ y) → trim_start (b ∷ (m ++ (c ∷ y))) ≡ trim_start (b ∷ m) ++ (c ∷ y)
    go true h ih = rw (trim_start, h) ih
    go false h ih = rw (trim_start, h)

pub end_at : (m : Text) (c : ℕ) → blank c ≡ false → (y : Text) → trim_end (m ++ (c ∷ y)) ≡ m ++ (c ∷ trim_end y)
unfolding trim_end
end_at [] c e y = keep_full c (trim_end y) e
end_at (b ∷ m) c e y = ap (keep_end b) (end_at m c e y) ∙ go m
  where
    go : (m : Text) → keep_end b (m ++ (c ∷ trim_end y)) ≡ b ∷ (m ++ (c ∷ trim_end y))
    go [] = keep_more b c (trim_end y)
    go (d ∷ m) = keep_more b d (m ++ (c ∷ trim_end y))

-- trimming twice
start_keep : (b : ℕ) (r : Text) → blank b ≡ true → trim_start (keep_end b r) ≡ trim_start r
unfolding trim_start keep_end
start_keep b [] e = rw (keep_end, e)
start_keep b (c ∷ r) e = rw (trim_start, e)

start_end : (s : Text) → trim_start (trim_end s) ≡ trim_end (trim_start s)
unfolding trim_start trim_end
start_end [] = refl
start_end (b ∷ s) = go (blank b) refl (start_end s)
  where
    go : (x : Bool) → blank b ≡ x → trim_start (trim_end s) ≡ trim_end (trim_start s) → trim_start (keep_end b (trim_end s)) ≡ trim_end (trim_start (b ∷ s))
    go true e ih = rw (start_keep b (trim_end s) e, trim_start, e) ih
    go false e ih = rw (keep_full b (trim_end s) e, trim_start, e, trim_end) (sym (keep_full b (trim_end s) e))

end_keep : (b : ℕ) (r : Text) → trim_end r ≡ r → trim_end (keep_end b r) ≡ keep_end b r
unfolding trim_end keep_end
end_keep b [] e = go (blank b) refl
  where
    go : (x : Bool) → blank b ≡ x → trim_end (keep_end b []) ≡ keep_end b []
    go true h = rw (keep_end, h)
    go false h = ap trim_end (keep_full b [] h)
end_keep b (c ∷ r) e = ap (keep_end b) e

end_end : (s : Text) → trim_end (trim_end s) ≡ trim_end s
unfolding trim_end
end_end [] = refl
end_end (b ∷ s) = end_keep b (trim_end s) (end_end s)

pub trim_trimmed : (s : Text) → trim (trim_end s) ≡ trim s
unfolding trim
trim_trimmed s = ap trim_end (start_end s) ∙ end_end (trim_start s)

-- ---- without a byte, and cut at it
pub data Without (c : ℕ) : Text → Type 0 where
  clear : Without c []
  past : {b : ℕ} {s : Text} → eqb b c ≡ false → Without c s → Without c (b ∷ s)

module _ (c : ℕ) where
  pub uncut_of : {s : Text} → Without c s → first_cut c s ≡ uncut
  unfolding first_cut in_front
  uncut_of clear = refl
  uncut_of (past e w) = rw (first_cut, e, uncut_of w)

  pub cut_of : {m : Text} → Without c m → (y : Text) → first_cut c (m ++ (c ∷ y)) ≡ around m y
  unfolding first_cut in_front
  cut_of clear y = rw (first_cut, eq-eqb c c refl)
  cut_of (past e w) y = rw (first_cut, e, cut_of w y)

  -- what a cut says of a text
  pub data CutIs : Text → Cut → Type 0 where
    none : {s : Text} → Without c s → CutIs s uncut
    one : {s m d : Text} → s ≡ m ++ (c ∷ d) → Without c m → CutIs s (around m d)

  pub cut_is : (s : Text) → CutIs s (first_cut c s)
  unfolding first_cut in_front
  cut_is [] = none clear
  cut_is (b ∷ s) = go (eqb b c) refl (cut_is s)
    where
      more : {k : Cut} → eqb b c ≡ false → CutIs s k → CutIs (b ∷ s) (in_front b k)
      more e (none w) = none (past e w)
      more e (one q w) = one (ap (λ (u : Text). b ∷ u) q) (past e w)

      go : (x : Bool) → eqb b c ≡ x → CutIs s (first_cut c s) → CutIs (b ∷ s) (first_cut c (b ∷ s))
      go true e k = rw (first_cut, e, eqb-true b c e) (one refl clear)
      go false e k = rw (first_cut, e) (more e k)

  pub without_append : {s t : Text} → Without c s → Without c t → Without c (s ++ t)
  without_append clear w = w
  without_append (past e v) w = past e (without_append v w)

  pub without_front : (s t : Text) → Without c (s ++ t) → Without c s
  without_front [] t w = clear
  without_front (b ∷ s) t (past e w) = past e (without_front s t w)

  pub without_back : (s t : Text) → Without c (s ++ t) → Without c t
  without_back [] t w = w
  without_back (b ∷ s) t (past e w) = without_back s t w

  pub without_start : {s : Text} → Without c s → Without c (trim_start s)
  unfolding trim_start
  without_start clear = clear
  without_start (past {b} {s} e w) = go (blank b) refl (without_start w)
    where
      go : (x : Bool) → blank b ≡ x → Without c (trim_start s) → Without c (trim_start (b ∷ s))
      go true h k = rw (trim_start, h) k
      go false h k = rw (trim_start, h) (past e w)

  without_keep : (b : ℕ) {s : Text} → eqb b c ≡ false → Without c s → Without c (keep_end b s)
  unfolding keep_end
  without_keep b e clear = go (blank b)
    where
      go : (x : Bool) → Without c (cond x [] (b ∷ []))
      go true = clear
      go false = past e clear
  without_keep b e (past f w) = past e (past f w)

  pub without_end : {s : Text} → Without c s → Without c (trim_end s)
  unfolding trim_end
  without_end clear = clear
  without_end (past {b} e w) = without_keep b e (without_end w)

-- ---- a directive looked for: a text with a dot and without blanks
pub data Dotted : Text → Type 0 where
  here : {p : Text} → Dotted (46 ∷ p)
  later : {a : ℕ} {p : Text} → Dotted p → Dotted (a ∷ p)

pub record Mark (p : Text) : Type 0 where
  pub solid : Solid p
  pub dotted : Dotted p

-- a blank is in none
no_blank : (a b : ℕ) → blank a ≡ false → blank b ≡ true → eqb a b ≡ false
no_blank a b e f = go (eqb a b) refl
  where
    go : (x : Bool) → eqb a b ≡ x → eqb a b ≡ false
    go true h = absurd (false≢true (sym e ∙ rw (eqb-true a b h) f))
    go false h = h

starts_open : {p : Text} → Solid p → {y : Text} → Open y → starts p y ≡ starts p []
unfolding starts
starts_open nil o = refl
starts_open (cons e r) at_end = refl
starts_open (cons {b = a} e r) (at_blank {b} f) = rw (starts, no_blank a b e f)

-- after a front nothing is started
pub starts_front : {p : Text} → Solid p → {f : Text} → Closed true f → (y : Text) → starts p (f ++ y) ≡ starts p f
unfolding starts
starts_front nil c y = refl
starts_front (cons {b = a} e r) (blank_next {b = b} h c) y = rw (starts, no_blank a b e h)
starts_front (cons {b = a} {s = p} e r) (full_next {b = b} {s = s} h c) y = go (eqb a b) refl (starts_front r c y)
  where
    go : (x : Bool) → eqb a b ≡ x → starts p (s ++ y) ≡ starts p s → starts (a ∷ p) ((b ∷ s) ++ y) ≡ starts (a ∷ p) (b ∷ s)
    go true g ih = rw (starts, g) ih
    go false g ih = rw (starts, g)

-- the text in front of an open end
starts_before : {p : Text} → Solid p → (s : Text) {y : Text} → Open y → starts p (s ++ y) ≡ starts p s
unfolding starts
starts_before r [] o = starts_open r o
starts_before nil (b ∷ s) o = refl
starts_before (cons {b = a} {s = p} e r) (b ∷ s) {y} o = go (eqb a b) refl (starts_before r s o)
  where
    go : (x : Bool) → eqb a b ≡ x → starts p (s ++ y) ≡ starts p s → starts (a ∷ p) (b ∷ (s ++ y)) ≡ starts (a ∷ p) (b ∷ s)
    go true g ih = rw (starts, g) ih
    go false g ih = rw (starts, g)

not_in_none : {p : Text} → Dotted p → contains p [] ≡ false
unfolding contains starts
not_in_none here = refl
not_in_none (later d) = refl

module _ {p : Text} (k : Mark p) where
  step : (b : ℕ) (s y : Text) → starts p ((b ∷ s) ++ y) ≡ starts p (b ∷ s) → contains p (s ++ y) ≡ (contains p s || contains p y)
      → contains p ((b ∷ s) ++ y) ≡ (contains p (b ∷ s) || contains p y)
  unfolding contains
  step b s y e ih = go (starts p (b ∷ s)) refl
    where
      go : (x : Bool) → starts p (b ∷ s) ≡ x → contains p ((b ∷ s) ++ y) ≡ (contains p (b ∷ s) || contains p y)
      go true g = rw (contains, e, g)
      go false g = rw (contains, e, g) ih

  contains_front : {x : Bool} {f : Text} → Closed x f → (y : Text) → contains p (f ++ y) ≡ (contains p f || contains p y)
  unfolding contains
  contains_front over y = rw (not_in_none k.dotted)
  contains_front (blank_next {b = b} {s = s} e c) y = step b s y (starts_front k.solid (blank_next e c) y) (contains_front c y)
  contains_front (full_next {b = b} {s = s} e c) y = step b s y (starts_front k.solid (full_next e c) y) (contains_front c y)

  contains_before : (s : Text) {y : Text} → Open y → contains p (s ++ y) ≡ (contains p s || contains p y)
  unfolding contains
  contains_before [] o = rw (not_in_none k.dotted)
  contains_before (b ∷ s) {y} o = step b s y (starts_before k.solid (b ∷ s) o) (contains_before s o)

-- a text without a dot holds none
starts_dotless : {p : Text} → Dotted p → {s : Text} → Without 46 s → starts p s ≡ false
unfolding starts
starts_dotless here clear = refl
starts_dotless here (past {b} e w) = rw (starts, eqb_comm 46 b, e)
starts_dotless (later d) clear = refl
starts_dotless (later {a} {p} d) (past {b} {s} e w) = go (eqb a b) refl (starts_dotless d w)
  where
    go : (x : Bool) → eqb a b ≡ x → starts p s ≡ false → starts (a ∷ p) (b ∷ s) ≡ false
    go true g ih = rw (starts, g) ih
    go false g ih = rw (starts, g)

contains_dotless : {p : Text} → Dotted p → {s : Text} → Without 46 s → contains p s ≡ false
unfolding contains
contains_dotless d clear = not_in_none d
contains_dotless d (past {b} {s} e w) = rw (contains, starts_dotless d (past e w)) (contains_dotless d w)

-- ---- in upper case
high_full : (c : ℕ) → 33 ≤ c → blank c ≡ false
unfolding blank
high_full c h = rw (lt-leb c 13 (omega arith), ne_eqb c 32 (λ e. omega (arith, e)), le-leb 9 c (omega arith))

upper_blank : (b : ℕ) → blank (upper b) ≡ blank b
unfolding upper blank
upper_blank b = go (leb 97 b) refl (leb b 122) refl
  where
    go : (x : Bool) → leb 97 b ≡ x → (y : Bool) → leb b 122 ≡ y → blank (upper b) ≡ blank b
    go true e true f = let l = leb-true 97 b e in let h = leb-true b 122 f in rw (upper, e, f, high_full (b - 32) (omega arith), high_full b (omega arith))
    go true e false f = rw (upper, e, f)
    go false e y f = rw (upper, e)

pub uppers_append : (s t : Text) → uppers (s ++ t) ≡ uppers s ++ uppers t
unfolding uppers
uppers_append [] t = refl
uppers_append (b ∷ s) t = ap (λ (u : Text). upper b ∷ u) (uppers_append s t)

pub closed_uppers : {x : Bool} {f : Text} → Closed x f → Closed x (uppers f)
unfolding uppers
closed_uppers over = over
closed_uppers (blank_next {b = b} e c) = blank_next (upper_blank b ∙ e) (closed_uppers c)
closed_uppers (full_next {b = b} e c) = full_next (upper_blank b ∙ e) (closed_uppers c)

open_uppers : {y : Text} → Open y → Open (uppers y)
unfolding uppers
open_uppers at_end = at_end
open_uppers (at_blank {b} e) = at_blank (upper_blank b ∙ e)

-- ---- a piece that changes nothing around it: without blanks, colons and dots
pub record Quiet (b : ℕ) : Type 0 where
  pub full : blank b ≡ false
  pub no_colon : eqb b 58 ≡ false
  pub no_dot : eqb (upper b) 46 ≡ false

-- all that no blank, no colon and no dot is
pub quiet_of : (b : ℕ) → 33 ≤ b → b ≢ 58 → b ≢ 46 → Quiet b
unfolding upper
quiet_of b h n m = record { full = high_full b h; no_colon = ne_eqb b 58 n; no_dot = go (leb 97 b) refl (leb b 122) }
  where
    go : (x : Bool) → leb 97 b ≡ x → (y : Bool) → eqb (cond (x && y) (b - 32) b) 46 ≡ false
    go true e true = let l = leb-true 97 b e in ne_eqb (b - 32) 46 (λ q. omega (arith, q))
    go true e false = ne_eqb b 46 m
    go false e y = ne_eqb b 46 m

pub data AllQuiet : Text → Type 0 where
  quiet_end : AllQuiet []
  quiet : {b : ℕ} {s : Text} → Quiet b → AllQuiet s → AllQuiet (b ∷ s)

pub quiet_append : {s t : Text} → AllQuiet s → AllQuiet t → AllQuiet (s ++ t)
quiet_append quiet_end r = r
quiet_append (quiet q s) r = quiet q (quiet_append s r)

pub quiet_solid : {s : Text} → AllQuiet s → Solid s
quiet_solid quiet_end = nil
quiet_solid (quiet q s) = cons q.full (quiet_solid s)

pub quiet_colon : {s : Text} → AllQuiet s → Without 58 s
quiet_colon quiet_end = clear
quiet_colon (quiet q s) = past q.no_colon (quiet_colon s)

quiet_dot : {s : Text} → AllQuiet s → Without 46 (uppers s)
unfolding uppers
quiet_dot quiet_end = clear
quiet_dot (quiet q s) = past q.no_dot (quiet_dot s)

-- what is looked for stands in front of it or after it
pub contains_hole : {p : Text} → Mark p → {f : Text} → Closed false f → {n : Text} → AllQuiet n → {y : Text} → Open y
    → contains p (uppers (f ++ (n ++ y))) ≡ (contains p (uppers f) || contains p (uppers y))
contains_hole {p} k {f} c {n} q {y} o =
    rw (
      uppers_append f (n ++ y),
      uppers_append n y,
      contains_front k (closed_uppers c) (uppers n ++ uppers y),
      contains_before k (uppers n) (open_uppers o),
      contains_dotless k.dotted (quiet_dot q),
    )
