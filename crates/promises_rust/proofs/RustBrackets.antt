-- A text without `[` has none in its lines, its pieces and what is left of it trimmed; so none of its lines asks for a sum. Assumes nothing.
use Rattle.std.specs.Prelude.{Option, None, Some}
use Prim.Native.Nat.{ℕ, zero, suc}
use mathlib.Core.Path.{◌≡◌, refl, sym}
use mathlib.Core.Bool.{Bool, true, false, not, ◌&&◌, ◌||◌, cond, false≢true}
use mathlib.Core.List.{List, [], ◌∷◌, ◌++◌}
use lib.Dec.{eqb}
use Rattle.rules.specs.Text.{Text, bytes, uppers, blank, trim_start, keep_end, trim_end, trim, on_first, cut_where, cut_at, drop_empty, pieces, join_more, joined, Cut, uncut, around, in_front, first_cut, starts, contains, nth}
use Rattle.rules.specs.Line.{is_directive}
use Rattle.rules.specs.Directive.{piece_directive, directive_of, after_colon}
use Rattle.promises_rust.specs.RustStr.{starts_with}
use Rattle.promises_rust.specs.RustLists.{is_sum, asks_for_a_sum, is_end_line, ask_for_sums, holds_bracket, NoBracketNoSum}
use Rattle.promises_rust.proofs.RustText.{eqb_comm, split_is}
use Rattle.promises_rust.proofs.RustPlain.{data_piece, trimmed_piece, line_piece, line_value_is}

-- no byte of a text is `[`, and none of any of the texts
data Free : Text → Type 0 where
  nil : Free []
  cons : {b : ℕ} {s : Text} → eqb b 91 ≡ false → Free s → Free (b ∷ s)

data AllFree : List Text → Type 0 where
  none_left : AllFree []
  one_more : {p : Text} {ps : List Text} → Free p → AllFree ps → AllFree (p ∷ ps)

free_of : (s : Text) → holds_bracket s ≡ false → Free s
unfolding holds_bracket
free_of [] e = nil
free_of (b ∷ s) e = go (eqb b 91) refl (holds_bracket s) (free_of s) e
  where
    go : (x : Bool) → eqb b 91 ≡ x → (y : Bool) → (y ≡ false → Free s) → x || y ≡ false → Free (b ∷ s)
    go true f y g e = absurd (false≢true (sym e))
    go false f y g e = cons f (g e)

-- ---- trimmed
free_start : {s : Text} → Free s → Free (trim_start s)
unfolding trim_start
free_start nil = nil
free_start (cons {b} {s} e f) = go (blank b) refl (free_start f)
  where
    go : (x : Bool) → blank b ≡ x → Free (trim_start s) → Free (trim_start (b ∷ s))
    go true q ih = rw (trim_start, q) ih
    go false q ih = rw (trim_start, q) (cons e f)

free_keep : (b : ℕ) {s : Text} → eqb b 91 ≡ false → Free s → Free (keep_end b s)
unfolding keep_end
free_keep b e nil = go (blank b)
  where
    go : (x : Bool) → Free (cond x [] (b ∷ []))
    go true = nil
    go false = cons e nil
free_keep b e (cons f g) = cons e (cons f g)

free_end : {s : Text} → Free s → Free (trim_end s)
unfolding trim_end
free_end nil = nil
free_end (cons {b} e f) = free_keep b e (free_end f)

free_trim : {s : Text} → Free s → Free (trim s)
unfolding trim
free_trim f = free_end (free_start f)

-- ---- around a colon
data FreeCut : Cut → Type 0 where
  whole : FreeCut uncut
  halves : {l r : Text} → Free l → Free r → FreeCut (around l r)

free_cut : {s : Text} (c : ℕ) → Free s → FreeCut (first_cut c s)
unfolding first_cut in_front
free_cut c nil = whole
free_cut c (cons {b} {s} e f) = go (eqb b c) refl (free_cut c f)
  where
    more : {k : Cut} → FreeCut k → FreeCut (in_front b k)
    more whole = whole
    more (halves l r) = halves (cons e l) r

    go : (x : Bool) → eqb b c ≡ x → FreeCut (first_cut c s) → FreeCut (first_cut c (b ∷ s))
    go true q ih = rw (first_cut, q) (halves nil f)
    go false q ih = rw (first_cut, q) (more ih)

free_right : {l r : Text} → FreeCut (around l r) → Free r
free_right (halves f g) = g

-- ---- pieces and lines
free_first : (b : ℕ) {ps : List Text} → eqb b 91 ≡ false → AllFree ps → AllFree (on_first b ps)
unfolding on_first
free_first b e none_left = one_more (cons e nil) none_left
free_first b e (one_more f g) = one_more (cons e f) g

free_where : (t : ℕ → Bool) {s : Text} → Free s → AllFree (cut_where t s)
unfolding cut_where
free_where t nil = one_more nil none_left
free_where t (cons {b} {s} e f) = go (t b) refl (free_where t f)
  where
    go : (x : Bool) → t b ≡ x → AllFree (cut_where t s) → AllFree (cut_where t (b ∷ s))
    go true q ih = rw (cut_where, q) (one_more nil ih)
    go false q ih = rw (cut_where, q) (free_first b e ih)

free_lines : {s : Text} → Free s → AllFree (cut_at 10 s)
unfolding cut_at
free_lines f = free_where (eqb 10) f

free_drop : {ps : List Text} → AllFree ps → AllFree (drop_empty ps)
unfolding drop_empty
free_drop none_left = none_left
free_drop (one_more nil g) = free_drop g
free_drop (one_more (cons e f) g) = one_more (cons e f) (free_drop g)

free_pieces : {s : Text} → Free s → AllFree (pieces s)
unfolding pieces
free_pieces f = free_drop (free_where blank f)

free_append : {s t : Text} → Free s → Free t → Free (s ++ t)
free_append nil g = g
free_append (cons e f) g = cons e (free_append f g)

free_more : {ps : List Text} → AllFree ps → Free (join_more ps)
unfolding join_more
free_more none_left = nil
free_more (one_more f g) = cons refl (free_append f (free_more g))

free_joined : {ps : List Text} → AllFree ps → Free (joined ps)
unfolding joined
free_joined none_left = nil
free_joined (one_more f g) = free_append f (free_more g)

-- ---- a line's value
data FreePiece : Option Text → Type 0 where
  no_piece : FreePiece None
  piece : {p : Text} → Free p → FreePiece (Some p)

free_nth : (n : ℕ) {ps : List Text} → AllFree ps → FreePiece (nth n ps)
unfolding nth
free_nth n none_left = no_piece
free_nth zero (one_more f g) = piece f
free_nth (suc n) (one_more f g) = free_nth n g

free_directive : {s : Text} {ps : List Text} → Free s → AllFree ps → Free (piece_directive s ps)
unfolding piece_directive
free_directive f none_left = f
free_directive f (one_more g none_left) = f
free_directive {s} f (one_more {p = p} g (one_more {p = q} {ps = ps} h k)) = go (is_directive p)
  where
    go : (x : Bool) → Free (cond x s (joined (q ∷ ps)))
    go true = f
    go false = free_joined (one_more h k)

free_data : {s : Text} → Free s → FreePiece (data_piece s)
unfolding data_piece directive_of
free_data {s} f = go (contains (bytes "DC.") (uppers s))
  where
    directive : (k : Cut) → FreeCut k → Free (elim k [ uncut ↦ piece_directive s (pieces s) | around l d ↦ trim d ])
    directive uncut h = free_directive f (free_pieces f)
    directive (around l d) h = free_trim (free_right h)

    go : (x : Bool) → FreePiece (cond x (nth 1 (pieces (directive_of s))) None)
    go true = free_nth 1 (free_pieces (directive (first_cut 58 s) (free_cut 58 f)))
    go false = no_piece

free_after : {s : Text} → Free s → Free (after_colon s)
unfolding after_colon
free_after {s} f = go (first_cut 58 s) (free_cut 58 f)
  where
    go : (k : Cut) → FreeCut k → Free (elim k [ uncut ↦ s | around l r ↦ trim r ])
    go uncut h = f
    go (around l r) h = free_trim (free_right h)

free_trimmed : {s : Text} → Free s → FreePiece (trimmed_piece s)
unfolding trimmed_piece
free_trimmed nil = no_piece
free_trimmed (cons {b} {s} e f) = go (eqb b 59) (starts (bytes "END") (uppers (b ∷ s))) (starts (bytes "ORG") (uppers (b ∷ s)))
  where
    go : (x y z : Bool) → FreePiece (cond x None (cond y None (cond z None (data_piece (after_colon (b ∷ s))))))
    go true y z = no_piece
    go false true z = no_piece
    go false false true = no_piece
    go false false false = free_data (free_after (cons e f))

no_sum : {o : Option Text} → FreePiece o → is_sum o ≡ false
unfolding is_sum starts_with bytes
no_sum no_piece = refl
no_sum (piece nil) = refl
no_sum (piece (cons {b} e f)) = rw (eqb_comm 91 b, e)

free_line : {l : Text} → Free l → asks_for_a_sum l ≡ false
unfolding asks_for_a_sum line_piece
free_line {l} f = rw (line_value_is l) (no_sum (free_trimmed (free_trim f)))

none_asked : {ls : List Text} → AllFree ls → ask_for_sums ls ≡ false
unfolding ask_for_sums
none_asked none_left = refl
none_asked (one_more {p = l} f g) = rw (free_line f, none_asked g) (go (is_end_line l))
  where
    go : (x : Bool) → (not x && false) ≡ false
    go true = refl
    go false = refl

pub no_bracket_no_sum : NoBracketNoSum
no_bracket_no_sum = record { line = λ l e. free_line (free_of l e); source = λ s e. rw (split_is 10 s) (none_asked (free_lines (free_of s e))) }
