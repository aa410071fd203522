-- A line's value, in the words of Rust's std and in the rules'; where it is no sum it reads as a number. Assumes nothing.
use Rattle.std.specs.Prelude.{Option, None, Some}
use Prim.Native.Nat.{ℕ}
use mathlib.Core.Path.{◌≡◌, refl, sym, ◌∙◌}
use mathlib.Core.Bool.{Bool, true, false, not, ◌&&◌, ◌||◌, cond, and-true, false≢true}
use mathlib.Core.List.{List, [], ◌∷◌}
use lib.Dec.{eqb}
use borrow.Author.Tests.{eqb-true}
use mathlib.Core.Logic.{◌≢◌}
use Rattle.rules.specs.Text.{Text, bytes, upper, uppers, leading, trim, pieces, joined, Cut, uncut, around, first_cut, starts, contains, nth}
use Rattle.rules.specs.Number.{value_of}
use Rattle.rules.specs.Line.{reading_in, number_in, value_reading, value_reading_in, is_directive, line_of, trimmed_line, end}
use Rattle.rules.specs.Directive.{piece_directive, directive_of, after_colon}
use Rattle.promises_rust.specs.RustStr.{when, at, get, is_empty, split, split_whitespace, splitn_2, to_uppercase, starts_with}
use Rattle.promises_rust.specs.RustStr as Rust
use Rattle.promises_rust.specs.RustLists.{behind_colon, names_data, value_piece, stands_alone, line_value, is_sum, asks_for_a_sum, is_end_line, ask_for_sums}
use Rattle.promises_rust.proofs.RustText.{eqb_comm, starts_is, contains_is, uppercase_is, trim_is, pieces_is, cut_texts, is_cut, splitn_is, contains_one, get_is, AllFull, AllSolid, nil, cons, full_pieces, solid_pieces}
use Rattle.promises_rust.proofs.RustPieces.{pieces_joined}

-- the piece of a value in a text of data, and in a line, by the rules' steps
unfoldable pub data_piece : Text → Option Text
data_piece s = cond (contains (bytes "DC.") (uppers s)) (nth 1 (pieces (directive_of s))) None

unfoldable pub trimmed_piece : Text → Option Text
trimmed_piece [] = None
trimmed_piece (b ∷ s) =
    cond (eqb b 59) None
    (cond (starts (bytes "END") (uppers (b ∷ s))) None (cond (starts (bytes "ORG") (uppers (b ∷ s))) None (data_piece (after_colon (b ∷ s)))))

unfoldable pub line_piece : Text → Option Text
line_piece s = trimmed_piece (trim s)

-- they are the line's value
behind_is : (s : Text) → behind_colon s ≡ after_colon s
unfolding behind_colon after_colon bytes cut_texts is_cut
behind_is s = rw (contains_one 58 s, splitn_is 58 s) (go (first_cut 58 s))
  where
    go : (k : Cut) → cond (is_cut k) (Rust.trim (at (cut_texts k s) 1)) s ≡ elim k [ uncut ↦ s | around l r ↦ trim r ]
    go uncut = refl
    go (around l r) = trim_is r

pub names_is : (p : Text) → names_data p ≡ is_directive p
unfolding names_data is_directive
names_is p = rw (uppercase_is p, starts_is (bytes "DC") (uppers p), starts_is (bytes "DS") (uppers p))

module _ (s : Text) where
  pub third : {ps : List Text} → pieces s ≡ ps → AllFull ps → AllSolid ps → nth (cond (is_directive (at ps 0)) 1 2) ps ≡ nth 1 (pieces (piece_directive s ps))
  unfolding nth piece_directive
  third e nil nil = rw e
  third e (cons {b = b} {p = p} nil) (cons r nil) = rw (piece_directive, e) (go (is_directive (b ∷ p)))
    where
      go : (x : Bool) → nth (cond x 1 2) ((b ∷ p) ∷ []) ≡ None
      go true = refl
      go false = refl
  third e (cons {b = b} {p = p} (cons {b = c} {p = q} {ps = ps} f)) (cons r rs) = go (is_directive (b ∷ p))
    where
      go : (x : Bool) → nth (cond x 1 2) ((b ∷ p) ∷ (c ∷ q) ∷ ps) ≡ nth 1 (pieces (cond x s (joined ((c ∷ q) ∷ ps))))
      go true = rw e
      go false = rw (pieces_joined (cons f) rs)

  piece_is : value_piece s ≡ nth 1 (pieces (directive_of s))
  unfolding value_piece directive_of bytes is_cut nth after_colon
  piece_is =
      rw (
        contains_one 58 s,
        behind_is s,
        pieces_is (after_colon s),
        pieces_is s,
        names_is (at (pieces s) 0),
        get_is (pieces (after_colon s)) 1,
      )
      (go (first_cut 58 s) refl)
    where
      go : (k : Cut) → first_cut 58 s ≡ k → cond (is_cut k) (nth 1 (pieces (after_colon s))) (get (pieces s) (cond (is_directive (at (pieces s) 0)) 1 2)) ≡ nth 1 (pieces (directive_of s))
      go uncut e = rw (e, directive_of) (get_is (pieces s) _ ∙ third refl (full_pieces s) (solid_pieces s))
      go (around l d) e = rw (e, directive_of, after_colon)

data_piece_is : (s : Text) → when (Rust.contains (to_uppercase s) (bytes "DC.")) (value_piece s) ≡ data_piece s
unfolding data_piece
data_piece_is s = rw (uppercase_is s, contains_is (bytes "DC.") (uppers s), piece_is s)

pub semicolon : (b : ℕ) (t : Text) → starts_with (b ∷ t) (bytes ";") ≡ eqb b 59
unfolding starts_with bytes
semicolon b t = and-true (eqb 59 b) ∙ eqb_comm 59 b

pub line_value_is : (l : Text) → line_value l ≡ line_piece l
unfolding line_value line_piece stands_alone trimmed_piece is_empty
line_value_is l = rw (trim_is l) (go (trim l))
  where
    go : (t : Text) → when (not (stands_alone t)) (when (Rust.contains (to_uppercase (behind_colon t)) (bytes "DC.")) (value_piece (behind_colon t))) ≡ trimmed_piece t
    go [] = refl
    go (b ∷ t) =
        rw (behind_is (b ∷ t), data_piece_is (after_colon (b ∷ t)), semicolon b t, uppercase_is (b ∷ t), starts_is (bytes "END") (uppers (b ∷ t)), starts_is (bytes "ORG") (uppers (b ∷ t)))
        (on (eqb b 59) (starts (bytes "END") (uppers (b ∷ t))) (starts (bytes "ORG") (uppers (b ∷ t))) (data_piece (after_colon (b ∷ t))))
      where
        on : (x y z : Bool) (o : Option Text) → when (not (x || y || z)) o ≡ cond x None (cond y None (cond z None o))
        on true y z o = refl
        on false true z o = refl
        on false false true o = refl
        on false false false o = refl

-- a piece that reads as a number, or as none, be it a sum or not
pub record Plain (o : Option Text) : Type 0 where
  pub is : value_of (value_reading_in o) ≡ number_in o

pub plain_none : Plain None
unfolding value_reading_in number_in reading_in
plain_none = record { is = refl }

pub plain_of : (o : Option Text) → is_sum o ≡ false → Plain o
unfolding is_sum value_reading_in number_in reading_in value_reading
plain_of None e = plain_none
plain_of (Some p) e = let no : starts (bytes "[") p ≡ false = sym (starts_is (bytes "[") p) ∙ e in record { is = rw no }

pub plain_line : (l : Text) → asks_for_a_sum l ≡ false → Plain (line_piece l)
unfolding asks_for_a_sum
plain_line l e = plain_of (line_piece l) (rw (line_value_is l) at e)

-- lines of which none that is read asks for one
pub data AllPlain : List Text → Type 0 where
  none_left : AllPlain []
  one_more : {l : Text} {ls : List Text} → Plain (line_piece l) → (is_end_line l ≡ false → AllPlain ls) → AllPlain (l ∷ ls)

pub all_plain : (ls : List Text) → ask_for_sums ls ≡ false → AllPlain ls
unfolding ask_for_sums
all_plain [] e = none_left
all_plain (l ∷ ls) e = go (asks_for_a_sum l) refl e (all_plain ls)
  where
    others : (y : Bool) → (not y && ask_for_sums ls) ≡ false → y ≡ false → ask_for_sums ls ≡ false
    others true h f = absurd (false≢true (sym f))
    others false h f = h

    go : (x : Bool) → asks_for_a_sum l ≡ x → (x || not (is_end_line l) && ask_for_sums ls) ≡ false → (ask_for_sums ls ≡ false → AllPlain ls) → AllPlain (l ∷ ls)
    go true f h ih = absurd (false≢true (sym h))
    go false f h ih = one_more (plain_line l f) (λ k. ih (others (is_end_line l) h k))

-- the END line is the rules'
end_is : (l : Text) → is_end_line l ≡ true → (line_of l).task ≡ end
unfolding is_end_line line_of trimmed_line starts uppers upper bytes
end_is l e = go (leading l) (trim l) (rw (trim_is l, uppercase_is (trim l), starts_is (bytes "END") (uppers (trim l))) at e)
  where
    no_note : (b : ℕ) (t : Text) → starts (bytes "END") (uppers (b ∷ t)) ≡ true → eqb b 59 ≡ false
    no_note b t h = on (eqb b 59) refl
      where
        on : (x : Bool) → eqb b 59 ≡ x → eqb b 59 ≡ false
        on true f = absurd (false≢true (rw (eqb-true b 59 f) at h))
        on false f = f

    go : (i : ℕ) (t : Text) → starts (bytes "END") (uppers t) ≡ true → (trimmed_line i t).task ≡ end
    go i [] h = absurd (false≢true h)
    go i (b ∷ t) h = rw (trimmed_line, no_note b t h, h)

pub not_end : (l : Text) → (line_of l).task ≢ end → is_end_line l ≡ false
not_end l k = go (is_end_line l) refl
  where
    go : (x : Bool) → is_end_line l ≡ x → is_end_line l ≡ false
    go true e = absurd (k (end_is l e))
    go false e = e
