-- A line's number by the rules' steps, as the code's tests decide them. Assumes nothing.
use Rattle.std.specs.Prelude.{Option, None, Some, Result}
use Prim.Native.Nat.{ℕ, ◌+◌}
use mathlib.Core.Path.{◌≡◌, refl, sym, ap, ◌∙◌}
use mathlib.Core.Bool.{Bool, true, false}
use mathlib.Core.List.{[], ◌∷◌}
use native.Mathlib.Numerals.{add-one}
use native.Mathlib.Omega.{arith}
use lib.ListN.{length, get_or, drop}
use borrow.Author.Tests.{eq-eqb, ne_eqb}
use Rattle.rules.specs.Text.{Text, bytes, uppers, leading, trim, pieces, Cut, uncut, around, first_cut, starts, contains, nth}
use Rattle.rules.specs.Line.{reading_in, value_reading_in}
use Rattle.rules.specs.Directive.{data_reading, after_colon, trimmed_reading, line_reading}
use Rattle.text.proofs.Find.{Indexed}
use Rattle.text.proofs.Trim.{leading_trim}
use Rattle.numeral.specs.Number.{number_of}
use Rattle.numeral.specs.declared.Failure.{Failure}
use Rattle.line.specs.Steps.{PieceHeadGives}
use Rattle.line.specs.declared.DataHead.{DataHead}
use Rattle.directive.specs.Directive.{line_number_of}

-- ---- step 5
module _ (t : Text) {y : Bool} (q : y ≡ contains (bytes "DC.") (uppers t)) where
  pub no_number : y ≡ false → None ≡ line_number_of (data_reading t)
  unfolding data_reading
  no_number e = rw (← q, e)

  pub data_number : {h : DataHead} {m : Result ℕ Failure} → y ≡ true → PieceHeadGives t h → m ≡ number_of (value_reading_in (nth 1 (pieces (drop h.directive t)))) → Some m ≡ line_number_of (data_reading t)
  unfolding data_reading
  data_number e g p = ap Some p ∙ rw (← q, e, g.directs)

-- ---- step 4
module _ (t : Text) where
  pub uncut_rest : first_cut 58 t ≡ uncut → t ≡ after_colon t
  unfolding after_colon
  uncut_rest e = rw (e, after_colon)

  pub after_colon_lem : {i : ℕ} → Indexed 58 t i → after_colon t ≡ trim (drop (i + 1) t)
  unfolding after_colon
  after_colon_lem {i} x = rw (x.cut, after_colon, add-one i)

  pub no_blank_left : leading t ≡ 0 → leading (after_colon t) ≡ 0
  unfolding after_colon
  no_blank_left z = go (first_cut 58 t) refl
    where
      go : (c : Cut) → first_cut 58 t ≡ c → leading (after_colon t) ≡ 0
      go uncut e = rw (e, after_colon) z
      go (around l r) e = rw (e, after_colon) (leading_trim r)

-- ---- steps 1 to 3 on the trimmed line
empty : (t : Text) → length t ≡ 0 → trimmed_reading t ≡ None
unfolding trimmed_reading
empty [] z = refl
empty (b ∷ s) z = absurd (omega arith)

note : (t : Text) → get_or t 0 0 ≡ 59 → trimmed_reading t ≡ None
unfolding trimmed_reading
note [] d = absurd (omega arith)
note (b ∷ s) d = rw (eq-eqb b 59 d)

ends : (t : Text) → (get_or t 0 0 ≡ 59 → ⊥) → starts (bytes "END") (uppers t) ≡ true → trimmed_reading t ≡ None
unfolding trimmed_reading
ends [] d e = refl
ends (b ∷ s) d e = rw (ne_eqb b 59 d, e)

org : (t : Text) → (length t ≡ 0 → ⊥) → (get_or t 0 0 ≡ 59 → ⊥) → starts (bytes "END") (uppers t) ≡ false → starts (bytes "ORG") (uppers t) ≡ true
    → trimmed_reading t ≡ Some (reading_in (nth 1 (pieces t)))
unfolding trimmed_reading
org [] z d e o = absurd (z refl)
org (b ∷ s) z d e o = rw (ne_eqb b 59 d, e, o)

other : (t : Text) → (length t ≡ 0 → ⊥) → (get_or t 0 0 ≡ 59 → ⊥) → starts (bytes "END") (uppers t) ≡ false → starts (bytes "ORG") (uppers t) ≡ false
    → trimmed_reading t ≡ data_reading (after_colon t)
unfolding trimmed_reading
other [] z d e o = absurd (z refl)
other (b ∷ s) z d e o = rw (ne_eqb b 59 d, e, o)

-- ---- the line, trimmed to t
module _ (line : Text) {t : Text} (w : t ≡ trim line) where
  pub trimmed_leading : leading (after_colon t) ≡ 0
  trimmed_leading = no_blank_left t (rw w (leading_trim line))

  by_trimmed : line_reading line ≡ trimmed_reading t
  unfolding line_reading
  by_trimmed = rw w

  none_said : trimmed_reading t ≡ None → None ≡ line_number_of (line_reading line)
  none_said e = rw (by_trimmed, e)

  pub says_empty : length t ≡ 0 → None ≡ line_number_of (line_reading line)
  says_empty z = none_said (empty t z)

  pub says_note : get_or t 0 0 ≡ 59 → None ≡ line_number_of (line_reading line)
  says_note d = none_said (note t d)

  module _ (z : length t ≡ 0 → ⊥) (d : get_or t 0 0 ≡ 59 → ⊥) {u : Bool} (p : u ≡ starts (bytes "END") (uppers t)) where
    pub says_end : u ≡ true → None ≡ line_number_of (line_reading line)
    says_end e = none_said (ends t d (sym p ∙ e))

    module _ (e : u ≡ false) {v : Bool} (g : v ≡ starts (bytes "ORG") (uppers t)) where
      pub says_org : {m : Result ℕ Failure} → v ≡ true → m ≡ number_of (reading_in (nth 1 (pieces t))) → Some m ≡ line_number_of (line_reading line)
      says_org o q = ap Some q ∙ sym (ap line_number_of (by_trimmed ∙ org t z d (sym p ∙ e) (sym g ∙ o)))

      pub says_rest : {s : Text} {r : Option (Result ℕ Failure)} → v ≡ false → s ≡ after_colon t → r ≡ line_number_of (data_reading s) → r ≡ line_number_of (line_reading line)
      says_rest o q k = k ∙ ap (λ x. line_number_of (data_reading x)) q ∙ sym (ap line_number_of (by_trimmed ∙ other t z d (sym p ∙ e) (sym g ∙ o)))
