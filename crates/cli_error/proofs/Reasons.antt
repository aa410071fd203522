-- The system's words are all that stands in front of the number. Assumes nothing.
use Rattle.std.proofs.Common.{◌≡◌, ℕ, zero, suc, ◌+◌, ◌/◌, ◌%◌, ◌<◌, Bool, true, false, cond, eqb, ltb, [], ◌∷◌, ◌++◌, length, drop, refl, sym, ap, ◌∙◌, arith}
use borrow.Author.Tests.{ne_eqb}
use lib.ListN.{length-append}
use lib.Seq.{take_at, drop_at, drop-drop}
use Rattle.rules.specs.Text.{Text, bytes, starts, contains}
use Rattle.text.proofs.Contains.{contains_later}
use Rattle.listing.specs.Listing.{digit_byte, digits_of, decimal}
use Rattle.cli_error.specs.Reason.{mark, reason_of}
use Rattle.cli_error.specs.Stated.{ReasonGiven, ReasonWhole}
use Rattle.cli_error.proofs.Marks.{cut_last, reason_whole}

-- no byte is a space or opens a bracket
data Close : Text → Type 0 where
  none : Close []
  one : {b : ℕ} {s : Text} → eqb 32 b ≡ false → eqb 40 b ≡ false → Close s → Close (b ∷ s)

no_mark_in : (s : Text) → Close s → contains mark s ≡ false
unfolding contains starts mark bytes
no_mark_in [] c = refl
no_mark_in (b ∷ s) (one e f c) = contains_later mark b s (rw (e, starts)) ∙ no_mark_in s c

close_both : (s t : Text) → Close s → Close t → Close (s ++ t)
close_both [] t c d = d
close_both (b ∷ s) t (one e f c) d = one e f (close_both s t c d)

other : (k d : ℕ) → k < 48 → eqb k (digit_byte d) ≡ false
unfolding digit_byte
other k d h = go (ltb d 10) refl
  where
    go : (y : Bool) → ltb d 10 ≡ y → eqb k (cond (ltb d 10) (48 + d) (55 + d)) ≡ false
    go true e = rw e (ne_eqb k (48 + d) (λ z. absurd (omega arith)))
    go false e = rw e (ne_eqb k (55 + d) (λ z. absurd (omega arith)))

digits_close : (base k n : ℕ) → Close (digits_of base k n)
unfolding digits_of
digits_close base zero n = none
digits_close base (suc k) n =
    close_both (digits_of base k (n / base)) (digit_byte (n % base) ∷ []) (digits_close base k (n / base))
    (one (other 32 (n % base) (omega arith)) (other 40 (n % base) (omega arith)) none)

-- what stands after the first byte of the mark
behind : (u : Text) → Close u → contains mark (40 ∷ 111 ∷ 115 ∷ 32 ∷ 101 ∷ 114 ∷ 114 ∷ 111 ∷ 114 ∷ 32 ∷ u) ≡ false
unfolding contains starts mark bytes
behind [] none = refl
behind (b ∷ u) (one e f c) = contains_later mark 32 (b ∷ u) (rw (f, starts)) ∙ no_mark_in (b ∷ u) (one e f c)

coded : (u : Text) → Close u → contains mark (drop 1 (mark ++ u)) ≡ false
unfolding mark bytes
coded u c = behind u c

begins : (u : Text) → starts mark (mark ++ u) ≡ true
unfolding starts mark bytes
begins u = refl

some_mark : (u : Text) → 0 < length (mark ++ u)
unfolding mark bytes
some_mark u = omega arith

before_mark : (t u : Text) → Close u → reason_of (t ++ (mark ++ u)) ≡ t
before_mark t u c =
    let d : drop (length t) (t ++ (mark ++ u)) ≡ mark ++ u = drop_at t (mark ++ u) (length t) refl in
    let z : length t + 1 ≡ suc (length t) = omega arith in
    let e : drop (suc (length t)) (t ++ (mark ++ u)) ≡ drop 1 (mark ++ u) = rw (← z) (sym (drop-drop 1 (length t) (t ++ (mark ++ u))) ∙ ap (drop 1) d) in
    cut_last (t ++ (mark ++ u)) (length t) (omega (arith, length-append t (mark ++ u), some_mark u)) (rw d (begins u)) (rw e (coded u c))
    ∙ take_at t (mark ++ u) (length t) refl

pub reason_given : ReasonGiven
unfolding ReasonGiven decimal bytes
reason_given t n = before_mark t (decimal n ++ bytes ")") (close_both (decimal n) (bytes ")") (digits_close 10 _ n) (one refl refl none))

pub reason_left : ReasonWhole
unfolding ReasonWhole
reason_left t e = reason_whole t e
