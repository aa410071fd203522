-- Laws of parts without their outer blanks: where they stand, and the front of one. Assumes nothing.
use mathlib.Core.Path.{◌≡◌, refl, sym, ◌∙◌}
use mathlib.Core.List.{[], ◌∷◌}
use Prim.Native.Nat.{ℕ, zero, suc, ◌+◌, ◌-◌, ◌≤◌}
use native.Mathlib.Omega.{arith}
use lib.ListN.{length, take, drop, length-take}
use lib.Seq.{take-take}
use Rattle.rules.specs.Text.{Text, leading, trim_end, trim}
use Rattle.text.specs.declared.Span.{Span}
use Rattle.text.specs.Spans.{part, PartIn, trimmed_span}
use Rattle.text.proofs.Trim.{first_none, leading_none, leading_trim, drop_leading, trim_part, trim_le, trim_within}
use Rattle.text.proofs.Spans.{part_rest, part_front, length_part}
use Rattle.line.specs.Steps.{Trimmed}

-- the length that is left, by what stands after the leading blanks
pub kept_is : (t : Text) (s n : ℕ) → s ≡ leading t → n ≡ length (trim_end (drop s t)) → n ≡ length (trim t)
unfolding trim
kept_is t s n p q = q ∙ rw (p, drop_leading t)

-- ---- the front of a text that no blank leads
leading_take : (n : ℕ) (t : Text) → leading t ≡ 0 → leading (take n t) ≡ 0
unfolding leading
leading_take zero t z = refl
leading_take (suc n) [] z = refl
leading_take (suc n) (b ∷ t) z = leading_none b (take n t) (first_none b t z)

-- only the blanks at its end go
pub trim_kept : (n : ℕ) (t : Text) → leading t ≡ 0 → trim (take n t) ≡ trim_end (take n t)
unfolding trim
trim_kept n t z = rw (← drop_leading (take n t), leading_take n t z)

-- trimmed it is a front too
pub trim_front : (n : ℕ) (t : Text) → leading t ≡ 0 → trim (take n t) ≡ take (length (trim (take n t))) t
trim_front n t z =
    let k : ℕ = length (trim (take n t)) in
    let l : k ≤ n = omega (arith, trim_le (take n t), length-take n t) in
    (rw (leading_take n t z) at (trim_part (take n t))) ∙ take-take k n t l

pub trim_front_le : (n : ℕ) (t : Text) → length (trim (take n t)) ≤ length t
trim_front_le n t = omega (arith, trim_le (take n t), length-take n t)

-- ---- a part without its outer blanks, as a part
pub record Trims (t : Text) (a e : ℕ) (r : Span) : Type 0 where
  pub starts : r.start ≡ a + leading (part t a e)
  pub to_end : r.end ≤ e
  pub trimmed : Trimmed t r
  pub text : part t r.start r.end ≡ trim (part t a e)

module _ (t : Text) (a e : ℕ) (p : PartIn t a e) where
  trim_in : leading (part t a e) + length (trim (part t a e)) ≤ e - a
  trim_in = omega (arith, trim_within (part t a e), length_part t a e p)

  trimmed_text : part t (a + leading (part t a e)) (a + leading (part t a e) + length (trim (part t a e))) ≡ trim (part t a e)
  trimmed_text =
      let x : Text = part t a e in
      let l : length (trim x) ≤ e - (a + leading x) = omega (arith, trim_in) in
      sym (trim_part x ∙ rw (part_rest t a e (leading x)) (part_front t (a + leading x) e (length (trim x)) l))

  pub trims : (r : Span) → r ≡ trimmed_span t a e → Trims t a e r
  trims r q =
      rw q (record {
        starts = refl;
        to_end = omega (arith, trim_in);
        trimmed = record { placed = record { ordered = omega arith; inside = omega (arith, trim_in) }; no_blank = rw trimmed_text (leading_trim (part t a e)) };
        text = trimmed_text;
      })
