-- What the loop of `kept_length` keeps, and the parts that `trimmed` lends. Assumes nothing.
use mathlib.Core.Path.{◌≡◌, sym, ap, ◌∙◌}
use mathlib.Core.Bool.{Bool, true, false}
use mathlib.Core.List.{[], ◌∷◌, ◌++◌}
use Prim.Native.Nat.{ℕ, zero, suc, ◌+◌, ◌-◌, ◌≤◌, ◌<◌}
use native.Mathlib.Omega.{arith}
use lib.ListN.{length, take, drop, get_or, length-take, length-drop}
use lib.Seq.{take-suc, take-length, length-take-le, take_all}
use Rattle.rules.specs.Text.{Text, blank, leading, trim_end, trim}
use Rattle.text.specs.declared.Span.{Span}
use Rattle.text.specs.Spans.{part, PartIn, trimmed_span}
use Rattle.text.proofs.Trim.{leading_le, drop_leading, take_trim_end, trim_end_blank, trim_end_none, trim_within}

-- ---- the loop of `kept_length`
-- what it keeps: the same is left of the text's front
abbrev pub TrimsTo : Text → ℕ → Type 0
TrimsTo t n = trim_end (take n t) ≡ trim_end t

take_last : (t : Text) (n : ℕ) → 0 < n → n ≤ length t → take n t ≡ take (n - 1) t ++ (get_or t (n - 1) 0 ∷ [])
take_last t zero h l = absurd (omega arith)
take_last t (suc m) h l = let e : suc m - 1 ≡ m = omega arith in rw e (take-suc t m 0 l)

module _ (t : Text) where
  pub kept_start : TrimsTo t (length t)
  kept_start = ap trim_end (take-length t)

  pub kept_end : (n : ℕ) → n ≤ 0 → TrimsTo t n → 0 ≡ length (trim_end t)
  unfolding trim_end
  kept_end zero h inv = ap length inv
  kept_end (suc n) h inv = omega arith

  module _ (n : ℕ) (p : 0 < n) (l : n ≤ length t) {y : Bool} (q : y ≡ blank (get_or t (n - 1) 0)) where
    pub kept_stop : y ≡ false → TrimsTo t n → n - 1 + 1 ≡ length (trim_end t)
    kept_stop h inv =
        let whole : trim_end (take n t) ≡ take n t = rw (take_last t n p l) (trim_end_none (take (n - 1) t) (get_or t (n - 1) 0) (sym q ∙ h)) in
        omega (arith, length-take-le n t l, ap length (sym whole ∙ inv))

    pub kept_more : y ≡ true → TrimsTo t n → TrimsTo t (n - 1)
    kept_more h inv = sym (trim_end_blank _ _ (sym q ∙ h)) ∙ ap trim_end (sym (take_last t n p l)) ∙ inv

-- ---- the parts that `trimmed` lends
pub rest_is : (t : Text) (s : ℕ) → take (length t - s) (drop s t) ≡ drop s t
rest_is t s = take_all (length t - s) (drop s t) (rw length-drop (omega arith))

pub from_leading : (t : Text) (s : ℕ) → s ≡ leading t → s ≤ length t
from_leading t s e = omega (arith, leading_le t)

pub to_kept : (p : Text) (e : ℕ) → e ≡ length (trim_end p) → e ≡ length (take e p)
to_kept p e q = rw (q, take_trim_end p)

pub trimmed_is : (t : Text) (s e : ℕ) → s ≡ leading t → e ≡ length (trim_end (take (length t - s) (drop s t))) → take e (take (length t - s) (drop s t)) ≡ trim t
unfolding trim
trimmed_is t s e p q = rw (q, take_trim_end (take (length t - s) (drop s t)), rest_is t s, p, drop_leading t)

-- ---- what `trimmed_span` counts: k blanks lead, and n bytes are left
kept_trim : (p : Text) (k n : ℕ) → k ≡ leading p → n ≡ length (trim_end (take (length p - k) (drop k p))) → n ≡ length (trim p)
unfolding trim
kept_trim p k n e q = q ∙ rw (rest_is p k, e, drop_leading p)

module _ (t : Text) (a e : ℕ) (h : PartIn t a e) {k n : ℕ} (p : k ≡ leading (part t a e)) (q : n ≡ length (trim_end (take (length (part t a e) - k) (drop k (part t a e))))) where
  pub trimmed_within : a + k + n ≤ length t
  trimmed_within = omega (arith, h, kept_trim (part t a e) k n p q, trim_within (part t a e), length-take (e - a) (drop a t), length-drop a t)

  pub span_trimmed : ◌≡◌ {A = Span} (record { start = a + k; end = a + k + n }) (trimmed_span t a e)
  span_trimmed = rw (kept_trim (part t a e) k n p q, p)
