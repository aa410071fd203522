-- What the answer of `split_operands` says of the operands' texts, for callers. Assumes nothing.
use Rattle.std.specs.Prelude.{Option, None}
use mathlib.Core.Path.{◌≡◌, refl, sym, ap, ◌∙◌}
use mathlib.Core.Bool.{Bool, true, false}
use mathlib.Core.List.{List, [], ◌∷◌, map}
use Prim.Native.Nat.{ℕ, suc, ◌+◌, ◌-◌, ◌≤◌, ◌<◌}
use native.Mathlib.Omega.{arith}
use lib.Dec.{eqb}
use lib.ListN.{length, take, drop, length-drop, length-take}
use lib.Seq.{drop-drop}
use Rattle.rules.specs.Text.{Text, leading, trim, on_first, cut_where, cut_at, drop_empty, first_text, other_texts, last_text}
use Rattle.rules.specs.Encode.{one, two, one_or_more}
use Rattle.text.specs.declared.Span.{Span}
use Rattle.text.proofs.Until.{cut_here, cut_later}
use Rattle.text.proofs.Trim.{trim_part, trim_within}
use Rattle.text.specs.Spans.{span_text}
use Rattle.instruction.specs.Split.{operands_in, span, keep_span, spans, last_span, summary, operands_at, StandsAt, OperandsOf, PlacesIn}
use Rattle.instruction.specs.declared.Operands.{Operands}
use Rattle.instruction.proofs.Lists.{part_part}

-- ---- the cut texts stand one after the other
data Laid (t : Text) : ℕ → List Text → Type 0 where
  end : {i : ℕ} → Laid t i []
  next : (i : ℕ) (p : Text) (ps : List Text) → take (length p) (drop i t) ≡ p → Laid t (i + length p + 1) ps → Laid t i (p ∷ ps)

module _ (t : Text) (i b : ℕ) (s : Text) (e : drop i t ≡ b ∷ s) where
  after_byte : drop (i + 1) t ≡ s
  after_byte = sym (drop-drop 1 i t) ∙ ap (drop 1) e

  laid_here : {ps : List Text} → Laid t (i + 1) ps → Laid t i ([] ∷ ps)
  laid_here {ps} l = let z : i + 0 + 1 ≡ i + 1 = omega arith in next i [] ps refl (rw z l)

  laid_later : (ps : List Text) → Laid t (i + 1) ps → Laid t i (on_first b ps)
  unfolding on_first
  laid_later [] end = next i (b ∷ []) [] (rw e) end
  laid_later (p ∷ ps) (next _ _ _ q l) =
      let z : i + suc (length p) + 1 ≡ i + 1 + length p + 1 = omega arith in
      next i (b ∷ p) ps (rw e (ap (λ (r : Text). b ∷ r) (rw after_byte at q))) (rw z l)

laid : (t : Text) (i : ℕ) (s : Text) → drop i t ≡ s → Laid t i (cut_where (eqb 44) s)
unfolding cut_where
laid t i [] e = next i [] [] refl end
laid t i (b ∷ s) e = go (eqb 44 b) refl (laid t (i + 1) s (after_byte t i b s e))
  where
    go : (y : Bool) → eqb 44 b ≡ y → Laid t (i + 1) (cut_where (eqb 44) s) → Laid t i (cut_where (eqb 44) (b ∷ s))
    go true q l = rw (cut_here (eqb 44) b s q) (laid_here t i b s e l)
    go false q l = rw (cut_later (eqb 44) b s q) (laid_later t i b s e (cut_where (eqb 44) s) l)

-- ---- the texts stand at the spans
data Standing (t : Text) : List Span → List Text → Type 0 where
  nowhere : Standing t [] []
  more : {s : Span} {p : Text} {ss : List Span} {ps : List Text} → StandsAt t s p → Standing t ss ps → Standing t (s ∷ ss) (p ∷ ps)

module _ {t : Text} (i : ℕ) (p : Text) (e : take (length p) (drop i t) ≡ p) where
  trimmed_stands : (b : ℕ) (q : Text) → trim p ≡ b ∷ q → StandsAt t (span (i + leading p) (i + leading p + length (b ∷ q))) (b ∷ q)
  trimmed_stands b q f =
      let k : ℕ = leading p in
      let n : ℕ = suc (length q) in
      let w : k + n ≤ length p = rw f at (trim_within p) in
      let l : i + k + n - (i + k) ≡ n = omega arith in
      let d : drop (i + k) t ≡ drop k (drop i t) = sym (drop-drop k i t) in
      let whole : take n (drop k (drop i t)) ≡ take n (drop k p) = sym (part_part k n (length p) (drop i t) w) ∙ ap (λ (r : Text). take n (drop k r)) e in
      record {
        some = omega arith;
        within = omega (arith, ap length e, length-take (length p) (drop i t), length-drop i t);
        text = rw (l, d) (whole ∙ sym (rw f at (trim_part p)));
      }

  standing_kept : {ss : List Span} (ps : List Text) (q : Text) → trim p ≡ q → Standing t ss (drop_empty ps) → Standing t (keep_span (i + leading p) q ss) (drop_empty (q ∷ ps))
  unfolding keep_span drop_empty
  standing_kept ps [] f l = l
  standing_kept ps (b ∷ q) f l = more (trimmed_stands b q f) l

standing : {t : Text} {i : ℕ} {ps : List Text} → Laid t i ps → Standing t (spans i ps) (drop_empty (map trim ps))
unfolding spans drop_empty
standing end = nowhere
standing (next i p ps e l) = standing_kept i p e (map trim ps) (trim p) refl (standing l)

-- ---- the summary
standing_last : {t : Text} (s : Span) (p : Text) {ss : List Span} {ps : List Text} → StandsAt t s p → Standing t ss ps → StandsAt t (last_span s ss) (last_text p ps)
unfolding last_span last_text
standing_last s p x nowhere = x
standing_last s p x (more {s = u} {p = q} y l) = standing_last u q y l

standing_length : {t : Text} {ss : List Span} {ps : List Text} → Standing t ss ps → length ss ≡ length ps
standing_length nowhere = refl
standing_length (more x l) = ap suc (standing_length l)

summary_of : {t : Text} {ss : List Span} {ps : List Text} → Standing t ss ps → OperandsOf t (summary ss) ps
unfolding summary first_text other_texts last_text
summary_of nowhere = record { count = refl; first = λ h. absurd (omega arith); second = λ h. absurd (omega arith); last = λ h. absurd (omega arith) }
summary_of (more x nowhere) = record { count = refl; first = λ h. x; second = λ h. absurd (omega arith); last = λ h. absurd (omega arith) }
summary_of (more x (more {s = u} {p = q} y l)) =
    record { count = omega (arith, standing_length l); first = λ h. x; second = λ h. y; last = λ h. standing_last u q y l }

pub operands_of_lem : (t : Text) (o : Operands) → o ≡ operands_at t → OperandsOf t o (operands_in t)
unfolding operands_at operands_in cut_at
operands_of_lem t o e = rw e (summary_of (standing (laid t 0 t refl)))

pub operands_within : (t : Text) (o : Operands) → o ≡ operands_at t → 2 ≤ o.count → PlacesIn t o
operands_within t o e h =
    let x : OperandsOf t o (operands_in t) = operands_of_lem t o e in
    record {
      first = ((x.first (omega arith)).some, (x.first (omega arith)).within);
      second = ((x.second (omega arith)).some, (x.second (omega arith)).within);
      last = ((x.last (omega arith)).some, (x.last (omega arith)).within);
    }

-- ---- the operands by their count
module _ {t : Text} {o : Operands} (ps : List Text) (x : OperandsOf t o ps) {A : Type 0} where
  module _ (f : Text → Text → Option A) where
    pub two_operands : o.count ≡ 2 → two f ps ≡ f (span_text t o.first) (span_text t o.second)
    unfolding two first_text other_texts
    two_operands c = go ps x.count (x.first (omega arith)).text (x.second (omega arith)).text
      where
        go : (qs : List Text) → o.count ≡ length qs → span_text t o.first ≡ first_text qs → span_text t o.second ≡ first_text (other_texts qs) → two f qs ≡ f (span_text t o.first) (span_text t o.second)
        go [] n p q = absurd (omega arith)
        go (u ∷ []) n p q = absurd (omega arith)
        go (u ∷ v ∷ []) n p q = rw (p, q)
        go (u ∷ v ∷ w ∷ qs) n p q = absurd (omega arith)

    pub not_two : (o.count ≡ 2 → ⊥) → two f ps ≡ None
    unfolding two
    not_two d = go ps x.count
      where
        go : (qs : List Text) → o.count ≡ length qs → two f qs ≡ None
        go [] n = refl
        go (u ∷ []) n = refl
        go (u ∷ v ∷ []) n = absurd (d n)
        go (u ∷ v ∷ w ∷ qs) n = refl

  module _ (f : Text → Option A) where
    pub one_operand : o.count ≡ 1 → one f ps ≡ f (span_text t o.first)
    unfolding one first_text
    one_operand c = go ps x.count (x.first (omega arith)).text
      where
        go : (qs : List Text) → o.count ≡ length qs → span_text t o.first ≡ first_text qs → one f qs ≡ f (span_text t o.first)
        go [] n p = absurd (omega arith)
        go (u ∷ []) n p = rw p
        go (u ∷ v ∷ qs) n p = absurd (omega arith)

    pub not_one : (o.count ≡ 1 → ⊥) → one f ps ≡ None
    unfolding one
    not_one d = go ps x.count
      where
        go : (qs : List Text) → o.count ≡ length qs → one f qs ≡ None
        go [] n = refl
        go (u ∷ []) n = absurd (d n)
        go (u ∷ v ∷ qs) n = refl

    pub some_operand : 0 < o.count → one_or_more f ps ≡ f (span_text t o.first)
    unfolding one_or_more first_text
    some_operand c = go ps x.count (x.first c).text
      where
        go : (qs : List Text) → o.count ≡ length qs → span_text t o.first ≡ first_text qs → one_or_more f qs ≡ f (span_text t o.first)
        go [] n p = absurd (omega arith)
        go (u ∷ qs) n p = rw p

    pub no_operand_lem : o.count ≡ 0 → one_or_more f ps ≡ None
    unfolding one_or_more
    no_operand_lem c = go ps x.count
      where
        go : (qs : List Text) → o.count ≡ length qs → one_or_more f qs ≡ None
        go [] n = refl
        go (u ∷ qs) n = absurd (omega arith)
