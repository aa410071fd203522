-- Laws of the operands: where they stand in a joined tail, and what the loop of `split_operands` keeps. Assumes nothing.
use Rattle.std.specs.Prelude.{Option, None, Some, unwrap_or}
use mathlib.Core.Path.{◌≡◌, refl, sym, ◌∙◌}
use mathlib.Core.Bool.{Bool, true, false, cond}
use mathlib.Core.List.{List, [], ◌∷◌}
use Prim.Native.Nat.{ℕ, zero, suc, ◌+◌, ◌-◌, ◌≤◌, ◌<◌}
use native.Mathlib.Numerals.{add-one}
use native.Mathlib.Omega.{arith}
use borrow.Author.Tests.{eq-eqb, ne_eqb}
use lib.Dec.{eqb}
use lib.ListN.{length, take, drop, length-drop}
use lib.Seq.{length-take-le, take_all}
use Rattle.rules.specs.Text.{Text, leading, trim, cut_at, first_text}
use Rattle.text.specs.Find.{index_of, further}
use Rattle.text.specs.declared.Span.{Span}
use Rattle.text.proofs.Find.{Unindexed, IndexedFrom, found_from, found_nowhere_from}
use Rattle.text.specs.Spans.{part, PartIn, trimmed_span}
use Rattle.instruction.specs.Split.{span, keep_span, spans, last_span, operands, summary, operands_at, next_operand, with_span}
use Rattle.instruction.specs.declared.Operands.{Operands}

-- ---- the parts between commas
-- the part that ends at the text's end, or at a comma
data Ends (t : Text) (at e : ℕ) : Type 0 where
  last : e ≡ length t → cut_at 44 (drop at t) ≡ part t at e ∷ [] → Ends t at e
  comma : e < length t → cut_at 44 (drop at t) ≡ part t at e ∷ cut_at 44 (drop (suc e) t) → Ends t at e

module _ (t : Text) (at : ℕ) (h : at ≤ length t) where
  none_left : Unindexed 44 (drop at t) → cut_at 44 (drop at t) ≡ part t at (length t) ∷ []
  none_left u = u.parts ∙ rw (take_all (length t - at) (drop at t) (rw length-drop (omega arith)))

  -- `part_end` answers the text's end
  end_last : further at (index_of 44 (drop at t)) ≡ None → length t ≡ at + length (first_text (cut_at 44 (drop at t)))
  unfolding first_text
  end_last f = rw ((found_nowhere_from 44 t at f).parts, length-drop) (omega arith)

  -- `part_end` answers a comma's place
  end_comma : (i : ℕ) → further at (index_of 44 (drop at t)) ≡ Some i → i ≡ at + length (first_text (cut_at 44 (drop at t)))
  unfolding first_text
  end_comma i f =
      let x : IndexedFrom 44 t at i = found_from 44 t at i f in
      let l : length (take (i - at) (drop at t)) ≡ i - at = length-take-le (i - at) (drop at t) (rw length-drop (omega (arith, x.within))) in
      rw (x.parts, l) (omega (arith, x.from))

  pub end_found : (o : Option ℕ) → o ≡ further at (index_of 44 (drop at t)) → unwrap_or o (length t) ≡ at + length (first_text (cut_at 44 (drop at t)))
  end_found None q = end_last (sym q)
  end_found (Some i) q = end_comma i (sym q)

  ends : (e : ℕ) → e ≡ at + length (first_text (cut_at 44 (drop at t))) → Ends t at e
  unfolding first_text
  ends e q = go (further at (index_of 44 (drop at t))) refl
    where
      go : (y : Option ℕ) → further at (index_of 44 (drop at t)) ≡ y → Ends t at e
      go None f = let z : e ≡ length t = q ∙ sym (end_last f) in rw z (last refl (none_left (found_nowhere_from 44 t at f)))
      go (Some i) f = let z : e ≡ i = q ∙ sym (end_comma i f) in let x : IndexedFrom 44 t at i = found_from 44 t at i f in rw z (comma x.within x.parts)

  pub end_within : (e : ℕ) → e ≡ at + length (first_text (cut_at 44 (drop at t))) → PartIn t at e
  end_within e q = go (ends e q)
    where
      go : Ends t at e → PartIn t at e
      go (last z c) = record { ordered = omega arith; inside = omega arith }
      go (comma z c) = record { ordered = omega arith; inside = omega arith }

-- ---- the returns of `with_operand`, one after the other
module _ (o : Operands) (s : Span) where
  pub with_empty : s.start ≡ s.end → o ≡ with_span o s
  unfolding with_span
  with_empty e = rw (eq-eqb s.start s.end e)

  module _ (d : s.start ≡ s.end → ⊥) where
    pub with_first : o.count ≡ 0 → operands 1 s s s ≡ with_span o s
    unfolding with_span
    with_first e = rw (ne_eqb s.start s.end d, e)

    pub with_second : o.count ≡ 1 → operands 2 o.first s s ≡ with_span o s
    unfolding with_span
    with_second e = rw (ne_eqb s.start s.end d, e)

    pub with_more : (o.count ≡ 0 → ⊥) → (o.count ≡ 1 → ⊥) → operands (o.count + 1) o.first o.second s ≡ with_span o s
    unfolding with_span
    with_more p q = rw (ne_eqb s.start s.end d) (go o.count p q)
      where
        go : (n : ℕ) → (n ≡ 0 → ⊥) → (n ≡ 1 → ⊥) → operands (o.count + 1) o.first o.second s ≡ next_operand n o s
        go zero u v = absurd (u refl)
        go (suc zero) u v = absurd (v refl)
        go (suc (suc n)) u v = refl

-- ---- the loop of `split_operands`
-- operands added one after the other
unfoldable pub with_all : Operands → List Span → Operands
with_all o [] = o
with_all o (s ∷ ss) = with_all (next_operand o.count o s) ss

all_more : (n : ℕ) (s u v : Span) (ss : List Span) → with_all (operands (2 + n) s u v) ss ≡ operands (2 + n + length ss) s u (last_span v ss)
unfolding with_all last_span
all_more n s u v [] = let z : 2 + n + 0 ≡ 2 + n = omega arith in rw z
all_more n s u v (w ∷ ss) =
    let a : 2 + n ≡ suc (suc n) = omega arith in
    let b : suc (suc n) + 1 ≡ 2 + suc n = omega arith in
    let c : 2 + suc n + length ss ≡ suc (suc n) + suc (length ss) = omega arith in
    rw (a, b) (rw c at (all_more (suc n) s u w ss))

all_summary : (ss : List Span) → with_all (operands 0 (span 0 0) (span 0 0) (span 0 0)) ss ≡ summary ss
unfolding with_all summary
all_summary [] = refl
all_summary (s ∷ []) = refl
all_summary (s ∷ u ∷ ss) = all_more 0 s u u ss

with_kept : (o : Operands) (i : ℕ) (q : Text) (ss : List Span) → with_all (with_span o (span i (i + length q))) ss ≡ with_all o (keep_span i q ss)
unfolding with_all with_span keep_span
with_kept o i [] ss = let z : eqb i (i + 0) ≡ true = eq-eqb i (i + 0) (omega arith) in rw z
with_kept o i (b ∷ q) ss = let z : eqb i (i + suc (length q)) ≡ false = ne_eqb i (i + suc (length q)) (λ e. omega arith) in rw z

next_count : (n : ℕ) (o : Operands) (s : Span) → o.count ≡ n → (next_operand n o s).count ≡ o.count + 1
next_count zero o s e = omega arith
next_count (suc zero) o s e = omega arith
next_count (suc (suc n)) o s e = refl

with_count : (o : Operands) (s : Span) → (with_span o s).count ≤ o.count + 1
unfolding with_span
with_count o s = go (eqb s.start s.end)
  where
    go : (y : Bool) → (cond y o (next_operand o.count o s)).count ≤ o.count + 1
    go true = omega arith
    go false = omega (arith, next_count o.count o s refl)

-- what it keeps: with the operands of what is left, the summary is the whole text's
pub record Splitting (t : Text) (o : Operands) (at : ℕ) : Type 0 where
  pub upto : at ≤ length t
  pub few : o.count ≤ at
  pub left : with_all o (spans at (cut_at 44 (drop at t))) ≡ operands_at t

pub splitting_start : (t : Text) → Splitting t (operands 0 (span 0 0) (span 0 0) (span 0 0)) 0
unfolding operands_at
splitting_start t = record { upto = omega arith; few = omega arith; left = all_summary (spans 0 (cut_at 44 t)) }

module _ {t : Text} {o : Operands} {at : ℕ} (inv : Splitting t o at) {e : ℕ} (q : e ≡ at + length (first_text (cut_at 44 (drop at t)))) {s : Span} (r : s ≡ trimmed_span t at e) where
  -- what `with_operand` asks
  pub splitting_asks : (o.count ≤ s.start) × (s.start ≤ s.end)
  splitting_asks = rw r (omega (arith, inv.few), omega arith)

  added : {u : Operands} → u ≡ with_span o s → (ps : List Text) → cut_at 44 (drop at t) ≡ part t at e ∷ ps → with_all u (spans (at + length (part t at e) + 1) ps) ≡ operands_at t
  unfolding spans
  added p ps c = rw (p, r) (with_kept o (at + leading (part t at e)) (trim (part t at e)) (spans (at + length (part t at e) + 1) ps) ∙ rw c at inv.left)

  pub splitting_end : {u : Operands} → u ≡ with_span o s → e ≡ length t → u ≡ operands_at t
  unfolding with_all spans
  splitting_end {u} p h = go (ends t at inv.upto e q)
    where
      go : Ends t at e → u ≡ operands_at t
      go (last z c) = added p [] c
      go (comma z c) = absurd (omega arith)

  pub splitting_more : {u : Operands} → u ≡ with_span o s → (e ≡ length t → ⊥) → Splitting t u (e + 1)
  splitting_more {u} p d = go (ends t at inv.upto e q)
    where
      go : Ends t at e → Splitting t u (e + 1)
      go (last z c) = absurd (d z)
      go (comma z c) =
          let w : PartIn t at e = end_within t at inv.upto e q in
          let l : length (part t at e) ≡ e - at = length-take-le (e - at) (drop at t) (rw length-drop (omega arith)) in
          let n : at + (e - at) + 1 ≡ e + 1 = omega arith in
          record {
            upto = omega arith;
            few = rw p (omega (arith, with_count o s, inv.few));
            left = rw (l, n) at (added p (cut_at 44 (drop (e + 1) t)) (rw (add-one e) c));
          }
