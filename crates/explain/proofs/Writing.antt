-- What stands for the verdicts, written over the first places, line by line, and for END's; and the call's answer by the first pass. Assumes nothing.
use mathlib.Core.Path.{◌≡◌, refl, sym, ap, ◌∙◌}
use mathlib.Core.List.{List, [], ◌∷◌, ◌++◌, append-nil, append_assoc, map-append}
use Prim.Native.Nat.{ℕ, suc, ◌+◌, ◌*◌, ◌≤◌, ◌<◌}
use native.Mathlib.Numerals.{add-one}
use native.Mathlib.Omega.{arith}
use lib.ListN.{length, get_or, drop, set, length-append, length-drop, length-map}
use lib.Seq.{set_at, drop-cons}
use Rattle.rules.specs.Limits.{max_lines}
use Rattle.rules.specs.Text.{Text, cut_at}
use Rattle.rules.specs.Line.{size}
use Rattle.rules.specs.Encode.{Mnemonic}
use Rattle.rules.specs.Answer.{accepted, refused, and_then}
use Rattle.rules.specs.Assemble.{pass_at_by}
use Rattle.requests.specs.Explain.{explain_all_by}
use Rattle.label.specs.Labelled.{Labelled}
use Rattle.cells.specs.Cells.{kept_at}
use Rattle.cells.specs.Puts.{address_at, puts_of}
use Rattle.first.specs.Pass.{pass_in, Holds}
use Rattle.first.specs.declared.Pass.{Pass}
use Rattle.first.proofs.Bounds.{within}
use Rattle.explain.specs.Verdict.{signs_of, count_of, put_over, written_as}
use Rattle.explain.specs.Lines.{verdict_on, verdicts_to, WriteNeeds, WriteGives}
use Rattle.explain.specs.declared.Verdict.{Verdict}
use Rattle.explain.specs.declared.Verdict.TheVariants.{NotInstruction}
use Rattle.explain.proofs.Lines.{kept_count, with_end, without_end}

-- one verdict more
over_more : {V : Type 0} (xs : List V) (x : V) (n : ℕ) (old : List V) → length xs ≡ n → n < length old → set (put_over xs old) n x ≡ put_over (xs ++ (x ∷ [])) old
unfolding put_over
over_more {V} xs x n old e h =
    let l : length (xs ++ (x ∷ [])) ≡ suc n = length-append xs (x ∷ []) ∙ omega arith in
    rw (e, l)
    (ap (λ (t : List V). set (xs ++ t) n x) (drop-cons old n x h) ∙ set_at xs (get_or old n x) (drop (suc n) old) x n e ∙ sym (append_assoc xs (x ∷ []) (drop (suc n) old)))

over_long : {V : Type 0} (xs old : List V) → length xs ≤ length old → length (put_over xs old) ≡ length old
unfolding put_over
over_long xs old h = rw (length-append, length-drop) (omega arith)

module _ {V : Type 0} (sign : Verdict → V) (names : List Mnemonic) (labels : Labelled) (cells : List ℕ) (pass : Pass) where
  abbrev written_to : ℕ → List V
  written_to k = signs_of sign (verdicts_to names labels cells pass k)

  written_count : (k : ℕ) → length (written_to k) ≡ k
  written_count k = length-map (verdicts_to names labels cells pass k) _ ∙ kept_count names labels cells pass k

  written_more : (k : ℕ) → written_to (suc k) ≡ written_to k ++ (sign (verdict_on names labels (address_at pass.base cells k) (kept_at cells k).task) ∷ [])
  unfolding puts_of
  written_more k = rw (map-append, map-append)

  -- ---- before line k: the verdicts on the lines before it are written
  module _ (old : List V) where
    pub wrote_none : old ≡ put_over (written_to 0) old
    unfolding puts_of put_over
    wrote_none = refl

    module _ {out : List V} {k : ℕ} (w : out ≡ put_over (written_to k) old) where
      pub wrote_long : k ≤ length old → length out ≡ length old
      wrote_long l = rw w (over_long _ old (rw (written_count k) l))

      pub wrote_on : k < length old → {v : V} → v ≡ sign (verdict_on names labels (address_at pass.base cells k) (kept_at cells k).task) → set out k v ≡ put_over (written_to (k + 1)) old
      wrote_on l e = rw (add-one k, w, e, written_more k) (over_more _ _ k old (written_count k) l)

-- ---- and END's
module _ {V : Type 0} (sign : Verdict → V) (names : List Mnemonic) {labels : Labelled} {cells : List ℕ} {pass : Pass} {old out : List V} (w : out ≡ put_over (signs_of sign (verdicts_to names labels cells pass pass.lines)) old)
    (needs : WriteNeeds labels cells pass old) {n : ℕ} (e : n ≡ length (cut_at 10 labels.source)) where
  pub wrote_kept : n ≤ pass.lines → WriteGives sign names labels cells pass old pass.lines out
  wrote_kept h =
      let q = without_end names labels cells pass (omega arith) ∙ append-nil (verdicts_to names labels cells pass pass.lines) in
      record { count = sym (ap length q ∙ kept_count names labels cells pass pass.lines); within = needs.room; written = rw q w }

  pub wrote_end : pass.lines < n → {v : V} → v ≡ sign NotInstruction → WriteGives sign names labels cells pass old (pass.lines + 1) (set out pass.lines v)
  wrote_end h f =
      let q = with_end names labels cells pass (omega arith) in
      let x = over_more (signs_of sign (verdicts_to names labels cells pass pass.lines)) (sign NotInstruction) pass.lines old (written_count sign names labels cells pass pass.lines) (omega (arith, needs.end_room)) in
      record {
        count = sym (ap length q ∙ rw (length-append, kept_count names labels cells pass pass.lines));
        within = omega (arith, needs.end_room);
        written = rw (f, q, map-append, w) x;
      }

-- ---- by the first pass
-- two cells a line are enough lines
pub write_needs : {V : Type 0} {labels : Labelled} {cells : List ℕ} {p : Pass} → Holds labels cells p → length cells ≡ 2 * max_lines → (old : List V) → length old ≡ max_lines → WriteNeeds labels cells p old
write_needs {V} {labels} {cells} {p} h m old l =
    let b = within size p.base labels.source (pass_in labels cells p) h.passed in
    record { holds = h; room = omega (arith, h.lines.room); end_room = omega (arith, b.few) }

module _ (names : List Mnemonic) (source : Text) (base : ℕ) where
  module _ {n p : ℕ} (e : refused n p ≡ pass_at_by size base source) where
    pub all_refused : refused n p ≡ count_of (explain_all_by names base source)
    unfolding explain_all_by and_then
    all_refused = rw (← e)

    pub all_unwritten : {V : Type 0} (sign : Verdict → V) (old : List V) → old ≡ written_as sign (explain_all_by names base source) old
    unfolding explain_all_by and_then
    all_unwritten sign old = rw (← e)

module _ {V : Type 0} {sign : Verdict → V} (names : List Mnemonic) {labels : Labelled} {cells : List ℕ} {p : Pass} {old out : List V} {n : ℕ} (w : WriteGives sign names labels cells p old n out)
    {base : ℕ} (b : p.base ≡ base) {source : Text} (s : labels.source ≡ source) (h : Holds labels cells p) where
  pub all_counted : accepted n ≡ count_of (explain_all_by names base source)
  unfolding explain_all_by and_then
  all_counted = rw (← b, ← s, h.passed) (ap accepted w.count)

  pub all_written : out ≡ written_as sign (explain_all_by names base source) old
  unfolding explain_all_by and_then
  all_written = rw (← b, ← s, h.passed) w.written
