-- The text of runs that is being written. Assumes nothing.
use Rattle.std.proofs.Common.{ℕ, ◌≡◌, true, false, List, [], ◌∷◌, ◌++◌, map, ap, refl, sym, ◌∙◌}
use Rattle.std.specs.Prelude.{codes}
use mathlib.Core.List.{append_assoc}
use Rattle.serde_json.specs.Data.{Data, Items, no_items, item}
use Rattle.serde_json.specs.Written.{compact_text, comma_if, items_text}
use Rattle.serde_json.specs.View.{items_of}
use Rattle.serde_json.proofs.OnLiterals.{serde_json_on_literals}
use Rattle.jsontext.specs.Line.{line_text}
use Rattle.jsontext.specs.Runs.{Tried, run_data, runs_data, items_onto, Holds}
use Rattle.jsontext.specs.declared.runs.RunList.{RunList}

pub begun : (r : RunList) → r.text.items ≡ codes "{\"runs\":[" → r.later ≡ false → Holds [] r
unfolding Holds items_onto
begun r p q = λ more. rw (p, q) refl

-- ---- a run more
onto_more : (ts : List Tried) (t : Tried) (more : Items) → items_onto (map run_data (ts ++ t ∷ [])) more ≡ items_onto (map run_data ts) (item (run_data t) more)
unfolding items_onto
onto_more [] t more = refl
onto_more (u ∷ ts) t more = ap (λ (ds : Items). item (run_data u) ds) (onto_more ts t more)

parts : (s c d m : List ℕ) → ((s ++ c) ++ d) ++ m ≡ s ++ (c ++ (d ++ m))
parts s c d m = append_assoc (s ++ c) d m ∙ append_assoc s c (d ++ m)

pub added : (ts : List Tried) (t : Tried) (r s : RunList) → Holds ts r → s.text.items ≡ (r.text.items ++ comma_if r.later) ++ compact_text (run_data t) → s.later ≡ true
    → Holds (ts ++ t ∷ []) s
unfolding Holds
added ts t r s h p q = λ more.
    rw (p, q, onto_more ts t more) (parts r.text.items (comma_if r.later) (compact_text (run_data t)) (items_text true more) ∙ h (item (run_data t) more))

-- ---- the end
onto_none : (ds : List Data) → items_onto ds no_items ≡ items_of ds
unfolding items_onto
onto_none [] = refl
onto_none (d ∷ ds) = ap (λ (es : Items). item d es) (onto_none ds)

pub finished : (ts : List Tried) (r : RunList) (s : List ℕ) → Holds ts r → s ≡ r.text.items ++ codes "]}\n" → s ≡ line_text (runs_data ts)
unfolding Holds serde_json_on_literals
finished ts r s h p =
    let all : r.text.items ++ (93 ∷ []) ≡ codes "{\"runs\":[" ++ items_text false (items_of (map run_data ts)) = rw (← onto_none (map run_data ts)) (h no_items) in
    let x = items_text false (items_of (map run_data ts)) in
    p ∙ sym (append_assoc r.text.items (93 ∷ []) (125 ∷ 10 ∷ [])) ∙ ap (λ (u : List ℕ). u ++ (125 ∷ 10 ∷ [])) all
    ∙ ap (λ (u : List ℕ). codes "{\"runs\":[" ++ u) (sym (append_assoc x (125 ∷ []) (10 ∷ [])))
