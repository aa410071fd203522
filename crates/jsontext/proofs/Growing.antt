-- One place, label or verdict more. Assumes nothing.
use Rattle.std.proofs.Common.{ℕ, zero, suc, ◌≡◌, ◌+◌, ◌<◌, List, [], ◌∷◌, ◌++◌, map, length, take, get_or, ap, refl, ◌∙◌, arith}
use mathlib.Core.List.{map-append}
use native.Mathlib.Numerals.{add-one}
use lib.ListN.{length-map}
use lib.Seq.{take-suc, length-take-le}
use Rattle.rules.specs.Text.{Text}
use Rattle.rules.specs.Assemble.{Place, slices}
use Rattle.rules.specs.Label.{Label}
use Rattle.rules.specs.Tally.{held, list_in}
use Rattle.requests.specs.Symbols.{Rows}
use Rattle.requests.specs.Explain.{Verdict}
use Rattle.explain.specs.declared.Verdict.{Verdict as Code}
use Rattle.explain.specs.declared.Verdict.TheVariants.{Emitted}
use Rattle.symtext.specs.Rows.{label_at, labels_from}
use Rattle.whytext.specs.Verdicts.{said_of}
use Rattle.serde_json.specs.Data.{Data}
use Rattle.serde_json.specs.View.{view}
use Rattle.serde_json.specs.declared.value.Value.{Value}
use Rattle.jsontext.specs.Places.{place_data}
use Rattle.jsontext.specs.Labels.{label_data}
use Rattle.jsontext.specs.Lines.{verdict_data, lines_data}

abbrev pub place_at : List ℕ → List ℕ → List ℕ → ℕ → Place
place_at xs ws ms k = record { address = get_or xs k 0; word = get_or ws k 0; mark = get_or ms k 0 }

pub one_more : (k : ℕ) (xs ws ms : List ℕ) → k < length xs → k < length ws → k < length ms → list_in (suc k) xs ws ms ≡ list_in k xs ws ms ++ place_at xs ws ms k ∷ []
unfolding list_in
one_more k [] ws ms a b c = absurd (omega arith)
one_more k (x ∷ xs) [] ms a b c = absurd (omega arith)
one_more k (x ∷ xs) (w ∷ ws) [] a b c = absurd (omega arith)
one_more zero (x ∷ xs) (w ∷ ws) (m ∷ ms) a b c = refl
one_more (suc k) (x ∷ xs) (w ∷ ws) (m ∷ ms) a b c =
    ap (λ (ps : List Place). record { address = x; word = w; mark = m } ∷ ps) (one_more k xs ws ms (omega arith) (omega arith) (omega arith))

-- ---- values, one more of them
one_view : (vs us : List Value) (v : Value) (ds : List Data) (d : Data) → map view vs ≡ ds → us ≡ vs ++ v ∷ [] → view v ≡ d → map view us ≡ ds ++ d ∷ []
one_view vs us v ds d p q r = rw (q, map-append, p, r) refl

pub more_places : (k : ℕ) (xs ws ms : List ℕ) (vs us : List Value) (v : Value) → map view vs ≡ map place_data (held k (slices xs ws ms)) → us ≡ vs ++ v ∷ []
    → view v ≡ place_data (place_at xs ws ms k) → k < length xs → k < length ws → k < length ms → map view us ≡ map place_data (held (k + 1) (slices xs ws ms))
unfolding held
more_places k xs ws ms vs us v p q r a b c =
    rw (add-one k, one_more k xs ws ms a b c, map-append) (one_view vs us v (map place_data (list_in k xs ws ms)) (place_data (place_at xs ws ms k)) p q r)

-- ---- labels
one_label : (s : Text) (x : Rows) (k n : ℕ) → labels_from s x k (suc n) ≡ labels_from s x k n ++ label_at s x (k + n) ∷ []
unfolding labels_from
one_label s x k zero = let z : k ≡ k + 0 = omega arith in ap (λ (i : ℕ). label_at s x i ∷ []) z
one_label s x k (suc n) =
    let z : suc k + n ≡ k + suc n = omega arith in
    ap (λ (ls : List Label). label_at s x k ∷ ls) (one_label s x (suc k) n ∙ ap (λ (i : ℕ). labels_from s x (suc k) n ++ label_at s x i ∷ []) z)

pub more_labels : (s : Text) (x : Rows) (k : ℕ) (vs us : List Value) (v : Value) → map view vs ≡ map label_data (labels_from s x 0 k) → us ≡ vs ++ v ∷ []
    → view v ≡ label_data (label_at s x k) → map view us ≡ map label_data (labels_from s x 0 (k + 1))
more_labels s x k vs us v p q r =
    let z : 0 + k ≡ k = omega arith in
    rw (add-one k, one_label s x 0 k, z, map-append) (one_view vs us v (map label_data (labels_from s x 0 k)) (label_data (label_at s x k)) p q r)

-- ---- verdicts
lines_more : (line : ℕ) (vs : List Verdict) (v : Verdict) → lines_data line (vs ++ v ∷ []) ≡ lines_data line vs ++ verdict_data (line + length vs) v ∷ []
unfolding lines_data
lines_more line [] v = let z : line ≡ line + 0 = omega arith in ap (λ (i : ℕ). verdict_data i v ∷ []) z
lines_more line (w ∷ vs) v =
    let z : suc line + length vs ≡ line + suc (length vs) = omega arith in
    ap (λ (ds : List Data). verdict_data line w ∷ ds) (lines_more (suc line) vs v ∙ ap (λ (i : ℕ). lines_data (suc line) vs ++ verdict_data i v ∷ []) z)

pub more_verdicts : (first k : ℕ) (cs : List Code) (vs us : List Value) (v : Value) → map view vs ≡ lines_data first (map said_of (take k cs)) → us ≡ vs ++ v ∷ [] → k < length cs
    → view v ≡ verdict_data (first + k) (said_of (get_or cs k Emitted)) → map view us ≡ lines_data first (map said_of (take (k + 1) cs))
more_verdicts first k cs vs us v p q h r =
    let l : length (map said_of (take k cs)) ≡ k = omega (arith, length-map (take k cs) said_of, length-take-le k cs (omega arith)) in
    rw (add-one k, take-suc cs k Emitted h, map-append, lines_more first (map said_of (take k cs)) (said_of (get_or cs k Emitted)), l)
    (one_view vs us v (lines_data first (map said_of (take k cs))) (verdict_data (first + k) (said_of (get_or cs k Emitted))) p q r)
