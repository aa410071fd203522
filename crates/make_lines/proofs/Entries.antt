-- The entries of the JSON: they have no float, and stand together as the value's line. Assumes nothing.
use Rattle.std.proofs.Common.{◌≡◌, Bool, true, false, ◌||◌, List, [], ◌∷◌, ◌++◌, map, refl, sym, ap, ◌∙◌, append_assoc}
use Rattle.std.specs.Prelude.{flat_map, codes}
use mathlib.Core.Bool.{false≢true}
use Rattle.rules.specs.Text.{Text}
use Rattle.serde_json.specs.Data.{Data}
use Rattle.serde_json.specs.Written.{has_float, items_text}
use Rattle.serde_json.specs.View.{items_of}
use Rattle.serde_json.proofs.OnLiterals.{serde_json_on_literals}
use Rattle.jsontext.specs.Line.{line_text}
use Rattle.jsontext.specs.Lines.{Explained, file_data, files_data}
use Rattle.jsontext.proofs.Plain.{files_plain}
use Rattle.outcome.specs.Joined.{joined, between}
use Rattle.outcome.specs.declared.making.Joining.{Joining}
use Rattle.make_lines.specs.Lines.{entry_text}

pub entry_whole : (f : Explained) (d : Data) → d ≡ file_data f → has_float d ≡ false
entry_whole f d e = rw e (go (has_float (file_data f)) (files_plain (f ∷ []) (files_data (f ∷ [])) refl).whole_numbers)
  where
    go : (b : Bool) → ((b || false) || false) ≡ false → b ≡ false
    go true h = absurd (false≢true (sym h))
    go false h = refl

-- ---- entries after one another
later : (fs : List Explained) → items_text true (items_of (map file_data fs)) ≡ flat_map (λ (q : Text). (44 ∷ []) ++ q) (map entry_text fs) ++ (93 ∷ [])
later [] = refl
later (f ∷ fs) = ap (λ (s : Text). 44 ∷ (entry_text f ++ s)) (later fs) ∙ sym (append_assoc (44 ∷ entry_text f) (flat_map (λ (q : Text). (44 ∷ []) ++ q) (map entry_text fs)) (93 ∷ []))

first : (fs : List Explained) → items_text false (items_of (map file_data fs)) ≡ between (44 ∷ []) (map entry_text fs) ++ (93 ∷ [])
unfolding between
first [] = refl
first (f ∷ fs) = ap (λ (s : Text). entry_text f ++ s) (later fs) ∙ sym (append_assoc (entry_text f) (flat_map (λ (q : Text). (44 ∷ []) ++ q) (map entry_text fs)) (93 ∷ []))

pub entries_joined : (x : Joining) → x.front.now ≡ codes "{\"files\":[" → x.between.now ≡ codes "," → x.behind.now ≡ codes "]}\n" → (fs : List Explained) → joined x (map entry_text fs) ≡ line_text (files_data fs)
unfolding joined serde_json_on_literals
entries_joined x a b c fs =
    let whole : between (44 ∷ []) (map entry_text fs) ++ (93 ∷ 125 ∷ 10 ∷ []) ≡ (items_text false (items_of (map file_data fs)) ++ (125 ∷ [])) ++ (10 ∷ []) =
    rw (first fs) (sym (append_assoc (between (44 ∷ []) (map entry_text fs) ++ (93 ∷ [])) (125 ∷ []) (10 ∷ []) ∙ append_assoc (between (44 ∷ []) (map entry_text fs)) (93 ∷ []) (125 ∷ 10 ∷ [])))
    in
    rw (a, b, c) (ap (λ (s : Text). codes "{\"files\":[" ++ s) whole)
