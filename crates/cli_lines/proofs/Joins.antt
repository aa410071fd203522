-- Texts one after another. Assumes nothing.
use Rattle.std.proofs.Common.{ℕ, ◌≡◌, Bool, true, false, cond, List, [], ◌∷◌, ◌++◌, map, refl, sym, ap, ◌∙◌, append_assoc, append-nil, flat_map}
use Rattle.std.specs.Prelude.{Option, codes}
use Rattle.std.proofs.lemmas.List.{map-append}
use Rattle.std.proofs.lemmas.List.Concat.{flat_map-append}
use Rattle.rules.specs.Text.{Text}
use Rattle.serde_json.specs.Written.{items_text}
use Rattle.serde_json.specs.View.{items_of}
use Rattle.serde_json.proofs.OnLiterals.{serde_json_on_literals}
use Rattle.jsontext.specs.Line.{line_text}
use Rattle.jsontext.specs.Lines.{Explained, file_data, files_data}
use Rattle.cli_lines.specs.Lines.{part_text}
use Rattle.cli_lines.specs.Answered.{explained_text}
use Rattle.cli_lines.specs.State.{front, comma, behind, between, is_none, entry_text, written, text_so_far}

-- ---- one more
between_more : (j : Text) (ps : List Text) (p : Text) → between j ps ++ (cond (is_none ps) [] j ++ p) ≡ between j (ps ++ (p ∷ []))
unfolding between
between_more j [] p = sym (append-nil p)
between_more j (q ∷ ps) p =
    append_assoc q (flat_map (λ t. j ++ t) ps) (j ++ p)
    ∙ ap (λ l. q ++ l) (ap (λ l. flat_map (λ t. j ++ t) ps ++ l) (sym (append-nil (j ++ p))) ∙ sym (flat_map-append (λ t. j ++ t) ps (p ∷ [])))

none_mapped : {A B : Type 0} (f : A → B) (xs : List A) → is_none (map f xs) ≡ is_none xs
none_mapped f [] = refl
none_mapped f (x ∷ xs) = refl

pub one_more : (json : Bool) (line : Option ℕ) (many : Bool) (done : List Explained) (e : Explained) (first : Bool) (old lead part new : Text)
    → old ≡ text_so_far json line many done → first ≡ is_none done → lead ≡ cond first [] (comma json) → part ≡ written json line many e → new ≡ old ++ (lead ++ part)
    → new ≡ text_so_far json line many (done ++ (e ∷ []))
one_more json line many done e first old lead part new o f l p n =
    let w : Explained → Text = written json line many in
    let j = comma json in
    let k : lead ≡ cond (is_none (map w done)) [] j = l ∙ ap (λ (b : Bool). cond b [] j) (f ∙ sym (none_mapped w done)) in
    n ∙ ap (λ (s : Text). s ++ (lead ++ part)) o ∙ ap (λ (s : Text). (front json ++ between j (map w done)) ++ (s ++ part)) k
    ∙ ap (λ (s : Text). (front json ++ between j (map w done)) ++ (cond (is_none (map w done)) [] j ++ s)) p
    ∙ append_assoc (front json) (between j (map w done)) (cond (is_none (map w done)) [] j ++ w e)
    ∙ ap (λ (s : Text). front json ++ s) (between_more j (map w done) (w e) ∙ ap (between j) (sym (map-append w done (e ∷ []))))

pub none_so_far : (json : Bool) (line : Option ℕ) (many : Bool) (s : Text) → s ≡ front json → s ≡ text_so_far json line many []
unfolding between
none_so_far json line many s e = e ∙ sym (append-nil (front json))

pub not_none : {A : Type 0} (xs : List A) (x : A) → false ≡ is_none (xs ++ (x ∷ []))
not_none [] x = refl
not_none (y ∷ xs) x = refl

-- ---- all
later : (es : List Explained) → items_text true (items_of (map file_data es)) ≡ flat_map (λ (q : Text). (44 ∷ []) ++ q) (map entry_text es) ++ (93 ∷ [])
later [] = refl
later (e ∷ es) = ap (λ (s : Text). 44 ∷ (entry_text e ++ s)) (later es) ∙ sym (append_assoc (44 ∷ entry_text e) (flat_map (λ (q : Text). (44 ∷ []) ++ q) (map entry_text es)) (93 ∷ []))

items : (es : List Explained) → items_text false (items_of (map file_data es)) ≡ between (44 ∷ []) (map entry_text es) ++ (93 ∷ [])
unfolding between
items [] = refl
items (e ∷ es) = ap (λ (s : Text). entry_text e ++ s) (later es) ∙ sym (append_assoc (entry_text e) (flat_map (λ (q : Text). (44 ∷ []) ++ q) (map entry_text es)) (93 ∷ []))

entries : (es : List Explained) → (codes "{\"files\":[" ++ between (44 ∷ []) (map entry_text es)) ++ (93 ∷ 125 ∷ 10 ∷ []) ≡ line_text (files_data es)
unfolding serde_json_on_literals
entries es =
    let whole : between (44 ∷ []) (map entry_text es) ++ (93 ∷ 125 ∷ 10 ∷ []) ≡ (items_text false (items_of (map file_data es)) ++ (125 ∷ [])) ++ (10 ∷ []) =
    rw (items es) (sym (append_assoc (between (44 ∷ []) (map entry_text es) ++ (93 ∷ [])) (125 ∷ []) (10 ∷ []) ∙ append_assoc (between (44 ∷ []) (map entry_text es)) (93 ∷ []) (125 ∷ 10 ∷ [])))
    in
    ap (λ (s : Text). codes "{\"files\":[" ++ s) whole

flat_mapped : (f : Explained → Text) (es : List Explained) → flat_map (λ (q : Text). [] ++ q) (map f es) ≡ flat_map f es
flat_mapped f [] = refl
flat_mapped f (e ∷ es) = ap (λ (s : Text). f e ++ s) (flat_mapped f es)

parts : (f : Explained → Text) (es : List Explained) → between [] (map f es) ≡ flat_map f es
unfolding between
parts f [] = refl
parts f (e ∷ es) = ap (λ (s : Text). f e ++ s) (flat_mapped f es)

pub all_so_far : (json : Bool) (line : Option ℕ) (many : Bool) (es : List Explained) → text_so_far json line many es ++ behind json ≡ explained_text json line many es
all_so_far true line many es = entries es
all_so_far false line many es = append-nil (between [] (map (part_text line many) es)) ∙ parts (part_text line many) es

-- ---- listings
pub page_more : (done : List Text) (p old new part : Text) → old ≡ flat_map (λ q. q) done → part ≡ p → new ≡ old ++ part → new ≡ flat_map (λ q. q) (done ++ (p ∷ []))
page_more done p old new part o e n =
    n ∙ ap (λ (s : Text). s ++ part) o ∙ ap (λ (s : Text). flat_map (λ q. q) done ++ s) (e ∙ sym (append-nil p)) ∙ sym (flat_map-append (λ q. q) done (p ∷ []))
