-- A copy's copy is the copy, line by line; and the lines that are copied, by kind. Assumes nothing.
use mathlib.Core.Path.{◌≡◌, refl, ◌∙◌}
use mathlib.Core.List.{List, [], ◌∷◌, ◌++◌}
use Rattle.rules.specs.Text.{Text, trim, around, first_cut}
use Rattle.rules.specs.Line.{is_data}
use Rattle.text.proofs.Trim.{trim_trim}
use Rattle.text.proofs.Pieces.{pieces_trim}
use Rattle.requests.specs.Tidy.{squeezed, around_colon, tidy_rest, tidy_line, tidy_lines}
use Rattle.promises.specs.Tidy.{Kind, skip, fin, origin, step4, kind_of}
use Rattle.tidylaws.proofs.Neat.{neat_is, neat_squeezed, pieces_squeezed, squeezed_again}
use Rattle.tidylaws.proofs.Cuts.{uncut_same, around_of, cut_around}
use Rattle.tidylaws.proofs.Shapes.{around_none, around_some, rest_data, rest_code, Rest, code, data_whole, data_parts, neat_rest, holds_rest, Open, open_whole, open_parts, open_of, copy_by, copy_by_lem, before_by, lines_more}
use Rattle.tidylaws.proofs.Reading.{held_data, line_copied}

-- ---- a line
rest_again : {s t : Text} → Rest s t → tidy_rest t ≡ t
rest_again {s} (code e) = rest_code (squeezed s) (held_data s (squeezed s) (holds_rest (code e)) ∙ e) ∙ squeezed_again s
rest_again {s} (data_whole e f) =
    rest_data (squeezed s) (held_data s (squeezed s) (holds_rest (data_whole e f)) ∙ e)
    ∙ around_none squeezed (squeezed s) (uncut_same (squeezed s) s (pieces_squeezed s) f)
    ∙ squeezed_again s
rest_again {s} (data_parts {l} {r} e f) =
    let x : Text = squeezed (trim r) in
    let t : Text = trim l ++ (58 ∷ x) in
    let k : first_cut 58 t ≡ around (trim l) x = cut_around (trim l) x (uncut_same (trim l) l (pieces_trim l) (around_of s l r f).none) in
    let g : is_data t ≡ is_data s = held_data s t (holds_rest (data_parts e f)) in
    rest_data t (g ∙ e) ∙ around_some squeezed t k ∙ rw (trim_trim l, neat_is x (neat_squeezed (trim r)), squeezed_again (trim r))

open_again : {s t : Text} → Open s t → around_colon tidy_rest t ≡ t
open_again {s} (open_whole f) = around_none tidy_rest (squeezed s) (uncut_same (squeezed s) s (pieces_squeezed s) f) ∙ squeezed_again s
open_again {s} (open_parts {l} {r} {t} f q) =
    let k : first_cut 58 (trim l ++ (58 ∷ t)) ≡ around (trim l) t = cut_around (trim l) t (uncut_same (trim l) l (pieces_trim l) (around_of s l r f).none) in
    around_some tidy_rest (trim l ++ (58 ∷ t)) k ∙ rw (trim_trim l, neat_is t (neat_rest q), rest_again q)

kind_again : (k : Kind) (s : Text) → copy_by k (copy_by k s) ≡ copy_by k s
unfolding copy_by
kind_again skip s = refl
kind_again fin s = squeezed_again s
kind_again origin s = squeezed_again s
kind_again step4 s = open_again (open_of s)

-- the copy has the line's kind
pub kind_of_copy : (l : Text) → kind_of (trim (tidy_line l)) ≡ kind_of (trim l)
kind_of_copy l = rw (neat_is (tidy_line l) (line_copied l).neat) (line_copied l).kind

pub line_again : (l : Text) → tidy_line (tidy_line l) ≡ tidy_line l
line_again l = copy_by_lem (tidy_line l) ∙ rw (neat_is (tidy_line l) (line_copied l).neat, (line_copied l).kind, copy_by_lem l) (kind_again (kind_of (trim l)) (trim l))

-- ---- the lines
pub lines_again : (ls : List Text) → tidy_lines (tidy_lines ls) ≡ tidy_lines ls
unfolding tidy_lines before_by
lines_again [] = refl
lines_again (l ∷ ls) = rw (lines_more l ls) (go (kind_of (trim l)) refl (lines_again ls))
  where
    go : (k : Kind) → kind_of (trim l) ≡ k → tidy_lines (tidy_lines ls) ≡ tidy_lines ls → tidy_lines (before_by k (tidy_line l) (tidy_lines ls)) ≡ before_by k (tidy_line l) (tidy_lines ls)
    go skip e ih = ih
    go fin e ih = lines_more (tidy_line l) [] ∙ rw (kind_of_copy l, e, line_again l)
    go origin e ih = lines_more (tidy_line l) (tidy_lines ls) ∙ rw (kind_of_copy l, e, line_again l, ih)
    go step4 e ih = lines_more (tidy_line l) (tidy_lines ls) ∙ rw (kind_of_copy l, e, line_again l, ih)
