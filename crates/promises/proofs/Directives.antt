-- What a number says: a line's number is in its task exactly if it is read. Assumes nothing.
use Rattle.std.specs.Prelude.{Some}
use Prim.Native.Nat.{ℕ}
use mathlib.Core.Path.{◌≡◌, refl}
use mathlib.Core.Bool.{Bool, true, false}
use mathlib.Core.List.{List, [], ◌∷◌}
use lib.Dec.{eqb}
use Rattle.rules.specs.Text.{Text, bytes, uppers, leading, trim, pieces, Cut, uncut, around, first_cut, starts, contains, nth}
use Rattle.rules.specs.Number.{Reading, read, failed, value_of}
use Rattle.rules.specs.Line.{Name, reading_in, number_in, value_reading_in, data_size, data_value, sized, data_task, is_directive, data_pieces, is_data, data_line, rest_line, after_label, label_line, org_task, trimmed_line, line_of}
use Rattle.rules.specs.Directive.{piece_directive, directive_of, data_reading, after_colon, trimmed_reading, line_reading}
use Rattle.promises.specs.Readings.{Passes, org_read, org_failed, value_read, value_failed, no_value, not_read, ends, only_labelled, instructs, LinesPassOn}

-- ORG and data by their number
org_passes : (r : Reading ℕ) → Passes (org_task (value_of r)) (Some r)
unfolding org_task value_of
org_passes (read v) = org_read
org_passes (failed x) = org_failed

value_passes : (n : ℕ) (r : Reading ℕ) → Passes (sized n (value_of r)) (Some r)
unfolding sized value_of
value_passes n (read v) = value_read
value_passes n (failed x) = value_failed

-- step 5's task is that of its directive
pieces_task : (ns : List Name) (i : ℕ) (s : Text) (ps : List Text) → (data_pieces ns i s ps).task ≡ data_task s (piece_directive s ps)
unfolding data_pieces piece_directive
pieces_task ns i s [] = refl
pieces_task ns i s (p ∷ []) = refl
pieces_task ns i s (p ∷ q ∷ ps) = go (is_directive p) refl
  where
    go : (x : Bool) → is_directive p ≡ x → (data_pieces ns i s (p ∷ q ∷ ps)).task ≡ data_task s (piece_directive s (p ∷ q ∷ ps))
    go true e = rw e
    go false e = rw e

data_task_lem : (ns : List Name) (i : ℕ) (s : Text) → (data_line ns i s).task ≡ data_task s (directive_of s)
unfolding data_line directive_of
data_task_lem ns i s = go (first_cut 58 s) refl
  where
    go : (c : Cut) → first_cut 58 s ≡ c → (data_line ns i s).task ≡ data_task s (directive_of s)
    go uncut e = rw (e, data_line, directive_of) (pieces_task ns i s (pieces s))
    go (around l d) e = rw (e, data_line, directive_of)

-- steps 5 and 6
rest_passes : (ns : List Name) (i : ℕ) (s : Text) → Passes (rest_line ns i s).task (data_reading s)
unfolding rest_line data_reading is_data data_task data_value sized
rest_passes ns i s = go (contains (bytes "DC.") (uppers s)) refl (contains (bytes "DS.") (uppers s)) refl
  where
    go : (x : Bool) → contains (bytes "DC.") (uppers s) ≡ x → (y : Bool) → contains (bytes "DS.") (uppers s) ≡ y → Passes (rest_line ns i s).task (data_reading s)
    go true e y f = rw (rest_line, e, data_task_lem ns i s, e) (value_passes (data_size (uppers s)) (value_reading_in (nth 1 (pieces (directive_of s)))))
    go false e true f = rw (rest_line, e, f, data_task_lem ns i s, e) no_value
    go false e false f = rw (rest_line, e, f) instructs

-- step 4
label_passes : (i : ℕ) (s : Text) → Passes (label_line i s).task (data_reading (after_colon s))
unfolding label_line after_label after_colon data_reading contains starts uppers bytes
label_passes i s = go (first_cut 58 s) refl
  where
    on : (n : Name) (i : ℕ) (r : Text) → Passes (after_label n i r).task (data_reading r)
    on n i [] = only_labelled
    on n i (b ∷ r) = rest_passes (n ∷ []) i (b ∷ r)

    go : (c : Cut) → first_cut 58 s ≡ c → Passes (label_line i s).task (data_reading (after_colon s))
    go uncut e = rw (e, label_line, after_colon) (rest_passes [] i s)
    go (around l r) e = rw (e, label_line, after_colon) (on _ _ (trim r))

-- steps 1 to 3
trimmed_passes : (i : ℕ) (s : Text) → Passes (trimmed_line i s).task (trimmed_reading s)
unfolding trimmed_line trimmed_reading number_in
trimmed_passes i [] = not_read
trimmed_passes i (b ∷ s) = go (eqb b 59) refl (starts (bytes "END") (uppers (b ∷ s))) refl (starts (bytes "ORG") (uppers (b ∷ s))) refl
  where
    go : (x : Bool) → eqb b 59 ≡ x → (y : Bool) → starts (bytes "END") (uppers (b ∷ s)) ≡ y → (z : Bool) → starts (bytes "ORG") (uppers (b ∷ s)) ≡ z
        → Passes (trimmed_line i (b ∷ s)).task (trimmed_reading (b ∷ s))
    go true e y f z g = rw (trimmed_line, e) not_read
    go false e true f z g = rw (trimmed_line, e, f) ends
    go false e false f true g = rw (trimmed_line, e, f, g) (org_passes (reading_in (nth 1 (pieces (b ∷ s)))))
    go false e false f false g = rw (trimmed_line, e, f, g) (label_passes i (b ∷ s))

pub lines_pass_on : LinesPassOn
unfolding LinesPassOn line_of line_reading
lines_pass_on s = trimmed_passes (leading s) (trim s)
