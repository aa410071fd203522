-- The shapes of a line: every line that the six steps read has one of them. Assumes nothing.
use Rattle.std.specs.Prelude.{Option, None, Some}
use Prim.Native.Nat.{ℕ, ◌+◌}
use mathlib.Core.Path.{◌≡◌, refl}
use mathlib.Core.Bool.{Bool, true, false, cond}
use mathlib.Core.List.{List, [], ◌∷◌, ◌++◌}
use lib.Dec.{eqb}
use lib.ListN.{length}
use Rattle.rules.specs.Text.{Text, bytes, uppers, leading, trim, pieces, joined, Cut, uncut, around, first_cut, starts, nth}
use Rattle.rules.specs.Line.{Name, name, Instruction, skipped, end, label_only, instruction, Line, line, number_in, instruction_of, data_size, data_value, sized, data_task, is_directive, data_pieces, nonempty, data_line, is_data, rest_line, after_label, label_line, org_task, trimmed_line, line_of}
use Rattle.promises.proofs.Compared.{clash}

pub data Shape : Line → Type 0 where
  skips : Shape (line [] skipped)
  ends : Shape (line [] end)
  moves : (o : Option ℕ) → Shape (line [] (org_task o))
  names : (ns : List Name) → Shape (line ns label_only)
  codes : (ns : List Name) (i : Instruction) → Shape (line ns (instruction i))
  holds : (ns : List Name) (s d : Text) → Shape (line ns (data_task s d))

-- step 5
pieces_shape : (ns : List Name) (i : ℕ) (s : Text) (ps : List Text) → Shape (data_pieces ns i s ps)
unfolding data_pieces
pieces_shape ns i s [] = holds ns s s
pieces_shape ns i s (p ∷ []) = holds ns s s
pieces_shape ns i s (p ∷ q ∷ ps) = go (is_directive p)
  where
    go : (x : Bool) → Shape (cond x (line ns (data_task s s)) (line (ns ++ (name i p ∷ [])) (data_task s (joined (q ∷ ps)))))
    go true = holds ns s s
    go false = holds (ns ++ (name i p ∷ [])) s (joined (q ∷ ps))

-- steps 5 and 6
rest_shape : (ns : List Name) (i : ℕ) (s : Text) → Shape (rest_line ns i s)
unfolding rest_line data_line
rest_shape ns i s = go (is_data s) refl
  where
    on : (k : Cut) → first_cut 58 s ≡ k → Shape (data_line ns i s)
    on uncut e = rw (data_line, e) (pieces_shape ns i s (pieces s))
    on (around l d) e = rw (data_line, e) (holds (ns ++ nonempty i (trim l)) s (trim d))

    go : (x : Bool) → is_data s ≡ x → Shape (rest_line ns i s)
    go true e = rw (rest_line, e) (on (first_cut 58 s) refl)
    go false e = rw (rest_line, e) (codes ns (instruction_of s))

-- step 4
label_shape : (i : ℕ) (s : Text) → Shape (label_line i s)
unfolding label_line after_label
label_shape i s = go (first_cut 58 s) refl
  where
    past : (n : Name) (j : ℕ) (q : Text) → Shape (after_label n j q)
    past n j [] = names (n ∷ [])
    past n j (b ∷ q) = rest_shape (n ∷ []) j (b ∷ q)

    go : (k : Cut) → first_cut 58 s ≡ k → Shape (label_line i s)
    go uncut e = rw (label_line, e) (rest_shape [] i s)
    go (around l r) e = rw (label_line, e) (past (name i (trim l)) (i + length l + 1 + leading r) (trim r))

-- steps 1 to 3, and so all of them
pub shape : (s : Text) → Shape (line_of s)
unfolding line_of trimmed_line
shape s = go (leading s) (trim s)
  where
    go : (i : ℕ) (t : Text) → Shape (trimmed_line i t)
    go i [] = skips
    go i (b ∷ t) = on (eqb b 59) refl (starts (bytes "END") (uppers (b ∷ t))) refl (starts (bytes "ORG") (uppers (b ∷ t))) refl
      where
        on : (x : Bool) → eqb b 59 ≡ x → (y : Bool) → starts (bytes "END") (uppers (b ∷ t)) ≡ y → (z : Bool)
            → starts (bytes "ORG") (uppers (b ∷ t)) ≡ z → Shape (trimmed_line i (b ∷ t))
        on true e y f z g = rw (trimmed_line, e) skips
        on false e true f z g = rw (trimmed_line, e, f) ends
        on false e false f true g = rw (trimmed_line, e, f, g) (moves (number_in (nth 1 (pieces (b ∷ t)))))
        on false e false f false g = rw (trimmed_line, e, f, g) (label_shape i (b ∷ t))

-- an END line records no label
unlabelled : {r : Line} → Shape r → r.task ≡ end → r.names ≡ []
unfolding data_task sized
unlabelled skips e = refl
unlabelled ends e = refl
unlabelled (moves o) e = refl
unlabelled (names ns) e = clash cc
unlabelled (codes ns i) e = clash cc
unlabelled (holds ns s d) e = go (data_value (uppers s) d) e
  where
    go : (o : Option ℕ) → sized (data_size (uppers s)) o ≡ end → ns ≡ []
    go None f = clash cc
    go (Some v) f = clash cc

pub end_unlabelled : (s : Text) → (line_of s).task ≡ end → (line_of s).names ≡ []
end_unlabelled s e = unlabelled (shape s) e
