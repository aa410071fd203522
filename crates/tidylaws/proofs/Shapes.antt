-- The copy by cases: of what follows a colon, of a line that reaches step 4, of a line by its kind. Assumes nothing.
use Rattle.std.specs.Prelude.{Option, None, Some}
use Prim.Native.Nat.{ℕ, ◌<◌}
use mathlib.Core.Path.{◌≡◌, refl, sym, ◌∙◌}
use mathlib.Core.Bool.{Bool, true, false, cond}
use mathlib.Core.List.{List, [], ◌∷◌, ◌++◌}
use native.Mathlib.Omega.{arith}
use lib.Dec.{eqb}
use lib.ListN.{length, length-append}
use Rattle.rules.specs.Text.{Text, bytes, blank, upper, uppers, leading, trim, pieces, Cut, uncut, around, first_cut, starts, nth}
use Rattle.rules.specs.Line.{Name, Instruction, Task, skipped, end, org, no_org, label_only, instruction, value, space, Line, line, number_in, is_data, is_directive, sized, data_size, data_value, data_task, data_pieces, data_line, rest_line, after_label, label_line, org_task, trimmed_line, line_of}
use Rattle.text.proofs.Trim.{leading_trim}
use Rattle.text.proofs.Pieces.{pieces_trim}
use Rattle.requests.specs.Tidy.{squeezed, around_colon, tidy_rest, tidy_as, tidy_line, before, tidy_lines}
use Rattle.promises.specs.Tidy.{Kind, skip, fin, origin, step4, kind_of}
use Rattle.tidylaws.proofs.Hits.{leads, Sign, sign_of, free, Holds, Leads, holds_same, holds_beside, upper_eqb, starts_equal, starts_other}
use Rattle.tidylaws.proofs.Neat.{Neat, neat_squeezed, neat_colon, pieces_squeezed, squeezed_trim, some_squeezed}
use Rattle.tidylaws.proofs.Cuts.{around_of}

-- ---- the definitions, by what they test
module _ (f : Text → Text) (s : Text) where
  pub around_none : first_cut 58 s ≡ uncut → around_colon f s ≡ squeezed s
  unfolding around_colon
  around_none e = rw (e, around_colon)

  pub around_some : {l r : Text} → first_cut 58 s ≡ around l r → around_colon f s ≡ trim l ++ (58 ∷ f (trim r))
  unfolding around_colon
  around_some e = rw (e, around_colon)

pub rest_data : (s : Text) → is_data s ≡ true → tidy_rest s ≡ around_colon squeezed s
unfolding tidy_rest
rest_data s e = rw (e, tidy_rest)

pub rest_code : (s : Text) → is_data s ≡ false → tidy_rest s ≡ squeezed s
unfolding tidy_rest
rest_code s e = rw (e, tidy_rest)

-- what a text that follows the first colon becomes
pub data Rest (s : Text) : Text → Type 0 where
  code : is_data s ≡ false → Rest s (squeezed s)
  data_whole : is_data s ≡ true → first_cut 58 s ≡ uncut → Rest s (squeezed s)
  data_parts : {l r : Text} → is_data s ≡ true → first_cut 58 s ≡ around l r → Rest s (trim l ++ (58 ∷ squeezed (trim r)))

pub rest_of : (s : Text) → Rest s (tidy_rest s)
rest_of s = go (is_data s) refl (first_cut 58 s) refl
  where
    go : (y : Bool) → is_data s ≡ y → (c : Cut) → first_cut 58 s ≡ c → Rest s (tidy_rest s)
    go false e c f = rw (rest_code s e) (code e)
    go true e uncut f = rw (rest_data s e, around_none squeezed s f) (data_whole e f)
    go true e (around l r) f = rw (rest_data s e, around_some squeezed s f) (data_parts e f)

pub neat_rest : {s t : Text} → Rest s t → Neat t
neat_rest {s} (code e) = neat_squeezed s
neat_rest {s} (data_whole e f) = neat_squeezed s
neat_rest (data_parts {l} {r} e f) = neat_colon (trim l) (squeezed (trim r)) (leading_trim l) (neat_squeezed (trim r)).back

pub some_rest : {s t : Text} → Rest s t → leading s ≡ 0 → 0 < length s → 0 < length t
some_rest {s} (code e) z h = some_squeezed s z h
some_rest {s} (data_whole e f) z h = some_squeezed s z h
some_rest (data_parts {l} {r} e f) z h = rw (length-append (trim l) (58 ∷ squeezed (trim r))) (omega arith)

pub holds_rest : {s t : Text} → Rest s t → Holds s t
holds_rest {s} (code e) = holds_same s (squeezed s) (pieces_squeezed s)
holds_rest {s} (data_whole e f) = holds_same s (squeezed s) (pieces_squeezed s)
holds_rest {s} (data_parts {l} {r} e f) =
    rw (around_of s l r f).whole (holds_beside l r (trim l) (squeezed (trim r)) (pieces_trim l) (pieces_squeezed (trim r) ∙ pieces_trim r))

-- what a line that reaches step 4 becomes
pub data Open (s : Text) : Text → Type 0 where
  open_whole : first_cut 58 s ≡ uncut → Open s (squeezed s)
  open_parts : {l r t : Text} → first_cut 58 s ≡ around l r → Rest (trim r) t → Open s (trim l ++ (58 ∷ t))

pub open_of : (s : Text) → Open s (around_colon tidy_rest s)
open_of s = go (first_cut 58 s) refl
  where
    go : (c : Cut) → first_cut 58 s ≡ c → Open s (around_colon tidy_rest s)
    go uncut f = rw (around_none tidy_rest s f) (open_whole f)
    go (around l r) f = rw (around_some tidy_rest s f) (open_parts f (rest_of (trim r)))

-- ---- kinds of lines: steps 1 to 3
unfoldable pub by_kind : Kind → ℕ → Text → Line
by_kind skip i s = line [] skipped
by_kind fin i s = line [] end
by_kind origin i s = line [] (org_task (number_in (nth 1 (pieces s))))
by_kind step4 i s = label_line i s

pub note_first : (b : ℕ) (s : Text) → leads (59 ∷ []) (b ∷ s) ≡ eqb b 59
unfolding uppers starts
note_first b s = go (eqb b 59) refl
  where
    go : (y : Bool) → eqb b 59 ≡ y → leads (59 ∷ []) (b ∷ s) ≡ eqb b 59
    go true e = rw e (starts_equal 59 [] (upper b) (uppers s) (upper_eqb 59 b (omega arith) ∙ e))
    go false e = rw e (starts_other 59 [] (upper b) (uppers s) (upper_eqb 59 b (omega arith) ∙ e))

pub line_kind : (i : ℕ) (s : Text) → trimmed_line i s ≡ by_kind (kind_of s) i s
unfolding trimmed_line kind_of by_kind
line_kind i [] = refl
line_kind i (b ∷ s) = go (eqb b 59) refl (leads (bytes "END") (b ∷ s)) refl (leads (bytes "ORG") (b ∷ s)) refl
  where
    go : (x : Bool) → eqb b 59 ≡ x → (y : Bool) → leads (bytes "END") (b ∷ s) ≡ y → (z : Bool) → leads (bytes "ORG") (b ∷ s) ≡ z
        → trimmed_line i (b ∷ s) ≡ by_kind (cond (eqb b 59) skip (cond (leads (bytes "END") (b ∷ s)) fin (cond (leads (bytes "ORG") (b ∷ s)) origin step4))) i (b ∷ s)
    go true e y f z g = rw (trimmed_line, e)
    go false e true f z g = rw (trimmed_line, e, f)
    go false e false f true g = rw (trimmed_line, e, f, g)
    go false e false f false g = rw (trimmed_line, e, f, g)

-- the words that decide
note_sign : Sign (59 ∷ [])
unfolding free blank
note_sign = sign_of 59 [] refl refl

end_sign : Sign (bytes "END")
unfolding bytes free blank
end_sign = sign_of _ _ refl refl

org_sign : Sign (bytes "ORG")
unfolding bytes free blank
org_sign = sign_of _ _ refl refl

pub kind_same : (s t : Text) → 0 < length s → 0 < length t → Leads s t → kind_of t ≡ kind_of s
unfolding kind_of
kind_same [] t h k l = absurd (omega arith)
kind_same (b ∷ s) [] h k l = absurd (omega arith)
kind_same (b ∷ s) (c ∷ t) h k l =
    let n : eqb c 59 ≡ eqb b 59 = sym (note_first c t) ∙ l (59 ∷ []) note_sign ∙ note_first b s in
    rw (n, l (bytes "END") end_sign, l (bytes "ORG") org_sign)

-- ---- the tasks of each kind
pub data Fits : Kind → Task → Type 0 where
  fits_skip : Fits skip skipped
  fits_end : Fits fin end
  fits_org : {v : ℕ} → Fits origin (org v)
  fits_no_org : Fits origin no_org
  fits_label : Fits step4 label_only
  fits_code : {i : Instruction} → Fits step4 (instruction i)
  fits_value : {n v : ℕ} → Fits step4 (value n v)
  fits_space : {n : ℕ} → Fits step4 (space n)

fits_data : (s d : Text) → Fits step4 (data_task s d)
unfolding data_task sized
fits_data s d = go (data_value (uppers s) d)
  where
    go : (o : Option ℕ) → Fits step4 (sized (data_size (uppers s)) o)
    go None = fits_space
    go (Some v) = fits_value

fits_pieces : (ns : List Name) (i : ℕ) (s : Text) (ps : List Text) → Fits step4 (data_pieces ns i s ps).task
unfolding data_pieces
fits_pieces ns i s [] = fits_data s s
fits_pieces ns i s (p ∷ []) = fits_data s s
fits_pieces ns i s (p ∷ q ∷ ps) = go (is_directive p) refl
  where
    go : (y : Bool) → is_directive p ≡ y → Fits step4 (data_pieces ns i s (p ∷ q ∷ ps)).task
    go true e = rw e (fits_data s s)
    go false e = rw e (fits_data s _)

fits_rest : (ns : List Name) (i : ℕ) (s : Text) → Fits step4 (rest_line ns i s).task
unfolding rest_line data_line
fits_rest ns i s = go (is_data s) refl (first_cut 58 s) refl
  where
    go : (y : Bool) → is_data s ≡ y → (c : Cut) → first_cut 58 s ≡ c → Fits step4 (rest_line ns i s).task
    go false e c f = rw (rest_line, e) fits_code
    go true e uncut f = rw (rest_line, e, data_line, f) (fits_pieces ns i s (pieces s))
    go true e (around l r) f = rw (rest_line, e, data_line, f) (fits_data s (trim r))

fits_after : (n : Name) (i : ℕ) (s : Text) → Fits step4 (after_label n i s).task
unfolding after_label
fits_after n i [] = fits_label
fits_after n i (b ∷ s) = fits_rest (n ∷ []) i (b ∷ s)

fits_open : (i : ℕ) (s : Text) → Fits step4 (label_line i s).task
unfolding label_line
fits_open i s = go (first_cut 58 s) refl
  where
    go : (c : Cut) → first_cut 58 s ≡ c → Fits step4 (label_line i s).task
    go uncut f = rw (label_line, f) (fits_rest [] i s)
    go (around l r) f = rw (label_line, f) (fits_after _ _ (trim r))

fits_origin : (o : Option ℕ) → Fits origin (org_task o)
unfolding org_task
fits_origin None = fits_no_org
fits_origin (Some v) = fits_org

pub fits_by : (k : Kind) (i : ℕ) (s : Text) → Fits k (by_kind k i s).task
unfolding by_kind
fits_by skip i s = fits_skip
fits_by fin i s = fits_end
fits_by origin i s = fits_origin (number_in (nth 1 (pieces s)))
fits_by step4 i s = fits_open i s

pub line_by : (s : Text) → line_of s ≡ by_kind (kind_of (trim s)) (leading s) (trim s)
unfolding line_of
line_by s = line_kind (leading s) (trim s)

pub line_fits : (l : Text) → Fits (kind_of (trim l)) (line_of l).task
line_fits l = rw (line_by l) (fits_by (kind_of (trim l)) (leading l) (trim l))

-- ---- the copy of a line, and of lines, by kind
unfoldable pub copy_by : Kind → Text → Text
copy_by skip s = []
copy_by fin s = squeezed s
copy_by origin s = squeezed s
copy_by step4 s = around_colon tidy_rest s

copy_as : {q : Kind} {k : Task} → Fits q k → (s : Text) → tidy_as k s ≡ copy_by q (trim s)
unfolding tidy_as copy_by
copy_as fits_skip s = refl
copy_as fits_end s = sym (squeezed_trim s)
copy_as fits_org s = sym (squeezed_trim s)
copy_as fits_no_org s = sym (squeezed_trim s)
copy_as fits_label s = refl
copy_as fits_code s = refl
copy_as fits_value s = refl
copy_as fits_space s = refl

pub copy_by_lem : (s : Text) → tidy_line s ≡ copy_by (kind_of (trim s)) (trim s)
unfolding tidy_line
copy_by_lem s = copy_as (line_fits s) s

unfoldable pub before_by : Kind → Text → List Text → List Text
before_by skip t ts = ts
before_by fin t ts = t ∷ []
before_by origin t ts = t ∷ ts
before_by step4 t ts = t ∷ ts

before_as : {q : Kind} {k : Task} → Fits q k → (t : Text) (ts : List Text) → before k t ts ≡ before_by q t ts
unfolding before before_by
before_as fits_skip t ts = refl
before_as fits_end t ts = refl
before_as fits_org t ts = refl
before_as fits_no_org t ts = refl
before_as fits_label t ts = refl
before_as fits_code t ts = refl
before_as fits_value t ts = refl
before_as fits_space t ts = refl

pub lines_more : (l : Text) (ls : List Text) → tidy_lines (l ∷ ls) ≡ before_by (kind_of (trim l)) (tidy_line l) (tidy_lines ls)
unfolding tidy_lines
lines_more l ls = before_as (line_fits l) (tidy_line l) (tidy_lines ls)
