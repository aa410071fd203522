-- Lines with a piece in their value's place: what is read in them, whatever the piece is, if it holds no blank, colon or dot. Assumes nothing.
use Rattle.std.specs.Prelude.{None, Some}
use native.Mathlib.Omega.{arith}
use Prim.Native.Nat.{ℕ, suc, ◌+◌}
use mathlib.Core.Path.{◌≡◌, refl, sym, ap, ◌∙◌}
use mathlib.Core.Bool.{Bool, true, false, ◌||◌, cond}
use mathlib.Core.List.{List, [], ◌∷◌, ◌++◌, append_assoc}
use lib.Dec.{eqb}
use lib.ListN.{length}
use Rattle.rules.specs.Text.{Text, bytes, blank, uppers, leading, trim_start, trim_end, trim, pieces, joined, Cut, uncut, around, first_cut, starts, contains, nth}
use Rattle.rules.specs.Number.{value_of}
use Rattle.rules.specs.Line.{Name, name, line, value_reading, value_reading_in, data_size, data_value, sized, data_task, is_directive, data_pieces, nonempty, data_line, is_data, rest_line, after_label, label_line, trimmed_line, line_of}
use Rattle.rules.specs.Directive.{piece_directive, directive_of, after_colon}
use Rattle.promises_rust.specs.RustStr.{at}
use Rattle.promises_rust.specs.RustSums.{put_piece, put_data_value, put_value}
use Rattle.promises.proofs.Compared.{clash}
use Rattle.promises_rust.proofs.RustText.{cut_texts, is_cut, splitn_is, contains_one, pieces_is, Solid, nil, cons, AllSolid, AllFull, full_pieces, solid_pieces}
use Rattle.promises_rust.proofs.RustPieces.{Open, pieces_solid, pieces_joined}
use Rattle.promises_rust.proofs.RustPlain.{data_piece, trimmed_piece, line_piece, names_is, third}
use Rattle.promises_rust.proofs.RustHole.{ahead, Hole, hole, Closed, over, blank_next, full_next, closed_any, closed_pieces, pieces_full, pieces_blank, Filled, not_filled, leading_front, pieces_start, closed_start, open_end, trim_hole, start_at, end_at, trim_trimmed, pieces_trim, CutIs, none, one, cut_is, without_front, without_back, Without, uncut_of, cut_of, without_append, without_start, without_end, here, later, Mark, starts_front, uppers_append, closed_uppers, Quiet, AllQuiet, quiet, quiet_solid, quiet_colon, contains_hole}

-- a piece that changes nothing around it
pub data Piece : Text → Type 0 where
  one_piece : {b : ℕ} {s : Text} → Quiet b → AllQuiet s → Piece (b ∷ s)

-- ---- the directives looked for
dc : Mark (bytes "DC.")
unfolding bytes blank
dc = record { solid = cons refl (cons refl (cons refl nil)); dotted = later (later here) }

dc_l : Mark (bytes "DC.L")
unfolding bytes blank
dc_l = record { solid = cons refl (cons refl (cons refl (cons refl nil))); dotted = later (later here) }

ds_l : Mark (bytes "DS.L")
unfolding bytes blank
ds_l = record { solid = cons refl (cons refl (cons refl (cons refl nil))); dotted = later (later here) }

dc_w : Mark (bytes "DC.W")
unfolding bytes blank
dc_w = record { solid = cons refl (cons refl (cons refl (cons refl nil))); dotted = later (later here) }

ds_w : Mark (bytes "DS.W")
unfolding bytes blank
ds_w = record { solid = cons refl (cons refl (cons refl (cons refl nil))); dotted = later (later here) }

dc_b : Mark (bytes "DC.B")
unfolding bytes blank
dc_b = record { solid = cons refl (cons refl (cons refl (cons refl nil))); dotted = later (later here) }

ds_b : Mark (bytes "DS.B")
unfolding bytes blank
ds_b = record { solid = cons refl (cons refl (cons refl (cons refl nil))); dotted = later (later here) }

-- one stands in front of the value or after it
abbrev pub Has : Text → Text → Text → Bool
Has p f b = contains p (uppers f) || contains p (uppers b)

abbrev hole_size : Text → Text → ℕ
hole_size f b =
    cond (Has (bytes "DC.L") f b || Has (bytes "DS.L") f b) 4
    (cond (Has (bytes "DC.W") f b || Has (bytes "DS.W") f b) 2 (cond (Has (bytes "DC.B") f b || Has (bytes "DS.B") f b) 1 2))

-- ---- front and back of a value in a text of data
pub data DataFrame (f b : Text) : Type 0 where
  bare : {p : Text} → Without 58 f → Without 58 b → Closed false f → pieces f ≡ p ∷ [] → is_directive p ≡ true → DataFrame f b
  labelled : {p q : Text} → Without 58 f → Without 58 b → Closed false f → pieces f ≡ p ∷ q ∷ [] → is_directive p ≡ false → DataFrame f b
  coloned : {m g p : Text} → f ≡ m ++ (58 ∷ g) → Without 58 m → Closed false g → pieces g ≡ p ∷ [] → DataFrame f b

colon_closed : (x : Bool) (m : Text) {g : Text} → Closed true g → Closed x (m ++ (58 ∷ g))
unfolding blank
colon_closed x [] c = full_next refl c
colon_closed x (b ∷ m) {g} c = go (blank b) refl (λ y. colon_closed y m c)
  where
    go : (z : Bool) → blank b ≡ z → ((y : Bool) → Closed y (m ++ (58 ∷ g))) → Closed x (b ∷ (m ++ (58 ∷ g)))
    go true e h = blank_next e (h false)
    go false e h = full_next e (h true)

closed_true : {g : Text} → Closed false g → Filled g → Closed true g
closed_true over k = not_filled k
closed_true (blank_next e c) k = blank_next e c
closed_true (full_next e c) k = full_next e c

filled_at : (m y : Text) → Filled (m ++ (58 ∷ y))
unfolding blank
filled_at [] y = record { first = _; others = _; are = pieces_full 58 y refl }
filled_at (b ∷ m) y = go (blank b) refl (filled_at m y)
  where
    go : (x : Bool) → blank b ≡ x → Filled (m ++ (58 ∷ y)) → Filled (b ∷ (m ++ (58 ∷ y)))
    go true e k = record { first = k.first; others = k.others; are = pieces_blank b (m ++ (58 ∷ y)) e ∙ k.are }
    go false e k = record { first = _; others = _; are = pieces_full b (m ++ (58 ∷ y)) e }

filled_as : {f : Text} {p : Text} {ps : List Text} → pieces f ≡ p ∷ ps → Filled f
filled_as {p = p} {ps = ps} e = record { first = p; others = ps; are = e }

pub frame_closed : {f b : Text} → DataFrame f b → Closed false f
frame_closed (bare v w c e d) = c
frame_closed (labelled v w c e d) = c
frame_closed (coloned {m} {g} e w c h) = rw e (colon_closed false m (closed_true c (filled_as h)))

pub frame_filled : {f b : Text} → DataFrame f b → Filled f
frame_filled (bare v w c e d) = filled_as e
frame_filled (labelled v w c e d) = filled_as e
frame_filled (coloned {m} {g} e w c h) = rw e (filled_at m g)

colon_start : (m g : Text) {f : Text} → f ≡ m ++ (58 ∷ g) → trim_start f ≡ trim_start m ++ (58 ∷ g)
unfolding blank
colon_start m g e = rw e (start_at m 58 refl g)

frame_start : {f b : Text} → DataFrame f b → DataFrame (trim_start f) b
frame_start {f} (bare v w c e d) = bare (without_start 58 v) w (closed_start c) (pieces_start f ∙ e) d
frame_start {f} (labelled v w c e d) = labelled (without_start 58 v) w (closed_start c) (pieces_start f ∙ e) d
frame_start (coloned {m} {g} e w c h) = coloned (colon_start m g e) (without_start 58 w) c h

frame_end : {f b : Text} → DataFrame f b → DataFrame f (trim_end b)
frame_end (bare v w c e d) = bare v (without_end 58 w) c e d
frame_end (labelled v w c e d) = labelled v (without_end 58 w) c e d
frame_end (coloned e w c h) = coloned e w c h

-- the labels that step 5 records
frame_names : List Name → ℕ → {f b : Text} → DataFrame f b → List Name
frame_names ns i (bare v w c e d) = ns
frame_names ns i (labelled {p} v w c e d) = ns ++ (name i p ∷ [])
frame_names ns i (coloned {m} e w c h) = ns ++ nonempty i (trim m)

-- its directive, and the directive's second piece
record AtData (ns : List Name) (i : ℕ) (s n : Text) (names : List Name) : Type 0 where
  directive : Text
  cut : directive_of s ≡ directive
  second : nth 1 (pieces directive) ≡ Some n
  reads : data_line ns i s ≡ line names (data_task s directive)

full_tail : {p : Text} {ps : List Text} → AllFull (p ∷ ps) → AllFull ps
full_tail (cons f) = f

solid_tail : {p : Text} {ps : List Text} → AllSolid (p ∷ ps) → AllSolid ps
solid_tail (cons r rs) = rs

module _ (ns : List Name) (i : ℕ) {b : Text} (o : Open b) {n : Text} (k : Piece n) where
  hole_pieces : {f : Text} → Closed false f → pieces (f ++ (n ++ b)) ≡ pieces f ++ (n ∷ pieces b)
  hole_pieces {f} c = closed_pieces c (n ++ b) ∙ ap (λ (ps : List Text). pieces f ++ ps) (go k)
    where
      go : {n : Text} → Piece n → pieces (n ++ b) ≡ n ∷ pieces b
      go (one_piece q r) = pieces_solid (quiet_solid (quiet q r)) o

  no_colon : Without 58 n
  no_colon = go k
    where
      go : {n : Text} → Piece n → Without 58 n
      go (one_piece q r) = quiet_colon (quiet q r)

  uncut_hole : {f : Text} → Without 58 f → Without 58 b → first_cut 58 (f ++ (n ++ b)) ≡ uncut
  uncut_hole v w = uncut_of 58 (without_append 58 v (without_append 58 no_colon w))

  at_data : {f : Text} (d : DataFrame f b) → AtData ns i (f ++ (n ++ b)) n (frame_names ns i d)
  unfolding data_line directive_of piece_directive data_pieces nth frame_names
  at_data {f} (bare {p} v w c e d) =
      let s = f ++ (n ++ b) in
      let parts : pieces s ≡ p ∷ n ∷ pieces b = rw e at (hole_pieces c) in
      record {
        directive = s;
        cut = rw (directive_of, uncut_hole v w, parts, d);
        second = rw parts;
        reads = rw (data_line, uncut_hole v w, parts, d);
      }
  at_data {f} (labelled {p} {q} v w c e d) =
      let s = f ++ (n ++ b) in
      let parts : pieces s ≡ p ∷ q ∷ n ∷ pieces b = rw e at (hole_pieces c) in
      let full : AllFull (p ∷ q ∷ n ∷ pieces b) = rw parts at (full_pieces s) in
      let solid : AllSolid (p ∷ q ∷ n ∷ pieces b) = rw parts at (solid_pieces s) in
      record {
        directive = joined (q ∷ n ∷ pieces b);
        cut = rw (directive_of, uncut_hole v w, parts, d);
        second = rw (pieces_joined (full_tail full) (solid_tail solid));
        reads = rw (data_line, uncut_hole v w, parts, d);
      }
  at_data {f} (coloned {m} {g} {p} e w c h) =
      let s = f ++ (n ++ b) in
      let whole : s ≡ m ++ (58 ∷ (g ++ (n ++ b))) = rw e (append_assoc m (58 ∷ g) (n ++ b)) in
      let is : first_cut 58 s ≡ around m (g ++ (n ++ b)) = ap (first_cut 58) whole ∙ cut_of 58 w (g ++ (n ++ b)) in
      let parts : pieces (g ++ (n ++ b)) ≡ p ∷ n ∷ pieces b = rw h at (hole_pieces c) in
      record {
        directive = trim (g ++ (n ++ b));
        cut = rw (directive_of, is);
        second = rw (pieces_trim (g ++ (n ++ b)), parts);
        reads = rw (data_line, is);
      }

  quiets : AllQuiet n
  quiets = go k
    where
      go : {n : Text} → Piece n → AllQuiet n
      go (one_piece q r) = quiet q r

  size_is : {f : Text} → Closed false f → data_size (uppers (f ++ (n ++ b))) ≡ hole_size f b
  unfolding data_size
  size_is c =
      rw (
        contains_hole dc_l c quiets o,
        contains_hole ds_l c quiets o,
        contains_hole dc_w c quiets o,
        contains_hole ds_w c quiets o,
        contains_hole dc_b c quiets o,
        contains_hole ds_b c quiets o,
      )

  -- what steps 5 and 6 read
  record DataReads (f : Text) (d : DataFrame f b) : Type 0 where
    reads : rest_line ns i (f ++ (n ++ b)) ≡ line (frame_names ns i d) (sized (hole_size f b) (value_of (value_reading n)))
    piece : data_piece (f ++ (n ++ b)) ≡ Some n

  data_reads : {f : Text} (d : DataFrame f b) → Has (bytes "DC.") f b ≡ true → DataReads f d
  unfolding rest_line is_data data_task data_value value_reading_in data_piece
  data_reads {f} d h =
      let s = f ++ (n ++ b) in
      let a = at_data d in
      let has : contains (bytes "DC.") (uppers s) ≡ true = contains_hole dc (frame_closed d) quiets o ∙ h in
      let data_is : is_data s ≡ true = rw has in
      let task : data_task s a.directive ≡ sized (hole_size f b) (value_of (value_reading n)) = rw (size_is (frame_closed d), has, a.second) in
      record {
        reads = rw (rest_line, data_is) (a.reads ∙ ap (line (frame_names ns i d)) task);
        piece = rw (has, a.cut, a.second);
      }

-- ---- a line's front and back
pub data LineFrame (f b : Text) : Type 0 where
  no_label : Without 58 f → Without 58 b → DataFrame f b → LineFrame f b
  label : {a g : Text} → f ≡ a ++ (58 ∷ g) → Without 58 a → DataFrame g b → LineFrame f b

line_closed : {f b : Text} → LineFrame f b → Closed false f
line_closed (no_label v w d) = frame_closed d
line_closed (label {a} {g} e w d) = rw e (colon_closed false a (closed_true (frame_closed d) (frame_filled d)))

pub line_filled : {f b : Text} → LineFrame f b → Filled f
line_filled (no_label v w d) = frame_filled d
line_filled (label {a} {g} e w d) = rw e (filled_at a g)

line_start : {f b : Text} → LineFrame f b → LineFrame (trim_start f) b
line_start (no_label v w d) = no_label (without_start 58 v) w (frame_start d)
line_start (label {a} {g} e w d) = label (colon_start a g e) (without_start 58 w) d

line_end : {f b : Text} → LineFrame f b → LineFrame f (trim_end b)
line_end (no_label v w d) = no_label v (without_end 58 w) (frame_end d)
line_end (label e w d) = label e w (frame_end d)

-- a text of data that has the piece as its value says `DC.`
has_of : {f b t : Text} → DataFrame f b → Open b → Piece t → data_piece (f ++ (t ++ b)) ≡ Some t → Has (bytes "DC.") f b ≡ true
unfolding data_piece
has_of {f} {b} {t} d o k e = sym (contains_hole dc (frame_closed d) (quiets [] 0 o k) o) ∙ go (contains (bytes "DC.") (uppers (f ++ (t ++ b)))) refl
  where
    go : (x : Bool) → contains (bytes "DC.") (uppers (f ++ (t ++ b))) ≡ x → contains (bytes "DC.") (uppers (f ++ (t ++ b))) ≡ true
    go true g = g
    go false g = let z : None ≡ Some t = rw (data_piece, g) at e in clash cc

-- what steps 4 to 6 read, for each piece
record Reads (i : ℕ) (f b : Text) : Type 0 where
  names : List Name
  size : ℕ
  reads : (n : Text) → Piece n → label_line i (f ++ (n ++ b)) ≡ line names (sized size (value_of (value_reading n)))
  piece : (n : Text) → Piece n → data_piece (after_colon (f ++ (n ++ b))) ≡ Some n

after_filled : (x : Name) (j : ℕ) (f : Text) → Filled f → (y : Text) → after_label x j (f ++ y) ≡ rest_line (x ∷ []) j (f ++ y)
unfolding after_label
after_filled x j [] k y = not_filled k
after_filled x j (b ∷ f) k y = refl

trim_piece : (f : Text) → Filled f → {n : Text} → Piece n → (y : Text) → trim (f ++ (n ++ y)) ≡ trim_start f ++ (n ++ trim_end y)
trim_piece f k (one_piece q r) y = trim_hole f k (quiet_solid (quiet q r)) y

filled_start : {f : Text} → Filled f → Filled (trim_start f)
filled_start {f} k = record { first = k.first; others = k.others; are = pieces_start f ∙ k.are }

label_reads : (i : ℕ) {f b : Text} → LineFrame f b → Open b → {t : Text} → Piece t → data_piece (after_colon (f ++ (t ++ b))) ≡ Some t → Reads i f b
unfolding label_line after_colon
label_reads i {f} {b} (no_label v w d) o {t} k e =
    let whole : data_piece (f ++ (t ++ b)) ≡ Some t = rw (after_colon, uncut_hole [] i o k v w) at e in
    let h : Has (bytes "DC.") f b ≡ true = has_of d o k whole in
    record {
      names = frame_names [] i d;
      size = hole_size f b;
      reads = λ n q. rw (label_line, uncut_hole [] i o q v w) (data_reads [] i o q d h).reads;
      piece = λ n q. rw (after_colon, uncut_hole [] i o q v w) (data_reads [] i o q d h).piece;
    }
label_reads i {f} {b} (label {a} {g} e w d) o {t} k p =
    let full : Filled g = frame_filled d in
    let o' : Open (trim_end b) = open_end o in
    let d' : DataFrame (trim_start g) (trim_end b) = frame_start (frame_end d) in
    let j : ℕ = i + length a + 1 + leading g in
    let whole : data_piece (trim_start g ++ (t ++ trim_end b)) ≡ Some t = rw (after_colon, cut t, trim_piece g full k b) at p in
    let h : Has (bytes "DC.") (trim_start g) (trim_end b) ≡ true = has_of d' o' k whole in
    record {
      names = frame_names (name i (trim a) ∷ []) j d';
      size = hole_size (trim_start g) (trim_end b);
      reads =
          λ n q.
          rw (label_line, cut n, trim_piece g full q b, leading_front g full (n ++ b), after_filled (name i (trim a)) j (trim_start g) (filled_start full) (n ++ trim_end b))
          (data_reads (name i (trim a) ∷ []) j o' q d' h).reads;
      piece = λ n q. rw (after_colon, cut n, trim_piece g full q b) (data_reads (name i (trim a) ∷ []) j o' q d' h).piece;
    }
  where
    cut : (n : Text) → first_cut 58 (f ++ (n ++ b)) ≡ around a (g ++ (n ++ b))
    cut n = let s : f ++ (n ++ b) ≡ a ++ (58 ∷ (g ++ (n ++ b))) = rw e (append_assoc a (58 ∷ g) (n ++ b)) in ap (first_cut 58) s ∙ cut_of 58 w (g ++ (n ++ b))

-- what steps 1 to 6 read in a trimmed line, and in any
record TrimmedReads (i : ℕ) (f b : Text) : Type 0 where
  names : List Name
  size : ℕ
  reads : (n : Text) → Piece n → trimmed_line i (f ++ (n ++ b)) ≡ line names (sized size (value_of (value_reading n)))
  piece : (n : Text) → Piece n → trimmed_piece (f ++ (n ++ b)) ≡ Some n

end_solid : Solid (bytes "END")
unfolding bytes blank
end_solid = cons refl (cons refl (cons refl nil))

org_solid : Solid (bytes "ORG")
unfolding bytes blank
org_solid = cons refl (cons refl (cons refl nil))

front_starts : {p : Text} → Solid p → {b : ℕ} {f : Text} → Closed false (b ∷ f) → (y : Text) → starts p (uppers ((b ∷ f) ++ y)) ≡ starts p (uppers (b ∷ f))
front_starts r {b} {f} c y = rw (uppers_append (b ∷ f) y) (starts_front r (closed_uppers (closed_any true c)) (uppers y))

trimmed_reads : (i : ℕ) (f : Text) {b : Text} → LineFrame f b → Open b → {t : Text} → Piece t → trimmed_piece (f ++ (t ++ b)) ≡ Some t → TrimmedReads i f b
unfolding trimmed_line trimmed_piece
trimmed_reads i [] d o k e = not_filled (line_filled d)
trimmed_reads i (c ∷ f) {b} d o {t} k e = go (eqb c 59) refl (starts (bytes "END") (uppers (c ∷ f))) refl (starts (bytes "ORG") (uppers (c ∷ f))) refl
  where
    never : {A : Type 0} → None ≡ Some t → A
    never z = clash cc

    ends : (y : Text) → starts (bytes "END") (uppers (c ∷ (f ++ y))) ≡ starts (bytes "END") (uppers (c ∷ f))
    ends y = front_starts end_solid (line_closed d) y

    orgs : (y : Text) → starts (bytes "ORG") (uppers (c ∷ (f ++ y))) ≡ starts (bytes "ORG") (uppers (c ∷ f))
    orgs y = front_starts org_solid (line_closed d) y

    go : (x : Bool) → eqb c 59 ≡ x → (y : Bool) → starts (bytes "END") (uppers (c ∷ f)) ≡ y → (z : Bool) → starts (bytes "ORG") (uppers (c ∷ f)) ≡ z
        → TrimmedReads i (c ∷ f) b
    go true g y h z l = never (rw (trimmed_piece, g) at e)
    go false g true h z l = never (rw (trimmed_piece, g, ends (t ++ b), h) at e)
    go false g false h true l = never (rw (trimmed_piece, g, ends (t ++ b), h, orgs (t ++ b), l) at e)
    go false g false h false l =
        let r = label_reads i d o k (rw (trimmed_piece, g, ends (t ++ b), h, orgs (t ++ b), l) at e) in
        record {
          names = r.names;
          size = r.size;
          reads = λ n q. rw (trimmed_line, g, ends (n ++ b), h, orgs (n ++ b), l) (r.reads n q);
          piece = λ n q. rw (trimmed_piece, g, ends (n ++ b), h, orgs (n ++ b), l) (r.piece n q);
        }

pub record LineReads (f b : Text) : Type 0 where
  pub names : List Name
  pub size : ℕ
  pub reads : (n : Text) → Piece n → line_of (f ++ (n ++ b)) ≡ line names (sized size (value_of (value_reading n)))
  pub piece : (n : Text) → Piece n → line_piece (f ++ (n ++ b)) ≡ Some n

pub line_reads : {f b : Text} → LineFrame f b → Open b → {t : Text} → Piece t → line_piece (f ++ (t ++ b)) ≡ Some t → LineReads f b
unfolding line_of line_piece
line_reads {f} {b} d o {t} k e =
    let full : Filled f = line_filled d in
    let r = trimmed_reads (leading f) (trim_start f) (line_start (line_end d)) (open_end o) k (rw (trim_piece f full k b) at e) in
    record {
      names = r.names;
      size = r.size;
      reads = λ n q. rw (trim_piece f full q b, leading_front f full (n ++ b)) (r.reads n q);
      piece = λ n q. rw (trim_piece f full q b) (r.piece n q);
    }

-- ---- the front and the back of a line's value
record DataHole (t s : Text) : Type 0 where
  front : Text
  back : Text
  opened : Open back
  frame : DataFrame front back
  is : s ≡ front ++ (t ++ back)
  put : (n : Text) → put_data_value n s ≡ front ++ (n ++ back)

pub record LineHole (t l : Text) : Type 0 where
  pub front : Text
  pub back : Text
  pub opened : Open back
  pub frame : LineFrame front back
  pub is : l ≡ front ++ (t ++ back)
  pub put : (n : Text) → put_value n l ≡ front ++ (n ++ back)

-- trimmed, and cut at its colon
module _ (m d : Text) (w : Without 58 m) where
  cut_trim : first_cut 58 (trim (m ++ (58 ∷ d))) ≡ around (trim_start m) (trim_end d)
  unfolding trim blank
  cut_trim = ap (λ (s : Text). first_cut 58 (trim_end s)) (start_at m 58 refl d) ∙ ap (first_cut 58) (end_at (trim_start m) 58 refl d) ∙ cut_of 58 (without_start 58 w) (trim_end d)

without_trim : {s : Text} → Without 58 s → Without 58 (trim s)
unfolding trim
without_trim w = without_end 58 (without_start 58 w)

-- a value in a text of data
second_of : (s t : Text) → data_piece s ≡ Some t → nth 1 (pieces (directive_of s)) ≡ Some t
unfolding data_piece
second_of s t e = go (contains (bytes "DC.") (uppers s)) e
  where
    go : (x : Bool) → cond x (nth 1 (pieces (directive_of s))) None ≡ Some t → nth 1 (pieces (directive_of s)) ≡ Some t
    go true e = e
    go false e = clash cc

record One (ps : List Text) : Type 0 where
  first : Text
  are : ps ≡ first ∷ []

one_of : (ps : List Text) → length ps ≡ 1 → One ps
one_of [] e = let z : ◌≡◌ {A = ℕ} 0 1 = e in absurd (omega arith)
one_of (p ∷ []) e = record { first = p; are = refl }
one_of (p ∷ q ∷ ps) e = let z : suc (suc (length ps)) ≡ 1 = e in absurd (omega arith)

record Two (ps : List Text) : Type 0 where
  first : Text
  second : Text
  are : ps ≡ first ∷ second ∷ []

two_of : (ps : List Text) → length ps ≡ 2 → Two ps
two_of [] e = let z : ◌≡◌ {A = ℕ} 0 2 = e in absurd (omega arith)
two_of (p ∷ []) e = let z : ◌≡◌ {A = ℕ} 1 2 = e in absurd (omega arith)
two_of (p ∷ q ∷ []) e = record { first = p; second = q; are = refl }
two_of (p ∷ q ∷ r ∷ ps) e = let z : suc (suc (suc (length ps))) ≡ 2 = e in absurd (omega arith)

module _ (t s : Text) where
  abbrev directive_first : Bool
  directive_first = is_directive (at (pieces s) 0)

  first_is : {f : Text} (b : Text) → Closed false f → s ≡ f ++ (t ++ b) → {p : Text} {ps : List Text} → pieces f ≡ p ∷ ps → at (pieces s) 0 ≡ p
  first_is {f} b c q e =
      ap (λ (u : Text). at (pieces u) 0) q ∙ ap (λ (ps : List Text). at ps 0) (closed_pieces c (t ++ b)) ∙ ap (λ (ps : List Text). at (ps ++ pieces (t ++ b)) 0) e

  bare_frame : Without 58 s → directive_first ≡ true → (h : Hole false 1 t s) → DataFrame h.front h.back
  unfolding ahead
  bare_frame w e h =
      let o = one_of (pieces h.front) h.count in
      let first : at (pieces s) 0 ≡ o.first = first_is h.back h.closed h.is o.are in
      bare (without_front 58 h.front _ (rw h.is at w)) (without_back 58 t _ (without_back 58 h.front _ (rw h.is at w))) h.closed o.are (rw first at e)

  labelled_frame : Without 58 s → directive_first ≡ false → (h : Hole false 2 t s) → DataFrame h.front h.back
  unfolding ahead
  labelled_frame w e h =
      let o = two_of (pieces h.front) h.count in
      let first : at (pieces s) 0 ≡ o.first = first_is h.back h.closed h.is o.are in
      labelled (without_front 58 h.front _ (rw h.is at w)) (without_back 58 t _ (without_back 58 h.front _ (rw h.is at w))) h.closed o.are (rw first at e)

  put_uncut : Without 58 s → (n : Text) → put_data_value n s ≡ put_piece false (cond directive_first 1 2) n s
  unfolding put_data_value bytes is_cut
  put_uncut w n = rw (contains_one 58 s, uncut_of 58 w, pieces_is s, names_is (at (pieces s) 0))

  data_uncut : Without 58 s → nth (cond directive_first 1 2) (pieces s) ≡ Some t → DataHole t s
  unfolding ahead
  data_uncut w e = go directive_first refl
    where
      go : (x : Bool) → directive_first ≡ x → DataHole t s
      go true d =
          let h = hole t s false 1 (rw d at e) in
          record { front = h.front; back = h.back; opened = h.opened; frame = bare_frame w d h; is = h.is; put = λ n. put_uncut w n ∙ rw d (h.put n) }
      go false d =
          let h = hole t s false 2 (rw d at e) in
          record { front = h.front; back = h.back; opened = h.opened; frame = labelled_frame w d h; is = h.is; put = λ n. put_uncut w n ∙ rw d (h.put n) }

data_cut : (t s m d : Text) → s ≡ m ++ (58 ∷ d) → Without 58 m → nth 1 (pieces d) ≡ Some t → DataHole t s
unfolding ahead put_data_value bytes is_cut cut_texts
data_cut t s m d q w e =
    let h = hole t d false 1 e in
    let o = one_of (pieces h.front) h.count in
    let again : (n : Text) → (m ++ (58 ∷ h.front)) ++ (n ++ h.back) ≡ m ++ (58 ∷ (h.front ++ (n ++ h.back))) = λ n. append_assoc m (58 ∷ h.front) (n ++ h.back) in
    let cut : first_cut 58 s ≡ around m d = ap (first_cut 58) q ∙ cut_of 58 w d in
    record {
      front = m ++ (58 ∷ h.front);
      back = h.back;
      opened = h.opened;
      frame = coloned refl w h.closed o.are;
      is = q ∙ ap (λ (u : Text). m ++ (58 ∷ u)) h.is ∙ sym (again t);
      put = λ n. rw (contains_one 58 s, splitn_is 58 s, cut) (ap (λ (u : Text). m ++ (58 ∷ u)) (h.put n) ∙ sym (again n));
    }

data_hole : (t s : Text) → data_piece (trim s) ≡ Some t → DataHole t s
unfolding directive_of
data_hole t s e = go (first_cut 58 s) (cut_is 58 s)
  where
    seconds : nth 1 (pieces (directive_of (trim s))) ≡ Some t
    seconds = second_of (trim s) t e

    go : (k : Cut) → CutIs 58 s k → DataHole t s
    go uncut (none w) =
        let parts : nth 1 (pieces (piece_directive (trim s) (pieces (trim s)))) ≡ Some t = rw (directive_of, uncut_of 58 (without_trim w)) at seconds in
        let all = third (trim s) refl (full_pieces (trim s)) (solid_pieces (trim s)) ∙ parts in
        data_uncut t s w (rw (pieces_trim s) at all)
    go (around m d) (one q w) =
        let is : first_cut 58 (trim s) ≡ around (trim_start m) (trim_end d) = rw q (cut_trim m d w) in
        let parts : nth 1 (pieces (trim (trim_end d))) ≡ Some t = rw (directive_of, is) at seconds in
        data_cut t s m d q w (rw (trim_trimmed d, pieces_trim d) at parts)

-- a value in a line
after_of : (s t : Text) → trimmed_piece s ≡ Some t → data_piece (after_colon s) ≡ Some t
unfolding trimmed_piece
after_of [] t e = clash cc
after_of (b ∷ s) t e = go (eqb b 59) (starts (bytes "END") (uppers (b ∷ s))) (starts (bytes "ORG") (uppers (b ∷ s))) e
  where
    go : (x y z : Bool) → cond x None (cond y None (cond z None (data_piece (after_colon (b ∷ s))))) ≡ Some t → data_piece (after_colon (b ∷ s)) ≡ Some t
    go true y z e = clash cc
    go false true z e = clash cc
    go false false true e = clash cc
    go false false false e = e

pub line_hole : (t l : Text) → line_piece l ≡ Some t → LineHole t l
unfolding line_piece after_colon put_value bytes is_cut cut_texts
line_hole t l e = go (first_cut 58 l) (cut_is 58 l)
  where
    value : data_piece (after_colon (trim l)) ≡ Some t
    value = after_of (trim l) t e

    go : (k : Cut) → CutIs 58 l k → LineHole t l
    go uncut (none w) =
        let whole : data_piece (trim l) ≡ Some t = rw (after_colon, uncut_of 58 (without_trim w)) at value in
        let h = data_hole t l whole in
        let v : Without 58 (h.front ++ (t ++ h.back)) = rw h.is at w in
        record {
          front = h.front;
          back = h.back;
          opened = h.opened;
          frame = no_label (without_front 58 h.front _ v) (without_back 58 t _ (without_back 58 h.front _ v)) h.frame;
          is = h.is;
          put = λ n. rw (contains_one 58 l, uncut_of 58 w) (h.put n);
        }
    go (around a r) (one q w) =
        let is : first_cut 58 (trim l) ≡ around (trim_start a) (trim_end r) = rw q (cut_trim a r w) in
        let rest : data_piece (trim (trim_end r)) ≡ Some t = rw (after_colon, is) at value in
        let h = data_hole t r (rw (trim_trimmed r) at rest) in
        let again : (n : Text) → (a ++ (58 ∷ h.front)) ++ (n ++ h.back) ≡ a ++ (58 ∷ (h.front ++ (n ++ h.back))) = λ n. append_assoc a (58 ∷ h.front) (n ++ h.back) in
        let cut : first_cut 58 l ≡ around a r = ap (first_cut 58) q ∙ cut_of 58 w r in
        record {
          front = a ++ (58 ∷ h.front);
          back = h.back;
          opened = h.opened;
          frame = label refl w h.frame;
          is = q ∙ ap (λ (u : Text). a ++ (58 ∷ u)) h.is ∙ sym (again t);
          put = λ n. rw (contains_one 58 l, splitn_is 58 l, cut) (ap (λ (u : Text). a ++ (58 ∷ u)) (h.put n) ∙ sym (again n));
        }
