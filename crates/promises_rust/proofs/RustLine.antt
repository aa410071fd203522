-- A line: the body of the Rust's loop does what the rules read in the line. Assumes nothing.
use Rattle.std.specs.Prelude.{Option, None, Some}
use Rattle.rules.specs.Option.{bind}
use Prim.Native.Nat.{ℕ, suc, ◌+◌, ◌-◌}
use mathlib.Core.Path.{◌≡◌, refl, sym, ap, ◌∙◌, fun_ext}
use mathlib.Core.Bool.{Bool, true, false, not, ◌&&◌, ◌||◌, cond}
use mathlib.Core.List.{List, [], ◌∷◌, map, ◌++◌}
use native.Mathlib.Omega.{arith}
use lib.ListN.{length, drop, get_or}
use lib.Dec.{leb, ltb, eqb}
use borrow.Author.Tests.{lt-ltb, le-leb}
use Rattle.rules.specs.Text.{Text, bytes, uppers, leading, trim, trim_start, trim_end, cut_where, cut_at, drop_empty, pieces, joined, Cut, uncut, around, first_cut, same, starts, contains, nth, first_text, other_texts, last_text}
use Rattle.rules.specs.Number.{value_of}
use Rattle.rules.specs.Line.{Name, name, instruction, line, reading_in, number_in, value_reading_in, operands_of, instruction_of, data_size, data_value, sized, data_task, is_directive, data_pieces, nonempty, data_line, is_data, rest_line, after_label, label_line, org_task, trimmed_line, line_of, is_l, is_plain, is_long, instruction_size, size}
use Rattle.rules.specs.Directive.{piece_directive, directive_of, after_colon}
use Rattle.promises_rust.specs.RustStr.{at, add_u32, filter, is_empty, split, split_whitespace, splitn_2, to_uppercase, starts_with, join}
use Rattle.promises_rust.specs.RustStr as Rust
use Rattle.promises_rust.specs.RustAssembler.{AssemblyInstruction, parse_org_directive, Parts, label_and_directive, directive_size, directive_value, parse_data_directive_with_value, rust_is_l, rust_instruction_size, parse_instruction, State, continue, break, set_address, insert_label, push_value, handle_directive, handle_instruction, handle_rest, handle_label, handle_org, body}
use Rattle.promises_rust.specs.RustLists.{inst_at, perform_task, insert_all, perform, is_end_line, LinesAreTheRusts}
use Rattle.promises_rust.proofs.RustText.{starts_is, equals_is, contains_is, uppercase_is, trim_is, split_is, nonempty_is, pieces_is, join_is, cut_texts, is_cut, splitn_is, contains_one, second_is, second_trimmed, get_is, AllFull, nil, cons, full_pieces, solid_pieces}
use Rattle.promises_rust.proofs.RustNumber.{clash, number32, number32_is}
use Rattle.promises_rust.proofs.RustPlain.{data_piece, trimmed_piece, line_piece, semicolon, Plain, plain_line, AllPlain, none_left, one_more}

-- an instruction's operands
operands_is : (ps : List Text) → cond (ltb 1 (length ps)) (filter (λ s. not (is_empty s)) (map Rust.trim (split 44 (join (drop 1 ps) (bytes " "))))) []
    ≡ drop_empty (map trim (cut_at 44 (joined (other_texts ps))))
unfolding other_texts joined cut_at cut_where drop_empty trim trim_start trim_end
operands_is [] = refl
operands_is (p ∷ []) = refl
operands_is (p ∷ q ∷ ps) =
    rw (lt-ltb 1 (suc (suc (length ps))) (omega arith), join_is (q ∷ ps), split_is 44 (joined (q ∷ ps)), fun_ext trim_is)
    (nonempty_is (map trim (cut_at 44 (joined (q ∷ ps)))))

-- its size
last_is : (s t : Text) (ps : List Text) → get_or (s ∷ t ∷ ps) (suc (length ps)) [] ≡ last_text t ps
unfolding last_text
last_is s t [] = refl
last_is s t (u ∷ ps) = last_is t u ps

l_is : (o : Option Text) → rust_is_l o ≡ is_l o
unfolding rust_is_l is_l
l_is None = refl
l_is (Some p) = equals_is p (bytes "L")

none_of : (x y z : Bool) → (not x && not y && not z) ≡ not (x || y || z)
none_of true y z = refl
none_of false true z = refl
none_of false false z = refl

-- the nested tests and the flat one: where the source starts `#` it is not plain
sizes : (m h p q c u : Bool) → (h ≡ true → p ≡ false)
    → ◌≡◌ {A = ℕ} (cond m (cond (h || not p) 4 (cond (not q) 4 2)) (cond (c && h) 4 (cond (u && h) 4 2))) (cond (m && not p || m && not q || c && h || u && h) 4 2)
sizes true true p q c u k = rw (k refl)
sizes true false false q c u k = refl
sizes true false true false c u k = refl
sizes true false true true true true k = refl
sizes true false true true true false k = refl
sizes true false true true false true k = refl
sizes true false true true false false k = refl
sizes false h p q c u k = go (c && h) (u && h)
  where
    go : (x y : Bool) → ◌≡◌ {A = ℕ} (cond x 4 (cond y 4 2)) (cond (x || y) 4 2)
    go true y = refl
    go false y = refl

hash_plain : (s : Text) → starts (bytes "#") s ≡ true → is_plain s ≡ false
unfolding is_plain bytes
hash_plain s e =
    rw (
      ← starts_is (68 ∷ []) s,
      ← starts_is (65 ∷ []) s,
      ← starts_is (40 ∷ []) s,
      clash 35 68 [] [] s refl f,
      clash 35 65 [] [] s refl f,
      clash 35 40 [] [] s refl f,
    )
  where
    f : starts_with s (35 ∷ []) ≡ true
    f = starts_is (35 ∷ []) s ∙ e

size_is : (m : Text) (parts : List Text) (s t : Text) → rust_instruction_size m parts s t ≡ cond (is_long m (nth 1 parts) s t) 4 2
unfolding rust_instruction_size is_long is_plain
size_is m parts s t =
    simp (get_is, l_is, equals_is, starts_is, none_of)
    (sizes ((same m (bytes "MOVE") || same m (bytes "MOVEA")) && is_l (nth 1 parts)) (starts (bytes "#") s) (is_plain s) (is_plain t)
    (same m (bytes "CMP") && is_l (nth 1 parts)) (same m (bytes "MULS")) (hash_plain s))

sizes_is : (m : Text) (parts ps : List Text)
    → cond (leb 2 (length ps)) (rust_instruction_size m parts (at ps 0) (at ps (length ps - 1))) 2 ≡ instruction_size m (nth 1 parts) ps
unfolding instruction_size
sizes_is m parts [] = refl
sizes_is m parts (s ∷ []) = refl
sizes_is m parts (s ∷ t ∷ ps) =
    rw (le-leb 2 (suc (suc (length ps))) (omega arith), less, last_is s t ps) (size_is m parts s (last_text t ps))
  where
    less : suc (suc (length ps)) - 1 ≡ suc (length ps)
    less = omega arith

-- step 6
first_is : (ps : List Text) → at ps 0 ≡ first_text ps
unfolding first_text
first_is [] = refl
first_is (p ∷ ps) = refl

parsed_is : (s : Text) (a : ℕ) (ps : List Text) → split_whitespace s ≡ ps
    → parse_instruction s a
    ≡ inst_at a (record {
      mnemonic = uppers (first_text (cut_at 46 (first_text ps)));
      suffix = nth 1 (cut_at 46 (first_text ps));
      operands = drop_empty (map trim (cut_at 44 (joined (other_texts ps))));
    })
unfolding parse_instruction is_empty first_text other_texts joined cut_at cut_where drop_empty trim trim_start trim_end uppers instruction_size size
parsed_is s a [] e = rw e
parsed_is s a (p ∷ ps) e =
    rw (
      e,
      operands_is (p ∷ ps),
      split_is 46 p,
      first_is (cut_at 46 p),
      uppercase_is (first_text (cut_at 46 p)),
      sizes_is (uppers (first_text (cut_at 46 p))) (cut_at 46 p) (drop_empty (map trim (cut_at 44 (joined ps)))),
    )

instruction_is : (s : Text) (st : State) → continue (handle_instruction (parse_instruction s st.current_address) st) ≡ perform_task (instruction (instruction_of s)) st
unfolding perform_task instruction_of operands_of
instruction_is s st = ap (λ (i : AssemblyInstruction). continue (handle_instruction i st)) (parsed_is s st.current_address (pieces s) (pieces_is s))

-- step 5: the label and the directive
cut_parts : Text → Text → Parts
cut_parts l d = record { label = trim l; directive_str = trim d }

piece_parts : Text → List Text → Parts
piece_parts s [] = record { label = []; directive_str = s }
piece_parts s (p ∷ []) = record { label = []; directive_str = s }
piece_parts s (p ∷ q ∷ ps) = cond (is_directive p) (record { label = []; directive_str = s }) (record { label = p; directive_str = joined (q ∷ ps) })

parts_cut : (s l d : Text) → first_cut 58 s ≡ around l d → label_and_directive s ≡ cut_parts l d
unfolding label_and_directive cut_parts bytes is_cut cut_texts
parts_cut s l d e = rw (contains_one 58 s, splitn_is 58 s, e, trim_is l, trim_is d)

parts_uncut : (s : Text) (ps : List Text) → first_cut 58 s ≡ uncut → split_whitespace s ≡ ps → label_and_directive s ≡ piece_parts s ps
unfolding label_and_directive piece_parts is_directive bytes is_cut
parts_uncut s [] e f = rw (contains_one 58 s, e, f)
parts_uncut s (p ∷ []) e f = rw (contains_one 58 s, e, f)
parts_uncut s (p ∷ q ∷ ps) e f =
    rw (
      contains_one 58 s,
      e,
      f,
      le-leb 2 (suc (suc (length ps))) (omega arith),
      uppercase_is p,
      starts_is (68 ∷ 67 ∷ []) (uppers p),
      starts_is (68 ∷ 83 ∷ []) (uppers p),
      join_is (q ∷ ps),
    )
    (go (starts (68 ∷ 67 ∷ []) (uppers p)) (starts (68 ∷ 83 ∷ []) (uppers p)) _ _)
  where
    go : (x y : Bool) (u v : Parts) → cond (not x && not y) u v ≡ cond (x || y) v u
    go true y u v = refl
    go false true u v = refl
    go false false u v = refl

-- step 5: size and value
size_of : (s : Text) → directive_size (to_uppercase s) ≡ data_size (uppers s)
unfolding directive_size data_size
size_of s = simp (uppercase_is, contains_is)

number_in_is : (o : Option Text) → bind o number32 ≡ number_in o
unfolding bind number_in reading_in value_of
number_in_is None = refl
number_in_is (Some p) = refl

-- where the line has `DC.`, its directive's second piece
module _ (s d : Text) where
  abbrev piece : Option Text
  piece = cond (contains (bytes "DC.") (uppers s)) (nth 1 (pieces d)) None

  value_of_lem : Plain piece → directive_value (to_uppercase s) d ≡ data_value (uppers s) d
  unfolding directive_value data_value
  value_of_lem f =
      rw (
        number32_is (Rust.trim (at (split_whitespace d) 1)),
        pieces_is d,
        uppercase_is s,
        contains_is (bytes "DC.") (uppers s),
        second_trimmed number32 (solid_pieces d),
        number_in_is (nth 1 (pieces d)),
      )
      (go (contains (bytes "DC.") (uppers s)) f)
    where
      go : (x : Bool) → Plain (cond x (nth 1 (pieces d)) None) → cond x (number_in (nth 1 (pieces d))) None ≡ cond x (value_of (value_reading_in (nth 1 (pieces d)))) None
      go true f = sym f.is
      go false f = refl

-- the tasks that a number decides
sized_is : (n : ℕ) (o : Option ℕ) (st : State) → continue (let s₂ = push_value o st in set_address (add_u32 s₂.current_address n) s₂) ≡ perform_task (sized n o) st
unfolding perform_task sized
sized_is n None st = refl
sized_is n (Some v) st = refl

org_is : (o : Option ℕ) (st : State) → continue (handle_org o st) ≡ perform_task (org_task o) st
unfolding perform_task org_task
org_is None st = refl
org_is (Some v) st = refl

org_number : (s : Text) → parse_org_directive s ≡ number_in (nth 1 (pieces s))
unfolding parse_org_directive
org_number s = rw (number32_is (at (split_whitespace s) 1), pieces_is s, second_is number32 (pieces s)) (number_in_is (nth 1 (pieces s)))

-- step 5
inserted : (ns ms : List Name) (st : State) → insert_all (ns ++ ms) st ≡ insert_all ms (insert_all ns st)
unfolding insert_all
inserted [] ms st = refl
inserted (n ∷ ns) ms st = inserted ns ms (insert_label n.text st)

label_is : (i : ℕ) (l : Text) (st : State) → cond (not (is_empty l)) (insert_label l st) st ≡ insert_all (nonempty i l) st
unfolding is_empty nonempty insert_all
label_is i [] st = refl
label_is i (b ∷ l) st = refl

-- a line whose label and directive are known
put_parts : (s : Text) (st : State) (i : ℕ) (p : Parts) → Plain (piece s p.directive_str) → label_and_directive s ≡ p
    → continue (handle_directive (parse_data_directive_with_value s) st) ≡ perform_task (data_task s p.directive_str) (insert_all (nonempty i p.label) st)
unfolding handle_directive parse_data_directive_with_value data_task
put_parts s st i p f e =
    rw (e, size_of s, value_of_lem s p.directive_str f, label_is i p.label st)
    (sized_is (data_size (uppers s)) (data_value (uppers s) p.directive_str) (insert_all (nonempty i p.label) st))

-- the directive is the rules'
directive_is : (s : Text) (ps : List Text) → piece_directive s ps ≡ (piece_parts s ps).directive_str
unfolding piece_parts piece_directive
directive_is s [] = refl
directive_is s (p ∷ []) = refl
directive_is s (p ∷ q ∷ ps) = go (is_directive p)
  where
    go : (x : Bool) → cond x s (joined (q ∷ ps)) ≡ (cond {A = Parts} x (record { label = []; directive_str = s }) (record { label = p; directive_str = joined (q ∷ ps) })).directive_str
    go true = refl
    go false = refl

module _ (ns : List Name) (i : ℕ) (s : Text) (st : State) where
  pieces_put : {ps : List Text} → AllFull ps
      → perform_task (data_task s (piece_parts s ps).directive_str) (insert_all (nonempty i (piece_parts s ps).label) (insert_all ns st))
      ≡ perform (data_pieces ns i s ps) st
  unfolding piece_parts nonempty insert_all perform data_pieces
  pieces_put nil = refl
  pieces_put (cons nil) = refl
  pieces_put (cons {b = b} {p = p} (cons {b = c} {p = q} {ps = ps} f)) = go (is_directive (b ∷ p))
    where
      bared : Parts
      bared = record { label = []; directive_str = s }

      labelled : Parts
      labelled = record { label = b ∷ p; directive_str = joined ((c ∷ q) ∷ ps) }

      go : (x : Bool)
          → perform_task (data_task s (cond x bared labelled).directive_str) (insert_all (nonempty i (cond x bared labelled).label) (insert_all ns st))
          ≡ perform (cond x (line ns (data_task s s)) (line (ns ++ (name i (b ∷ p) ∷ [])) (data_task s (joined ((c ∷ q) ∷ ps))))) st
      go true = refl
      go false = rw (inserted ns (name i (b ∷ p) ∷ []) st)

  data_is : Plain (data_piece s) → continue (handle_directive (parse_data_directive_with_value s) (insert_all ns st)) ≡ perform (data_line ns i s) st
  unfolding data_line perform cut_parts data_piece directive_of
  data_is f = go (first_cut 58 s) refl
    where
      go : (k : Cut) → first_cut 58 s ≡ k → continue (handle_directive (parse_data_directive_with_value s) (insert_all ns st)) ≡ perform (data_line ns i s) st
      go uncut e =
          let g : Plain (piece s (piece_parts s (pieces s)).directive_str) = rw (e, directive_of, directive_is s (pieces s)) at f in
          rw (put_parts s (insert_all ns st) i (piece_parts s (pieces s)) g (parts_uncut s (pieces s) e (pieces_is s)), e, data_line) (pieces_put (full_pieces s))
      go (around l d) e =
          let g : Plain (piece s (trim d)) = rw (e, directive_of) at f in
          rw (put_parts s (insert_all ns st) i (cut_parts l d) g (parts_cut s l d e), e, data_line, inserted ns (nonempty i (trim l)) st)

  -- steps 5 and 6
  rest_is : Plain (data_piece s) → continue (handle_rest s (insert_all ns st)) ≡ perform (rest_line ns i s) st
  unfolding handle_rest rest_line is_data perform
  rest_is f =
      rw (uppercase_is s, contains_is (bytes "DC.") (uppers s), contains_is (bytes "DS.") (uppers s)) (go (is_data s) refl)
    where
      go : (x : Bool) → is_data s ≡ x
          → continue (cond (is_data s) (handle_directive (parse_data_directive_with_value s) (insert_all ns st))
          (handle_instruction (parse_instruction s (insert_all ns st).current_address) (insert_all ns st)))
          ≡ perform (rest_line ns i s) st
      go true e = rw (e, rest_line) (data_is f)
      go false e = rw (e, rest_line) (instruction_is s (insert_all ns st))

-- step 4
label_line_lem : (i : ℕ) (s : Text) (st : State) → Plain (data_piece (after_colon s))
    → cond (Rust.contains s (bytes ":")) (continue (handle_label (splitn_2 58 s) st)) (continue (handle_rest s st)) ≡ perform (label_line i s) st
unfolding label_line handle_label bytes perform perform_task after_label is_empty insert_all is_cut cut_texts after_colon
label_line_lem i s st f = rw (contains_one 58 s, splitn_is 58 s) (go (first_cut 58 s) refl)
  where
    past : (l r : Text) (j : ℕ) (q : Text) → Plain (data_piece q)
        → continue (cond (is_empty q) (insert_label (trim l) st) (handle_rest q (insert_label (trim l) st))) ≡ perform (after_label (name i (trim l)) j q) st
    past l r j [] h = refl
    past l r j (b ∷ q) h = rest_is (name i (trim l) ∷ []) j (b ∷ q) st h

    go : (k : Cut) → first_cut 58 s ≡ k → cond (is_cut k) (continue (handle_label (cut_texts k s) st)) (continue (handle_rest s st)) ≡ perform (label_line i s) st
    go uncut e = let g : Plain (data_piece s) = rw (e, after_colon) at f in rw (e, label_line) (rest_is [] i s st g)
    go (around l r) e =
        let g : Plain (data_piece (trim r)) = rw (e, after_colon) at f in
        rw (e, label_line, trim_is l, trim_is r) (past l r (i + length l + 1 + leading r) (trim r) g)

-- steps 1 to 3, and so all of them
pub body_is : (s : Text) → Plain (line_piece s) → (st : State) → body s st ≡ perform (line_of s) st
unfolding body line_of perform perform_task insert_all is_empty trimmed_line line_piece trimmed_piece
body_is s f st = rw (trim_is s) (go (leading s) (trim s) f)
  where
    go : (i : ℕ) (t : Text) → Plain (trimmed_piece t)
        → cond (is_empty t || starts_with t (bytes ";")) (continue st)
        (cond (starts_with (to_uppercase t) (bytes "END")) (break st)
        (cond (starts_with (to_uppercase t) (bytes "ORG")) (continue (handle_org (parse_org_directive t) st))
        (cond (Rust.contains t (bytes ":")) (continue (handle_label (splitn_2 58 t) st)) (continue (handle_rest t st)))))
        ≡ perform (trimmed_line i t) st
    go i [] h = refl
    go i (b ∷ t) h =
        rw (
          semicolon b t,
          uppercase_is (b ∷ t),
          starts_is (bytes "END") (uppers (b ∷ t)),
          starts_is (bytes "ORG") (uppers (b ∷ t)),
          org_number (b ∷ t),
          org_is (number_in (nth 1 (pieces (b ∷ t)))) st,
        )
        (on (eqb b 59) refl (starts (bytes "END") (uppers (b ∷ t))) refl (starts (bytes "ORG") (uppers (b ∷ t))) refl)
      where
        on : (x : Bool) → eqb b 59 ≡ x → (y : Bool) → starts (bytes "END") (uppers (b ∷ t)) ≡ y → (z : Bool) → starts (bytes "ORG") (uppers (b ∷ t)) ≡ z
            → cond x (continue st)
            (cond y (break st)
            (cond z (perform_task (org_task (number_in (nth 1 (pieces (b ∷ t))))) st)
            (cond (Rust.contains (b ∷ t) (bytes ":")) (continue (handle_label (splitn_2 58 (b ∷ t)) st)) (continue (handle_rest (b ∷ t) st)))))
            ≡ perform (trimmed_line i (b ∷ t)) st
        on true e y f z g = rw (trimmed_line, e)
        on false e true f z g = rw (trimmed_line, e, f)
        on false e false f true g = rw (trimmed_line, e, f, g)
        on false e false f false g =
            let k : Plain (data_piece (after_colon (b ∷ t))) = rw (trimmed_piece, e, f, g) at h in
            rw (trimmed_line, e, f, g) (label_line_lem i (b ∷ t) st k)

pub lines_are_the_rusts : LinesAreTheRusts
unfolding LinesAreTheRusts
lines_are_the_rusts s e st = body_is s (plain_line s e) st

-- lines for lines, of which the loop does with the one what the rules read in the other, as far as lines are read
pub record Done (l m : Text) : Type 0 where
  pub does : (st : State) → body m st ≡ perform (line_of l) st

pub data AllDone : List Text → List Text → Type 0 where
  over : AllDone [] []
  next : {l m : Text} {ls ms : List Text} → Done l m → (is_end_line l ≡ false → AllDone ls ms) → AllDone (l ∷ ls) (m ∷ ms)

pub all_done : {ls : List Text} → AllPlain ls → AllDone ls ls
all_done none_left = over
all_done (one_more {l} f g) = next (record { does = λ st. body_is l f st }) (λ k. all_done (g k))
