-- Where the names of a line start, and where records do in the source. Assumes nothing.
use Rattle.std.specs.Prelude.{None, Some, slice_get}
use Prim.Native.Nat.{ℕ, zero, suc, ◌+◌}
use mathlib.Core.Path.{◌≡◌, refl, sym, ap, ◌∙◌}
use mathlib.Core.Logic.{◌≢◌}
use mathlib.Core.Bool.{Bool, true, false, ◌||◌, false≢true}
use mathlib.Core.List.{List, [], ◌∷◌, ◌++◌, append_assoc, append-nil}
use native.Mathlib.Omega.{arith}
use lib.Dec.{eqb}
use lib.ListN.{length, length-append}
use borrow.Author.Tests.{eqb-true}
use Rattle.rules.specs.Text.{Text, bytes, blank, uppers, leading, trim_start, keep_end, trim_end, trim, on_first, cut_where, cut_at, pieces, uncut, around, first_cut, starts, contains}
use Rattle.rules.specs.Line.{Name, name, is_directive, data_pieces, nonempty, is_data, data_line, rest_line, after_label, label_line, line_of}
use Rattle.rules.specs.Assemble.{Sizes}
use Rattle.text.proofs.Until.{cut_here, cut_later}
use Rattle.text.proofs.Trim.{keep_end_none, trim_end_none}
use Rattle.text.proofs.Pieces.{pieces_trim}
use Rattle.tidylaws.proofs.Cuts.{cut_around}
use Rattle.promises.specs.Refusals.{IsLine}
use Rattle.promises.specs.Nearest.{In, start_after, RecordsBy, records}
use Rattle.promises.proofs.Decided.{Decided, yes, no, decided_true, decided_false}
use Rattle.promises_calls.specs.Directives.{Each, no_bytes, next_byte, Blanks, Solid, NoColon, Bare, bare_empty, bare_one, bare_more, Trims, Colon, Pieces, piece, Begins, Holds, Skipped, Fourth, NoLabel, no_piece, one_piece, starts_dc, starts_ds}
use Rattle.promises_calls.specs.Starts.{Starts, Data, has_dc, has_ds, Fifth, no_data, colon_first, no_label, before_colon, first_piece, LineRecords, when_skipped, when_end, when_org, without_fourth, with_fourth, NamesStart, LineAt, this_line, line_behind, StartsAt, RecordsStart}
use Rattle.promises_calls.proofs.Parts.{blanks_start, all_end, blanks_end, bare_trim, trims_is, trims_of, whole_is, Cuts, whole, parts, cuts, begins, holds, pieces_is, pieces_of}
use Rattle.promises_calls.proofs.AskedNumbers.{org_line, fourth_line, skipped_line, end_line, end_said, is_dc, is_ds, is_none, is_note, skips}

-- ---- bytes
module _ {f : ℕ → Bool} {y : Bool} where
  each_append : {s t : Text} → Each f y s → Each f y t → Each f y (s ++ t)
  each_append no_bytes q = q
  each_append (next_byte e p) q = next_byte e (each_append p q)

  each_left : (s t : Text) → Each f y (s ++ t) → Each f y s
  each_left [] t q = no_bytes
  each_left (b ∷ s) t (next_byte e q) = next_byte e (each_left s t q)

  each_right : (s t : Text) → Each f y (s ++ t) → Each f y t
  each_right [] t q = q
  each_right (b ∷ s) t (next_byte e q) = each_right s t q

blank_no_colon : (b : ℕ) → blank b ≡ true → eqb b 58 ≡ false
unfolding blank
blank_no_colon b e = go (eqb b 58) refl
  where
    go : (y : Bool) → eqb b 58 ≡ y → eqb b 58 ≡ false
    go true f = absurd (false≢true (rw (eqb-true b 58 f) at e))
    go false f = f

blanks_no_colon : {g : Text} → Blanks g → NoColon g
blanks_no_colon no_bytes = no_bytes
blanks_no_colon (next_byte {b} e q) = next_byte (blank_no_colon b e) (blanks_no_colon q)

-- ---- blanks in front
lead_blanks : {g : Text} → Blanks g → (t : Text) → leading (g ++ t) ≡ length g + leading t
unfolding leading
lead_blanks no_bytes t = omega arith
lead_blanks (next_byte {b} {s} e q) t = let h = lead_blanks q t in rw (e, leading) (omega arith)

lead_none : (b : ℕ) (t : Text) → blank b ≡ false → (leading (b ∷ t) ≡ 0) × (trim_start (b ∷ t) ≡ b ∷ t)
unfolding leading trim_start
lead_none b t e = (rw (e, leading), rw (e, trim_start))

bare_led : {m : Text} → Bare m → m ≢ [] → (t : Text) → (leading (m ++ t) ≡ 0) × (trim_start (m ++ t) ≡ m ++ t)
bare_led (bare_empty e) n t = absurd (n e)
bare_led (bare_one {b} e f) n t = rw e (lead_none b t f)
bare_led (bare_more b c s e f h) n t = rw e (lead_none b ((s ++ (c ∷ [])) ++ t) f)

solid_led : {m : Text} → Solid m → m ≢ [] → (t : Text) → leading (m ++ t) ≡ 0
solid_led no_bytes n t = absurd (n refl)
solid_led (next_byte {b} {s} e q) n t = (lead_none b (s ++ t) e).0

-- a name, whether empty or not, in front of a colon
empty_or : (m : Text) → (P : Type 0) → (m ≡ [] → P) → (m ≢ [] → P) → P
empty_or [] P f g = f refl
empty_or (b ∷ m) P f g = g (λ e. let z : ◌≡◌ {A = ℕ} 0 1 = cc in absurd (omega arith))

named_led : {m gap : Text} (t : Text) → Bare m → (m ≡ [] → gap ≡ []) → (leading (m ++ (gap ++ (58 ∷ t))) ≡ 0) × (trim_start (m ++ (gap ++ (58 ∷ t))) ≡ m ++ (gap ++ (58 ∷ t)))
unfolding blank
named_led {m} {gap} t w h =
    empty_or m ((leading (m ++ (gap ++ (58 ∷ t))) ≡ 0) × (trim_start (m ++ (gap ++ (58 ∷ t))) ≡ m ++ (gap ++ (58 ∷ t))))
    (λ e. rw (e, h e) (lead_none 58 t refl)) (λ n. bare_led w n (gap ++ (58 ∷ t)))

-- ---- blanks at the end
keep_more : (b : ℕ) (s : Text) (c : ℕ) (t : Text) → keep_end b (s ++ (c ∷ t)) ≡ b ∷ (s ++ (c ∷ t))
unfolding keep_end
keep_more b [] c t = refl
keep_more b (d ∷ s) c t = refl

end_colon : (s t : Text) → trim_end (s ++ (58 ∷ t)) ≡ s ++ (58 ∷ trim_end t)
unfolding trim_end blank
end_colon [] t = keep_end_none 58 (trim_end t) refl
end_colon (b ∷ s) t = ap (keep_end b) (end_colon s t) ∙ keep_more b s 58 (trim_end t)

-- ---- a text with a name in front of its first colon
record Parted (r g l t : Text) : Type 0 where
  lead : leading r ≡ length g
  cut : first_cut 58 (trim r) ≡ around l t

parted : {r g m gap : Text} (t : Text) → r ≡ g ++ (m ++ (gap ++ (58 ∷ t))) → Blanks g → Bare m → NoColon m → Blanks gap → (m ≡ [] → gap ≡ [])
    → Parted r g (m ++ gap) (trim_end t)
unfolding trim
parted {r} {g} {m} {gap} t e b w n k h =
    let q = named_led t w h in
    let x : m ++ (gap ++ (58 ∷ t)) ≡ (m ++ gap) ++ (58 ∷ t) = sym (append_assoc m gap (58 ∷ t)) in
    record {
      lead = ap leading e ∙ lead_blanks b (m ++ (gap ++ (58 ∷ t))) ∙ omega (arith, q.0);
      cut =
          ap (λ (y : Text). first_cut 58 (trim_end (trim_start y))) e
          ∙ ap (λ (y : Text). first_cut 58 (trim_end y)) (blanks_start b (m ++ (gap ++ (58 ∷ t))) ∙ q.1 ∙ x)
          ∙ ap (first_cut 58) (end_colon (m ++ gap) t)
          ∙ cut_around (m ++ gap) (trim_end t) (whole_is (each_append n (blanks_no_colon k)));
    }

name_trim : {m gap : Text} → Bare m → Blanks gap → trim (m ++ gap) ≡ m
unfolding trim
name_trim w k = bare_trim w k

-- ---- what is left of a text whose blanks at the end are gone
record Ended (r : Text) : Type 0 where
  same : trim (trim_end r) ≡ trim r
  lead : trim r ≢ [] → leading (trim_end r) ≡ leading r

bare_last : {t : Text} → Bare t → t ≢ [] → (s : Text) × ((c : ℕ) × ((t ≡ s ++ (c ∷ [])) × (blank c ≡ false)))
bare_last (bare_empty e) n = absurd (n e)
bare_last (bare_one {b} e f) n = ([], (b, (e, f)))
bare_last (bare_more b c s e f h) n = (b ∷ s, (c, (e, h)))

ended_is : (r : Text) → Ended r
unfolding trim trim_start trim_end
ended_is r = let q = trims_of r in by q.front (trim r) q.behind q.cut q.blanks_first q.blanks_last q.bare refl
  where
    by : (f t b : Text) → r ≡ f ++ (t ++ b) → Blanks f → Blanks b → Bare t → trim r ≡ t → Ended r
    by f t b e x y w z = empty_or t (Ended r) none_left some
      where
        none_left : t ≡ [] → Ended r
        none_left d =
            let all : r ≡ f ++ b = e ∙ ap (λ (u : Text). f ++ (u ++ b)) d in
            let gone : trim_end r ≡ [] = ap trim_end all ∙ all_end (each_append x y) in
            record { same = rw gone (sym (z ∙ d)); lead = λ n. absurd (n (z ∙ d)) }

        some : t ≢ [] → Ended r
        some n =
            let l = bare_last w n in
            let c : ℕ = l.1.0 in
            let front : f ++ t ≡ (f ++ l.0) ++ (c ∷ []) = ap (λ (u : Text). f ++ u) l.1.1.0 ∙ sym (append_assoc f l.0 (c ∷ [])) in
            let cut : trim_end r ≡ f ++ t =
            ap trim_end (e ∙ sym (append_assoc f t b)) ∙ blanks_end (f ++ t) y ∙ ap trim_end front ∙ trim_end_none (f ++ l.0) c l.1.1.1 ∙ sym front in
            let made : Trims (f ++ t) t = record { front = f; behind = []; cut = ap (λ (u : Text). f ++ u) (sym (append-nil t)); blanks_first = x; blanks_last = no_bytes; bare = w } in
            let here : leading (t ++ []) ≡ 0 = (bare_led w n []).0 in
            let there : leading (t ++ b) ≡ 0 = (bare_led w n b).0 in
            record {
              same = rw cut (trims_is made ∙ sym z);
              lead = λ k. rw cut (lead_blanks x t ∙ ap (λ (u : Text). length f + leading u) (sym (append-nil t)) ∙ rw here (sym (ap leading e ∙ lead_blanks x (t ++ b) ∙ rw there)));
            }

-- ---- step 5
data_yes : {u : Text} → Data u → is_data u ≡ true
unfolding is_data
data_yes {u} (has_dc h) = let e : contains (bytes "DC.") (uppers u) ≡ true = decided_true (holds (bytes "DC.") u) h in rw e
data_yes {u} (has_ds h) = let e : contains (bytes "DS.") (uppers u) ≡ true = decided_true (holds (bytes "DS.") u) h in rw e (or_true (contains (bytes "DC.") (uppers u)))
  where
    or_true : (x : Bool) → (x || true) ≡ true
    or_true true = refl
    or_true false = refl

data_no : (u : Text) → ¬ Data u → is_data u ≡ false
unfolding is_data
data_no u n =
    let e : contains (bytes "DC.") (uppers u) ≡ false = decided_false (holds (bytes "DC.") u) (λ h. n (has_dc h)) in
    let f : contains (bytes "DS.") (uppers u) ≡ false = decided_false (holds (bytes "DS.") u) (λ h. n (has_ds h)) in
    rw (e, f)

datas : (u : Text) → Decided (Data u) (is_data u)
unfolding is_data
datas u = go (contains (bytes "DC.") (uppers u)) (holds (bytes "DC.") u) (contains (bytes "DS.") (uppers u)) (holds (bytes "DS.") u)
  where
    go : (x : Bool) → Decided (Holds (bytes "DC.") u) x → (y : Bool) → Decided (Holds (bytes "DS.") u) y → Decided (Data u) (x || y)
    go true (yes h) y k = yes (has_dc h)
    go false (no h) true (yes k) = yes (has_ds k)
    go false (no h) false (no k) = no (λ d. on d)
      where
        on : Data u → ⊥
        on (has_dc a) = h a
        on (has_ds a) = k a

module _ (ns : List Name) (i : ℕ) (u : Text) where
  no_step : is_data u ≡ false → (rest_line ns i u).names ≡ ns ++ []
  unfolding rest_line
  no_step e = rw (rest_line, e, append-nil ns)

  colon_step : (l d : Text) → is_data u ≡ true → first_cut 58 u ≡ around l d → (rest_line ns i u).names ≡ ns ++ nonempty i (trim l)
  unfolding rest_line data_line
  colon_step l d e f = rw (rest_line, e, data_line, f)

  pieces_step : (ps : List Text) → is_data u ≡ true → first_cut 58 u ≡ uncut → pieces u ≡ ps → (rest_line ns i u).names ≡ (data_pieces ns i u ps).names
  unfolding rest_line data_line
  pieces_step ps e f g = rw (rest_line, e, data_line, f, g)

  unlabelled_names : (ps : List Text) → NoLabel ps → (data_pieces ns i u ps).names ≡ ns ++ []
  unfolding data_pieces
  unlabelled_names [] n = sym (append-nil ns)
  unlabelled_names (p ∷ []) n = sym (append-nil ns)
  unlabelled_names (p ∷ q ∷ ps) (starts_dc e) = rw (is_dc p e) (sym (append-nil ns))
  unlabelled_names (p ∷ q ∷ ps) (starts_ds e) = rw (is_ds p e) (sym (append-nil ns))

  labelled_names : (p q : Text) (ps : List Text) → is_directive p ≡ false → (data_pieces ns i u (p ∷ q ∷ ps)).names ≡ ns ++ (name i p ∷ [])
  unfolding data_pieces
  labelled_names p q ps e = rw e

nonempty_is : (i : ℕ) (m : Text) → m ≢ [] → nonempty i m ≡ name i m ∷ []
unfolding nonempty
nonempty_is i [] n = absurd (n refl)
nonempty_is i (b ∷ m) n = refl

free_inside : {r : Text} → NoColon r → NoColon (trim r)
free_inside {r} n = let q = trims_of r in each_left (trim r) q.behind (each_right q.front (trim r ++ q.behind) (rw q.cut at n))

module _ (before r : Text) (ns : List Name) (i : ℕ) (e : trim r ≢ [] → i ≡ length before + leading r) where
  -- the name that is recorded starts where it is said to
  here : {g t : Text} {m : Name} → Starts before r g m t → leading r ≡ length g → trim r ≢ [] → i ≡ m.start
  here {g} s l n = e n ∙ omega (arith, l, s.place, length-append before g)

  one_name : {g t : Text} {m : Name} → Starts before r g m t → leading r ≡ length g → trim r ≢ [] → ns ++ (name i m.text ∷ []) ≡ ns ++ (m ∷ [])
  one_name {m = m} s l n = ap (λ (j : ℕ). ns ++ (name j m.text ∷ [])) (here s l n)

  some_data : {u : Text} → trim r ≡ u → Data u → trim r ≢ []
  unfolding is_data contains starts uppers bytes
  some_data f d z = let k = data_yes d in false≢true (rw (← f, z) at k)

  fifth_names : {ms : List Name} → Fifth before r ms → (rest_line ns i (trim r)).names ≡ ns ++ ms
  unfolding trim trim_end trim_start nonempty
  fifth_names (no_data q n) = rw (trims_is q) (no_step ns i _ (data_no _ n))
  fifth_names (colon_first {u} {g} t q d b f) =
      let p : Parted r g [] (trim_end t) = parted t f b (bare_empty refl) no_bytes no_bytes (λ k. refl) in
      let x : first_cut 58 u ≡ around [] (trim_end t) = rw (trims_is q) at p.cut in
      rw (trims_is q) (colon_step ns i u [] (trim_end t) (data_yes d) x)
  fifth_names (no_label {u} {ps} q d n f l) =
      let x : first_cut 58 u ≡ uncut = rw (trims_is q) at (whole_is (free_inside n)) in
      let y : pieces u ≡ ps = ap pieces (sym (trims_is q)) ∙ pieces_trim r ∙ pieces_is f in
      rw (trims_is q) (pieces_step ns i u ps (data_yes d) x y ∙ unlabelled_names ns i u ps l)
  fifth_names (before_colon {u} {g} {gap} {m} t q d b w n c k s) =
      let p : Parted r g (m.text ++ gap) (trim_end t) = parted t s.cut b w c k (λ z. absurd (n z)) in
      let x : first_cut 58 u ≡ around (m.text ++ gap) (trim_end t) = rw (trims_is q) at p.cut in
      rw (trims_is q)
      (colon_step ns i u (m.text ++ gap) (trim_end t) (data_yes d) x ∙ ap (λ (y : Text). ns ++ nonempty i y) (name_trim w k) ∙ ap (λ (l : List Name). ns ++ l) (nonempty_is i m.text n)
      ∙ one_name s p.lead (some_data (trims_is q) d))
  fifth_names (first_piece {u} {g} {v} {q = p'} {m} {ps} q d n b so ne en pv nc ns' s) =
      let x : first_cut 58 u ≡ uncut = rw (trims_is q) at (whole_is (free_inside n)) in
      let y : pieces u ≡ m.text ∷ p' ∷ ps = ap pieces (sym (trims_is q)) ∙ pieces_trim r ∙ pieces_is (piece {f = g} {p = m.text} {u = v} s.cut b so ne en pv) in
      let l : leading r ≡ length g = ap leading s.cut ∙ lead_blanks b (m.text ++ v) ∙ omega (arith, solid_led so ne v) in
      rw (trims_is q)
      (pieces_step ns i u (m.text ∷ p' ∷ ps) (data_yes d) x y ∙ labelled_names ns i u m.text p' ps (is_none m.text nc ns') ∙ one_name s l (some_data (trims_is q) d))

-- ---- the line
after_names : (n : Name) (i : ℕ) (u : Text) → (after_label n i u).names ≡ (rest_line (n ∷ []) i u).names
unfolding after_label rest_line is_data contains starts uppers bytes
after_names n i [] = refl
after_names n i (b ∷ u) = refl

fourth_names : {s t : Text} → Fourth s t → (line_of s).names ≡ (label_line (leading s) (trim s)).names
unfolding line_of
fourth_names {s} {t} q = rw (trims_is q.trims) (ap (λ l. l.names) (fourth_line (leading s) t q.said q.no_end q.no_org).1)

whole_names : (i : ℕ) (t : Text) → first_cut 58 t ≡ uncut → (label_line i t).names ≡ (rest_line [] i t).names
unfolding label_line
whole_names i t e = rw (label_line, e)

cut_names : (i : ℕ) (t l r : Text) → first_cut 58 t ≡ around l r → (label_line i t).names ≡ (rest_line (name i (trim l) ∷ []) (i + length l + 1 + leading r) (trim r)).names
unfolding label_line
cut_names i t l r e = rw (label_line, e) (after_names (name i (trim l)) (i + length l + 1 + leading r) (trim r))

in_front_length : (f m gap : Text) → length (f ++ (m ++ (gap ++ bytes ":"))) ≡ length f + length (m ++ gap) + 1
unfolding bytes
in_front_length f m gap =
    omega (arith, length-append f (m ++ (gap ++ (58 ∷ []))), length-append m (gap ++ (58 ∷ [])), length-append gap (58 ∷ []), length-append m gap)

line_names : (s : Text) (ns : List Name) → LineRecords s ns → (line_of s).names ≡ ns
unfolding line_of
line_names s ns (when_skipped {t} q h) = rw (trims_is q) (ap (λ l. l.names) (skipped_line (leading s) t h).1)
line_names s ns (when_end {t} q h) = rw (trims_is q) (ap (λ l. l.names) (end_line (leading s) t (end_said h) h).1)
line_names s ns (when_org {t} q) = rw (trims_is q.trims) (ap (λ l. l.names) (org_line (leading s) t q.said q.no_end q.is_org).1)
line_names s ns (without_fourth q n h) =
    fourth_names q ∙ whole_names (leading s) (trim s) (whole_is (free_inside n)) ∙ fifth_names [] s [] (leading s) (λ k. omega arith) h
line_names s ns (with_fourth {t} {f} {gap} {m} {ms} r q b w n k h st x) =
    let p : Parted s f (m.text ++ gap) (trim_end r) = parted r st.cut b w n k h in
    let d = ended_is r in
    let before : Text = f ++ (m.text ++ (gap ++ bytes ":")) in
    let at : ℕ = leading s + length (m.text ++ gap) + 1 + leading (trim_end r) in
    let start : leading s ≡ m.start = p.lead ∙ sym st.place in
    let rest : (rest_line (name (leading s) (trim (m.text ++ gap)) ∷ []) at (trim r)).names ≡ (name (leading s) (trim (m.text ++ gap)) ∷ []) ++ ms =
    fifth_names before r (name (leading s) (trim (m.text ++ gap)) ∷ []) at (λ z. let l : leading (trim_end r) ≡ leading r = d.lead z in omega (arith, in_front_length f m.text gap, p.lead, l)) x in
    fourth_names q ∙ cut_names (leading s) (trim s) (m.text ++ gap) (trim_end r) p.cut
    ∙ ap (λ (u : Text). (rest_line (name (leading s) (trim (m.text ++ gap)) ∷ []) at u).names) d.same
    ∙ rest
    ∙ ap (λ (u : Text). name (leading s) u ∷ ms) (name_trim w k)
    ∙ ap (λ (i : ℕ). name i m.text ∷ ms) start

-- ---- each line has its names
data Inner (l : Text) : Type 0 where
  blanks_alone : Blanks l → Inner l
  inner : (f m gap : Text) → l ≡ f ++ (m ++ gap) → Blanks f → Blanks gap → Bare m → m ≢ [] → Inner l

inner_of : (l : Text) → Inner l
inner_of l = let q = trims_of l in by q.front (trim l) q.behind q.cut q.blanks_first q.blanks_last q.bare
  where
    by : (f m b : Text) → l ≡ f ++ (m ++ b) → Blanks f → Blanks b → Bare m → Inner l
    by f m b e x y w =
        empty_or m (Inner l) (λ z. let all : l ≡ f ++ b = e ∙ ap (λ (u : Text). f ++ (u ++ b)) z in blanks_alone (rw all (each_append x y)))
        (λ n. inner f m b e x y w n)

regroup : (f m gap t : Text) → (f ++ (m ++ gap)) ++ t ≡ f ++ (m ++ (gap ++ t))
regroup f m gap t = append_assoc f (m ++ gap) t ∙ ap (λ (u : Text). f ++ u) (append_assoc m gap t)

cut_inner : {r l t : Text} → Colon r l t → (f m gap : Text) → l ≡ f ++ (m ++ gap) → r ≡ f ++ (m ++ (gap ++ (58 ∷ t)))
cut_inner {t = t} c f m gap e = c.cut ∙ ap (λ (u : Text). u ++ (58 ∷ t)) e ∙ regroup f m gap (58 ∷ t)

free_inner : {r l t : Text} → Colon r l t → (f m gap : Text) → l ≡ f ++ (m ++ gap) → NoColon m
free_inner c f m gap e = each_left m gap (each_right f (m ++ gap) (rw e at c.first))

record FifthHas (before r : Text) : Type 0 where
  list : List Name
  has : Fifth before r list

fifth_of : (before r : Text) → FifthHas before r
fifth_of before r = go (is_data (trim r)) (datas (trim r))
  where
    by_pieces : Data (trim r) → NoColon r → (ps : List Text) → Pieces r ps → FifthHas before r
    by_pieces d n [] e = record { list = []; has = no_label (trims_of r) d n e no_piece }
    by_pieces d n (p ∷ []) e = record { list = []; has = no_label (trims_of r) d n e one_piece }
    by_pieces d n (p ∷ q ∷ ps) e = at (starts (bytes "DC") (uppers p)) (begins (bytes "DC") p) (starts (bytes "DS") (uppers p)) (begins (bytes "DS") p) e
      where
        first : ¬ Begins (bytes "DC") p → ¬ Begins (bytes "DS") p → Pieces r (p ∷ q ∷ ps) → FifthHas before r
        first nc ns (piece {f} {u} x bl so ne en pv) =
            record {
              list = name (length (before ++ f)) p ∷ [];
              has = first_piece {g = f} {v = u} {q = q} {m = name (length (before ++ f)) p} {ps = ps} (trims_of r) d n bl so ne en pv nc ns (record { cut = x; place = refl });
            }

        at : (x : Bool) → Decided (Begins (bytes "DC") p) x → (y : Bool) → Decided (Begins (bytes "DS") p) y → Pieces r (p ∷ q ∷ ps) → FifthHas before r
        at true (yes h) y k e = record { list = []; has = no_label (trims_of r) d n e (starts_dc h) }
        at false (no h) true (yes k) e = record { list = []; has = no_label (trims_of r) d n e (starts_ds k) }
        at false (no h) false (no k) e = first h k e

    by_colon : Data (trim r) → {l t : Text} → Colon r l t → Inner l → FifthHas before r
    by_colon d {l} {t} c (blanks_alone b) = record { list = []; has = colon_first {g = l} t (trims_of r) d b c.cut }
    by_colon d {l} {t} c (inner f m gap e x y w n) =
        record {
          list = name (length (before ++ f)) m ∷ [];
          has =
              before_colon {g = f} {gap = gap} {m = name (length (before ++ f)) m} t (trims_of r) d x w n (free_inner c f m gap e) y
              (record { cut = cut_inner c f m gap e; place = refl });
        }

    go : (x : Bool) → Decided (Data (trim r)) x → FifthHas before r
    go false (no n) = record { list = []; has = no_data (trims_of r) n }
    go true (yes d) = on (cuts r)
      where
        on : Cuts r → FifthHas before r
        on (whole n) = by_pieces d n (pieces r) (pieces_of r)
        on (parts {l} {r = t} c) = by_colon d c (inner_of l)

record LineHas (s : Text) : Type 0 where
  list : List Name
  has : LineRecords s list

line_has : (s : Text) → LineHas s
line_has s = by (trim s) (trims_of s)
  where
    fourth : (t : Text) → Fourth s t → LineHas s
    fourth t q = on (cuts s)
      where
        named : {l r : Text} → Colon s l r → (f m gap : Text) → l ≡ f ++ (m ++ gap) → Blanks f → Blanks gap → Bare m → (m ≡ [] → gap ≡ []) → LineHas s
        named {l} {r} c f m gap e x y w h =
            let g = fifth_of (f ++ (m ++ (gap ++ bytes ":"))) r in
            record {
              list = name (length f) m ∷ g.list;
              has = with_fourth {t = t} {f = f} {gap = gap} {m = name (length f) m} r q x w (free_inner c f m gap e) y h (record { cut = cut_inner c f m gap e; place = refl }) g.has;
            }

        label : {l r : Text} → Colon s l r → Inner l → LineHas s
        label {l} {r} c (blanks_alone b) = named c l [] [] (sym (append-nil l)) b no_bytes (bare_empty refl) (λ z. refl)
        label c (inner f m gap e x y w n) = named c f m gap e x y w (λ z. absurd (n z))

        on : Cuts s → LineHas s
        on (whole n) = let g = fifth_of [] s in record { list = g.list; has = without_fourth q n g.has }
        on (parts {l} c) = label c (inner_of l)

    by : (t : Text) → Trims s t → LineHas s
    by t q = go (is_note t) (skips t) (starts (bytes "END") (uppers t)) (begins (bytes "END") t) (starts (bytes "ORG") (uppers t)) (begins (bytes "ORG") t)
      where
        go : (x : Bool) → Decided (Skipped t) x → (y : Bool) → Decided (Begins (bytes "END") t) y → (z : Bool) → Decided (Begins (bytes "ORG") t) z → LineHas s
        go true (yes a) y b z c = record { list = []; has = when_skipped q a }
        go false (no a) true (yes b) z c = record { list = []; has = when_end q b }
        go false (no a) false (no b) true (yes c) = record { list = []; has = when_org (record { trims = q; said = a; no_end = b; is_org = c }) }
        go false (no a) false (no b) false (no c) = fourth t (record { trims = q; said = a; no_end = b; no_org = c })

line_records : (s : Text) → LineRecords s (line_of s).names
line_records s = let g = line_has s in rw (line_names s g.list g.has) g.has

pub names_start : NamesStart
unfolding NamesStart
names_start s ns = (λ e. rw e at (line_records s), line_names s ns)

-- ---- the source
data Breaks (s : Text) : Type 0 where
  last_line : Each (eqb 10) false s → Breaks s
  line_first : {k : Text} (t : Text) → s ≡ k ++ (10 ∷ t) → Each (eqb 10) false k → Breaks s

breaks : (s : Text) → Breaks s
breaks [] = last_line no_bytes
breaks (b ∷ s) = go (eqb 10 b) refl (breaks s)
  where
    go : (y : Bool) → eqb 10 b ≡ y → Breaks s → Breaks (b ∷ s)
    go true e q = line_first {k = []} s (rw (eqb-true 10 b e)) no_bytes
    go false e (last_line q) = last_line (next_byte e q)
    go false e (line_first {k} t x q) = line_first {k = b ∷ k} t (ap (λ (y : Text). b ∷ y) x) (next_byte e q)

one_line : {s : Text} → Each (eqb 10) false s → cut_at 10 s ≡ s ∷ []
unfolding cut_at cut_where on_first
one_line no_bytes = refl
one_line (next_byte {b} {s} e q) = cut_later (eqb 10) b s e ∙ ap (on_first b) (one_line q)

line_more : {k : Text} → Each (eqb 10) false k → (t : Text) → cut_at 10 (k ++ (10 ∷ t)) ≡ k ∷ cut_at 10 t
unfolding cut_at on_first
line_more no_bytes t = cut_here (eqb 10) 10 t refl
line_more (next_byte {b} {s} e q) t = cut_later (eqb 10) b (s ++ (10 ∷ t)) e ∙ ap (on_first b) (line_more q t)

record Placed (s : Text) (j : ℕ) (l : Text) : Type 0 where
  front : Text
  stands : LineAt s j front l
  far : length front ≡ start_after j (cut_at 10 s)

placed : (j : ℕ) (s l : Text) → IsLine s j l → Placed s j l
unfolding start_after
placed zero s l e = go (breaks s)
  where
    go : Breaks s → Placed s zero l
    go (last_line q) = let x : s ≡ l = cc (one_line q) in record { front = []; stands = this_line [] (rw (append-nil l) x) (rw x at q) (λ n. absurd (n refl)); far = refl }
    go (line_first {k} t x q) =
        let y : Some k ≡ Some l = rw (x, line_more q t) at e in
        let z : k ≡ l = cc in
        record { front = []; stands = this_line (10 ∷ t) (rw z at x) (rw z at q) (λ n. (t, refl)); far = refl }
placed (suc j) s l e = go (placed j) (breaks s)
  where
    go : ((s l : Text) → IsLine s j l → Placed s j l) → Breaks s → Placed s (suc j) l
    go ih (last_line q) = let y : None ≡ Some l = rw (one_line q) at e in absurd (let z : ◌≡◌ {A = ℕ} 0 1 = cc in omega arith)
    go ih (line_first {k} t x q) =
        let y : slice_get (cut_at 10 t) j ≡ Some l = rw (x, line_more q t) at e in
        let r = ih t l y in
        record {
          front = k ++ (10 ∷ r.front);
          stands = line_behind x q r.stands;
          far = rw (x, line_more q t) (length-append k (10 ∷ r.front) ∙ omega (arith, r.far));
        }

-- and back
at_line : {s l front : Text} {j : ℕ} → LineAt s j front l → IsLine s j l × (length front ≡ start_after j (cut_at 10 s))
unfolding start_after
at_line (this_line {s} {l} rest e f g) =
    empty_or rest (IsLine s 0 l × (0 ≡ start_after 0 (cut_at 10 s)))
    (λ n. let x : s ≡ l = e ∙ ap (λ (u : Text). l ++ u) n ∙ append-nil l in let y : cut_at 10 s ≡ l ∷ [] = ap (cut_at 10) x ∙ one_line f in (rw y refl, refl))
    (λ n. let t = g n in let x : s ≡ l ++ (10 ∷ t.0) = e ∙ ap (λ (u : Text). l ++ u) t.1 in (rw (x, line_more f t.0) refl, refl))
at_line (line_behind {k} {t} {front} e f q) =
    let r = at_line q in (rw (e, line_more f t) r.0, rw (e, line_more f t) (length-append k (10 ∷ front) ∙ omega (arith, r.1)))

to_start : {z : Sizes} {base : ℕ} {s n : Text} {i k a : ℕ} → RecordsBy z base s n i k a → StartsAt z base s n i k a
to_start {s = s} (records {j} {m} {ns} {l} r e h) =
    let p = placed j s l e in
    record {
      front = p.front;
      line = l;
      index = j;
      recorded = ns;
      names = (line_of l).names;
      place = m;
      number = refl;
      stands = p.stands;
      reached = r;
      line_names = line_records l;
      one = h;
      start = omega (arith, p.far);
    }

of_start : {z : Sizes} {base : ℕ} {s n : Text} {i k a : ℕ} → StartsAt z base s n i k a → RecordsBy z base s n i k a
of_start {s = s} {n = n} {i = i} q =
    let w = at_line q.stands in
    let x : In (name q.place n) (line_of q.line).names = rw (line_names q.line q.names q.line_names) q.one in
    let y : i ≡ start_after q.index (cut_at 10 s) + q.place = omega (arith, q.start, w.1) in
    rw (y, q.number) (records q.reached w.0 x)

pub records_start : RecordsStart
unfolding RecordsStart
records_start z base s n i k a = (to_start, of_start)
