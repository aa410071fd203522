-- The sheet: what the text of a line says of its class is what the six steps read in it, and the other way round. Assumes nothing.
use Rattle.std.specs.Prelude.{Option, None, Some}
use Prim.Native.Nat.{ℕ}
use mathlib.Core.Path.{◌≡◌, refl, sym, ap, ◌∙◌}
use mathlib.Core.Logic.{◌≢◌}
use mathlib.Core.Bool.{Bool, true, false, cond, ◌||◌}
use mathlib.Core.List.{List, [], ◌∷◌, ◌++◌}
use native.Mathlib.Omega.{arith}
use borrow.Author.Tests.{eqb-true, eqb-false, eq-eqb, ne_eqb}
use lib.Dec.{eqb}
use Rattle.rules.specs.Text.{Text, bytes, upper, uppers, leading, trim, pieces, joined, Cut, uncut, around, in_front, first_cut, starts, contains, nth}
use Rattle.rules.specs.Line.{Name, name, Task, skipped, end, org, no_org, label_only, instruction, value, space, line, number_in, data_size, data_value, sized, data_task, is_directive, data_pieces, data_line, is_data, rest_line, after_label, label_line, org_task, trimmed_line, line_of}
use Rattle.promises.specs.Nearest.{In, head, tail}
use Rattle.promises.specs.Sheet.{Skips, is_empty, is_comment, Ends, Orgs, LastPart, without_colon, past_colon, Judged, HoldsData, a_constant, a_space, HoldsInstruction}
use Rattle.promises.proofs.Compared.{clash}

-- ---- the first colon
-- a byte that does not stand in a text, and one that does
module _ (c : ℕ) where
  in_front_lem : (b : ℕ) (k : Cut) (x y : Text) → in_front b k ≡ around x y → (w : Text) × (k ≡ around w y) × (x ≡ b ∷ w)
  unfolding in_front
  in_front_lem b uncut x y e = clash cc
  in_front_lem b (around w z) x y e = (w, cc, cc)

  front_uncut : (b : ℕ) (k : Cut) → in_front b k ≡ uncut → k ≡ uncut
  unfolding in_front
  front_uncut b uncut e = refl
  front_uncut b (around w z) e = clash cc

  cut_first : (b : ℕ) (s : Text) → eqb b c ≡ true → first_cut c (b ∷ s) ≡ around [] s
  unfolding first_cut
  cut_first b s e = rw (first_cut, e)

  cut_later : (b : ℕ) (s : Text) → eqb b c ≡ false → first_cut c (b ∷ s) ≡ in_front b (first_cut c s)
  unfolding first_cut
  cut_later b s e = rw (first_cut, e)

  not_in : (b : ℕ) (s : Text) → eqb b c ≡ false → ¬ In c s → ¬ In c (b ∷ s)
  not_in b s e n (head f) = eqb-false b c e (sym f)
  not_in b s e n (tail i) = n i

  none_cut : (s : Text) → first_cut c s ≡ uncut → ¬ In c s
  none_cut [] e = elim [ ]
  none_cut (b ∷ s) e = go (eqb b c) refl (none_cut s)
    where
      go : (y : Bool) → eqb b c ≡ y → (first_cut c s ≡ uncut → ¬ In c s) → ¬ In c (b ∷ s)
      go true f ih = let g = sym (cut_first b s f) ∙ e in clash cc
      go false f ih = not_in b s f (ih (front_uncut b (first_cut c s) (sym (cut_later b s f) ∙ e)))

  cut_none : (s : Text) → ¬ In c s → first_cut c s ≡ uncut
  unfolding first_cut in_front
  cut_none [] n = refl
  cut_none (b ∷ s) n = go (eqb b c) refl (cut_none s)
    where
      go : (y : Bool) → eqb b c ≡ y → (¬ In c s → first_cut c s ≡ uncut) → first_cut c (b ∷ s) ≡ uncut
      go true f ih = absurd (n (head (sym (eqb-true b c f))))
      go false f ih = cut_later b s f ∙ ap (in_front b) (ih (λ i. n (tail i)))

  around_cut : (s x y : Text) → first_cut c s ≡ around x y → (s ≡ x ++ (c ∷ y)) × ¬ In c x
  unfolding first_cut
  around_cut [] x y e = clash cc
  around_cut (b ∷ s) x y e = go (eqb b c) refl (around_cut s)
    where
      go : (z : Bool) → eqb b c ≡ z → ((x y : Text) → first_cut c s ≡ around x y → (s ≡ x ++ (c ∷ y)) × ¬ In c x) → (b ∷ s ≡ x ++ (c ∷ y)) × ¬ In c x
      go true f ih =
          let g = sym (cut_first b s f) ∙ e in
          let u : [] ≡ x = cc in
          let v : s ≡ y = cc in
          rw (← u, ← v, eqb-true b c f) (refl, elim [ ])
      go false f ih =
          let h = in_front_lem b (first_cut c s) x y (sym (cut_later b s f) ∙ e) in
          let k = ih h.0 y h.1 in
          rw h.2 (ap (λ (t : Text). b ∷ t) k.0, not_in b h.0 f k.1)

  cut_around : (s x y : Text) → s ≡ x ++ (c ∷ y) → ¬ In c x → first_cut c s ≡ around x y
  unfolding in_front
  cut_around s [] y e n = rw e (cut_first c y (eq-eqb c c refl))
  cut_around s (b ∷ x) y e n =
      rw e (cut_later b (x ++ (c ∷ y)) (ne_eqb b c (λ f. n (head (sym f)))) ∙ ap (in_front b) (cut_around (x ++ (c ∷ y)) x y refl (λ i. n (tail i))))

-- ---- tasks by their sort
unfoldable pub sort_of : Task → ℕ
sort_of skipped = 0
sort_of end = 1
sort_of (org v) = 2
sort_of no_org = 2
sort_of label_only = 3
sort_of (value n v) = 4
sort_of (space n) = 4
sort_of (instruction i) = 5

org_sort : (o : Option ℕ) → sort_of (org_task o) ≡ 2
unfolding sort_of org_task
org_sort None = refl
org_sort (Some v) = refl

data_sort : (s d : Text) → sort_of (data_task s d) ≡ 4
unfolding sort_of data_task sized
data_sort s d = go (data_value (uppers s) d)
  where
    go : (o : Option ℕ) → sort_of (sized (data_size (uppers s)) o) ≡ 4
    go None = refl
    go (Some v) = refl

pieces_sort : (ns : List Name) (i : ℕ) (s : Text) (ps : List Text) → sort_of (data_pieces ns i s ps).task ≡ 4
unfolding data_pieces
pieces_sort ns i s [] = data_sort s s
pieces_sort ns i s (p ∷ []) = data_sort s s
pieces_sort ns i s (p ∷ q ∷ ps) = go (is_directive p)
  where
    go : (x : Bool) → sort_of (cond x (line ns (data_task s s)) (line (ns ++ (name i p ∷ [])) (data_task s (joined (q ∷ ps))))).task ≡ 4
    go true = data_sort s s
    go false = data_sort s (joined (q ∷ ps))

data_line_sort : (ns : List Name) (i : ℕ) (s : Text) → sort_of (data_line ns i s).task ≡ 4
unfolding data_line
data_line_sort ns i s = go (first_cut 58 s) refl
  where
    go : (k : Cut) → first_cut 58 s ≡ k → sort_of (data_line ns i s).task ≡ 4
    go uncut e = rw (data_line, e) (pieces_sort ns i s (pieces s))
    go (around l d) e = rw (data_line, e) (data_sort s (trim d))

-- steps 5 and 6 by their test
rest_data : (ns : List Name) (i : ℕ) (s : Text) → is_data s ≡ true → sort_of (rest_line ns i s).task ≡ 4
unfolding rest_line
rest_data ns i s e = rw (rest_line, e) (data_line_sort ns i s)

rest_code : (ns : List Name) (i : ℕ) (s : Text) → is_data s ≡ false → sort_of (rest_line ns i s).task ≡ 5
unfolding rest_line sort_of
rest_code ns i s e = rw (rest_line, e)

-- the test and what it says
holds_data : (s : Text) → is_data s ≡ true → HoldsData s
unfolding is_data
holds_data s = go (contains (bytes "DC.") (uppers s)) refl
  where
    go : (x : Bool) → contains (bytes "DC.") (uppers s) ≡ x → (x || contains (bytes "DS.") (uppers s)) ≡ true → HoldsData s
    go true f e = a_constant f
    go false f e = a_space e

is_data_lem : (s : Text) → HoldsData s → is_data s ≡ true
unfolding is_data
is_data_lem s (a_constant e) = rw e
is_data_lem s (a_space e) = rw e (go (contains (bytes "DC.") (uppers s)))
  where
    go : (x : Bool) → (x || true) ≡ true
    go true = refl
    go false = refl

no_data : (s : Text) → is_data s ≡ false → ¬ HoldsData s
no_data s e h = let g = sym (is_data_lem s h) ∙ e in clash cc

not_data : (s : Text) → ¬ HoldsData s → is_data s ≡ false
not_data s n = go (is_data s) refl
  where
    go : (x : Bool) → is_data s ≡ x → x ≡ false
    go true e = absurd (n (holds_data s e))
    go false e = refl

-- ---- steps 1 to 3
semicolon : (b : ℕ) (t : Text) → eqb b 59 ≡ true → Skips (b ∷ t)
semicolon b t e = rw (eqb-true b 59 e) is_comment

no_semicolon : (b : ℕ) (t : Text) → eqb b 59 ≡ false → ¬ Skips (b ∷ t)
no_semicolon b t e is_comment = clash cc

first_byte : (b : ℕ) (t : Text) → ¬ Skips (b ∷ t) → eqb b 59 ≡ false
first_byte b t n = ne_eqb b 59 (λ e. n (rw e is_comment))

begins_end : (b : ℕ) (t : Text) → ¬ Skips (b ∷ t) → ¬ Ends (b ∷ t) → starts (bytes "END") (uppers (b ∷ t)) ≡ false
begins_end b t k n = go (starts (bytes "END") (uppers (b ∷ t))) refl
  where
    go : (x : Bool) → starts (bytes "END") (uppers (b ∷ t)) ≡ x → x ≡ false
    go true e = absurd (n (record { kept = k; begins = e }))
    go false e = refl

begins_org : (b : ℕ) (t : Text) → ¬ Skips (b ∷ t) → ¬ Orgs (b ∷ t) → starts (bytes "ORG") (uppers (b ∷ t)) ≡ false
begins_org b t k n = go (starts (bytes "ORG") (uppers (b ∷ t))) refl
  where
    go : (x : Bool) → starts (bytes "ORG") (uppers (b ∷ t)) ≡ x → x ≡ false
    go true e = absurd (n (record { kept = k; begins = e }))
    go false e = refl

-- a text that starts ORG does not start END
starts_first : (a : ℕ) (p : Text) (b : ℕ) (t : Text) → starts (a ∷ p) (b ∷ t) ≡ true → a ≡ b
unfolding starts
starts_first a p b t = go (eqb a b) refl
  where
    go : (x : Bool) → eqb a b ≡ x → elim x [ true ↦ starts p t | false ↦ false ] ≡ true → a ≡ b
    go true f e = eqb-true a b f
    go false f e = clash cc

one_start : (u : Text) → Orgs u → ¬ Ends u
unfolding bytes uppers
one_start [] o e = o.kept is_empty
one_start (b ∷ t) o e =
    let f = starts_first 79 _ (upper b) (uppers t) o.begins in
    let g = starts_first 69 _ (upper b) (uppers t) e.begins in
    omega arith

-- the steps by what the text says
skips_task : (i : ℕ) (u : Text) → Skips u → (trimmed_line i u).task ≡ skipped
unfolding trimmed_line
skips_task i _ is_empty = refl
skips_task i _ is_comment = refl

ends_task : (i : ℕ) (u : Text) → Ends u → (trimmed_line i u).task ≡ end
unfolding trimmed_line
ends_task i [] e = absurd (e.kept is_empty)
ends_task i (b ∷ t) e = rw (trimmed_line, first_byte b t e.kept, e.begins)

orgs_task : (i : ℕ) (u : Text) → Orgs u → sort_of (trimmed_line i u).task ≡ 2
unfolding trimmed_line
orgs_task i [] o = absurd (o.kept is_empty)
orgs_task i (b ∷ t) o =
    rw (trimmed_line, first_byte b t o.kept, begins_end b t o.kept (one_start (b ∷ t) o), o.begins) (org_sort (number_in (nth 1 (pieces (b ∷ t)))))

judged_line : (i : ℕ) (u r : Text) → Judged u r → trimmed_line i u ≡ label_line i u
unfolding trimmed_line
judged_line i [] r j = absurd (j.kept is_empty)
judged_line i (b ∷ t) r j = rw (trimmed_line, first_byte b t j.kept, begins_end b t j.kept j.reads_on, begins_org b t j.kept j.stays)

-- the last part of such a line: nothing after a colon, or what steps 5 and 6 read
pub data Part (u r : Text) : Task → Type 0 where
  nothing : r ≡ [] → Part u r label_only
  rest : (ns : List Name) (i : ℕ) → r ≢ [] → Part u r (rest_line ns i r).task

after_part : (u r : Text) (n : Name) (i : ℕ) → Part u r (after_label n i r).task
unfolding after_label
after_part u [] n i = nothing refl
after_part u (b ∷ r) n i = rest (n ∷ []) i (λ e. clash cc)

label_part : (i : ℕ) (u r : Text) → ¬ Skips u → LastPart u r → Part u r (label_line i u).task
unfolding label_line
label_part i u r k (without_colon n e) = rw (label_line, cut_none 58 u n, e) (rest [] i (λ f. k (rw f is_empty)))
label_part i u r k (past_colon x y e n f) = rw (label_line, cut_around 58 u x y e n, f) (after_part u (trim y) _ _)

judged_part : (i : ℕ) (u r : Text) → Judged u r → Part u r (trimmed_line i u).task
judged_part i u r j = rw (judged_line i u r j) (label_part i u r j.kept j.part)

judged_label : (u : Text) {k : Task} → Part u [] k → sort_of k ≡ 3
unfolding sort_of
judged_label u (nothing e) = refl
judged_label u (rest ns i n) = absurd (n refl)

judged_data : (u r : Text) {k : Task} → Part u r k → HoldsData r → sort_of k ≡ 4
unfolding contains starts bytes uppers
judged_data u r (nothing e) (a_constant h) = let g = rw e at h in clash cc
judged_data u r (nothing e) (a_space h) = let g = rw e at h in clash cc
judged_data u r (rest ns i n) h = rest_data ns i r (is_data_lem r h)

judged_code : (u r : Text) {k : Task} → Part u r k → HoldsInstruction r → sort_of k ≡ 5
judged_code u r (nothing e) h = absurd (h.some_text e)
judged_code u r (rest ns i n) h = rest_code ns i r (not_data r h.no_data)

-- ---- a line
-- by what its text says it is of that sort
module _ (l : Text) where
  pub skips_sort : Skips (trim l) → sort_of (line_of l).task ≡ 0
  unfolding line_of sort_of
  skips_sort k = rw (skips_task (leading l) (trim l) k)

  pub ends_end : Ends (trim l) → (line_of l).task ≡ end
  unfolding line_of
  ends_end e = ends_task (leading l) (trim l) e

  pub orgs_sort : Orgs (trim l) → sort_of (line_of l).task ≡ 2
  unfolding line_of
  orgs_sort o = orgs_task (leading l) (trim l) o

  pub label_sort : Judged (trim l) [] → sort_of (line_of l).task ≡ 3
  unfolding line_of
  label_sort j = judged_label (trim l) (judged_part (leading l) (trim l) [] j)

  pub holds_sort : (r : Text) → Judged (trim l) r → HoldsData r → sort_of (line_of l).task ≡ 4
  unfolding line_of
  holds_sort r j h = judged_data (trim l) r (judged_part (leading l) (trim l) r j) h

  pub code_sort : (r : Text) → Judged (trim l) r → HoldsInstruction r → sort_of (line_of l).task ≡ 5
  unfolding line_of
  code_sort r j h = judged_code (trim l) r (judged_part (leading l) (trim l) r j) h

-- and every text says one of these, with the task that is read
pub data Said (u : Text) : Task → Type 0 where
  said_skip : {k : Task} → sort_of k ≡ 0 → Skips u → Said u k
  said_end : {k : Task} → k ≡ end → Ends u → Said u k
  said_org : {k : Task} → sort_of k ≡ 2 → Orgs u → Said u k
  said_label : {k : Task} → sort_of k ≡ 3 → Judged u [] → Said u k
  said_data : {r : Text} {k : Task} → sort_of k ≡ 4 → Judged u r → HoldsData r → Said u k
  said_code : {r : Text} {k : Task} → sort_of k ≡ 5 → Judged u r → HoldsInstruction r → Said u k

part_said : (u r : Text) (k : Task) → Judged u r → Part u r k → Said u k
unfolding sort_of
part_said u r _ j (nothing e) = said_label refl (rw e at j)
part_said u r _ j (rest ns i n) = go (is_data r) refl
  where
    go : (x : Bool) → is_data r ≡ x → Said u (rest_line ns i r).task
    go true e = said_data (rest_data ns i r e) j (holds_data r e)
    go false e = said_code (rest_code ns i r e) j (record { some_text = n; no_data = no_data r e })

last_part : (u : Text) → (r : Text) × LastPart u r
last_part u = go (first_cut 58 u) refl
  where
    go : (k : Cut) → first_cut 58 u ≡ k → (r : Text) × LastPart u r
    go uncut e = (u, without_colon (none_cut 58 u e) refl)
    go (around x y) e = let h = around_cut 58 u x y e in (trim y, past_colon x y h.0 h.1 refl)

text_said : (i : ℕ) (u : Text) → Said u (trimmed_line i u).task
unfolding trimmed_line sort_of
text_said i [] = said_skip refl is_empty
text_said i (b ∷ t) = go (eqb b 59) refl (starts (bytes "END") (uppers (b ∷ t))) refl (starts (bytes "ORG") (uppers (b ∷ t))) refl
  where
    go : (x : Bool) → eqb b 59 ≡ x → (y : Bool) → starts (bytes "END") (uppers (b ∷ t)) ≡ y → (z : Bool)
        → starts (bytes "ORG") (uppers (b ∷ t)) ≡ z → Said (b ∷ t) (trimmed_line i (b ∷ t)).task
    go true e y f z g = let k = semicolon b t e in said_skip (ap sort_of (skips_task i (b ∷ t) k)) k
    go false e true f z g = let k : Ends (b ∷ t) = record { kept = no_semicolon b t e; begins = f } in said_end (ends_task i (b ∷ t) k) k
    go false e false f true g = let k : Orgs (b ∷ t) = record { kept = no_semicolon b t e; begins = g } in said_org (orgs_task i (b ∷ t) k) k
    go false e false f false g =
        let h = last_part (b ∷ t) in
        let j : Judged (b ∷ t) h.0 =
        record {
          kept = no_semicolon b t e;
          reads_on = λ k. let u = sym k.begins ∙ f in clash cc;
          stays = λ k. let u = sym k.begins ∙ g in clash cc;
          part = h.1;
        } in
        part_said (b ∷ t) h.0 _ j (judged_part i (b ∷ t) h.0 j)

pub said : (l : Text) → Said (trim l) (line_of l).task
unfolding line_of
said l = text_said (leading l) (trim l)
