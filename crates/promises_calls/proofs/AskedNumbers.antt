-- A line's number is the reading of the piece that the steps name, and its task goes by it. Assumes nothing.
use Rattle.std.specs.Prelude.{Option, None, Some}
use Prim.Native.Nat.{ℕ, ◌+◌}
use mathlib.Core.Path.{◌≡◌, refl, sym, ap, ◌∙◌}
use mathlib.Core.Logic.{◌↔◌}
use mathlib.Core.Bool.{Bool, true, false, ◌||◌, false≢true}
use mathlib.Core.List.{List, [], ◌∷◌, ◌++◌}
use native.Mathlib.Omega.{arith}
use lib.Dec.{eqb}
use lib.ListN.{length, get_or}
use borrow.Author.Tests.{eqb-true}
use Rattle.rules.specs.Text.{Text, bytes, upper, uppers, leading, trim, pieces, Cut, uncut, around, first_cut, starts, contains, nth, after}
use Rattle.rules.specs.Option.{bind}
use Rattle.rules.specs.Number.{Failure, Reading, read, failed, reading32, reading16, reading8, immediate, imm8, imm16, value_of}
use Rattle.rules.specs.Line.{Name, Task, line, skipped, end, org, no_org, label_only, Instruction, instruction, value, space, reading_in, number_in, value_reading_in, data_size, data_value, sized, data_task, is_directive, data_pieces, is_data, data_line, rest_line, after_label, label_line, org_task, trimmed_line, line_of}
use Rattle.rules.specs.Directive.{piece_directive, directive_of, data_reading, after_colon, trimmed_reading, line_reading}
use Rattle.text.proofs.Joined.{Words, more_words, pieces_words, pieces_joined}
use Rattle.requests.specs.ManualCall.{imm32}
use Rattle.promises.specs.Readings.{Means32, MeansImmediate, no_hash, hash}
use Rattle.promises.proofs.Readings.{readings_mean}
use Rattle.promises.proofs.Sums.{sums_mean}
use Rattle.promises.proofs.Decided.{Decided, yes, no, decided_true, decided_false}
use Rattle.promises_calls.specs.Directives.{Trims, NoColon, Pieces, Begins, Holds, Skipped, nothing, note, Fourth, GoesOn, without_colon, behind_colon, NoLabel, no_piece, one_piece, starts_dc, starts_ds, Directive, around_colon, behind_label, unlabelled, Second, none_at_all, only_one, second, OrgAsks, org_asks, DcAsks, dc_asks, AsksNothing, skipped_asks, end_asks, other_asks, LineAsks, by_org, by_dc, by_nothing, DirectivesPassOn, NumbersAct, ImmediatesAct}
use Rattle.promises_calls.proofs.Parts.{trims_is, trims_of, whole_is, colon_is, Cuts, whole, parts, cuts, begins, holds, pieces_is, pieces_of}

-- ---- steps 1 to 3
pub other_first : (b : ℕ) (s : Text) → ¬ Skipped (b ∷ s) → eqb b 59 ≡ false
other_first b s n = go (eqb b 59) refl
  where
    go : (y : Bool) → eqb b 59 ≡ y → eqb b 59 ≡ false
    go true e = absurd (n (rw (eqb-true b 59 e) note))
    go false e = e

pub no_begin : (p t : Text) → ¬ Begins p t → starts p (uppers t) ≡ false
no_begin p t n = decided_false (begins p t) n

pub begin : (p t : Text) → Begins p t → starts p (uppers t) ≡ true
begin p t e = decided_true (begins p t) e

pub org_line : (i : ℕ) (t : Text) → ¬ Skipped t → ¬ Begins (bytes "END") t → Begins (bytes "ORG") t
    → (trimmed_reading t ≡ Some (reading_in (nth 1 (pieces t)))) × (trimmed_line i t ≡ line [] (org_task (value_of (reading_in (nth 1 (pieces t))))))
unfolding trimmed_reading trimmed_line number_in
org_line i [] n m o = absurd (n nothing)
org_line i (b ∷ s) n m o =
    let x : eqb b 59 ≡ false = other_first b s n in
    let y : starts (bytes "END") (uppers (b ∷ s)) ≡ false = no_begin (bytes "END") (b ∷ s) m in
    let z : starts (bytes "ORG") (uppers (b ∷ s)) ≡ true = begin (bytes "ORG") (b ∷ s) o in
    (rw (trimmed_reading, x, y, z), rw (trimmed_line, x, y, z))

pub fourth_line : (i : ℕ) (t : Text) → ¬ Skipped t → ¬ Begins (bytes "END") t → ¬ Begins (bytes "ORG") t
    → (trimmed_reading t ≡ data_reading (after_colon t)) × (trimmed_line i t ≡ label_line i t)
unfolding trimmed_reading trimmed_line
fourth_line i [] n m o = absurd (n nothing)
fourth_line i (b ∷ s) n m o =
    let x : eqb b 59 ≡ false = other_first b s n in
    let y : starts (bytes "END") (uppers (b ∷ s)) ≡ false = no_begin (bytes "END") (b ∷ s) m in
    let z : starts (bytes "ORG") (uppers (b ∷ s)) ≡ false = no_begin (bytes "ORG") (b ∷ s) o in
    (rw (trimmed_reading, x, y, z), rw (trimmed_line, x, y, z))

pub skipped_line : (i : ℕ) (t : Text) → Skipped t → (trimmed_reading t ≡ None) × (trimmed_line i t ≡ line [] skipped)
unfolding trimmed_reading trimmed_line
skipped_line i [] nothing = (refl, refl)
skipped_line i (b ∷ s) note = (refl, refl)

pub end_line : (i : ℕ) (t : Text) → ¬ Skipped t → Begins (bytes "END") t → (trimmed_reading t ≡ None) × (trimmed_line i t ≡ line [] end)
unfolding trimmed_reading trimmed_line
end_line i [] n m = absurd (n nothing)
end_line i (b ∷ s) n m =
    let x : eqb b 59 ≡ false = other_first b s n in
    let y : starts (bytes "END") (uppers (b ∷ s)) ≡ true = begin (bytes "END") (b ∷ s) m in
    (rw (trimmed_reading, x, y), rw (trimmed_line, x, y))

pub end_said : {t : Text} → Begins (bytes "END") t → ¬ Skipped t
unfolding bytes uppers upper
end_said e nothing = let z : ◌≡◌ {A = ℕ} 0 69 = ap (λ (x : Text). get_or x 0 0) e in absurd (omega arith)
end_said e note = let z : ◌≡◌ {A = ℕ} 59 69 = ap (λ (x : Text). get_or x 0 0) e in absurd (omega arith)

-- ---- step 4
data Went (k : Task) (u : Text) : Type 0 where
  done : u ≡ [] → k ≡ label_only → Went k u
  on : (ns : List Name) (i : ℕ) → k ≡ (rest_line ns i u).task → Went k u

goes : (i : ℕ) (t u : Text) → GoesOn t u → (after_colon t ≡ u) × Went (label_line i t).task u
unfolding after_colon label_line after_label
goes i t u (without_colon n e) = rw e (rw (after_colon, whole_is n), on [] i (rw (label_line, whole_is n)))
goes i t u (behind_colon {l} {r} c q) = (rw (after_colon, colon_is c) (trims_is q), rw (label_line, colon_is c, trims_is q) (go u))
  where
    go : (u : Text) → Went (after_label (record { start = i; text = trim l }) (i + length l + 1 + leading r) u).task u
    go [] = done refl refl
    go (b ∷ v) = on _ _ refl

went : (t : Text) → (u : Text) × GoesOn t u
went t = go (cuts t)
  where
    go : Cuts t → (u : Text) × GoesOn t u
    go (whole n) = (t, without_colon n refl)
    go (parts {l} {r} c) = (trim r, behind_colon c (trims_of r))

-- ---- step 5
-- its task is that of its directive
pieces_task : (ns : List Name) (i : ℕ) (s : Text) (ps : List Text) → (data_pieces ns i s ps).task ≡ data_task s (piece_directive s ps)
unfolding data_pieces piece_directive
pieces_task ns i s [] = refl
pieces_task ns i s (p ∷ []) = refl
pieces_task ns i s (p ∷ q ∷ ps) = go (is_directive p) refl
  where
    go : (x : Bool) → is_directive p ≡ x → (data_pieces ns i s (p ∷ q ∷ ps)).task ≡ data_task s (piece_directive s (p ∷ q ∷ ps))
    go true e = rw e
    go false e = rw e

data_task_lem : (ns : List Name) (i : ℕ) (s : Text) → (data_line ns i s).task ≡ data_task s (directive_of s)
unfolding data_line directive_of
data_task_lem ns i s = go (first_cut 58 s) refl
  where
    go : (c : Cut) → first_cut 58 s ≡ c → (data_line ns i s).task ≡ data_task s (directive_of s)
    go uncut e = rw (e, data_line, directive_of) (pieces_task ns i s (pieces s))
    go (around l d) e = rw (e, data_line, directive_of)

-- a first piece that is a directive's
pub is_dc : (p : Text) → Begins (bytes "DC") p → is_directive p ≡ true
unfolding is_directive
is_dc p e = rw (begin (bytes "DC") p e)

pub is_ds : (p : Text) → Begins (bytes "DS") p → is_directive p ≡ true
unfolding is_directive
is_ds p e = rw (begin (bytes "DS") p e) (or_true (starts (bytes "DC") (uppers p)))
  where
    or_true : (x : Bool) → (x || true) ≡ true
    or_true true = refl
    or_true false = refl

pub is_none : (p : Text) → ¬ Begins (bytes "DC") p → ¬ Begins (bytes "DS") p → is_directive p ≡ false
unfolding is_directive
is_none p n m = rw (no_begin (bytes "DC") p n, no_begin (bytes "DS") p m)

-- the directive's pieces
words_tail : {p : Text} {ps : List Text} → Words (p ∷ ps) → Words ps
words_tail (more_words w ws) = ws

labelled : (u p q : Text) (ds : List Text) → pieces u ≡ p ∷ q ∷ ds → is_directive p ≡ false → pieces (piece_directive u (pieces u)) ≡ q ∷ ds
unfolding piece_directive
labelled u p q ds e f =
    let w : Words (q ∷ ds) = words_tail (rw e at (pieces_words u)) in
    rw (e, piece_directive, f) (pieces_joined (q ∷ ds) w)

unlabelled_lem : (u : Text) (ds : List Text) → NoLabel ds → piece_directive u ds ≡ u
unfolding piece_directive
unlabelled_lem u [] no_piece = refl
unlabelled_lem u (p ∷ []) n = refl
unlabelled_lem u (p ∷ q ∷ ds) (starts_dc e) = rw (is_dc p e)
unlabelled_lem u (p ∷ q ∷ ds) (starts_ds e) = rw (is_ds p e)

directive : (u : Text) (ds : List Text) → Directive u ds → pieces (directive_of u) ≡ ds
unfolding directive_of
directive u ds (around_colon c q p) = rw (colon_is c, directive_of, trims_is q) (pieces_is p)
directive u (q ∷ ds) (behind_label {p} n e h k) = rw (whole_is n, directive_of) (labelled u p q ds (pieces_is e) (is_none p h k))
directive u ds (unlabelled n e h) = rw (whole_is n, directive_of) (ap pieces (ap (piece_directive u) (pieces_is e) ∙ unlabelled_lem u ds h) ∙ pieces_is e)

directed : (u : Text) → (ds : List Text) × Directive u ds
directed u = go (cuts u)
  where
    by : NoColon u → (ps : List Text) → Pieces u ps → (ds : List Text) × Directive u ds
    by n [] e = ([], unlabelled n e no_piece)
    by n (p ∷ []) e = (p ∷ [], unlabelled n e one_piece)
    by n (p ∷ q ∷ ds) e = at (starts (bytes "DC") (uppers p)) (begins (bytes "DC") p) (starts (bytes "DS") (uppers p)) (begins (bytes "DS") p)
      where
        at : (x : Bool) → Decided (Begins (bytes "DC") p) x → (y : Bool) → Decided (Begins (bytes "DS") p) y → (ds : List Text) × Directive u ds
        at true (yes h) y k = (p ∷ q ∷ ds, unlabelled n e (starts_dc h))
        at false (no h) true (yes k) = (p ∷ q ∷ ds, unlabelled n e (starts_ds k))
        at false (no h) false (no k) = (q ∷ ds, behind_label n e h k)

    go : Cuts u → (ds : List Text) × Directive u ds
    go (whole n) = by n (pieces u) (pieces_of u)
    go (parts {l} {r} c) = (pieces (trim r), around_colon c (trims_of r) (pieces_of (trim r)))

-- its second piece
second_lem : {ps : List Text} {o : Option Text} → Second ps o → nth 1 ps ≡ o
unfolding nth
second_lem none_at_all = refl
second_lem only_one = refl
second_lem second = refl

seconded : (ps : List Text) → Second ps (nth 1 ps)
unfolding nth
seconded [] = none_at_all
seconded (p ∷ []) = only_one
seconded (p ∷ q ∷ ps) = second

-- ---- what is asked, and what is answered and done
org_says : (s : Text) (r : Reading ℕ) → OrgAsks s r → (line_reading s ≡ Some r) × ((line_of s).task ≡ org_task (value_of r))
unfolding line_reading line_of
org_says s r (org_asks {t} {ps} {o} q e f m) =
    let k = org_line (leading s) t q.said q.no_end q.is_org in
    let x : reading_in (nth 1 (pieces t)) ≡ r = rw (pieces_is e, second_lem f) ((readings_mean.of_a_piece o r).1 m) in
    (rw (trims_is q.trims) (rw x at k.0), rw (trims_is q.trims) (rw (k.1, x)))

no_dc : contains (bytes "DC.") (uppers []) ≡ false
unfolding contains starts bytes uppers
no_dc = refl

dc_rest : (ns : List Name) (i : ℕ) (u : Text) → contains (bytes "DC.") (uppers u) ≡ true → (rest_line ns i u).task ≡ data_task u (directive_of u)
unfolding rest_line is_data
dc_rest ns i u e = rw (rest_line, is_data, e) (data_task_lem ns i u)

dc_went : (k : Task) (u : Text) → Went k u → contains (bytes "DC.") (uppers u) ≡ true → k ≡ data_task u (directive_of u)
dc_went k u (done e f) h = absurd (false≢true (sym no_dc ∙ rw e at h))
dc_went k u (on ns i e) h = e ∙ dc_rest ns i u h

dc_says : (s : Text) (r : Reading ℕ) → DcAsks s r → (line_reading s ≡ Some r) × ((n : ℕ) × ((line_of s).task ≡ sized n (value_of r)))
unfolding line_reading line_of data_reading data_task data_value
dc_says s r (dc_asks {t} {u} {ds} {o} q g h d f m) =
    let k = fourth_line (leading s) t q.said q.no_end q.no_org in
    let w = goes (leading s) t u g in
    let c : contains (bytes "DC.") (uppers u) ≡ true = decided_true (holds (bytes "DC.") u) h in
    let x : value_reading_in (nth 1 (pieces (directive_of u))) ≡ r = rw (directive u ds d, second_lem f) ((sums_mean.of_a_piece o r).1 m) in
    let y : data_reading u ≡ Some r = rw (c, x) in
    let z : data_task u (directive_of u) ≡ sized (data_size (uppers u)) (value_of r) = rw (c, x) in
    (rw (trims_is q.trims) (k.0 ∙ ap data_reading w.0 ∙ y), (data_size (uppers u), rw (trims_is q.trims, k.1) (dc_went _ u w.1 c ∙ z)))

-- tasks without a number
data Quiet : Task → Type 0 where
  quiet_skipped : Quiet skipped
  quiet_end : Quiet end
  quiet_label : Quiet label_only
  quiet_instruction : {i : Instruction} → Quiet (instruction i)
  quiet_space : {n : ℕ} → Quiet (space n)

other_rest : (ns : List Name) (i : ℕ) (u : Text) → contains (bytes "DC.") (uppers u) ≡ false → Quiet (rest_line ns i u).task
unfolding rest_line is_data data_task data_value sized
other_rest ns i u e = go (contains (bytes "DS.") (uppers u)) refl
  where
    go : (y : Bool) → contains (bytes "DS.") (uppers u) ≡ y → Quiet (rest_line ns i u).task
    go true f = rw (rest_line, e, f, data_task_lem ns i u, e) quiet_space
    go false f = rw (rest_line, e, f) quiet_instruction

other_went : (k : Task) (u : Text) → Went k u → contains (bytes "DC.") (uppers u) ≡ false → Quiet k
other_went k u (done e f) h = rw f quiet_label
other_went k u (on ns i e) h = rw e (other_rest ns i u h)

nothing_says : (s : Text) → AsksNothing s → (line_reading s ≡ None) × Quiet (line_of s).task
unfolding line_reading line_of data_reading
nothing_says s (skipped_asks {t} q h) = let k = skipped_line (leading s) t h in rw (trims_is q) (k.0, rw k.1 quiet_skipped)
nothing_says s (end_asks {t} q h) = let k = end_line (leading s) t (end_said h) h in rw (trims_is q) (k.0, rw k.1 quiet_end)
nothing_says s (other_asks {t} {u} q g h) =
    let k = fourth_line (leading s) t q.said q.no_end q.no_org in
    let w = goes (leading s) t u g in
    let c : contains (bytes "DC.") (uppers u) ≡ false = decided_false (holds (bytes "DC.") u) h in
    let y : data_reading u ≡ None = rw c in
    (rw (trims_is q.trims) (k.0 ∙ ap data_reading w.0 ∙ y), rw (trims_is q.trims) (rw k.1 (other_went _ u w.1 c)))

-- ---- each line asks for one thing
data Kind (s : Text) : Type 0 where
  of_org : {r : Reading ℕ} → OrgAsks s r → Kind s
  of_dc : {r : Reading ℕ} → DcAsks s r → Kind s
  of_nothing : AsksNothing s → Kind s

not_noted : {u : Text} → Skipped u → (b : ℕ) (v : Text) → u ≡ b ∷ v → eqb b 59 ≡ false → ⊥
not_noted nothing b v d e = let z : ◌≡◌ {A = ℕ} 0 1 = cc in absurd (omega arith)
not_noted note b v d e = let z : 59 ≡ b = cc in false≢true (sym e ∙ ap (λ (x : ℕ). eqb x 59) (sym z))

pub is_note : Text → Bool
is_note [] = true
is_note (b ∷ t) = eqb b 59

pub skips : (t : Text) → Decided (Skipped t) (is_note t)
unfolding is_note
skips [] = yes nothing
skips (b ∷ t) = go (eqb b 59) refl
  where
    go : (y : Bool) → eqb b 59 ≡ y → Decided (Skipped (b ∷ t)) y
    go true e = yes (rw (eqb-true b 59 e) note)
    go false e = no (λ h. not_noted h b t refl e)

kind : (s : Text) → Kind s
kind s = by (trim s) (trims_of s)
  where
    fourth : (t : Text) → Fourth s t → Kind s
    fourth t q = let g = went t in on g.0 g.1 (contains (bytes "DC.") (uppers g.0)) (holds (bytes "DC.") g.0)
      where
        on : (u : Text) → GoesOn t u → (y : Bool) → Decided (Holds (bytes "DC.") u) y → Kind s
        on u g true (yes h) =
            let d = directed u in
            of_dc (dc_asks q g h d.1 (seconded d.0) ((sums_mean.of_a_piece (nth 1 d.0) (value_reading_in (nth 1 d.0))).0 refl))
        on u g false (no h) = of_nothing (other_asks q g h)

    by : (t : Text) → Trims s t → Kind s
    by t q = go (is_note t) (skips t) (starts (bytes "END") (uppers t)) (begins (bytes "END") t) (starts (bytes "ORG") (uppers t)) (begins (bytes "ORG") t)
      where
        go : (x : Bool) → Decided (Skipped t) x → (y : Bool) → Decided (Begins (bytes "END") t) y → (z : Bool) → Decided (Begins (bytes "ORG") t) z → Kind s
        go true (yes a) y b z c = of_nothing (skipped_asks q a)
        go false (no a) true (yes b) z c = of_nothing (end_asks q b)
        go false (no a) false (no b) true (yes c) =
            of_org (org_asks (record { trims = q; said = a; no_end = b; is_org = c }) (pieces_of t) (seconded (pieces t))
            ((readings_mean.of_a_piece (nth 1 (pieces t)) (reading_in (nth 1 (pieces t)))).0 refl))
        go false (no a) false (no b) false (no c) = fourth t (record { trims = q; said = a; no_end = b; no_org = c })

-- ---- a line's answer
says : (s : Text) (r : Option (Reading ℕ)) → LineAsks s r → line_reading s ≡ r
says s r (by_org {r = v} q) = (org_says s v q).0
says s r (by_dc {r = v} q) = (dc_says s v q).0
says s r (by_nothing q) = (nothing_says s q).0

asked : (s : Text) → LineAsks s (line_reading s)
asked s = go (kind s)
  where
    go : Kind s → LineAsks s (line_reading s)
    go (of_org {r} q) = rw (org_says s r q).0 (by_org q)
    go (of_dc {r} q) = rw (dc_says s r q).0 (by_dc q)
    go (of_nothing q) = rw (nothing_says s q).0 (by_nothing q)

pub directives_pass_on : DirectivesPassOn
unfolding DirectivesPassOn
directives_pass_on s r = (λ e. rw e at (asked s), says s r)

-- ---- a line's task
org_quiet : {k : Task} → Quiet k → (v : ℕ) → k ≡ org v → ⊥
org_quiet quiet_skipped v e = cc
org_quiet quiet_end v e = cc
org_quiet quiet_label v e = cc
org_quiet quiet_instruction v e = cc
org_quiet quiet_space v e = cc

no_org_quiet : {k : Task} → Quiet k → k ≡ no_org → ⊥
no_org_quiet quiet_skipped e = cc
no_org_quiet quiet_end e = cc
no_org_quiet quiet_label e = cc
no_org_quiet quiet_instruction e = cc
no_org_quiet quiet_space e = cc

value_quiet : {k : Task} → Quiet k → (n v : ℕ) → k ≡ value n v → ⊥
value_quiet quiet_skipped n v e = cc
value_quiet quiet_end n v e = cc
value_quiet quiet_label n v e = cc
value_quiet quiet_instruction n v e = cc
value_quiet quiet_space n v e = cc

-- by what is asked for, the line does it, and no other line does
module _ (s : Text) where
  org_has : (v : ℕ) → (line_of s).task ≡ org v → OrgAsks s (read v)
  unfolding org_task value_of sized
  org_has v e = go (kind s)
    where
      by_number : (r : Reading ℕ) → OrgAsks s r → (line_of s).task ≡ org_task (value_of r) → OrgAsks s (read v)
      by_number (read w) q f = let z : w ≡ v = cc in rw z at q
      by_number (failed x) q f = absurd (cc)

      by_value : (r : Reading ℕ) (n : ℕ) → (line_of s).task ≡ sized n (value_of r) → OrgAsks s (read v)
      by_value (read w) n f = absurd (cc)
      by_value (failed x) n f = absurd (cc)

      go : Kind s → OrgAsks s (read v)
      go (of_org {r} q) = by_number r q (org_says s r q).1
      go (of_dc {r} q) = let k = (dc_says s r q).1 in by_value r k.0 k.1
      go (of_nothing q) = absurd (org_quiet (nothing_says s q).1 v e)

  no_org_has : (line_of s).task ≡ no_org → (x : Failure) × OrgAsks s (failed x)
  unfolding org_task value_of sized
  no_org_has e = go (kind s)
    where
      by_number : (r : Reading ℕ) → OrgAsks s r → (line_of s).task ≡ org_task (value_of r) → (x : Failure) × OrgAsks s (failed x)
      by_number (read w) q f = absurd (cc)
      by_number (failed x) q f = (x, q)

      by_value : (r : Reading ℕ) (n : ℕ) → (line_of s).task ≡ sized n (value_of r) → (x : Failure) × OrgAsks s (failed x)
      by_value (read w) n f = absurd (cc)
      by_value (failed x) n f = absurd (cc)

      go : Kind s → (x : Failure) × OrgAsks s (failed x)
      go (of_org {r} q) = by_number r q (org_says s r q).1
      go (of_dc {r} q) = let k = (dc_says s r q).1 in by_value r k.0 k.1
      go (of_nothing q) = absurd (no_org_quiet (nothing_says s q).1 e)

  value_has : (n v : ℕ) → (line_of s).task ≡ value n v → DcAsks s (read v)
  unfolding org_task value_of sized
  value_has n v e = go (kind s)
    where
      by_number : (r : Reading ℕ) → (line_of s).task ≡ org_task (value_of r) → DcAsks s (read v)
      by_number (read w) f = absurd (cc)
      by_number (failed x) f = absurd (cc)

      by_value : (r : Reading ℕ) → DcAsks s r → (m : ℕ) → (line_of s).task ≡ sized m (value_of r) → DcAsks s (read v)
      by_value (read w) q m f = let z : w ≡ v = cc in rw z at q
      by_value (failed x) q m f = absurd (cc)

      go : Kind s → DcAsks s (read v)
      go (of_org {r} q) = by_number r (org_says s r q).1
      go (of_dc {r} q) = let k = (dc_says s r q).1 in by_value r q k.0 k.1
      go (of_nothing q) = absurd (value_quiet (nothing_says s q).1 n v e)

pub numbers_act : NumbersAct
unfolding org_task value_of sized
numbers_act =
    record {
      org_acts = λ s v. (org_has s v, λ q. (org_says s (read v) q).1);
      org_rests = λ s. (no_org_has s, λ q. (org_says s (failed q.0) q.1).1);
      value_acts = λ s v. (λ e. value_has s e.0 v e.1, λ q. (dc_says s (read v) q).1);
      value_rests = λ s x q. (dc_says s (failed x) q).1;
    }

-- ---- immediates
hash_is : (b : ℕ) (s : Text) → eqb 35 b ≡ true → b ∷ s ≡ bytes "#" ++ s
unfolding bytes
hash_is b s e = ap (λ (x : ℕ). x ∷ s) (sym (eqb-true 35 b e))

long_there : (s : Text) → MeansImmediate Means32 s (immediate reading32 s)
unfolding immediate starts after bytes
long_there [] = no_hash refl
long_there (b ∷ s) = go (eqb 35 b) refl
  where
    go : (x : Bool) → eqb 35 b ≡ x → MeansImmediate Means32 (b ∷ s) (immediate reading32 (b ∷ s))
    go true e = rw (e, immediate, after) (hash (hash_is b s e) ((readings_mean.of_32_bits s (reading32 s)).0 refl))
    go false e = rw (e, immediate, after) (no_hash {s = b ∷ s} (rw (e, starts)))

no_hash_left : (s : Text) → starts (bytes "#") s ≡ false → immediate reading32 s ≡ None
unfolding immediate starts after bytes
no_hash_left [] e = refl
no_hash_left (b ∷ s) e = go (eqb 35 b) refl
  where
    go : (x : Bool) → eqb 35 b ≡ x → immediate reading32 (b ∷ s) ≡ None
    go true f = absurd (false≢true (sym (rw (f, starts) at e)))
    go false f = rw (f, immediate, after)

long_back : (s : Text) (o : Option (Reading ℕ)) → MeansImmediate Means32 s o → immediate reading32 s ≡ o
unfolding immediate starts after bytes
long_back s o (no_hash e) = no_hash_left s e
long_back s o (hash {t = t} {r = r} e m) = ap (immediate reading32) e ∙ ap Some ((readings_mean.of_32_bits t r).1 m)

long_means : (s : Text) (o : Option (Reading ℕ)) → (immediate reading32 s ≡ o) ↔ MeansImmediate Means32 s o
long_means s o = (λ e. rw e at (long_there s), long_back s o)

has_value : {A : Type 0} (o : Option (Reading A)) (a : A) → bind o value_of ≡ Some a → o ≡ Some (read a)
unfolding bind value_of
has_value None a e = cc
has_value (Some (read b)) a e = let u : b ≡ a = cc in rw u
has_value (Some (failed x)) a e = cc

its_value : {A : Type 0} (o : Option (Reading A)) (a : A) → o ≡ Some (read a) → bind o value_of ≡ Some a
unfolding bind value_of
its_value o a e = rw e

pub immediates_act : ImmediatesAct
unfolding imm8 imm16 imm32
immediates_act =
    record {
      of_32_bits = long_means;
      eight_bits = λ s z. (λ e. (readings_mean.of_immediates_8 s (Some (read z))).0 (has_value (immediate reading8 s) z e), λ m. its_value (immediate reading8 s) z ((readings_mean.of_immediates_8 s (Some (read z))).1 m));
      sixteen_bits = λ s v. (λ e. (readings_mean.of_immediates_16 s (Some (read v))).0 (has_value (immediate reading16 s) v e), λ m. its_value (immediate reading16 s) v ((readings_mean.of_immediates_16 s (Some (read v))).1 m));
      long = λ s v. (λ e. (long_means s (Some (read v))).0 (has_value (immediate reading32 s) v e), λ m. its_value (immediate reading32 s) v ((long_means s (Some (read v))).1 m));
    }
