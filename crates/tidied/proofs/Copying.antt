-- What a line adds to the copy, and what the loop of `write_lines` keeps. Assumes nothing.
use Rattle.std.specs.Prelude.{Option, None, Some}
use mathlib.Core.Path.{◌≡◌, refl, sym, ap, ◌∙◌}
use mathlib.Core.Bool.{Bool, true, false}
use mathlib.Core.List.{List, [], ◌∷◌, ◌++◌, append-nil, append_assoc}
use Prim.Native.Nat.{ℕ, zero, suc, ◌+◌, ◌-◌, ◌≤◌, ◌<◌}
use native.Mathlib.Numerals.{add-one}
use native.Mathlib.Omega.{arith}
use borrow.Author.Tests.{eqb-true, eqb-false}
use lib.Dec.{eqb}
use lib.ListN.{length, take, drop, get_or, length-append, drop_of_length-le}
use lib.Seq.{drop-drop, drop-cons, length-take-le}
use Rattle.rules.specs.Text.{Text, leading, trim, cut_where, cut_at, other_texts}
use Rattle.rules.specs.Line.{Task, Line as Said, line_of}
use Rattle.rules.specs.Assemble.{is_end}
use Rattle.text.specs.Pieces.{until}
use Rattle.text.proofs.Until.{until_later, until_le, until_rest, cut_here, cut_first}
use Rattle.text.proofs.Trim.{leading_trim, trim_le}
use Rattle.outline.specs.Lines.{line_end, line_from}
use Rattle.outline.proofs.Lines.{line_end_le}
use Rattle.line.specs.Line.{task_at, ReadLineGives}
use Rattle.line.specs.declared.Line.{Line}
use Rattle.requests.specs.Tidy.{squeezed, around_colon, tidy_rest, tidy_lines, part_more, parted, tidy}
use Rattle.promises.specs.Tidy.{Kind, skip, kind_of}
use Rattle.tidylaws.proofs.Neat.{some_squeezed}
use Rattle.tidylaws.proofs.Short.{squeezed_le, open_le}
use Rattle.tidylaws.proofs.Shapes.{open_of, Fits, fits_skip, fits_end, fits_org, fits_no_org, fits_label, fits_code, fits_value, fits_space, line_fits, copy_by, copy_by_lem, before_by, lines_more}
use Rattle.tidylaws.proofs.Reading.{some_open}
use Rattle.tidied.specs.declared.Way.{Way}
use Rattle.tidied.specs.declared.Way.TheVariants.{Squeezed, Parted as InParts}
use Rattle.listing.specs.declared.writer.Writer.{Writer}
use Rattle.listing.specs.Writer.{Adds}
use Rattle.listing.proofs.Adding.{adds_none, adds_as, adds_both}
use Rattle.tidied.specs.Copy.{way_of, line_break, copy_text, addition}

-- no break is put where nothing is written
pub break_none : (w : Writer) → w.len ≡ 0 → Adds (line_break w.len) w w
break_none w e = adds_as (adds_none w (rw e (omega arith))) (sym (ap line_break e))

-- no line adds more than itself and a break
copy_le : (w : Way) (s : Text) → length (copy_text w s) ≤ length s
copy_le InParts s = open_le (open_of s)
copy_le Squeezed s = squeezed_le s

addition_le : (o : Option Way) (n : ℕ) (s : Text) → length (addition o n s) ≤ length (line_break n) + length s
addition_le (Some w) n s = rw (length-append (line_break n) (copy_text w s)) (omega (arith, copy_le w s))
addition_le None n s = omega arith

-- ---- what is still to come after n bytes
unfoldable pub rest : ℕ → List Text → Text
rest zero ls = parted ls
rest (suc n) ls = part_more ls

rest_none : (n : ℕ) → rest n [] ≡ []
unfolding rest parted part_more
rest_none zero = refl
rest_none (suc n) = refl

rest_next : (n : ℕ) (t : Text) (ts : List Text) → rest n (t ∷ ts) ≡ (line_break n ++ t) ++ part_more ts
unfolding rest parted part_more
rest_next zero t ts = refl
rest_next (suc n) t ts = refl

rest_some : (n : ℕ) (ts : List Text) → 0 < n → rest n ts ≡ part_more ts
unfolding rest
rest_some zero ts h = absurd (omega arith)
rest_some (suc n) ts h = refl

-- a line that is kept and not the last one
rest_kept : (n : ℕ) (t : Text) (ts : List Text) → 0 < length t → rest n (t ∷ ts) ≡ (line_break n ++ t) ++ rest (n + length (line_break n ++ t)) ts
rest_kept n t ts h = rest_next n t ts ∙ rw (rest_some (n + length (line_break n ++ t)) ts (rw (length-append (line_break n) t) (omega arith)))

-- what follows a line: nothing after the last
unfoldable pub after : Bool → ℕ → List Text → Text
after true m ts = []
after false m ts = rest m ts

-- a line that is kept has a byte
some_kind : (s : Text) → (kind_of s ≡ skip → ⊥) → 0 < length s
unfolding kind_of
some_kind [] d = absurd (d refl)
some_kind (b ∷ s) d = omega arith

-- by the task, which fits the kind
step_by : (n : ℕ) (s : Text) (ts : List Text) → leading s ≡ 0 → {q : Kind} {k : Task} → kind_of s ≡ q → Fits q k
    → rest n (before_by q (copy_by q s) ts) ≡ addition (way_of k) n s ++ after (is_end k) (n + length (addition (way_of k) n s)) ts
unfolding before_by copy_by way_of is_end after part_more
step_by n s ts z e fits_skip = let m : n + 0 ≡ n = omega arith in rw m
step_by n s ts z e fits_end = rest_next n (squeezed s) []
step_by n s ts z e fits_org = rest_kept n (squeezed s) ts (some_squeezed s z (some_kind s (λ f. let y : ◌≡◌ {A = ℕ} 0 1 = cc in omega arith)))
step_by n s ts z e fits_no_org = rest_kept n (squeezed s) ts (some_squeezed s z (some_kind s (λ f. let y : ◌≡◌ {A = ℕ} 0 1 = cc in omega arith)))
step_by n s ts z e fits_label = rest_kept n (around_colon tidy_rest s) ts (some_open (open_of s) z (some_kind s (λ f. let y : ◌≡◌ {A = ℕ} 0 1 = cc in omega arith)))
step_by n s ts z e fits_code = rest_kept n (around_colon tidy_rest s) ts (some_open (open_of s) z (some_kind s (λ f. let y : ◌≡◌ {A = ℕ} 0 1 = cc in omega arith)))
step_by n s ts z e fits_value = rest_kept n (around_colon tidy_rest s) ts (some_open (open_of s) z (some_kind s (λ f. let y : ◌≡◌ {A = ℕ} 0 1 = cc in omega arith)))
step_by n s ts z e fits_space = rest_kept n (around_colon tidy_rest s) ts (some_open (open_of s) z (some_kind s (λ f. let y : ◌≡◌ {A = ℕ} 0 1 = cc in omega arith)))

step_line : (n : ℕ) (l : Text) (ls : List Text) (k : Task) → k ≡ (line_of l).task
    → rest n (tidy_lines (l ∷ ls)) ≡ addition (way_of k) n (trim l) ++ after (is_end k) (n + length (addition (way_of k) n (trim l))) (tidy_lines ls)
step_line n l ls k e = rw (lines_more l ls, copy_by_lem l, e) (step_by n (trim l) (tidy_lines ls) (leading_trim l) refl (line_fits l))

-- ---- lines by position
-- a byte that nothing stands before passes the test
stands : (b : ℕ) (s : Text) → until (eqb 10) (b ∷ s) ≡ 0 → eqb 10 b ≡ true
stands b s z = go (eqb 10 b) refl
  where
    go : (y : Bool) → eqb 10 b ≡ y → eqb 10 b ≡ true
    go true e = e
    go false e = absurd (omega (arith, until_later (eqb 10) b s e))

module _ (t : Text) (i : ℕ) (l : i ≤ length t) where
  cut_line : cut_at 10 (drop i t) ≡ line_from t i ∷ other_texts (cut_where (eqb 10) (drop (line_end t i) t))
  unfolding cut_at
  cut_line = cut_first (eqb 10) (drop i t) ∙ rw (drop-drop (until (eqb 10) (drop i t)) i t)

  last_line : line_end t i ≡ length t → cut_at 10 (drop i t) ≡ line_from t i ∷ []
  unfolding cut_where other_texts
  last_line h = let g : length t ≤ line_end t i = omega arith in cut_line ∙ rw (drop_of_length-le t g)

  next_line : (line_end t i ≡ length t → ⊥) → cut_at 10 (drop i t) ≡ line_from t i ∷ cut_at 10 (drop (line_end t i + 1) t)
  unfolding cut_at other_texts
  next_line d =
      let h : line_end t i < length t = omega (arith, line_end_le t i l) in
      let z : until (eqb 10) (drop (line_end t i) t) ≡ 0 = rw (drop-drop (until (eqb 10) (drop i t)) i t) at (until_rest (eqb 10) (drop i t)) in
      let b : eqb 10 (get_or t (line_end t i) 0) ≡ true = stands (get_or t (line_end t i) 0) (drop (suc (line_end t i)) t) (rw (drop-cons t (line_end t i) 0 h) at z) in
      cut_line ∙ rw (drop-cons t (line_end t i) 0 h, cut_here (eqb 10) (get_or t (line_end t i) 0) (drop (suc (line_end t i)) t) b, add-one (line_end t i))

-- ---- the loop of `write_lines`
-- by the writer v, which was w at first, before the line that starts at i: so far the copy is not longer than the source, and what is
-- still to come
pub record Copying (source : Text) (w : Writer) (i : ℕ) (v : Writer) : Type 0 where
  pub upto : i ≤ length source
  pub room : length source ≤ length w.out.now
  pub behind : v.len + length (line_break v.len) ≤ i
  pub done : Text
  pub adds : Adds done w v
  pub left : done ++ rest v.len (tidy_lines (cut_at 10 (drop i source))) ≡ tidy source

pub copying_start : (source : Text) (w : Writer) → w.len ≡ 0 → length source ≤ length w.out.now → Copying source w 0 w
unfolding tidy rest
copying_start source w z h = record { upto = omega arith; room = h; behind = rw z (omega arith); done = []; adds = adds_none w (omega arith); left = rw z }

break_le : (m : ℕ) → length (line_break m) ≤ 1
break_le zero = omega arith
break_le (suc m) = omega arith

-- the line at i, which ends at e: its text s, what it says, and the way that it is copied
module _ {source : Text} {w : Writer} {i : ℕ} {v : Writer} (o : Copying source w i v)
    {e : ℕ} (q : e ≡ line_end source i) {r : Line} (g : ReadLineGives source i r) {s : Text} (p : s ≡ trim (take (e - i) (drop i source)))
    {x : Option Way} (f : x ≡ way_of (task_at source r.task)) where
  pub copying_within : (i ≤ e) × (e ≤ length source)
  copying_within = (omega arith, omega (arith, line_end_le source i o.upto))

  abbrev line : Text
  line = line_from source i

  abbrev k : Task
  k = task_at source r.task

  s_is : s ≡ trim line
  s_is = let z : e - i ≡ until (eqb 10) (drop i source) = omega arith in p ∙ rw z

  s_le : length s ≤ e - i
  s_le = omega (arith, ap length s_is, trim_le line, length-take-le (until (eqb 10) (drop i source)) (drop i source) (until_le (eqb 10) (drop i source)))

  task_is : k ≡ (line_of line).task
  task_is = ap (λ (l : Said). l.task) g.says

  pub adding_room : v.len + length (line_break v.len) + length s ≤ length v.out.now
  adding_room = omega (arith, o.behind, o.adds.room, o.room, s_le, copying_within)

  -- the lines after this one
  later : List Text → Text
  later ls = after (is_end k) (v.len + length (addition x v.len s)) (tidy_lines ls)

  split : (ls : List Text) → rest v.len (tidy_lines (line ∷ ls)) ≡ addition x v.len s ++ later ls
  unfolding later
  split ls = step_line v.len line ls k task_is ∙ rw (f, s_is)

  split_last : e ≡ length source → rest v.len (tidy_lines (cut_at 10 (drop i source))) ≡ addition x v.len s ++ later []
  split_last h = rw (last_line source i o.upto (sym q ∙ h)) (split [])

  split_next : (e ≡ length source → ⊥) → rest v.len (tidy_lines (cut_at 10 (drop i source))) ≡ addition x v.len s ++ later (cut_at 10 (drop (e + 1) source))
  split_next d =
      let c : cut_at 10 (drop i source) ≡ line ∷ cut_at 10 (drop (e + 1) source) = rw q (next_line source i o.upto (λ z. d (q ∙ z))) in
      rw c (split (cut_at 10 (drop (e + 1) source)))

  module _ {u : Writer} (a : Adds (addition x v.len s) v u) where
    so_far : Adds (o.done ++ addition x v.len s) w u
    so_far = adds_both o.adds a

    -- with nothing after this line the copy is written
    finished : {y : Text} → rest v.len (tidy_lines (cut_at 10 (drop i source))) ≡ addition x v.len s ++ y → y ≡ [] → Adds (tidy source) w u
    finished {y} h z = adds_as so_far (sym (sym o.left ∙ rw (h, z, append-nil (addition x v.len s))))

    pub copying_end : e ≡ length source → Adds (tidy source) w u
    unfolding later after tidy_lines
    copying_end h = finished (split_last h) (go (is_end k))
      where
        go : (y : Bool) → after y (v.len + length (addition x v.len s)) [] ≡ []
        go true = refl
        go false = rest_none (v.len + length (addition x v.len s))

    module _ {b : Bool} (m : b ≡ is_end k) where
      pub copying_last : b ≡ true → Adds (tidy source) w u
      unfolding later after
      copying_last t = go (eqb e (length source)) refl
        where
          nothing : (ls : List Text) → later ls ≡ []
          nothing ls = rw (sym m ∙ t)

          go : (y : Bool) → eqb e (length source) ≡ y → Adds (tidy source) w u
          go true z = copying_end (eqb-true e (length source) z)
          go false z = finished (split_next (eqb-false e (length source) z)) (nothing (cut_at 10 (drop (e + 1) source)))

      module _ (t : b ≡ false) (d : e ≡ length source → ⊥) where
        pub copying_more : Copying source w (e + 1) u
        unfolding later after
        copying_more =
            record {
              upto = omega (arith, copying_within);
              room = o.room;
              behind = omega (arith, a.len, addition_le x v.len s, s_le, o.behind, break_le u.len, copying_within);
              done = o.done ++ addition x v.len s;
              adds = so_far;
              left = append_assoc o.done (addition x v.len s) _ ∙ (rw (split_next d, ← m, t, ← a.len) at o.left);
            }

        pub copying_less : length source - (e + 1) < length source - i
        copying_less = omega (arith, copying_within)
