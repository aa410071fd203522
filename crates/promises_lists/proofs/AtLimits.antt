-- The limits in numerals hold, by the conditions of the calls' refusals. Assumes nothing.
use Prim.Native.Nat.{ℕ, zero, suc, ◌<◌, ◌≤◌}
use mathlib.Core.Path.{◌≡◌, refl, ap}
use mathlib.Core.Logic.{◌↔◌}
use mathlib.Core.Bool.{Bool, true, false, cond}
use mathlib.Core.List.{List, [], ◌∷◌}
use native.Mathlib.Omega.{arith}
use lib.ListN.{length, get_or}
use lib.Dec.{eqb}
use lib.IntN.{ℤ, pos, negsuc, ◌+ℤ◌, nat_abs}
use Rattle.std.specs.Prelude.{Option}
use Rattle.rules.specs.Text.{Text}
use Rattle.rules.specs.Line.{size}
use Rattle.rules.specs.Answer.{Answer, accepted, refused, and_then}
use Rattle.rules.specs.Assemble.{Sizes, Pass, Slices, pass_at_by, assemble_by, assemble_answer}
use Rattle.rules.specs.Relocate.{move_answer}
use Rattle.requests.specs.ManualCall.{manual_size}
use Rattle.requests.specs.ManualAssemble.{assemble_manual, manual_answer}
use Rattle.promises.specs.Stages.{Stage, all, by_line, here, there, ahead, Checked, at_once, after, CheckedBefore, by_stage, within_line, on_line, further_on, FirstOf}
use Rattle.promises.specs.Refusals.{Lowest, line_count, on_top, is_among, distinct, Reached, start, further, TooMany, now, later, OutOfRange, too_low, too_high, source_over, byte_over, lines_over, PassCondition, of_source, base_over, address_over, labels_over, AssembleCondition, of_pass, slice_short, Shorter, marks, BadMark, MoveCondition, distance_over, count_over, mark_wrong, address_out, passing, moving, PassRefusesExactly, AssembleRefusesExactly, MoveRefusesExactly}
use Rattle.promises.specs.ManualRefusals as Manual
use Rattle.promises.specs.ManualRefusals.{ManualCondition, ManualRefusesExactly, ManualAcceptedWrites}
use Rattle.promises.proofs.Compared.{Compared, less, more, equal, compared}
use Rattle.promises.proofs.Stages.{apart, are_apart, none_holds}
use Rattle.promises.proofs.RefusalsSearch.{Found, found, nowhere, lowest_once}
use Rattle.promises.proofs.RefusalsMarks.{marks_found}
use Rattle.promises.proofs.RefusalsLines.{Lines, Either, six, five, either}
use Rattle.promises.proofs.RefusalsAssemble.{pass_known, pass_answered}
use Rattle.promises.proofs.Refusals.{pass_refuses_exactly, assemble_refuses_exactly, move_refuses_exactly, accepted_writes}
use Rattle.promises.proofs.RefusalsMove as Move
use Rattle.promises.specs.Longest.{AtMostTwoALine}
use Rattle.promises.specs.ManualCall.{AtMostThree}
use Rattle.promises.proofs.Longest.{at_most_two_a_line}
use Rattle.promises.proofs.ManualRefusals.{manual_refuses_exactly, manual_accepted_writes}
use Rattle.promises.proofs.ManualMovedLists.{at_most_three}
use Rattle.promises_lists.specs.Numerals.{line_ends, SourceFits, Overrun, Overfull, FirstOverrun, FirstOverfull, SourceLimits, Astray, out_below, out_above, LimitsAreNumbers}

-- ---- numbers and searches
not_more : (m n : ℕ) → ¬ (m < n) → n ≤ m
not_more m n h = go (compared m n)
  where
    go : Compared m n → n ≤ m
    go (less l) = absurd (h l)
    go (more l) = omega arith
    go (equal e) = omega arith

-- a line more than there are ends
counted_ends : (s : Text) → line_count s ≡ suc (line_ends s)
unfolding line_count line_ends
counted_ends [] = refl
counted_ends (b ∷ s) = go (eqb 10 b) refl (counted_ends s)
  where
    go : (y : Bool) → eqb 10 b ≡ y → line_count s ≡ suc (line_ends s)
        → cond (eqb 10 b) (suc (line_count s)) (line_count s) ≡ suc (cond (eqb 10 b) (suc (line_ends s)) (line_ends s))
    go true e h = rw e (ap suc h)
    go false e h = rw e h

-- P holds or does not; where that is known of each index, there is a lowest one or none
data Known (P : Type 0) : Type 0 where
  yes : P → Known P
  no : ¬ P → Known P

data Somewhere (P : ℕ → Type 0) (n : ℕ) : Type 0 where
  first_at : {p : ℕ} → Lowest P n p → Somewhere P n
  never : ((i : ℕ) → i < n → ¬ P i) → Somewhere P n

look : (P : ℕ → Type 0) → ((i : ℕ) → Known (P i)) → (n : ℕ) → Somewhere P n
look P known zero = never (λ i l. absurd (omega arith))
look P known (suc n) = go (look P known n) (known n)
  where
    go : Somewhere P n → Known (P n) → Somewhere P (suc n)
    go (first_at {p} h) k = first_at {p = p} (record { inside = omega (arith, h.inside); holds = h.holds; lowest = h.lowest })
    go (never h) (yes k) = first_at {p = n} (record { inside = omega arith; holds = k; lowest = h })
    go (never h) (no k) = never step
      where
        step : (i : ℕ) → i < suc n → ¬ P i
        step i l v = at (compared i n)
          where
            at : Compared i n → ⊥
            at (less m) = h i m v
            at (more m) = omega arith
            at (equal e) = k (rw e at v)

-- a number of stages of which the first has one number
data Split (m k : ℕ) (ss : List Stage) : Type 0 where
  this : m ≡ k → Split m k ss
  rest : Checked m ss → Split m k ss

split : {m k : ℕ} {ss : List Stage} → Checked m (all k ∷ ss) → Split m k ss
split (at_once (here e)) = this e
split (at_once (there i)) = elim i [ ]
split (after c) = rest c

lines_only : {m : ℕ} → Checked m (by_line (6 ∷ 5 ∷ []) ∷ []) → Lines m
lines_only (at_once i) = i
lines_only (after c) = elim c [ ]

-- ---- different names
-- one more name
among : (m : Text) (ns : List Text) → is_among m ns ≡ true → distinct (m ∷ ns) ≡ distinct ns
unfolding distinct
among m ns e = rw e refl

not_among : (m : Text) (ns : List Text) → is_among m ns ≡ false → distinct (m ∷ ns) ≡ suc (distinct ns)
unfolding distinct
not_among m ns e = rw e refl

-- names on top never make them fewer
grows : (ms ns : List Text) → distinct ns ≤ distinct (on_top ms ns)
unfolding on_top
grows [] ns = omega arith
grows (m ∷ ms) ns = go (is_among m ns) refl (grows ms (m ∷ ns))
  where
    go : (y : Bool) → is_among m ns ≡ y → distinct (m ∷ ns) ≤ distinct (on_top ms (m ∷ ns)) → distinct ns ≤ distinct (on_top ms (m ∷ ns))
    go true e h = let k = among m ns e in omega arith
    go false e h = let k = not_among m ns e in omega arith

-- one too many: then they are more than 256, and the other way round where they were not
many_more : {ms ns : List Text} → TooMany ms ns → 256 < distinct (on_top ms ns)
unfolding on_top
many_more (now {m} {ms} {ns} e h) = let k = not_among m ns e in let l = grows ms (m ∷ ns) in omega (arith, h)
many_more (later v) = many_more v

more_many : (ms ns : List Text) → distinct ns ≤ 256 → 256 < distinct (on_top ms ns) → TooMany ms ns
unfolding on_top
more_many [] ns h k = absurd (omega arith)
more_many (m ∷ ms) ns h k = go (is_among m ns) refl (λ u. more_many ms (m ∷ ns) u k)
  where
    go : (y : Bool) → is_among m ns ≡ y → (distinct (m ∷ ns) ≤ 256 → TooMany ms (m ∷ ns)) → TooMany (m ∷ ms) ns
    go true e f = let u = among m ns e in later (f (omega arith))
    go false e f = at (compared (distinct ns) 256)
      where
        u : distinct (m ∷ ns) ≡ suc (distinct ns)
        u = not_among m ns e

        at : Compared (distinct ns) 256 → TooMany (m ∷ ms) ns
        at (less l) = later (f (omega (arith, u)))
        at (more l) = absurd (omega arith)
        at (equal l) = now e (omega arith)

-- ---- the pass
module _ (z : Sizes) (base : ℕ) (s : Text) where
  abbrev C : ℕ → ℕ → Type 0
  C = PassCondition z base s

  -- how the conditions say it
  one : (q : ℕ) → C 1 q → (32768 < length s) × (q ≡ length s)
  one q (of_source (source_over h)) = (h, refl)

  two : (q : ℕ) → C 2 q → Lowest (λ i. 127 < get_or s i 0) (length s) q
  two q (of_source (byte_over h)) = h

  three : (q : ℕ) → C 3 q → (4096 < suc (line_ends s)) × (q ≡ suc (line_ends s))
  three q (of_source (lines_over h)) = (rw (← counted_ends s) h, counted_ends s)

  four : (q : ℕ) → C 4 q → (1073741824 ≤ base) × (q ≡ 0)
  four q (base_over h) = (h, refl)
  four q (of_source i) = elim i [ ]

  overrun : (q : ℕ) → C 5 q → (j : ℕ) × (q ≡ suc j) × Overrun z base s j
  overrun q (address_over {j} {a} {ns} {l} r e h) = (j, refl, record { address = a; names = ns; line = l; reached = r; is = e; over = h })
  overrun q (of_source i) = elim i [ ]

  overfull : (q : ℕ) → C 6 q → (j : ℕ) × (q ≡ suc j) × Overfull z base s j
  overfull q (labels_over {j} {a} {ns} {l} r e h) = (j, refl, record { address = a; names = ns; line = l; reached = r; is = e; over = many_more h })
  overfull q (of_source i) = elim i [ ]

  -- and how they are said by it
  is_one : 32768 < length s → C 1 (length s)
  is_one h = of_source (source_over h)

  is_two : {p : ℕ} → Lowest (λ i. 127 < get_or s i 0) (length s) p → C 2 p
  is_two h = of_source (byte_over h)

  is_three : 4096 < suc (line_ends s) → C 3 (suc (line_ends s))
  is_three h = rw (← counted_ends s) (of_source (lines_over (rw (counted_ends s) h)))

  is_five : {j : ℕ} → Overrun z base s j → C 5 (suc j)
  is_five o = address_over o.reached o.is o.over

  -- names are at most 256 where no line before is over
  few : {j a : ℕ} {ns : List Text} → Reached z base s j a ns → ((i : ℕ) → i < j → ¬ Overfull z base s i) → distinct ns ≤ 256
  unfolding distinct
  few start h = omega arith
  few (further {j} {a} {ns} {l} r e g) h =
      not_more 256 _ (λ k. h j (omega arith) (record { address = a; names = ns; line = l; reached = r; is = e; over = k }))

  is_six : {j : ℕ} → Overfull z base s j → ((i : ℕ) → i < j → ¬ Overfull z base s i) → C 6 (suc j)
  is_six o h = labels_over o.reached o.is (more_many _ _ (few o.reached h) o.over)

  none_full : (k : ℕ) → ((i : ℕ) → i < k → ¬ C 6 (suc i)) → (i : ℕ) → i < k → ¬ Overfull z base s i
  none_full zero h i l = absurd (omega arith)
  none_full (suc k) h i l = go (compared i k) (none_full k (λ i m. h i (omega arith)))
    where
      go : Compared i k → ((i : ℕ) → i < k → ¬ Overfull z base s i) → ¬ Overfull z base s i
      go (less m) before = before i m
      go (more m) before = absurd (omega arith)
      go (equal e) before = λ o. h k (omega arith) (is_six (rw e at o) before)

  -- a source of which no refusal for itself holds
  no_high : ((q : ℕ) → ¬ C 2 q) → (i : ℕ) → i < length s → get_or s i 0 ≤ 127
  no_high h2 = go (look (λ i. 127 < get_or s i 0) known (length s))
    where
      known : (i : ℕ) → Known (127 < get_or s i 0)
      known i = at (compared 127 (get_or s i 0))
        where
          at : Compared 127 (get_or s i 0) → Known (127 < get_or s i 0)
          at (less l) = yes l
          at (more l) = no (λ h. omega arith)
          at (equal e) = no (λ h. omega arith)

      go : Somewhere (λ i. 127 < get_or s i 0) (length s) → (i : ℕ) → i < length s → get_or s i 0 ≤ 127
      go (first_at {p} h) = absurd (h2 p (is_two h))
      go (never h) = λ i l. not_more 127 (get_or s i 0) (h i l)

  fits : ((q : ℕ) → ¬ C 1 q) → ((q : ℕ) → ¬ C 2 q) → ((q : ℕ) → ¬ C 3 q) → SourceFits s
  fits h1 h2 h3 =
      record {
        bytes = not_more 32768 (length s) (λ h. h1 _ (is_one h));
        ascii = no_high h2;
        lines = not_more 4096 (suc (line_ends s)) (λ h. h3 _ (is_three h));
      }

  -- the pass refuses by the first condition that holds, and none holds where it accepts
  first : (n p : ℕ) → (pass_at_by z base s ≡ refused n p) ↔ FirstOf passing C n p
  unfolding PassRefusesExactly
  first = pass_refuses_exactly z base s

  clear : (a : Pass) → pass_at_by z base s ≡ accepted a → (m q : ℕ) → ¬ C m q
  unfolding apart
  clear a e = none_holds C passing (are_apart passing refl) (pass_known z base s) a (pass_at_by z base s) e (pass_answered z base s)

  settle : (n p : ℕ) → C n p → ((m q : ℕ) → FirstOf passing C m q → (m ≡ n) × (q ≡ p)) → pass_at_by z base s ≡ refused n p
  settle n p c h = go (pass_at_by z base s) refl
    where
      go : (y : Answer Pass) → pass_at_by z base s ≡ y → pass_at_by z base s ≡ refused n p
      go (accepted a) e = absurd (clear a e n p c)
      go (refused m q) e = let k = h m q ((first m q).0 e) in let u = k.0 in let v = k.1 in cc

  -- which conditions are left
  behind_1 : length s ≤ 32768 → (m q : ℕ) → C m q → Checked m (all 2 ∷ all 3 ∷ all 4 ∷ by_line (6 ∷ 5 ∷ []) ∷ [])
  behind_1 h m q c = go (split (pass_known z base s m q c))
    where
      go : Split m 1 (all 2 ∷ all 3 ∷ all 4 ∷ by_line (6 ∷ 5 ∷ []) ∷ []) → Checked m (all 2 ∷ all 3 ∷ all 4 ∷ by_line (6 ∷ 5 ∷ []) ∷ [])
      go (this e) = let k = (one q (rw e at c)).0 in absurd (omega arith)
      go (rest k) = k

  behind_2 : length s ≤ 32768 → ((i : ℕ) → i < length s → get_or s i 0 ≤ 127) → (m q : ℕ) → C m q → Checked m (all 3 ∷ all 4 ∷ by_line (6 ∷ 5 ∷ []) ∷ [])
  behind_2 h g m q c = go (split (behind_1 h m q c))
    where
      go : Split m 2 (all 3 ∷ all 4 ∷ by_line (6 ∷ 5 ∷ []) ∷ []) → Checked m (all 3 ∷ all 4 ∷ by_line (6 ∷ 5 ∷ []) ∷ [])
      go (this e) = let l = two q (rw e at c) in let u = l.holds in let v = g q l.inside in absurd (omega arith)
      go (rest k) = k

  behind_3 : SourceFits s → (m q : ℕ) → C m q → Checked m (all 4 ∷ by_line (6 ∷ 5 ∷ []) ∷ [])
  behind_3 f m q c = go (split (behind_2 f.bytes f.ascii m q c))
    where
      go : Split m 3 (all 4 ∷ by_line (6 ∷ 5 ∷ []) ∷ []) → Checked m (all 4 ∷ by_line (6 ∷ 5 ∷ []) ∷ [])
      go (this e) = let u = (three q (rw e at c)).0 in let v = f.lines in absurd (omega arith)
      go (rest k) = k

  behind_4 : SourceFits s → base < 1073741824 → (m q : ℕ) → C m q → Lines m
  behind_4 f b m q c = go (split (behind_3 f m q c))
    where
      go : Split m 4 (by_line (6 ∷ 5 ∷ []) ∷ []) → Lines m
      go (this e) = let u = (four q (rw e at c)).0 in absurd (omega arith)
      go (rest k) = lines_only k

  -- what stands before what
  before_2 : (q n p : ℕ) → Checked n (all 2 ∷ all 3 ∷ all 4 ∷ by_line (6 ∷ 5 ∷ []) ∷ []) → CheckedBefore 1 q n p passing
  before_2 q n p k = by_stage (here refl) k

  before_3 : (q n p : ℕ) → Checked n (all 3 ∷ all 4 ∷ by_line (6 ∷ 5 ∷ []) ∷ []) → CheckedBefore 2 q n p passing
  before_3 q n p k = further_on (by_stage (here refl) k)

  before_4 : (q n p : ℕ) → Checked n (all 4 ∷ by_line (6 ∷ 5 ∷ []) ∷ []) → CheckedBefore 3 q n p passing
  before_4 q n p k = further_on (further_on (by_stage (here refl) k))

  before_lines : (q n p : ℕ) → Checked n (by_line (6 ∷ 5 ∷ []) ∷ []) → CheckedBefore 4 q n p passing
  before_lines q n p k = further_on (further_on (further_on (by_stage (here refl) k)))

  before_line : (m q n p : ℕ) → Lines m → Lines n → q < p → CheckedBefore m q n p passing
  before_line m q n p i j h = further_on (further_on (further_on (further_on (within_line i j h))))

  on_same : (p : ℕ) → CheckedBefore 6 p 5 p passing
  on_same p = further_on (further_on (further_on (further_on (on_line (ahead refl (here refl)) refl))))

  -- the numbers' stages
  abbrev sixth : Lines 6
  sixth = here refl

  abbrev fifth : Lines 5
  fifth = there (here refl)

  -- from a first condition of 4, 5 or 6
  fits_first : (n p : ℕ) → Checked n (all 4 ∷ by_line (6 ∷ 5 ∷ []) ∷ []) → FirstOf passing C n p → SourceFits s
  fits_first n p k f =
      fits (λ q. f.1 1 q (before_2 q n p (after (after k)))) (λ q. f.1 2 q (before_3 q n p (after k))) (λ q. f.1 3 q (before_4 q n p k))

  low_first : (n p : ℕ) → Lines n → FirstOf passing C n p → base < 1073741824
  low_first n p i f = go (compared base 1073741824)
    where
      no_four : 1073741824 ≤ base → ⊥
      no_four h = f.1 4 0 (before_lines 0 n p (at_once i)) (base_over h)

      go : Compared base 1073741824 → base < 1073741824
      go (less l) = l
      go (more l) = absurd (no_four (omega arith))
      go (equal e) = absurd (no_four (omega arith))

  -- 1
  bytes_exactly : (p : ℕ) → (pass_at_by z base s ≡ refused 1 p) ↔ (32768 < length s) × (p ≡ length s)
  bytes_exactly p = (λ e. one p ((first 1 p).0 e).0, λ h. rw h.1 (settle 1 (length s) (is_one h.0) (only h.0)))
    where
      only : 32768 < length s → (m q : ℕ) → FirstOf passing C m q → (m ≡ 1) × (q ≡ length s)
      only h m q f = go (split (pass_known z base s m q f.0))
        where
          go : Split m 1 (all 2 ∷ all 3 ∷ all 4 ∷ by_line (6 ∷ 5 ∷ []) ∷ []) → (m ≡ 1) × (q ≡ length s)
          go (this e) = (e, (one q (rw e at f.0)).1)
          go (rest k) = absurd (f.1 1 (length s) (before_2 (length s) m q k) (is_one h))

  -- 2
  ascii_exactly : (p : ℕ) → (pass_at_by z base s ≡ refused 2 p) ↔ (length s ≤ 32768) × Lowest (λ i. 127 < get_or s i 0) (length s) p
  ascii_exactly p = (λ e. forth ((first 2 p).0 e), λ h. settle 2 p (is_two h.1) (only h.0 h.1))
    where
      forth : FirstOf passing C 2 p → (length s ≤ 32768) × Lowest (λ i. 127 < get_or s i 0) (length s) p
      forth f = (not_more 32768 (length s) (λ h. f.1 1 _ (before_2 _ 2 p (at_once (here refl))) (is_one h)), two p f.0)

      only : length s ≤ 32768 → Lowest (λ i. 127 < get_or s i 0) (length s) p → (m q : ℕ) → FirstOf passing C m q → (m ≡ 2) × (q ≡ p)
      only h l m q f = go (split (behind_1 h m q f.0))
        where
          go : Split m 2 (all 3 ∷ all 4 ∷ by_line (6 ∷ 5 ∷ []) ∷ []) → (m ≡ 2) × (q ≡ p)
          go (this e) = (e, lowest_once (λ i. 127 < get_or s i 0) (length s) q p (two q (rw e at f.0)) l)
          go (rest k) = absurd (f.1 2 p (before_3 p m q k) (is_two l))

  -- 3
  lines_exactly : (p : ℕ) → (pass_at_by z base s ≡ refused 3 p)
      ↔ (length s ≤ 32768) × ((i : ℕ) → i < length s → get_or s i 0 ≤ 127) × (4096 < suc (line_ends s)) × (p ≡ suc (line_ends s))
  lines_exactly p = (λ e. forth ((first 3 p).0 e), λ h. rw h.3 (settle 3 (suc (line_ends s)) (is_three h.2) (only h.0 h.1 h.2)))
    where
      forth : FirstOf passing C 3 p → (length s ≤ 32768) × ((i : ℕ) → i < length s → get_or s i 0 ≤ 127) × (4096 < suc (line_ends s)) × (p ≡ suc (line_ends s))
      forth f =
          let k = three p f.0 in (
            not_more 32768 (length s) (λ h. f.1 1 _ (before_2 _ 3 p (after (at_once (here refl)))) (is_one h)),
            no_high (λ q. f.1 2 q (before_3 q 3 p (at_once (here refl)))),
            k.0,
            k.1,
          )

      only : length s ≤ 32768 → ((i : ℕ) → i < length s → get_or s i 0 ≤ 127) → 4096 < suc (line_ends s)
          → (m q : ℕ) → FirstOf passing C m q → (m ≡ 3) × (q ≡ suc (line_ends s))
      only h g k m q f = go (split (behind_2 h g m q f.0))
        where
          go : Split m 3 (all 4 ∷ by_line (6 ∷ 5 ∷ []) ∷ []) → (m ≡ 3) × (q ≡ suc (line_ends s))
          go (this e) = (e, (three q (rw e at f.0)).1)
          go (rest l) = absurd (f.1 3 _ (before_4 _ m q l) (is_three k))

  -- 4
  base_exactly : (p : ℕ) → (pass_at_by z base s ≡ refused 4 p) ↔ SourceFits s × (1073741824 ≤ base) × (p ≡ 0)
  base_exactly p = (λ e. forth ((first 4 p).0 e), λ h. rw h.2 (settle 4 0 (base_over h.1) (only h.0 h.1)))
    where
      forth : FirstOf passing C 4 p → SourceFits s × (1073741824 ≤ base) × (p ≡ 0)
      forth f = let k = four p f.0 in (fits_first 4 p (at_once (here refl)) f, k.0, k.1)

      only : SourceFits s → 1073741824 ≤ base → (m q : ℕ) → FirstOf passing C m q → (m ≡ 4) × (q ≡ 0)
      only h b m q f = go (split (behind_3 h m q f.0))
        where
          go : Split m 4 (by_line (6 ∷ 5 ∷ []) ∷ []) → (m ≡ 4) × (q ≡ 0)
          go (this e) = (e, (four q (rw e at f.0)).1)
          go (rest l) = absurd (f.1 4 0 (before_lines 0 m q l) (base_over b))

  -- 5
  address_exactly : (p : ℕ) → (pass_at_by z base s ≡ refused 5 p) ↔ SourceFits s × (base < 1073741824) × FirstOverrun z base s p
  address_exactly p = (λ e. forth ((first 5 p).0 e), λ h. rw h.2.place (settle 5 (suc h.2.index) (is_five h.2.here) (only h.0 h.1 h.2)))
    where
      forth : FirstOf passing C 5 p → SourceFits s × (base < 1073741824) × FirstOverrun z base s p
      forth f =
          let k = overrun p f.0 in (
            fits_first 5 p (after (at_once fifth)) f,
            low_first 5 p fifth f,
            record {
              index = k.0;
              place = k.1;
              here = k.2;
              address = λ i l o. f.1 5 (suc i) (before_line 5 (suc i) 5 p fifth fifth (omega (arith, k.1))) (is_five o);
              names = λ i l. none_full (suc k.0) (none k.0 k.1) i (omega arith);
            },
          )
        where
          none : (j : ℕ) → p ≡ suc j → (i : ℕ) → i < suc j → ¬ C 6 (suc i)
          none j e i l c = go (compared i j)
            where
              go : Compared i j → ⊥
              go (less m) = f.1 6 (suc i) (before_line 6 (suc i) 5 p sixth fifth (omega arith)) c
              go (more m) = omega arith
              go (equal u) = let v : suc i ≡ p = omega arith in f.1 6 p (on_same p) (rw v at c)

      only : SourceFits s → base < 1073741824 → (o : FirstOverrun z base s p) → (m q : ℕ) → FirstOf passing C m q → (m ≡ 5) × (q ≡ suc o.index)
      only h b o m q f = go (either (behind_4 h b m q f.0))
        where
          no_six : (j : ℕ) → q ≡ suc j → Overfull z base s j → Lines m → Compared j o.index → ⊥
          no_six j e v i (less l) = o.names j (omega arith) v
          no_six j e v i (equal l) = o.names j (omega arith) v
          no_six j e v i (more l) = f.1 5 (suc o.index) (before_line 5 (suc o.index) m q fifth i (omega arith)) (is_five o.here)

          is_it : (j : ℕ) → q ≡ suc j → Overrun z base s j → Lines m → Compared j o.index → q ≡ suc o.index
          is_it j e v i (less l) = absurd (o.address j l v)
          is_it j e v i (equal l) = omega arith
          is_it j e v i (more l) = absurd (f.1 5 (suc o.index) (before_line 5 (suc o.index) m q fifth i (omega arith)) (is_five o.here))

          go : Either m → (m ≡ 5) × (q ≡ suc o.index)
          go (six e) =
              let k = overfull q (rw e at f.0) in
              absurd (no_six k.0 k.1 k.2 (behind_4 h b m q f.0) (compared k.0 o.index))
          go (five e) =
              let k = overrun q (rw e at f.0) in
              (e, is_it k.0 k.1 k.2 (behind_4 h b m q f.0) (compared k.0 o.index))

  -- 6
  names_exactly : (p : ℕ) → (pass_at_by z base s ≡ refused 6 p) ↔ SourceFits s × (base < 1073741824) × FirstOverfull z base s p
  names_exactly p = (λ e. forth ((first 6 p).0 e), λ h. rw h.2.place (settle 6 (suc h.2.index) (is_six h.2.here h.2.names) (only h.0 h.1 h.2)))
    where
      forth : FirstOf passing C 6 p → SourceFits s × (base < 1073741824) × FirstOverfull z base s p
      forth f =
          let k = overfull p f.0 in (
            fits_first 6 p (after (at_once sixth)) f,
            low_first 6 p sixth f,
            record {
              index = k.0;
              place = k.1;
              here = k.2;
              address = λ i l o. f.1 5 (suc i) (before_line 5 (suc i) 6 p fifth sixth (omega (arith, k.1))) (is_five o);
              names = none_full k.0 (λ i l c. f.1 6 (suc i) (before_line 6 (suc i) 6 p sixth sixth (omega (arith, k.1))) c);
            },
          )

      only : SourceFits s → base < 1073741824 → (o : FirstOverfull z base s p) → (m q : ℕ) → FirstOf passing C m q → (m ≡ 6) × (q ≡ suc o.index)
      only h b o m q f = go (either (behind_4 h b m q f.0))
        where
          c : C 6 (suc o.index)
          c = is_six o.here o.names

          no_five : (j : ℕ) → q ≡ suc j → Overrun z base s j → m ≡ 5 → Compared j o.index → ⊥
          no_five j e v u (less l) = o.address j l v
          no_five j e v u (equal l) =
              let w : suc o.index ≡ q = omega arith in
              f.1 6 q (rw u (on_same q)) (rw w at c)
          no_five j e v u (more l) = f.1 6 (suc o.index) (before_line 6 (suc o.index) m q sixth (rw u fifth) (omega arith)) c

          is_it : (j : ℕ) → q ≡ suc j → Overfull z base s j → Lines m → Compared j o.index → q ≡ suc o.index
          is_it j e v i (less l) = absurd (o.names j l v)
          is_it j e v i (equal l) = omega arith
          is_it j e v i (more l) = absurd (f.1 6 (suc o.index) (before_line 6 (suc o.index) m q sixth i (omega arith)) c)

          go : Either m → (m ≡ 6) × (q ≡ suc o.index)
          go (six e) =
              let k = overfull q (rw e at f.0) in
              (e, is_it k.0 k.1 k.2 (behind_4 h b m q f.0) (compared k.0 o.index))
          go (five e) =
              let k = overrun q (rw e at f.0) in
              absurd (no_five k.0 k.1 k.2 e (compared k.0 o.index))

  -- where no condition holds
  within : ((m q : ℕ) → ¬ C m q) → SourceFits s × (base < 1073741824) × ((j : ℕ) → (¬ Overrun z base s j) × (¬ Overfull z base s j))
  within h = (
    fits (h 1) (h 2) (h 3),
    low (compared base 1073741824),
    λ j. (λ o. h 5 (suc j) (is_five o), none_full (suc j) (λ i l. h 6 (suc i)) j (omega arith)),
  )
    where
      low : Compared base 1073741824 → base < 1073741824
      low (less l) = l
      low (more l) = absurd (h 4 0 (base_over (omega arith)))
      low (equal e) = absurd (h 4 0 (base_over (omega arith)))

  pass_limits : SourceLimits z base s (pass_at_by z base s)
  pass_limits =
      record {
        bytes = bytes_exactly;
        ascii = ascii_exactly;
        lines = lines_exactly;
        at_base = base_exactly;
        address = address_exactly;
        names = names_exactly;
        within = λ a e. within (clear a e);
      }

  -- a call that goes on from the pass: it refuses as the pass does, by 1 to 6 only where a condition holds, and accepts only where none does
  module _ {B : Type 0} (r : Answer B) (follows : (n p : ℕ) → pass_at_by z base s ≡ refused n p → r ≡ refused n p)
      (late : (n p : ℕ) → n ≤ 6 → r ≡ refused n p → C n p) (none : (b : B) → r ≡ accepted b → (m q : ℕ) → ¬ C m q) where
    alike : (n p : ℕ) → n ≤ 6 → (r ≡ refused n p) ↔ (pass_at_by z base s ≡ refused n p)
    alike n p h = (λ e. go (pass_at_by z base s) refl e, follows n p)
      where
        go : (y : Answer Pass) → pass_at_by z base s ≡ y → r ≡ refused n p → pass_at_by z base s ≡ refused n p
        go (accepted a) f e = absurd (clear a f n p (late n p h e))
        go (refused m q) f e = let g = follows m q f in cc

    by_pass : (n p : ℕ) → n ≤ 6 → {X : Type 0} → (pass_at_by z base s ≡ refused n p) ↔ X → (r ≡ refused n p) ↔ X
    by_pass n p h k = let a = alike n p h in (λ e. k.0 (a.0 e), λ x. a.1 (k.1 x))

    call_limits : SourceLimits z base s r
    call_limits =
        record {
          bytes = λ p. by_pass 1 p (omega arith) (bytes_exactly p);
          ascii = λ p. by_pass 2 p (omega arith) (ascii_exactly p);
          lines = λ p. by_pass 3 p (omega arith) (lines_exactly p);
          at_base = λ p. by_pass 4 p (omega arith) (base_exactly p);
          address = λ p. by_pass 5 p (omega arith) (address_exactly p);
          names = λ p. by_pass 6 p (omega arith) (names_exactly p);
          within = λ b e. within (none b e);
        }

-- the script's call
assembling_limits : (base : ℕ) (s : Text) (x : Slices) → SourceLimits size base s (assemble_answer base s x)
unfolding assemble_answer assemble_by and_then AssembleRefusesExactly
assembling_limits base s x = call_limits size base s (assemble_answer base s x) follows late none
  where
    follows : (n p : ℕ) → pass_at_by size base s ≡ refused n p → assemble_answer base s x ≡ refused n p
    follows n p e = rw e refl

    of : (n p : ℕ) → n ≤ 6 → AssembleCondition base s x n p → PassCondition size base s n p
    of n p h (of_pass c) = c
    of n p h (slice_short e k) = absurd (omega arith)

    late : (n p : ℕ) → n ≤ 6 → assemble_answer base s x ≡ refused n p → PassCondition size base s n p
    late n p h e = of n p h ((assemble_refuses_exactly base s x n p).0 e).0

    none : (n : ℕ) → assemble_answer base s x ≡ accepted n → (m q : ℕ) → ¬ PassCondition size base s m q
    none n e m q c = (accepted_writes.assembling base s x n e).clear m q (of_pass c)

-- the manual's call
manual_limits : (base : ℕ) (s : Text) (x : Slices) → SourceLimits manual_size base s (manual_answer base s x)
unfolding manual_answer assemble_manual and_then ManualRefusesExactly ManualAcceptedWrites
manual_limits base s x = call_limits manual_size base s (manual_answer base s x) follows late none
  where
    follows : (n p : ℕ) → pass_at_by manual_size base s ≡ refused n p → manual_answer base s x ≡ refused n p
    follows n p e = rw e refl

    of : (n p : ℕ) → n ≤ 6 → ManualCondition base s x n p → PassCondition manual_size base s n p
    of n p h (Manual.of_pass c) = c
    of n p h (Manual.unencoded i k) = absurd (omega arith)
    of n p h (Manual.far i k) = absurd (omega arith)
    of n p h (Manual.slice_short e k) = absurd (omega arith)

    late : (n p : ℕ) → n ≤ 6 → manual_answer base s x ≡ refused n p → PassCondition manual_size base s n p
    late n p h e = of n p h ((manual_refuses_exactly base s x n p).0 e).0

    none : (n : ℕ) → manual_answer base s x ≡ accepted n → (m q : ℕ) → ¬ PassCondition manual_size base s m q
    none n e m q c = (manual_accepted_writes base s x n e).clear m q (Manual.of_pass c)

-- ---- a move
to_astray : {z : ℤ} → OutOfRange z → Astray z
to_astray too_low = out_below
to_astray (too_high h) = out_above h

from_astray : {z : ℤ} → Astray z → OutOfRange z
from_astray out_below = too_low
from_astray (out_above h) = too_high h

is_astray : (z : ℤ) → Known (Astray z)
is_astray (negsuc n) = yes out_below
is_astray (pos n) = go (compared 1073741825 n)
  where
    at_most : n ≤ 1073741825 → Astray (pos n) → ⊥
    at_most h (out_above k) = omega arith

    go : Compared 1073741825 n → Known (Astray (pos n))
    go (less l) = yes (out_above l)
    go (more l) = no (at_most (omega arith))
    go (equal e) = no (at_most (omega arith))

module _ (x : Slices) (count : ℕ) (d : ℤ) where
  abbrev M : ℕ → ℕ → Type 0
  M = MoveCondition x count d

  abbrev Lost : ℕ → Type 0
  Lost i = Astray (pos (get_or x.addresses i 0) +ℤ d)

  eight : (q : ℕ) → M 8 q → (1073741823 < nat_abs d) × (q ≡ 0)
  eight q (distance_over h) = (h, refl)

  ten : (q : ℕ) → M 10 q → Lowest (BadMark x.marks count) count q
  ten q (mark_wrong h) = h

  nine : (q : ℕ) → M 9 q → Shorter x count
  nine q (count_over h) = h

  eleven : (q : ℕ) → M 11 q → Lowest Lost count q
  eleven q (address_out h) = record { inside = h.inside; holds = to_astray h.holds; lowest = λ i l a. h.lowest i l (from_astray a) }

  is_eight : 1073741823 < nat_abs d → M 8 0
  is_eight h = distance_over h

  is_eleven : {q : ℕ} → Lowest Lost count q → M 11 q
  is_eleven h = address_out (record { inside = h.inside; holds = from_astray h.holds; lowest = λ i l a. h.lowest i l (to_astray a) })

  first_move : (n p : ℕ) → (move_answer x count d ≡ refused n p) ↔ FirstOf moving M n p
  unfolding MoveRefusesExactly
  first_move = move_refuses_exactly x count d

  settle_move : (n p : ℕ) → M n p → ((m q : ℕ) → FirstOf moving M m q → (m ≡ n) × (q ≡ p)) → move_answer x count d ≡ refused n p
  settle_move n p c h = go (move_answer x count d) refl
    where
      go : (y : Answer ℕ) → move_answer x count d ≡ y → move_answer x count d ≡ refused n p
      go (accepted a) e = absurd ((accepted_writes.moving x count d a e).clear n p c)
      go (refused m q) e = let k = h m q ((first_move m q).0 e) in let u = k.0 in let v = k.1 in cc

  distance_exactly : (p : ℕ) → (move_answer x count d ≡ refused 8 p) ↔ (1073741823 < nat_abs d) × (p ≡ 0)
  distance_exactly p = (λ e. eight p ((first_move 8 p).0 e).0, λ h. rw h.1 (settle_move 8 0 (is_eight h.0) (only h.0)))
    where
      only : 1073741823 < nat_abs d → (m q : ℕ) → FirstOf moving M m q → (m ≡ 8) × (q ≡ 0)
      only h m q f = go (split (Move.known x count d m q f.0))
        where
          go : Split m 8 (all 9 ∷ all 10 ∷ all 11 ∷ []) → (m ≡ 8) × (q ≡ 0)
          go (this e) = (e, (eight q (rw e at f.0)).1)
          go (rest k) = absurd (f.1 8 0 (by_stage (here refl) k) (is_eight h))

  -- no mark is bad where no condition says so
  no_bad : ¬ Shorter x count → ((q : ℕ) → ¬ M 10 q) → (i : ℕ) → i < count → ¬ BadMark x.marks count i
  no_bad h k = go (marks_found x.marks count (not_more (length x.marks) count (λ l. h (marks l))))
    where
      go : {o : Option ℕ} → Found (BadMark x.marks count) count o → (i : ℕ) → i < count → ¬ BadMark x.marks count i
      go (found {p} l) = absurd (k p (mark_wrong l))
      go (nowhere l) = l

  address_out_exactly : (p : ℕ) → (move_answer x count d ≡ refused 11 p)
      ↔ (nat_abs d ≤ 1073741823) × (¬ Shorter x count) × ((i : ℕ) → i < count → ¬ BadMark x.marks count i) × Lowest Lost count p
  address_out_exactly p = (λ e. forth ((first_move 11 p).0 e), λ h. settle_move 11 p (is_eleven h.3) (only h.0 h.1 h.2 h.3))
    where
      forth : FirstOf moving M 11 p → (nat_abs d ≤ 1073741823) × (¬ Shorter x count) × ((i : ℕ) → i < count → ¬ BadMark x.marks count i) × Lowest Lost count p
      forth f =
          let long : ¬ Shorter x count = λ s. f.1 9 count (further_on (by_stage (here refl) (after (at_once (here refl))))) (count_over s) in (
            not_more 1073741823 (nat_abs d) (λ h. f.1 8 0 (by_stage (here refl) (after (after (at_once (here refl))))) (is_eight h)),
            long,
            no_bad long (λ q. f.1 10 q (further_on (further_on (by_stage (here refl) (at_once (here refl)))))),
            eleven p f.0,
          )

      only : nat_abs d ≤ 1073741823 → ¬ Shorter x count → ((i : ℕ) → i < count → ¬ BadMark x.marks count i) → Lowest Lost count p
          → (m q : ℕ) → FirstOf moving M m q → (m ≡ 11) × (q ≡ p)
      only h8 h9 h10 h11 m q f = from_8 (split (Move.known x count d m q f.0))
        where
          from_11 : Split m 11 [] → (m ≡ 11) × (q ≡ p)
          from_11 (this e) = (e, lowest_once Lost count q p (eleven q (rw e at f.0)) h11)
          from_11 (rest k) = elim k [ ]

          from_10 : Split m 10 (all 11 ∷ []) → (m ≡ 11) × (q ≡ p)
          from_10 (this e) = let l = ten q (rw e at f.0) in absurd (h10 q l.inside l.holds)
          from_10 (rest k) = from_11 (split k)

          from_9 : Split m 9 (all 10 ∷ all 11 ∷ []) → (m ≡ 11) × (q ≡ p)
          from_9 (this e) = absurd (h9 (nine q (rw e at f.0)))
          from_9 (rest k) = from_10 (split k)

          from_8 : Split m 8 (all 9 ∷ all 10 ∷ all 11 ∷ []) → (m ≡ 11) × (q ≡ p)
          from_8 (this e) = let l = (eight q (rw e at f.0)).0 in absurd (omega arith)
          from_8 (rest k) = from_9 (split k)

  move_within : (n : ℕ) → move_answer x count d ≡ accepted n → (nat_abs d ≤ 1073741823) × ((i : ℕ) → i < count → ¬ Lost i)
  move_within n e = (
    not_more 1073741823 (nat_abs d) (λ h. (accepted_writes.moving x count d n e).clear 8 0 (is_eight h)),
    go (look Lost (λ i. is_astray (pos (get_or x.addresses i 0) +ℤ d)) count),
  )
    where
      go : Somewhere Lost count → (i : ℕ) → i < count → ¬ Lost i
      go (first_at {p} l) = absurd ((accepted_writes.moving x count d n e).clear 11 p (is_eleven l))
      go (never l) = l

pub limits_are_numbers : LimitsAreNumbers
unfolding AtMostTwoALine AtMostThree
limits_are_numbers =
    record {
      passing = pass_limits;
      assembling = assembling_limits;
      manual = manual_limits;
      moving = λ x count d. record { distance = distance_exactly x count d; address = address_out_exactly x count d; within = move_within x count d };
      places = λ base s l e. (at_most_two_a_line s base l e).1;
      manual_places = λ base s l e. (at_most_three s base l e).1;
    }
