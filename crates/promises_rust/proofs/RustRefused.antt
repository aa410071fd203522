-- At base 0 the rules refuse by the first line at which the Rust's own state is past a limit, or by none. Assumes nothing.
use Rattle.std.specs.Prelude.{Option, None, Some, slice_get}
use Prim.Native.Nat.{ℕ, suc, ◌+◌, ◌≤◌, ◌<◌}
use mathlib.Core.Path.{◌≡◌, refl, ap, ◌∙◌}
use mathlib.Core.Logic.{◌≢◌}
use mathlib.Core.List.{List, [], ◌∷◌}
use native.Mathlib.Omega.{arith}
use lib.ListN.{length, get_or, drop}
use borrow.Author.Tests.{ltb-false}
use Rattle.rules.specs.Limits.{max_source, max_lines, max_labels, address_limit}
use Rattle.rules.specs.Text.{Text, cut_at}
use Rattle.rules.specs.Line.{SourceLine, numbered, lines_of, end, line_of, size}
use Rattle.rules.specs.Label.{Table, record_all}
use Rattle.rules.specs.Encode.{encode}
use Rattle.rules.specs.Answer.{Answer, accepted, refused, refuse_if}
use Rattle.rules.specs.Assemble.{address_after, first_pass_by, first_high, pass_at_by, pass_at, encoded, assemble_by, assemble, Place}
use Rattle.promises.specs.Stages.{Checked, RefusesExactly}
use Rattle.promises.specs.Refusals.{SourceCondition, source_over, byte_over, lines_over, checking}
use Rattle.promises_rust.specs.RustStr.{split}
use Rattle.promises_rust.specs.RustAssembler.{State, continue, break, body}
use Rattle.promises_rust.specs.RustLists.{perform_task, insert_all, perform, initial, Looped, begun, further, keys, WithinLimits, WithinIsAccepted, AcceptedIsWithin, RustCondition, of_source, address_over, labels_over, at_zero, RefusedByTheRust, ListIsTheRusts}
use Rattle.promises.proofs.Compared.{clash, Compared, less, more, equal, compared}
use Rattle.promises.proofs.Stages.{is_checked, not_checked, checked_by, apart, are_apart, Runs, done, and_then_lem, refuses_exactly, none_holds}
use Rattle.promises.proofs.RefusalsLines.{line_at, no_line, Lines, Either, six, five, either, Fine, fine_next, Through, stop_labels, stop_address, clear, putting_through, From}
use Rattle.promises.proofs.RefusalsAssemble.{checks_run, counted, high_found}
use Rattle.promises.proofs.RefusalsSearch.{Found, found, nowhere}
use Rattle.promises.proofs.Accepted.{accepts}
use Rattle.promises.proofs.Tasks.{pass_line}
use Rattle.promises_rust.proofs.RustText.{split_is}
use Rattle.promises_rust.proofs.RustValue.{task_low}
use Rattle.promises_rust.proofs.RustLine.{Done, AllDone, next, all_done}
use Rattle.promises_rust.proofs.RustPlain.{all_plain, not_end}
use Rattle.promises_rust.proofs.RustPass.{Performed, performed}
use Rattle.promises_rust.proofs.RustLabels.{Level, Inserted, overflow, fits, inserted}
use Rattle.promises_rust.proofs.RustLists.{empty_agrees, list_is_the_rusts}

module _ (s : Text) (lines : List Text) where
  abbrev C : ℕ → ℕ → Type 0
  C = RustCondition s lines

  abbrev IsLine : ℕ → Text → Type 0
  IsLine j l = slice_get lines j ≡ Some l

  -- the loop's state after j lines is one
  loop_once : {j : ℕ} {st su : State} → Looped lines j st → Looped lines j su → st ≡ su
  loop_once begun begun = refl
  loop_once (further {l = k} r e f) (further {l = l} q g h) =
      let same = loop_once r q in
      let w : k ≡ l = cc in
      cc

  -- 5 and 6 at a line after which the state is known
  address_at : {j : ℕ} {st : State} → Looped lines (suc j) st → C 5 (suc j) → address_limit ≤ st.current_address
  address_at r (address_over q h) = rw (loop_once r q) h
  address_at r (of_source i) = elim i [ ]

  labels_at : {j : ℕ} {st : State} → Looped lines (suc j) st → C 6 (suc j) → max_labels < keys st.labels
  labels_at r (labels_over q h) = rw (loop_once r q) h
  labels_at r (of_source i) = elim i [ ]

  -- 5 or 6 is at a line that the loop has gone through
  record AtLine (p : ℕ) : Type 0 where
    state : State
    looped : Looped lines p state

  at_address : {p : ℕ} → C 5 p → AtLine p
  at_address (address_over {st = st} r h) = record { state = st; looped = r }
  at_address (of_source i) = elim i [ ]

  at_labels : {p : ℕ} → C 6 p → AtLine p
  at_labels (labels_over {st = st} r h) = record { state = st; looped = r }
  at_labels (of_source i) = elim i [ ]

  at_line : (m p : ℕ) → Lines m → C m p → AtLine p
  at_line m p i c = go (either i)
    where
      go : Either m → AtLine p
      go (six e) = at_labels (rw e at c)
      go (five e) = at_address (rw e at c)

  -- the lines are over after j of them, or the loop breaks off at the line after them
  over : {k : ℕ} {su : State} (j : ℕ) → drop j lines ≡ [] → Looped lines k su → k ≤ j
  over j e begun = omega arith
  over j e (further {j = k} {l = l} r f g) = go (compared k j)
    where
      go : Compared k j → suc k ≤ j
      go (less h) = h
      go (equal h) = absurd (no_line lines k j l e (omega arith) f)
      go (more h) = absurd (no_line lines k j l e (omega arith) f)

  broken : {k j : ℕ} {st su sv : State} {l : Text} → Looped lines j st → IsLine j l → body l st ≡ break sv → Looped lines k su → k ≤ j
  broken r e f begun = omega arith
  broken {j = j} {st = st} {sv = sv} {l = l} r e f (further {j = k} {l = m} {st = su} {st' = sw} q g h) = go (compared k j) (broken r e f q)
    where
      go : Compared k j → k ≤ j → suc k ≤ j
      go (less u) v = u
      go (more u) v = absurd (omega arith)
      go (equal u) v =
          let same : su ≡ st = loop_once (rw u at q) r in
          let w : m ≡ l = cc in
          let z : continue sw ≡ break sv = cc in
          clash cc

  -- the rules' pass and the Rust's loop, side by side after j lines
  record Along (j a : ℕ) (t : Table) (st : State) : Type 0 where
    looped : Looped lines j st
    current : st.current_address ≡ a
    level : Level st.labels t
    low : a < address_limit

  -- a line: it breaks the loop off, holds a label too many, leaves too high an address, or the pass goes on
  module _ (j i a : ℕ) (t : Table) (st : State) (al : Along j a t st) (l m : Text) (is : IsLine j m) (plain : Done l m) where
    abbrev here : SourceLine
    here = record { number = suc j; start = i; text = l }

    -- the Rust's state after it, and its labels
    there : (line_of l).task ≢ end → Performed (line_of l) a st
    there k = performed (line_of l) a al.low st al.current k (task_low l)

    looped_on : (d : Performed (line_of l) a st) → Looped lines (suc j) d.state
    looped_on d = further al.looped is (plain.does st ∙ d.flows)

    labels_of : (d : Performed (line_of l) a st) → Inserted d.state.labels (record_all here a (line_of l).names t)
    labels_of d = rw d.labels (inserted here a al.low (line_of l).names t st al.current al.level)

    breaks : (line_of l).task ≡ end → body m st ≡ break (insert_all (line_of l).names st)
    unfolding perform perform_task
    breaks k = plain.does st ∙ rw k

    level_after : (d : Performed (line_of l) a st) (t' : Table) → record_all here a (line_of l).names t ≡ Some t' → Level d.state.labels t'
    level_after d t' o = go t' (rw o at (labels_of d))
      where
        go : (u : Table) → Inserted d.state.labels (Some u) → Level d.state.labels u
        go u (fits v) = v

    too_many : (d : Performed (line_of l) a st) → record_all here a (line_of l).names t ≡ None → max_labels < keys d.state.labels
    too_many d o = go (rw o at (labels_of d))
      where
        go : Inserted d.state.labels None → max_labels < keys d.state.labels
        go (overflow h) = h

    few : (d : Performed (line_of l) a st) (t' : Table) → record_all here a (line_of l).names t ≡ Some t' → ¬ C 6 (suc j)
    few d t' o v = let u = level_after d t' o in omega (arith, labels_at (looped_on d) v, u.count, u.room)

    line : (ls : List Text) → Fine C j
        → ((line_of l).task ≢ end → (a' : ℕ) (t' : Table) (st' : State) → Along (suc j) a' t' st' → Fine C (suc j) → From C size 0 (suc j) (suc (i + length l)) a' t' ls)
        → From C size 0 j i a t (l ∷ ls)
    unfolding numbered
    line ls f ih =
        pass_line size 0 a t here (numbered (suc (suc j)) (suc (i + length l)) ls) (Through C)
        (λ k. clear C j f (λ m q u c. broken al.looped is (breaks k) (at_line m q u c).looped) _)
        (λ k o. stop_labels C j f (labels_over (looped_on (there k)) (too_many (there k) o)))
        (λ t' k o v. stop_address C j f (few (there k) t' o) (address_over (looped_on (there k)) (rw (there k).current v)))
        (λ t' k o v. putting_through C a (line_of l).task _
        (ih k (address_after size 0 a (line_of l).task) t' (there k).state
        (record { looped = looped_on (there k); current = (there k).current; level = level_after (there k) t' o; low = v })
        (fine_next C j f (λ u. omega (arith, address_at (looped_on (there k)) u, (there k).current)) (few (there k) t' o))))

  pass : {ls ms : List Text} → AllDone ls ms → (j i a : ℕ) (t : Table) (st : State) → drop j lines ≡ ms → Along j a t st → Fine C j → From C size 0 j i a t ls
  unfolding first_pass_by numbered
  pass AllDone.over j i a t st e al f = clear C j f (λ m q k c. over j e (at_line m q k c).looped) _
  pass (next {l} {m} {ls} {ms} p g) j i a t st e al f =
      line j i a t st al l m (line_at lines j m ms e).0 p ls f
      (λ k a' t' st'. pass (g (not_end l k)) (suc j) (suc (i + length l)) a' t' st' (line_at lines j m ms e).1)

  -- over the whole source
  starts : Along 0 0 [] initial
  unfolding keys
  starts = record { looped = begun; current = refl; level = record { agrees = empty_agrees; count = refl; room = omega arith }; low = omega arith }

  no_line_yet : Fine C 0
  no_line_yet m q i h c = go (at_line m q i c)
    where
      first : (p : ℕ) → C 5 p → p ≤ 0 → ⊥
      first p (address_over r u) v = omega arith
      first p (of_source i) v = elim i [ ]

      second : (p : ℕ) → C 6 p → p ≤ 0 → ⊥
      second p (labels_over r u) v = omega arith
      second p (of_source i) v = elim i [ ]

      go : AtLine q → ⊥
      go at = on (either i)
        where
          on : Either m → ⊥
          on (six e) = second q (rw e at c) h
          on (five e) = first q (rw e at c) h

  through : AllDone (split 10 s) lines → Through C (first_pass_by size 0 0 [] (lines_of s))
  unfolding lines_of
  through all = rw (← split_is 10 s) (pass all 0 0 0 [] initial refl starts no_line_yet)

  known : (n p : ℕ) → C n p → Checked n at_zero
  unfolding is_checked
  known n p (of_source (source_over h)) = checked_by 1 at_zero refl
  known n p (of_source (byte_over h)) = checked_by 2 at_zero refl
  known n p (of_source (lines_over h)) = checked_by 3 at_zero refl
  known n p (address_over r h) = checked_by 5 at_zero refl
  known n p (labels_over r h) = checked_by 6 at_zero refl

  of_checks : (n p : ℕ) → Checked n checking → C n p → SourceCondition s n p
  unfolding is_checked
  of_checks n p k (of_source c) = c
  of_checks n p k (address_over r h) = absurd (not_checked 5 checking refl k)
  of_checks n p k (labels_over r h) = absurd (not_checked 6 checking refl k)

  answered : AllDone (split 10 s) lines → Runs C at_zero (assemble 0 s)
  unfolding assemble_by pass_at_by refuse_if
  answered all = and_then_lem C [] (pass_at 0 s) (encoded encode) (checks_run s C (λ n p. of_source) of_checks _ (through all)) (λ p e. done)

pub refuses_as : (s : Text) (ls : List Text) → AllDone (split 10 s) ls → RefusesExactly at_zero (RustCondition s ls) (assemble 0 s)
unfolding apart
refuses_as s ls all = refuses_exactly (RustCondition s ls) at_zero (are_apart at_zero refl) (known s ls) (assemble 0 s) (answered s ls all)

pub refused_by_the_rust : RefusedByTheRust
unfolding RefusedByTheRust
refused_by_the_rust s b = refuses_as s (split 10 s) (all_done (all_plain (split 10 s) b))

-- within the limits no condition holds
none_within : (s : Text) (ls : List Text) → WithinLimits s ls → (n p : ℕ) → ¬ RustCondition s ls n p
none_within s ls w n p (of_source (source_over h)) = omega (arith, w.size)
none_within s ls w n p (of_source (byte_over {p = q} h)) = omega (arith, w.ascii q h.inside, h.holds)
none_within s ls w n p (of_source (lines_over h)) = omega (arith, w.lines, ap length (split_is 10 s), (counted s).0)
none_within s ls w n p (address_over {j = j} {st = st} r h) = omega (arith, w.addresses j st r)
none_within s ls w n p (labels_over {j = j} {st = st} r h) = omega (arith, w.labels j st r)

pub accepts_within : (s : Text) (ls : List Text) → AllDone (split 10 s) ls → WithinLimits s ls → (l : List Place) × (assemble 0 s ≡ accepted l)
accepts_within s ls all w = go (assemble 0 s) refl
  where
    go : (r : Answer (List Place)) → assemble 0 s ≡ r → (l : List Place) × (assemble 0 s ≡ accepted l)
    go (refused n p) e = absurd (none_within s ls w n p ((refuses_as s ls all n p).0 e).0)
    go (accepted l) e = (l, e)

pub within_is_accepted : WithinIsAccepted
unfolding WithinIsAccepted ListIsTheRusts
within_is_accepted s b w = let k = accepts_within s (split 10 s) (all_done (all_plain (split 10 s) b)) w in (k.0, k.1, list_is_the_rusts s b k.0 k.1)

-- and what is accepted is within the limits
not_above : (a b : ℕ) → ¬ (a < b) → b ≤ a
not_above a b h = go (compared a b)
  where
    go : Compared a b → b ≤ a
    go (less k) = absurd (h k)
    go (more k) = omega arith
    go (equal k) = omega arith

none_high : (s : Text) (o : Option ℕ) → Found (λ i. 127 < get_or s i 0) (length s) o → o ≡ None → (i : ℕ) → i < length s → get_or s i 0 < 128
none_high s o (found h) e i k = clash cc
none_high s o (nowhere h) e i k = let g = not_above 127 (get_or s i 0) (h i k) in omega arith

pub within_if_accepted : (s : Text) (ls : List Text) → AllDone (split 10 s) ls → (l : List Place) → assemble 0 s ≡ accepted l → WithinLimits s ls
unfolding apart
within_if_accepted s ls all l e =
    let c = (accepts size encode 0 s l e).through in
    let clear = none_holds (RustCondition s ls) at_zero (are_apart at_zero refl) (known s ls) l (assemble 0 s) e (answered s ls all) in
    record {
      size = ltb-false max_source (length s) c.size;
      ascii = none_high s (first_high 0 s) (high_found s) c.ascii;
      lines = rw (split_is 10 s) (ltb-false max_lines (length (cut_at 10 s)) c.lines);
      addresses = λ j st r. lower st.current_address (λ h. clear 5 (suc j) (address_over r h));
      labels = λ j st r. not_above max_labels (keys st.labels) (λ h. clear 6 (suc j) (labels_over r h));
    }
  where
    lower : (a : ℕ) → ¬ (address_limit ≤ a) → a < address_limit
    lower a h = go (compared a address_limit)
      where
        go : Compared a address_limit → a < address_limit
        go (less k) = k
        go (more k) = absurd (h (omega arith))
        go (equal k) = absurd (h (omega arith))

pub accepted_is_within : AcceptedIsWithin
unfolding AcceptedIsWithin
accepted_is_within s b l e = within_if_accepted s (split 10 s) (all_done (all_plain (split 10 s) b)) l e
