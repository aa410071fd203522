-- The verdict on a line that is read is right, and 13 comes exactly for the others. Assumes nothing.
use Rattle.std.specs.Prelude.{Option, None, Some, slice_get}
use Prim.Native.Nat.{ℕ, zero, suc, ◌<◌, ◌≤◌}
use mathlib.Core.Path.{◌≡◌, refl, sym, ap, ◌∙◌}
use mathlib.Core.Logic.{◌↔◌}
use mathlib.Core.Bool.{Bool, true, false}
use mathlib.Core.List.{List, [], ◌∷◌, ◌++◌, append-nil}
use native.Mathlib.Omega.{arith}
use lib.ListN.{length, take, drop, length-drop, drop_of_length-le}
use lib.Seq.{take_all}
use Rattle.rules.specs.Text.{Text, cut_at}
use Rattle.rules.specs.Line.{lines_of, Task, end, line_of, size}
use Rattle.rules.specs.Label.{find}
use Rattle.rules.specs.Encode.{Content, Mnemonic, encode_by}
use Rattle.rules.specs.Answer.{Answer, accepted, refused}
use Rattle.rules.specs.Assemble.{Put, Pass, is_end, first_pass_by, data_contents, code_contents_by, second_pass_by, pass_at_by, pass_at}
use Rattle.requests.specs.Explain.{Verdict, emitted, because, why_task, verdict_at, told_line, explain_all_by, explain_by}
use Rattle.requests.proofs.Answers.{one_of_all, all_refused, one_refused, line_0, line_asks, line_ends, line_after_end, line_past_last}
use Rattle.promises.specs.Stages.{all, Checked}
use Rattle.promises.specs.Refusals.{IsLine, Reached, PassCondition, passing}
use Rattle.promises.specs.Nearest.{FoundIsLast}
use Rattle.promises.specs.Explain.{without, PutsWords, PutsNone, RecordedAt, Right, words, reason, Explained, ExplainsExactly, below_first, past_last, ExplainCondition, of_pass, no_line, never_read, explaining, ExplainRefusesExactly, ExplainsAll}
use Rattle.promises.proofs.Compared.{clash}
use Rattle.promises.proofs.Stages.{is_checked, not_checked, checked_by, still_checked, apart, are_apart, Runs, done, stop, pass, and_then_lem, runs_by, refuses_exactly}
use Rattle.promises.proofs.RefusalsPasses.{not_end}
use Rattle.promises.proofs.RefusalsAssemble.{counted, pass_known, pass_answered}
use Rattle.promises.proofs.Accepted.{not_refused, checks_passed}
use Rattle.promises.proofs.Tasks
use Rattle.promises.proofs.Tasks.{is_end_lem}
use Rattle.promises.proofs.Asked.{asked, put_at_lem, asked_before, ended, over, Lined, asks, ends, past_end, past_lines, lined}
use Rattle.promises.proofs.Records.{found_is_last}
use Rattle.promises.proofs.LineVerdicts.{contents, Told, worded, reasoned, task_told, told_task}
use Rattle.promises.proofs.LineWords.{words_or_none, line_puts, line_silent}

-- ---- a list by index
first_is : {A : Type 0} (xs : List A) (j : ℕ) (x : A) (ys : List A) → drop j xs ≡ x ∷ ys → slice_get xs j ≡ Some x
first_is [] zero x ys e = clash cc
first_is [] (suc j) x ys e = clash cc
first_is (y ∷ xs) zero x ys e = let u : y ≡ x = cc in ap Some u
first_is (y ∷ xs) (suc j) x ys e = first_is xs j x ys e

is_elem : {A : Type 0} (xs : List A) (j : ℕ) (x : A) → slice_get xs j ≡ Some x → j < length xs
is_elem [] j x e = clash cc
is_elem (y ∷ xs) zero x e = omega arith
is_elem (y ∷ xs) (suc j) x e = let h = is_elem xs j x e in omega arith

-- ---- an accepted source
module _ (names : List Mnemonic) (base : ℕ) (s : Text) (p : Pass) (accepts : pass_at base s ≡ accepted p) where
  abbrev At : Text → ℕ → Type 0
  At = RecordedAt base s

  passed : first_pass_by size base base [] (lines_of s) ≡ accepted p
  unfolding pass_at_by
  passed = (not_refused _ 4 0 _ p (checks_passed s _ p accepts).1).1

  recorded : (l : Text) (x : ℕ) → find l p.labels ≡ Some x → RecordedAt base s l x
  unfolding FoundIsLast
  recorded l x = (found_is_last size base s p accepts l x).0

  is_recorded : (l : Text) (x : ℕ) → RecordedAt base s l x → find l p.labels ≡ Some x
  unfolding FoundIsLast
  is_recorded l x = (found_is_last size base s p accepts l x).1

  -- the verdict given on a line that is read
  given : {j a : ℕ} {ns : List Text} (l : Text) → Reached size base s j a ns → IsLine s j l
      → explain_by names base s (suc j) ≡ accepted (why_task names p.labels a (line_of l).task)
  unfolding why_task
  given {j} {a} l r e = go (is_end (line_of l).task) refl
    where
      go : (x : Bool) → is_end (line_of l).task ≡ x → explain_by names base s (suc j) ≡ accepted (why_task names p.labels a (line_of l).task)
      go true f =
          let k = is_end_lem (line_of l).task f in
          let h = simp length-drop at (ap length (ended size base s p passed l r e k)) in
          let b = asked_before size base s p passed r in
          rw k (line_ends names base s p accepts j (omega arith) (is_elem (cut_at 10 s) j l e))
      go false f =
          line_asks names base s p accepts j (record { address = a; task = (line_of l).task })
          (first_is p.puts j _ (drop (suc j) p.puts) (asked size base s p passed l r e (Tasks.not_end (line_of l).task f)))

  -- and the refusal of one that is not
  after_end : {i a : ℕ} {ns : List Text} (l : Text) → Reached size base s i a ns → IsLine s i l → (line_of l).task ≡ end → (j : ℕ) → i < j
      → explain_by names base s (suc j) ≡ refused 13 (suc j)
  after_end {i} l r e k j h =
      let u = simp length-drop at (ap length (ended size base s p passed l r e k)) in
      line_after_end names base s p accepts j (omega arith)

  past_all : {i a : ℕ} {ns : List Text} → Reached size base s i a ns → drop i (cut_at 10 s) ≡ [] → (j : ℕ) → i ≤ j
      → explain_by names base s (suc j) ≡ refused 13 (suc j)
  past_all {i} r e j h =
      let u = simp length-drop at (ap length (over size base s p passed r e)) in
      let c = simp length-drop at (ap length e) in
      line_past_last names base s p accepts j (omega arith) (omega arith)

  -- a verdict on what a line asks is right on the list if its words are put there
  module _ (j a : ℕ) (k : Task) (put : (c : Content) (cs : List Content) → contents names p.labels a k ≡ c ∷ cs → PutsWords (encode_by names) p j a)
      (unput : contents names p.labels a k ≡ [] → PutsNone (encode_by names) p j) where
    right_by : (v : Verdict) → Told names p.labels At a k v → Right names base s p j a k v
    right_by _ (worded {c} {cs} e) = words (put c cs e)
    right_by _ (reasoned e h m) = reason (unput e) h m

    by_right : (v : Verdict) → Right names base s p j a k v → Told names p.labels At a k v
    by_right _ (words w) = go (contents names p.labels a k) refl
      where
        go : (cs : List Content) → contents names p.labels a k ≡ cs → Told names p.labels At a k emitted
        go [] e = absurd (words_or_none w (unput e))
        go (c ∷ cs) e = worded e
    by_right _ (reason {r} n h m) = go (contents names p.labels a k) refl
      where
        go : (cs : List Content) → contents names p.labels a k ≡ cs → Told names p.labels At a k (because r)
        go [] e = reasoned e h m
        go (c ∷ cs) e = absurd (words_or_none (put c cs e) n)

  -- END puts nothing, and nothing is asked after it
  end_silent : (j : ℕ) → length p.puts ≤ j → PutsNone (encode_by names) p j
  unfolding without
  end_silent j h = ap (second_pass_by (encode_by names)) (ap (λ (x : List Put). record { labels = p.labels; puts = x }) same_puts)
    where
      same_puts : take j p.puts ++ drop (suc j) p.puts ≡ p.puts
      same_puts = rw (take_all j p.puts h, drop_of_length-le p.puts {i = suc j} (omega arith), append-nil)

  end_wordless : (a : ℕ) (k : Task) → k ≡ end → contents names p.labels a k ≡ []
  unfolding contents data_contents code_contents_by
  end_wordless a k e = rw e

  -- so of a line that is read a verdict is right exactly if it is the one given
  read_right : {j a : ℕ} {ns : List Text} (l : Text) → Reached size base s j a ns → IsLine s j l → (v : Verdict)
      → (why_task names p.labels a (line_of l).task ≡ v) ↔ Right names base s p j a (line_of l).task v
  read_right {j} {a} l r e v = go (is_end (line_of l).task) refl
    where
      k : Task
      k = (line_of l).task

      told : Told names p.labels At a k (why_task names p.labels a k)
      told = task_told names p.labels a At recorded is_recorded k

      both : ((c : Content) (cs : List Content) → contents names p.labels a k ≡ c ∷ cs → PutsWords (encode_by names) p j a)
          → (contents names p.labels a k ≡ [] → PutsNone (encode_by names) p j)
          → (why_task names p.labels a k ≡ v) ↔ Right names base s p j a k v
      both put unput = (
        λ f. rw f at (right_by j a k put unput _ told),
        λ h. told_task names p.labels a At recorded is_recorded k v (by_right j a k put unput v h),
      )

      go : (x : Bool) → is_end k ≡ x → (why_task names p.labels a k ≡ v) ↔ Right names base s p j a k v
      go true f =
          let h = simp length-drop at (ap length (ended size base s p passed l r e (is_end_lem k f))) in
          both (λ c cs d. let u = end_wordless a k (is_end_lem k f) in clash cc) (λ d. end_silent j (omega arith))
      go false f =
          let cut = put_at_lem size base s p passed l r e (Tasks.not_end k f) in
          both (line_puts names p j a k cut) (line_silent names p j a k cut)

  -- ---- the call on the source
  -- a verdict that is given explains the line
  explains : (n : ℕ) (v : Verdict) → explain_by names base s n ≡ accepted v → Explained names base s n v
  explains zero v e = let u = sym (line_0 names base s p accepts) ∙ e in clash cc
  explains (suc j) v e = go (lined size base s j)
    where
      read : {a : ℕ} {ns : List Text} {l : Text} → Reached size base s j a ns → IsLine s j l → Explained names base s (suc j) v
      read {a} {ns} {l} r i =
          let f = sym (given l r i) ∙ e in
          let u : why_task names p.labels a (line_of l).task ≡ v = cc in
          record {
            pass = p;
            passed = accepts;
            index = j;
            number = refl;
            address = a;
            recorded = ns;
            reached = r;
            line = l;
            is = i;
            right = (read_right l r i v).0 u;
          }

      go : Lined size base s j → Explained names base s (suc j) v
      go (asks r i f) = read r i
      go (ends r i f) = read r i
      go (past_end {l = l} r i f h) = let u = sym (after_end l r i f j h) ∙ e in clash cc
      go (past_lines r i h) = let u = sym (past_all r i j h) ∙ e in clash cc

  -- 13 comes for the lines that are not read
  abbrev C : ℕ → ℕ → ℕ → Type 0
  C n = ExplainCondition base s n

  is_13 : {n q : ℕ} → C n 13 q → q ≡ n
  unfolding is_checked
  is_13 {q = q} (of_pass c) = absurd (not_checked 13 passing refl (pass_known size base s 13 q c))
  is_13 (no_line h) = refl
  is_13 (never_read e k h) = refl

  was_read : {j a : ℕ} {ns : List Text} {l : Text} → Reached size base s j a ns → IsLine s j l → (q : ℕ) → ¬ C (suc j) 13 q
  unfolding is_checked
  was_read r e q (of_pass c) = not_checked 13 passing refl (pass_known size base s 13 q c)
  was_read {j} {l = l} r e q (no_line (past_last h)) = let u = is_elem (cut_at 10 s) j l e in omega (arith, (counted s).0)
  was_read r e q (never_read {j = i} {l = k} f g h) = not_end size base s r i k (omega arith) f g

  runs_13 : (n : ℕ) → Runs (C n) (all 13 ∷ []) (explain_by names base s n)
  runs_13 zero = rw (line_0 names base s p accepts) (stop (no_line below_first) (λ q c. is_13 c))
  runs_13 (suc j) = go (lined size base s j)
    where
      go : Lined size base s j → Runs (C (suc j)) (all 13 ∷ []) (explain_by names base s (suc j))
      go (asks {l = l} r e f) = rw (given l r e) (pass (was_read r e) done)
      go (ends {l = l} r e f) = rw (given l r e) (pass (was_read r e) done)
      go (past_end {l = l} r e f h) = rw (after_end l r e f j h) (stop (never_read e f (omega arith)) (λ q c. is_13 c))
      go (past_lines {i} r e h) =
          let u = simp length-drop at (ap length e) in
          rw (past_all r e j h) (stop (no_line (past_last {n = suc j} (omega (arith, (counted s).0)))) (λ q c. is_13 c))

-- ---- the theorems
pub explains_exactly : ExplainsExactly
unfolding ExplainsExactly
explains_exactly names base s n v = (λ e. go (pass_at base s) refl e, from)
  where
    go : (x : Answer Pass) → pass_at base s ≡ x → explain_by names base s n ≡ accepted v → Explained names base s n v
    go (accepted p) f e = explains names base s p f n v e
    go (refused m q) f e = let u = sym (one_refused names base s m q f n) ∙ e in clash cc

    from : Explained names base s n v → explain_by names base s n ≡ accepted v
    from h =
        let u = given names base s h.pass h.passed h.line h.reached h.is in
        let w = (read_right names base s h.pass h.passed h.line h.reached h.is v).1 h.right in
        rw h.number (u ∙ ap accepted w)

module _ (names : List Mnemonic) (base : ℕ) (s : Text) where
  known : (n m q : ℕ) → ExplainCondition base s n m q → Checked m explaining
  unfolding is_checked
  known n m q (of_pass c) = still_checked (all 13 ∷ []) (pass_known size base s m q c)
  known n _ _ (no_line h) = checked_by 13 explaining refl
  known n _ _ (never_read e k h) = checked_by 13 explaining refl

  of_the_pass : (n m q : ℕ) → Checked m passing → ExplainCondition base s n m q → PassCondition size base s m q
  unfolding is_checked
  of_the_pass n m q k (of_pass c) = c
  of_the_pass n _ _ k (no_line h) = absurd (not_checked 13 passing refl k)
  of_the_pass n _ _ k (never_read e f h) = absurd (not_checked 13 passing refl k)

  -- all verdicts are refused as the pass is
  all_run : Runs (PassCondition size base s) passing (explain_all_by names base s)
  unfolding explain_all_by
  all_run = and_then_lem (PassCondition size base s) [] (pass_at base s) _ (pass_answered size base s) (λ p e. done)

  one_runs : (n : ℕ) → Runs (ExplainCondition base s n) explaining (explain_by names base s n)
  unfolding explain_by
  one_runs n =
      and_then_lem (ExplainCondition base s n) (all 13 ∷ []) (explain_all_by names base s) (λ vs. told_line n (verdict_at n vs))
      (runs_by (PassCondition size base s) (ExplainCondition base s n) passing (explain_all_by names base s) (λ m q. of_pass) (of_the_pass n) all_run)
      (λ vs e. go (pass_at base s) refl vs e)
    where
      go : (x : Answer Pass) → pass_at base s ≡ x → (vs : List Verdict) → explain_all_by names base s ≡ accepted vs
          → Runs (ExplainCondition base s n) (all 13 ∷ []) (told_line n (verdict_at n vs))
      go (accepted p) f vs e = rw (one_of_all names base s vs e n) at (runs_13 names base s p f n)
      go (refused m q) f vs e = let u = sym (all_refused names base s m q f) ∙ e in clash cc

pub explain_refuses_exactly : ExplainRefusesExactly
unfolding ExplainRefusesExactly apart
explain_refuses_exactly names base s n =
    refuses_exactly (ExplainCondition base s n) explaining (are_apart explaining refl) (known names base s n) (explain_by names base s n) (one_runs names base s n)

each_line : (names : List Mnemonic) (base : ℕ) (s : Text) (vs : List Verdict) → explain_all_by names base s ≡ accepted vs
    → (j : ℕ) (v : Verdict) → (slice_get vs j ≡ Some v) ↔ (explain_by names base s (suc j) ≡ accepted v)
unfolding verdict_at told_line
each_line names base s vs e j v = rw (one_of_all names base s vs e (suc j)) (go (slice_get vs j))
  where
    go : (o : Option Verdict) → (o ≡ Some v) ↔ (told_line (suc j) o ≡ accepted v)
    go None = (λ f. clash cc, λ f. clash cc)
    go (Some w) = (λ f. let u : w ≡ v = cc in ap accepted u, λ f. let u : w ≡ v = cc in ap Some u)

pub explains_all : ExplainsAll
unfolding apart
explains_all =
    record {
      refuses =
          λ names base s. refuses_exactly (PassCondition size base s) passing (are_apart passing refl) (pass_known size base s) (explain_all_by names base s) (all_run names base s);
      each = each_line;
    }
