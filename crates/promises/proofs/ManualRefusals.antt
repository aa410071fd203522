-- The manual's call refuses exactly by its conditions, in their order, and writes what it answers. Assumes nothing.
use Rattle.std.specs.Prelude.{Option, None, Some}
use Prim.Native.Nat.{ℕ, zero, suc, ◌≤◌}
use mathlib.Core.Path.{◌≡◌, refl, sym, ap, ◌∙◌}
use mathlib.Core.Logic.{◌≢◌}
use mathlib.Core.Bool.{true}
use mathlib.Core.List.{List, [], ◌∷◌, ◌++◌}
use native.Mathlib.Omega.{arith}
use lib.ListN.{length, drop}
use Rattle.rules.specs.Text.{Text}
use Rattle.rules.specs.Line.{Instruction, Task, skipped, end, org, no_org, label_only, instruction, value, space, lines_of, line_of}
use Rattle.rules.specs.Label.{Table}
use Rattle.rules.specs.Encode.{Content}
use Rattle.rules.specs.Answer.{accepted}
use Rattle.rules.specs.Assemble.{Put, Pass, Place, Slices, first_pass_by, pass_at_by, short, room}
use Rattle.requests.specs.ManualCall.{manual_size, manual_fault}
use Rattle.requests.specs.ManualAssemble.{task_fault, faultless, encoded_manual, assemble_manual, manual_answer, manual_slices}
use Rattle.promises.specs.Stages.{all, by_line, OneOf, here, there, Ahead, ahead, behind, Checked}
use Rattle.promises.specs.Refusals.{IsLine, Reached, PassCondition, passing}
use Rattle.promises.specs.ManualFaults.{Outcome, emits, no_encoding, out_of_range, WordsOrFault}
use Rattle.promises.specs.ManualRefusals.{Instructs, ManualCondition, of_pass, unencoded, far, slice_short, assembling_manual, ManualRefusesExactly, ManualRefusalChangesNothing, ManualAcceptedWrites}
use Rattle.promises.proofs.Compared.{clash, Compared, less, more, equal, compared}
use Rattle.promises.proofs.Accepted.{not_refused, checks_passed}
use Rattle.promises.proofs.Asked.{drop_more, asked, ended, over, Lined, asks, ends, past_end, past_lines, lined}
use Rattle.promises.proofs.Stages.{is_checked, not_checked, checked_by, still_checked, apart, are_apart, Runs, done, stop_line, pass_lines, refuse_if_lem, and_then_lem, runs_by, none_holds, refuses_exactly}
use Rattle.promises.proofs.RefusalsAssemble.{pass_known, pass_answered}
use Rattle.promises.proofs.RefusalsShort.{shorter, is_short}
use Rattle.promises.proofs.Refusals.{unwritten, wrote}
use Rattle.promises.proofs.ManualFaults.{faults_exactly, words_or_fault}

abbrev Faulty : ℕ → Type 0
Faulty m = OneOf m (14 ∷ 15 ∷ [])

-- an instruction's fault is one of the two
one_of_two : {o : Option (List Content)} {f : Option ℕ} → Outcome o f → (m : ℕ) → f ≡ Some m → Faulty m
one_of_two emits m e = clash cc
one_of_two no_encoding m e = let u : m ≡ 14 = cc in here u
one_of_two out_of_range m e = let u : m ≡ 15 = cc in there (here u)

-- only an instruction has one
faulty_task : (t : Table) (a : ℕ) (k : Task) (m : ℕ) → task_fault t a k ≡ Some m → (i : Instruction) × (k ≡ instruction i) × (manual_fault t a i ≡ Some m)
unfolding task_fault
faulty_task t a skipped m e = clash cc
faulty_task t a end m e = clash cc
faulty_task t a (org v) m e = clash cc
faulty_task t a no_org m e = clash cc
faulty_task t a label_only m e = clash cc
faulty_task t a (instruction i) m e = (i, refl, e)
faulty_task t a (value n v) m e = clash cc
faulty_task t a (space n) m e = clash cc

-- nothing is left after where nothing is left
drop_none : {A : Type 0} (k : ℕ) → ◌≡◌ {A = List A} (drop k []) []
drop_none zero = refl
drop_none (suc k) = refl

still_none : {A : Type 0} (xs : List A) (j k : ℕ) → j ≤ k → drop j xs ≡ [] → drop k xs ≡ []
still_none [] zero k h e = drop_none k
still_none [] (suc j) k h e = drop_none k
still_none (x ∷ xs) zero k h e = clash cc
still_none (x ∷ xs) (suc j) zero h e = absurd (omega arith)
still_none (x ∷ xs) (suc j) (suc k) h e = still_none xs j k (omega arith) e

-- ---- what the second pass finds, line by line
module _ (base : ℕ) (s : Text) (x : Slices) (p : Pass) (accepts : pass_at_by manual_size base s ≡ accepted p) where
  abbrev C : ℕ → ℕ → Type 0
  C = ManualCondition base s x

  passed : first_pass_by manual_size base base [] (lines_of s) ≡ accepted p
  unfolding pass_at_by
  passed = (not_refused _ 4 0 _ p (checks_passed s _ p accepts).1).1

  -- a condition at a place is a line's, and the fault of what it asks
  record AtLine (m q : ℕ) : Type 0 where
    index : ℕ
    place : q ≡ suc index
    address : ℕ
    task : Task
    rest : List Put
    put : drop index p.puts ≡ record { address = address; task = task } ∷ rest
    fault : task_fault p.labels address task ≡ Some m

  at_line : (m : ℕ) {j a : ℕ} {i : Instruction} {ls : Table} → Instructs base s j a i ls → manual_fault ls a i ≡ Some m → AtLine m (suc j)
  unfolding task_fault
  at_line m {j} {a} {i} r f =
      let same : accepted r.pass ≡ accepted p = sym r.passed ∙ accepts in
      let q : r.pass ≡ p = cc in
      let t = ap (λ (y : Pass). y.labels) (sym q) ∙ r.labels in
      let go_on : (line_of r.line).task ≢ end = λ e. let u = sym r.asks ∙ e in clash cc in
      record {
        index = j;
        place = refl;
        address = a;
        task = instruction i;
        rest = drop (suc j) p.puts;
        put = rw r.asks at (asked manual_size base s p passed r.line r.reached r.is go_on);
        fault = rw t f;
      }

  at_14 : {q : ℕ} → C 14 q → AtLine 14 q
  unfolding is_checked
  at_14 {q} (of_pass c) = absurd (not_checked 14 passing refl (pass_known manual_size base s 14 q c))
  at_14 (unencoded {a = a} {i = i} {ls = ls} r n) = at_line 14 r ((faults_exactly.fourteen ls a i).1 n)

  at_15 : {q : ℕ} → C 15 q → AtLine 15 q
  unfolding is_checked
  at_15 {q} (of_pass c) = absurd (not_checked 15 passing refl (pass_known manual_size base s 15 q c))
  at_15 (far {a = a} {i = i} {ls = ls} r n) = at_line 15 r ((faults_exactly.fifteen ls a i).1 n)

  at_a_line : (m q : ℕ) → Faulty m → C m q → AtLine m q
  at_a_line m q (here e) c = rw e (at_14 (rw e at c))
  at_a_line m q (there (here e)) c = rw e (at_15 (rw e at c))
  at_a_line m q (there (there i)) c = elim i [ ]

  -- and the fault of what is asked at an index is a line's condition
  record LineOf (j : ℕ) (k : Put) : Type 0 where
    names : List Text
    line : Text
    reached : Reached manual_size base s j k.address names
    is : IsLine s j line
    task : k.task ≡ (line_of line).task

  line_of_lem : (j : ℕ) (k : Put) (ks : List Put) → drop j p.puts ≡ k ∷ ks → LineOf j k
  line_of_lem j k ks e = go (lined manual_size base s j)
    where
      go : Lined manual_size base s j → LineOf j k
      go (asks {a} {ns} {l} r i f) =
          let u = sym e ∙ asked manual_size base s p passed l r i f in
          let v : k ≡ record { address = a; task = (line_of l).task } = cc in
          rw v (record { names = ns; line = l; reached = r; is = i; task = refl })
      go (ends {l = l} r i f) = let u = sym e ∙ ended manual_size base s p passed l r i f in clash cc
      go (past_end {i} {l = l} r k f h) = let u = sym e ∙ still_none p.puts i j (omega arith) (ended manual_size base s p passed l r k f) in clash cc
      go (past_lines {i} r k h) = let u = sym e ∙ still_none p.puts i j h (over manual_size base s p passed r k) in clash cc

  faulty_line : (j : ℕ) (k : Put) (ks : List Put) (m : ℕ) → drop j p.puts ≡ k ∷ ks → task_fault p.labels k.address k.task ≡ Some m → Faulty m × C m (suc j)
  unfolding WordsOrFault
  faulty_line j k ks m e f =
      let l = line_of_lem j k ks e in
      let t = faulty_task p.labels k.address k.task m f in
      let r : Instructs base s j k.address t.0 p.labels
      = record { pass = p; passed = accepts; labels = refl; names = l.names; reached = l.reached; line = l.line; is = l.is; asks = sym l.task ∙ t.1 } in
      let n = one_of_two (words_or_fault p.labels k.address t.0) m t.2 in
      (n, holds r n t.2)
    where
      holds : {a : ℕ} {i : Instruction} → Instructs base s j a i p.labels → Faulty m → manual_fault p.labels a i ≡ Some m → C m (suc j)
      holds {a} {i} r (here u) g = rw u (unencoded r ((faults_exactly.fourteen p.labels a i).0 (rw u at g)))
      holds {a} {i} r (there (here u)) g = rw u (far r ((faults_exactly.fifteen p.labels a i).0 (rw u at g)))
      holds r (there (there i)) g = elim i [ ]

  -- the faults of what is asked from index j on, if there is none before
  abbrev Fine : ℕ → Type 0
  Fine j = (m q : ℕ) → Faulty m → q ≤ j → ¬ C m q

  walk : (ps : List Put) (j : ℕ) (r : List Place) → drop j p.puts ≡ ps → Fine j → Runs C (by_line (14 ∷ 15 ∷ []) ∷ []) (faultless p.labels (suc j) ps (accepted r))
  unfolding faultless
  walk [] j r e f = pass_lines (λ m q i c. past (at_a_line m q i c) i c) done
    where
      past : {m q : ℕ} → AtLine m q → Faulty m → C m q → ⊥
      past {m} {q} l i c = go (compared l.index j)
        where
          go : Compared l.index j → ⊥
          go (less h) = f m q i (omega (arith, l.place)) c
          go (more h) = let u = sym l.put ∙ still_none p.puts j l.index (omega arith) e in clash cc
          go (equal h) = let u = sym l.put ∙ still_none p.puts j l.index (omega arith) e in clash cc
  walk (k ∷ ps) j r e f = go (task_fault p.labels k.address k.task) refl (walk ps (suc j) r (drop_more p.puts j k ps e))
    where
      -- a condition on this line is this task's fault
      this : {m : ℕ} → AtLine m (suc j) → task_fault p.labels k.address k.task ≡ Some m
      this {m} l =
          let h : l.index ≡ j = omega (arith, l.place) in
          let u = sym (rw h at l.put) ∙ e in
          let v : record { address = l.address; task = l.task } ≡ k = cc in
          rw (← v) l.fault

      fine_next : task_fault p.labels k.address k.task ≡ None → Fine (suc j)
      fine_next g m q i h c = on (compared q (suc j))
        where
          on : Compared q (suc j) → ⊥
          on (less l) = f m q i (omega arith) c
          on (more l) = omega arith
          on (equal l) = let u = sym g ∙ this (rw l at (at_a_line m q i c)) in clash cc

      go : (o : Option ℕ) → task_fault p.labels k.address k.task ≡ o → (Fine (suc j) → Runs C (by_line (14 ∷ 15 ∷ []) ∷ []) (faultless p.labels (suc (suc j)) ps (accepted r)))
          → Runs C (by_line (14 ∷ 15 ∷ []) ∷ []) (faultless p.labels (suc j) (k ∷ ps) (accepted r))
      go None g ih = rw (g, faultless) (ih (fine_next g))
      go (Some m) g ih =
          let h = faulty_line j k ps m e g in
          rw (g, faultless) (stop_line h.0 h.1 (λ n q i l. f n q i (omega arith)) (ahead_not h.0))
        where
          other : (n : ℕ) → Faulty n → n ≢ m → ¬ C n (suc j)
          other n i u c = let v = sym g ∙ this (at_a_line n (suc j) i c) in u (let w : n ≡ m = cc in w)

          ahead_not : Faulty m → (n : ℕ) → Ahead n m (14 ∷ 15 ∷ []) → ¬ C n (suc j)
          ahead_not i n (ahead u (here v)) = other n (here u) (λ w. omega arith)
          ahead_not i n (behind (ahead u v)) = no_one v
            where
              no_one : OneOf m [] → ¬ C n (suc j)
              no_one = elim [ ]
          ahead_not i n (ahead u (there j)) = elim j [ ]
          ahead_not i n (behind (behind j)) = elim j [ ]

  pub second_runs : Runs C (by_line (14 ∷ 15 ∷ []) ∷ []) (encoded_manual p)
  unfolding encoded_manual
  second_runs = walk p.puts 0 _ refl (λ m q i h c. let l = (at_a_line m q i c).place in omega arith)

-- ---- the whole call
module _ (base : ℕ) (s : Text) (x : Slices) where
  abbrev D : ℕ → ℕ → Type 0
  D = ManualCondition base s x

  known : (n p : ℕ) → D n p → Checked n assembling_manual
  unfolding is_checked
  known n p (of_pass c) = still_checked (by_line (14 ∷ 15 ∷ []) ∷ all 7 ∷ []) (pass_known manual_size base s n p c)
  known n p (unencoded r h) = checked_by 14 assembling_manual refl
  known n p (far r h) = checked_by 15 assembling_manual refl
  known n p (slice_short e h) = checked_by 7 assembling_manual refl

  from_call : (n p : ℕ) → Checked n passing → D n p → PassCondition manual_size base s n p
  unfolding is_checked
  from_call n p k (of_pass c) = c
  from_call n p k (unencoded r h) = absurd (not_checked 14 passing refl k)
  from_call n p k (far r h) = absurd (not_checked 15 passing refl k)
  from_call n p k (slice_short e h) = absurd (not_checked 7 passing refl k)

  to_7 : (l : List Place) → assemble_manual base s ≡ accepted l → (q : ℕ) → D 7 q → (short x (length l) ≡ true) × (q ≡ length l)
  unfolding is_checked
  to_7 l e q (slice_short {l = k} g h) = let u : k ≡ l = cc in (is_short x (length l) (rw u at h), ap length u)
  to_7 l e q (of_pass c) = absurd (not_checked 7 passing refl (pass_known manual_size base s 7 q c))

  listed : Runs D (passing ++ (by_line (14 ∷ 15 ∷ []) ∷ [])) (assemble_manual base s)
  unfolding assemble_manual
  listed =
      and_then_lem D (by_line (14 ∷ 15 ∷ []) ∷ []) (pass_at_by manual_size base s) encoded_manual
      (runs_by (PassCondition manual_size base s) D passing (pass_at_by manual_size base s) (λ n p. of_pass) from_call (pass_answered manual_size base s))
      (second_runs base s x)

  answered : Runs D assembling_manual (manual_answer base s x)
  unfolding manual_answer room
  answered =
      and_then_lem D (all 7 ∷ []) (assemble_manual base s) (room x) listed λ l e.
      refuse_if_lem D 7 (length l) (short x (length l)) (accepted (length l)) (λ f. slice_short e (shorter x (length l) f)) (to_7 l e) (λ f. done)

pub manual_refuses_exactly : ManualRefusesExactly
unfolding ManualRefusesExactly apart
manual_refuses_exactly base s x =
    refuses_exactly (ManualCondition base s x) assembling_manual (are_apart assembling_manual refl) (known base s x) (manual_answer base s x) (answered base s x)

pub manual_refusal_changes_nothing : ManualRefusalChangesNothing
unfolding ManualRefusalChangesNothing manual_answer manual_slices
manual_refusal_changes_nothing base s x n p e = unwritten (assemble_manual base s) x n p e

pub manual_accepted_writes : ManualAcceptedWrites
unfolding ManualAcceptedWrites manual_answer manual_slices apart
manual_accepted_writes base s x n e =
    let w = wrote (assemble_manual base s) x n e in
    record {
      clear = none_holds (ManualCondition base s x) assembling_manual (are_apart assembling_manual refl) (known base s x) n (manual_answer base s x) e (answered base s x);
      list = w.list;
      listed = w.listed;
      counted = w.counted;
      written = w.written;
      past = w.past;
    }
