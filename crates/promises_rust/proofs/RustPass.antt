-- The first pass: where it is accepted, the Rust's loop ends with the same labels, and with what the lines ask. Assumes nothing.
use Rattle.std.specs.Prelude.{None, Some}
use Rattle.std.proofs.lemmas.Option.{none-some, same_Some}
use Prim.Native.Nat.{ℕ, ◌+◌, ◌^◌, ◌≤◌, ◌<◌}
use mathlib.Core.Path.{◌≡◌, refl, sym, ◌∙◌}
use mathlib.Core.Logic.{◌≢◌}
use mathlib.Core.Bool.{Bool, true, false, cond, false≢true}
use mathlib.Core.List.{List, [], ◌∷◌, ◌++◌, map, flat_map, append-nil, append_assoc}
use native.Mathlib.Omega.{arith}
use native.Mathlib.Nat.{mod-eq_of_lt, zero-add}
use Rattle.rules.specs.Text.{Text, same}
use Rattle.rules.specs.Line.{SourceLine, Name, Task, skipped, end, org, no_org, label_only, instruction, value, space, Line, line_of, size}
use Rattle.rules.specs.Label.{Label, Table, find, recorded, has_room, label_of, record_all}
use Rattle.rules.specs.Answer.{Answer, accepted, refused, and_then}
use Rattle.rules.specs.Assemble.{Put, Pass, address_after, putting, first_pass, first_pass_by}
use Rattle.rules.proofs.Readings.{All}
use Rattle.promises_rust.specs.RustStr.{HashMap, add_u32, insert, look_up}
use Rattle.promises_rust.specs.RustAssembler.{AssemblyInstruction, State, continue, set_address, insert_label, push_value, handle_instruction, handle_org, rust_first_pass}
use Rattle.promises_rust.specs.RustLists.{inst_at, perform_task, insert_all, perform}
use Rattle.promises.proofs.Tasks.{Worded, silent, codes, holds, worded, pass_line}
use Rattle.promises.proofs.Shapes.{end_unlabelled}
use Rattle.promises.proofs.Same.{same_eq}
use Rattle.promises_rust.proofs.RustText.{equals_is}
use Rattle.promises_rust.proofs.RustOperand.{Agrees}
use Rattle.promises_rust.proofs.RustValue.{TaskLow, task_low, instruction_low}
use Rattle.promises_rust.proofs.RustLine.{AllDone, over, next}
use Rattle.promises_rust.proofs.RustPlain.{not_end}

-- the label recorded last is found
find_recorded : (q : Text) (x : Label) (t : Table) → find q (recorded x t) ≡ cond (same q x.name) (Some x.address) (find q t)
unfolding find recorded
find_recorded q x [] = go (same q x.name) refl
  where
    go : (y : Bool) → same q x.name ≡ y → find q (x ∷ []) ≡ cond (same q x.name) (Some x.address) None
    go true e = rw (find, e)
    go false e = rw (find, e)
find_recorded q x (l ∷ t) = go (same q x.name) refl (same x.name l.name) refl (same q l.name) refl (find_recorded q x t)
  where
    go : (y : Bool) → same q x.name ≡ y → (z : Bool) → same x.name l.name ≡ z → (w : Bool) → same q l.name ≡ w
        → find q (recorded x t) ≡ cond (same q x.name) (Some x.address) (find q t)
        → find q (recorded x (l ∷ t)) ≡ cond (same q x.name) (Some x.address) (find q (l ∷ t))
    go true e true f w g ih = rw (recorded, f, find, e)
    go true e false f true g ih = absurd (false≢true (sym f ∙ rw (same_eq q x.name e) at g))
    go true e false f false g ih = rw (recorded, f, find, g, e) (rw e at ih)
    go false e true f true g ih = absurd (false≢true (sym e ∙ rw (← same_eq x.name l.name f) at g))
    go false e true f false g ih = rw (recorded, f, find, e, g)
    go false e false f true g ih = rw (recorded, f, find, g, e)
    go false e false f false g ih = rw (recorded, f, find, g, e) (rw e at ih)

pub insert_agrees : {m : HashMap} {t : Table} (x : Label) → x.address < 2 ^ 30 → Agrees m t → Agrees (insert m x.name x.address) (recorded x t)
unfolding insert look_up
insert_agrees {m} {t} x h g = record { finds = λ q. go q (same q x.name) refl; low = λ q. below q (same q x.name) refl }
  where
    go : (q : Text) (y : Bool) → same q x.name ≡ y → look_up (insert m x.name x.address) q ≡ find q (recorded x t)
    go q true e = rw (find_recorded q x t, e, look_up, equals_is q x.name, e)
    go q false e = rw (find_recorded q x t, e, look_up, equals_is q x.name, e) (g.finds q)

    below : (q : Text) (y : Bool) → same q x.name ≡ y → All (λ a. a < 2 ^ 30) (find q (recorded x t))
    below q true e = rw (find_recorded q x t, e) h
    below q false e = rw (find_recorded q x t, e) (g.low q)

-- the labels of a line, recorded
record_all_agrees : (l : SourceLine) (a : ℕ) → a < 2 ^ 30 → (ns : List Name) (t t' : Table) (s : State) → s.current_address ≡ a → Agrees s.labels t
    → record_all l a ns t ≡ Some t' → Agrees (insert_all ns s).labels t'
unfolding record_all insert_all insert_label
record_all_agrees l a h [] t t' s c g e = rw (← same_Some t t' e) g
record_all_agrees l a h (n ∷ ns) t t' s c g e =
    go (has_room (find n.text t) t) refl (record_all_agrees l a h ns (recorded x t) t' (insert_label n.text s) c (rw c (insert_agrees x h g)))
  where
    x : Label
    x = label_of l a n

    go : (y : Bool) → has_room (find n.text t) t ≡ y
        → (record_all l a ns (recorded x t) ≡ Some t' → Agrees (insert_all ns (insert_label n.text s)).labels t')
        → Agrees (insert_all ns (insert_label n.text s)).labels t'
    go true f ih = ih (rw (record_all, f) at e)
    go false f ih = absurd (none-some t' (rw (record_all, f) at e))

-- labels leave the rest of a state alone
record Carried (s s' : State) : Type 0 where
  current : s'.current_address ≡ s.current_address
  instructions : s'.instructions ≡ s.instructions
  values : s'.data_values ≡ s.data_values

insert_all_keeps : (ns : List Name) (s : State) → Carried s (insert_all ns s)
unfolding insert_all insert_label
insert_all_keeps [] s = record { current = refl; instructions = refl; values = refl }
insert_all_keeps (n ∷ ns) s = let k = insert_all_keeps ns (insert_label n.text s) in record { current = k.current; instructions = k.instructions; values = k.values }

-- what a task at a gives to the Rust's lists
unfoldable pub code_at : ℕ → {k : Task} → Worded k → List AssemblyInstruction
code_at a (silent e f) = []
code_at a (codes i) = inst_at a i ∷ []
code_at a (holds n v) = []

unfoldable pub value_at : ℕ → {k : Task} → Worded k → List (ℕ × ℕ)
value_at a (silent e f) = []
value_at a (codes i) = []
value_at a (holds n v) = (a, v) ∷ []

abbrev pub code_of : Put → List AssemblyInstruction
code_of p = code_at p.address (worded p.task)

abbrev pub value_of : Put → List (ℕ × ℕ)
value_of p = value_at p.address (worded p.task)

-- the Rust's loop goes on after a line: at the rules' address, with the line's labels inserted and what it asks pushed
pub record Performed (r : Line) (a : ℕ) (s : State) : Type 0 where
  pub state : State
  pub flows : perform r s ≡ continue state
  pub current : state.current_address ≡ address_after size 0 a r.task
  pub labels : state.labels ≡ (insert_all r.names s).labels
  pub instructions : state.instructions ≡ s.instructions ++ code_at a (worded r.task)
  pub values : state.data_values ≡ s.data_values ++ value_at a (worded r.task)

module _ (a : ℕ) (low : a < 2 ^ 30) (s : State) (c : s.current_address ≡ a) where
  -- a sum that does not wrap
  sum_is : (n : ℕ) → n ≤ 4 → add_u32 s.current_address n ≡ a + n
  sum_is n h = rw c (mod-eq_of_lt (omega arith))

  -- a line that puts nothing
  quiet : (k : Task) (b : ℕ) → perform_task k s ≡ continue (set_address b s) → b ≡ address_after size 0 a k → code_at a (worded k) ≡ [] → value_at a (worded k) ≡ []
      → Performed (record { names = []; task = k }) a s
  unfolding perform insert_all set_address
  quiet k b f e u v =
      record {
        state = set_address b s;
        flows = f;
        current = e;
        labels = refl;
        instructions = rw u (sym (append-nil s.instructions));
        values = rw v (sym (append-nil s.data_values));
      }

  task_performed : (k : Task) → k ≢ end → TaskLow k → Performed (record { names = []; task = k }) a s
  unfolding perform perform_task insert_all address_after code_at value_at worded handle_org handle_instruction set_address push_value
  task_performed skipped e h = quiet skipped s.current_address refl c refl refl
  task_performed end e h = absurd (e refl)
  task_performed (org v) e h = quiet (org v) v refl (sym (zero-add v)) refl refl
  task_performed no_org e h = quiet no_org s.current_address refl c refl refl
  task_performed label_only e h = quiet label_only s.current_address refl c refl refl
  task_performed (instruction i) e h =
      record {
        state = handle_instruction (inst_at s.current_address i) s;
        flows = refl;
        current = sum_is (size i) (instruction_low i);
        labels = refl;
        instructions = rw c;
        values = sym (append-nil s.data_values);
      }
  task_performed (value n v) e h =
      record {
        state = set_address (add_u32 s.current_address n) (push_value (Some v) s);
        flows = refl;
        current = sum_is n h.1;
        labels = refl;
        instructions = sym (append-nil s.instructions);
        values = rw c;
      }
  task_performed (space n) e h = quiet (space n) (add_u32 s.current_address n) refl (sum_is n h) refl refl

-- with its labels, any line
pub performed : (r : Line) (a : ℕ) → a < 2 ^ 30 → (s : State) → s.current_address ≡ a → r.task ≢ end → TaskLow r.task → Performed r a s
unfolding perform insert_all
performed r a low s c e h =
    record {
      state = d.state;
      flows = d.flows;
      current = d.current;
      labels = d.labels;
      instructions = d.instructions ∙ rw k.instructions;
      values = d.values ∙ rw k.values;
    }
  where
    k : Carried s (insert_all r.names s)
    k = insert_all_keeps r.names s

    d : Performed (record { names = []; task = r.task }) a (insert_all r.names s)
    d = task_performed a low (insert_all r.names s) (k.current ∙ c) r.task e h

-- a put whose address is in reach and whose value is one of 32 bits
pub record PutLow (p : Put) : Type 0 where
  pub address : p.address < 2 ^ 30
  pub value : TaskLow p.task

pub data AllLow : List Put → Type 0 where
  nil : AllLow []
  cons : {p : Put} {ps : List Put} → PutLow p → AllLow ps → AllLow (p ∷ ps)

-- how the loop ends
pub record Ended (s s' : State) (p : Pass) : Type 0 where
  pub agrees : Agrees s'.labels p.labels
  pub instructions : s'.instructions ≡ s.instructions ++ flat_map code_of p.puts
  pub values : s'.data_values ≡ s.data_values ++ flat_map value_of p.puts
  pub low : AllLow p.puts

pub accepted_inj : {A : Type 0} (x y : A) → accepted x ≡ accepted y → x ≡ y
accepted_inj x y e = cc

pub never : {A : Type 0} (n p : ℕ) (x : A) → refused n p ≡ accepted x → ⊥
never n p x e = let z : ◌≡◌ {A = ℕ} 0 1 = cc in omega arith

-- no line more
done : (t : Table) (s : State) (p : Pass) → Agrees s.labels t → accepted (record { labels = t; puts = [] }) ≡ accepted p → Ended s s p
unfolding flat_map
done t s p g e =
    rw (← accepted_inj (record { labels = t; puts = [] }) p e)
    (record { agrees = g; instructions = sym (append-nil s.instructions); values = sym (append-nil s.data_values); low = nil })

-- a line, then the rest
combine : (r : Line) (a : ℕ) → a < 2 ^ 30 → TaskLow r.task → (s s'' : State) (d : Performed r a s) (p : Pass) → Ended d.state s'' p
    → Ended s s'' (record { labels = p.labels; puts = record { address = a; task = r.task } ∷ p.puts })
unfolding flat_map
combine r a low h s s'' d p e =
    record {
      agrees = e.agrees;
      instructions = e.instructions ∙ rw d.instructions (append_assoc s.instructions _ (flat_map code_of p.puts));
      values = e.values ∙ rw d.values (append_assoc s.data_values _ (flat_map value_of p.puts));
      low = cons (record { address = low; value = h }) e.low;
    }

abbrev pub texts : List SourceLine → List Text
texts ls = map (λ (l : SourceLine). l.text) ls

pub pass_ends : (ls : List SourceLine) {ms : List Text} → AllDone (texts ls) ms → (a : ℕ) → a < 2 ^ 30 → (t : Table) (s : State) → s.current_address ≡ a → Agrees s.labels t
    → (p : Pass) → first_pass 0 a t ls ≡ accepted p → Ended s (rust_first_pass ms s) p
unfolding first_pass_by rust_first_pass perform perform_task insert_all and_then putting
pass_ends [] over a low t s c g p = done t s p g
pass_ends (l ∷ ls) (next {m = m} {ms = ms} d e) a low t s c g p =
    pass_line size 0 a t l ls (λ r. r ≡ accepted p → Ended s (rust_first_pass (m ∷ ms) s) p)
    (λ k h. rw (rust_first_pass, d.does s, k, end_unlabelled l.text k) (done t s p g h))
    (λ k o h. absurd (never 6 l.number p h))
    (λ t' k o v h. absurd (never 5 l.number p h))
    (λ t' k o v. on t' (there k) (first_pass 0 after t' ls) refl (pass_ends ls (e (not_end l.text k)) after v t' (there k).state (there k).current
    (rw (there k).labels (record_all_agrees l a low (line_of l.text).names t t' s c g o))))
  where
    after : ℕ
    after = address_after size 0 a (line_of l.text).task

    there : (line_of l.text).task ≢ end → Performed (line_of l.text) a s
    there k = performed (line_of l.text) a low s c k (task_low l.text)

    on : (t' : Table) (q : Performed (line_of l.text) a s) (r : Answer Pass) → first_pass 0 after t' ls ≡ r
        → ((x : Pass) → first_pass 0 after t' ls ≡ accepted x → Ended q.state (rust_first_pass ms q.state) x)
        → and_then r (putting a (line_of l.text).task) ≡ accepted p → Ended s (rust_first_pass (m ∷ ms) s) p
    on t' q (refused n x) f ih h = absurd (never n x p h)
    on t' q (accepted x) f ih h =
        rw (rust_first_pass, d.does s, q.flows, ← accepted_inj _ p h)
        (combine (line_of l.text) a low (task_low l.text) s (rust_first_pass ms q.state) q x (ih x f))
