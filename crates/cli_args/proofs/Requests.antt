-- What help and usage errors are for. Assumes nothing.
use Rattle.std.proofs.Common.{◌≡◌, ◌∙◌, ℕ, ◌<◌, ◌≤◌, Bool, true, false, cond, List, [], ◌∷◌, ◌++◌, length, sym, refl, ap, inl, inr, arith}
use Rattle.std.specs.Prelude.{◌⊎◌, ◌-◌, ◌^◌, Option, None, Some, Result, Ok, Err, find, bytes_eq, codes, ⊤}
use Rattle.std.proofs.lemmas.List.{append-nil}
use Rattle.rules.specs.Text.{Text}
use Rattle.cli_error.specs.Fault.{misused}
use Rattle.cli_error.specs.Refusals.{refusals_text}
use Rattle.cli_error.specs.declared.What.TheVariants.{Open, Write}
use Rattle.cli_args.specs.Number.{address, decimal, distance}
use Rattle.cli_args.specs.Table.{command_name, option_name, named_command, commands, takes_option}
use Rattle.cli_args.specs.Help.{help_text, command_help_text}
use Rattle.cli_args.specs.declared.help.TheConstants.{VERSION}
use Rattle.cli_args.specs.declared.Command.{Command}
use Rattle.cli_args.specs.declared.Command.TheVariants as command
use Rattle.cli_args.specs.declared.Setting.{Setting}
use Rattle.cli_args.specs.declared.Setting.TheVariants as setting
use Rattle.cli_args.specs.Given.{Given, Mode, ready, plain, value_of, first, second, third, Complaint, no_option, too_many, takes, no_number, missing, Stop, help, version, wrong, Step, goes, stops, number_count, operand_step, on_step, steps, given_in}
use Rattle.cli_args.specs.Asked as Asked
use Rattle.cli_args.specs.Asked.{Work, Call, calls, prints, fails, Three, then_ok, number_in, base_in, line_in, registers, registers_in, sweep_of, sweep_in, has_json, branches_in, file_in, all_froms, named_file, is_broken, option_list, read_names, last_of, values_of, tries_of, operands_of, operand_number, operand_at, runs_in, work_of, shown, named_by, complaint_text, complains, asked_by, asked_at, asked_for, asked_of}
use Rattle.cli_args.specs.Stated.{Among, IsHelp, HelpIsRequested, Blames, IsComplaint, HasNoWord, NamesNoCommand, MisusesCommand, MisuseIsNamed}
use Rattle.cli_args.proofs.Spelling.{on_cond, same_text, Says, dashes, a_flag, a_value, an_option, a_try, an_operand, asks_help, asks_version, is_wrong, ready_says, on_operand, spelled}
use Rattle.cli_args.proofs.Wordings.{spelled_begins, spelled_tries, spelled_operand, last_among, operand_among, no_operand_left}

-- ---- where the reading ends; all, all of the words

-- what is wanted when no word is left
abbrev Wanted : Command → Mode → List Text → Type 0
Wanted c ready all = ⊤
Wanted c plain all = ⊤
Wanted c (value_of s) all = Blames c all (takes s)
Wanted c first all = Blames c all (takes setting.Tries)
Wanted c (second a) all = Blames c all (takes setting.Tries)
Wanted c (third a b) all = Blames c all (takes setting.Tries)

abbrev EndsBy : Command → List Text → Stop → Type 0
EndsBy c all help = Among (codes "--help") all
EndsBy c all version = Among (codes "--version") all
EndsBy c all (wrong e) = Blames c all e

ends_as : (c : Command) (all : List Text) (t s : Stop) → EndsBy c all t → t ≡ s → EndsBy c all s
ends_as c all t s k p = rw p at k

module _ (c : Command) (all : List Text) (gs : List Given) (w : Text) (ws : List Text) (s : Stop) (here : Among w all)
    (left : (ks : List Given) (m : Mode) → Wanted c m all → steps c ks m ws ≡ stops s → EndsBy c all s) where
  at_stop : (t : Stop) → EndsBy c all t → stops t ≡ stops s → EndsBy c all s
  at_stop t k h = ends_as c all t s k cc

  ready_ends : {x : Step} → Says c gs w x → on_step x (λ ks m. steps c ks m ws) ≡ stops s → EndsBy c all s
  ready_ends (dashes e) h = left gs plain tt h
  ready_ends (a_flag t e) h = left _ ready tt h
  ready_ends (a_value t v e) h = left _ ready tt h
  ready_ends (an_option t k e) h = left gs (value_of t) (w, here, (k, [], e ∙ sym (append-nil (option_name t)))) h
  ready_ends (a_try k e) h = left gs first (w, here, (k, [], e ∙ sym (append-nil (option_name setting.Tries)))) h
  ready_ends (an_operand i) h = left _ ready tt h
  ready_ends (asks_help e) h = at_stop help (rw e at here) h
  ready_ends (asks_version e) h = at_stop version (rw e at here) h
  ready_ends (is_wrong e b) h = at_stop (wrong e) (w, here, b) h

  plain_ends : on_step (operand_step c gs plain w) (λ ks m. steps c ks m ws) ≡ stops s → EndsBy c all s
  plain_ends =
      on_operand c gs w (λ x. on_step x (λ ks m. steps c ks m ws) ≡ stops s → EndsBy c all s) plain (λ h. left _ plain tt h)
      (λ e h. at_stop (wrong (too_many w)) (w, here, (e, refl)) h)

all_ends : (c : Command) (all : List Text) (s : Stop) (ws : List Text) (gs : List Given) (m : Mode) → ((w : Text) → Among w ws → Among w all) → Wanted c m all
    → steps c gs m ws ≡ stops s → EndsBy c all s
unfolding steps
all_ends c all s [] gs ready sub k h = absurd cc
all_ends c all s [] gs plain sub k h = absurd cc
all_ends c all s [] gs (value_of t) sub k h = ends_as c all (wrong (takes t)) s k cc
all_ends c all s [] gs first sub k h = ends_as c all (wrong (takes setting.Tries)) s k cc
all_ends c all s [] gs (second a) sub k h = ends_as c all (wrong (takes setting.Tries)) s k cc
all_ends c all s [] gs (third a b) sub k h = ends_as c all (wrong (takes setting.Tries)) s k cc
all_ends c all s (w ∷ ws) gs ready sub k h =
    ready_ends c all gs w ws s (sub w (inl refl)) (λ ks m. all_ends c all s ws ks m (λ v a. sub v (inr a))) (ready_says c gs w) h
all_ends c all s (w ∷ ws) gs plain sub k h =
    plain_ends c all gs w ws s (sub w (inl refl)) (λ ks m. all_ends c all s ws ks m (λ v a. sub v (inr a))) h
all_ends c all s (w ∷ ws) gs (value_of t) sub k h = all_ends c all s ws _ ready (λ v a. sub v (inr a)) tt h
all_ends c all s (w ∷ ws) gs first sub k h = all_ends c all s ws gs (second w) (λ v a. sub v (inr a)) k h
all_ends c all s (w ∷ ws) gs (second a) sub k h = all_ends c all s ws gs (third a w) (λ v b. sub v (inr b)) k h
all_ends c all s (w ∷ ws) gs (third a b) sub k h = all_ends c all s ws _ ready (λ v d. sub v (inr d)) tt h

pub ends : (c : Command) (ws : List Text) (s : Stop) → given_in c ws ≡ stops s → EndsBy c ws s
ends c ws s h = all_ends c ws s ws [] ready (λ w a. a) tt h

-- ---- numbers that are wrong
module _ {A B : Type 0} where
  pub then_err : (r : Result A Complaint) (k : A → Result B Complaint) (e : Complaint) → then_ok r k ≡ Err e → (r ≡ Err e) ⊎ ((x : A) × (r ≡ Ok x) × (k x ≡ Err e))
  then_err (Ok x) k e h = inr (x, refl, h)
  then_err (Err f) k e h = let q : f ≡ e = cc in inl (ap (λ x. Err x) q)

module _ {A : Type 0} where
  ok_apart : (x : A) (e : Complaint) → ◌≡◌ {A = Result A Complaint} (Ok x) (Err e) → ⊥
  ok_apart x e h = cc

  number_by : (s : Setting) (q : Option A) (e : Complaint) → ◌≡◌ {A = Result A Complaint} (elim q [ None ↦ Err (takes s) | Some n ↦ Ok n ]) (Err e) → e ≡ takes s
  number_by s None e h = let p : takes s ≡ e = cc in sym p
  number_by s (Some n) e h = absurd (ok_apart n e h)

  number_err : (s : Setting) (read : Text → Option A) (d : A) (o : Option Text) (e : Complaint) → number_in s read d o ≡ Err e → (e ≡ takes s) × (w : Text) × (o ≡ Some w)
  number_err s read d None e h = absurd (ok_apart d e h)
  number_err s read d (Some w) e h = (number_by s (read w) e h, w, refl)

  operand_by : (w : Text) (q : Option A) (e : Complaint) → ◌≡◌ {A = Result A Complaint} (elim q [ None ↦ Err (no_number w) | Some n ↦ Ok n ]) (Err e) → e ≡ no_number w
  operand_by w None e h = let p : no_number w ≡ e = cc in sym p
  operand_by w (Some n) e h = absurd (ok_apart n e h)

  none_there : (e : Complaint) → ◌≡◌ {A = Result A Complaint} (Err missing) (Err e) → e ≡ missing
  none_there e h = let p : missing ≡ e = cc in sym p

  operand_err : (read : Text → Option A) (o : Option Text) (e : Complaint) → operand_number read o ≡ Err e
      → ((e ≡ missing) × (o ≡ None)) ⊎ ((w : Text) × (e ≡ no_number w) × (o ≡ Some w))
  operand_err read None e h = inl (none_there e h, refl)
  operand_err read (Some w) e h = inr (w, operand_by w (read w) e h, refl)

sweep_err_by : (q : Option Asked.Sweep) (e : Complaint)
    → ◌≡◌ {A = Result (Option Asked.Sweep) Complaint} (elim q [ None ↦ Err (takes setting.Tries) | Some s ↦ Ok (Some s) ]) (Err e) → e ≡ takes setting.Tries
sweep_err_by None e h = let p : takes setting.Tries ≡ e = cc in sym p
sweep_err_by (Some y) e h = absurd (ok_apart (Some y) e h)

sweep_err : (o : Option Three) (e : Complaint) → sweep_in o ≡ Err e → (e ≡ takes setting.Tries) × (x : Three) × (o ≡ Some x)
sweep_err None e h = absurd (ok_apart None e h)
sweep_err (Some w) e h = (sweep_err_by (sweep_of w) e h, w, refl)

module _ (c : Command) (ws : List Text) (gs : List Given) (m : Mode) (is : given_in c ws ≡ goes gs m) where
  -- of an option that the command takes
  number_blamed : {A : Type 0} (s : Setting) (read : Text → Option A) (d : A) (e : Complaint) → takes_option c s ≡ true
      → number_in s read d (last_of (values_of s gs)) ≡ Err e → IsComplaint c ws e
  number_blamed s read d e t h =
      let r = number_err s read d (last_of (values_of s gs)) e h in
      let b = spelled_begins c s r.1 gs ws (spelled c ws gs m is) (last_among (values_of s gs) r.1 r.2) in
      rw r.0 (b.0, b.1, (t, b.2, b.3))

  -- of an operand
  operand_blamed : {A : Type 0} (k : ℕ) (read : Text → Option A) (e : Complaint) → k < number_count c
      → operand_number read (operand_at k (operands_of gs)) ≡ Err e → IsComplaint c ws e
  operand_blamed k read e l h = go (operand_err read (operand_at k (operands_of gs)) e h)
    where
      go : ((e ≡ missing) × (operand_at k (operands_of gs) ≡ None)) ⊎ ((w : Text) × (e ≡ no_number w) × (operand_at k (operands_of gs) ≡ Some w)) → IsComplaint c ws e
      go (inl r) = let b : length (operands_of gs) ≤ k = no_operand_left k (operands_of gs) r.1 in rw r.0 (gs, m, is, omega arith)
      go (inr r) = rw r.1 (r.0, spelled_operand c r.0 gs ws (spelled c ws gs m is) (operand_among k (operands_of gs) r.0 r.2), refl)

  base_blamed : (e : Complaint) → takes_option c setting.Base ≡ true → base_in gs ≡ Err e → IsComplaint c ws e
  base_blamed e t h = number_blamed setting.Base address 0 e t h

  -- of a number, or else of what comes after it
  one_blamed : {A B : Type 0} (r : Result A Complaint) (k : A → Result B Complaint) (e : Complaint) → (r ≡ Err e → IsComplaint c ws e)
      → ((x : A) → k x ≡ Err e → IsComplaint c ws e) → then_ok r k ≡ Err e → IsComplaint c ws e
  one_blamed {A} {B} r k e f g h = go (then_err r k e h)
    where
      go : (r ≡ Err e) ⊎ ((x : A) × (r ≡ Ok x) × (k x ≡ Err e)) → IsComplaint c ws e
      go (inl q) = f q
      go (inr q) = g q.0 q.2

  -- of the last number
  last_blamed : {A B : Type 0} (r : Result A Complaint) (f : A → B) (e : Complaint) → (r ≡ Err e → IsComplaint c ws e) → then_ok r (λ x. Ok (f x)) ≡ Err e
      → IsComplaint c ws e
  last_blamed r f e k h = one_blamed r (λ x. Ok (f x)) e k (λ x q. absurd (ok_apart (f x) e q)) h

  abbrev AllTaken : List Setting → Type 0
  AllTaken [] = ⊤
  AllTaken (s ∷ ss) = (takes_option c s ≡ true) × AllTaken ss

  registers_blamed : (ss : List Setting) (e : Complaint) → AllTaken ss → registers_in gs ss ≡ Err e → IsComplaint c ws e
  unfolding registers_in
  registers_blamed [] e t h = absurd (ok_apart [] e h)
  registers_blamed (s ∷ ss) e t h =
      one_blamed (number_in s address 0 (last_of (values_of s gs))) (λ n. then_ok (registers_in gs ss) (λ ns. Ok (n ∷ ns))) e
      (number_blamed s address 0 e t.0) (λ x q. last_blamed (registers_in gs ss) (λ ns. x ∷ ns) e (registers_blamed ss e t.1) q) h

  sweep_blamed : (e : Complaint) → takes_option c setting.Tries ≡ true → sweep_in (last_of (tries_of gs)) ≡ Err e → IsComplaint c ws e
  sweep_blamed e t h =
      let r = sweep_err (last_of (tries_of gs)) e h in
      let b = spelled_tries c gs ws (spelled c ws gs m is) r.1 r.2 in
      rw r.0 (b.0, b.1, (t, b.2, b.3))

-- ---- the commands
module _ (ws : List Text) (gs : List Given) (m : Mode) (e : Complaint) where
  run_blamed : given_in command.Run ws ≡ goes gs m → runs_in gs ≡ Err e → IsComplaint command.Run ws e
  run_blamed is h =
      one_blamed command.Run ws gs m is (registers_in gs registers)
      (λ a. then_ok (sweep_in (last_of (tries_of gs))) (λ s.
      then_ok (operand_number address (operand_at 0 (operands_of gs))) (λ start.
      then_ok (operand_number (λ w. decimal (2 ^ 64 - 1) w) (operand_at 1 (operands_of gs))) (λ limit.
      Ok (record { a = a; start = start; limit = limit; sweep = s })))))
      e
      (registers_blamed command.Run ws gs m is registers e (refl, (refl, (refl, (refl, (refl, (refl, (refl, (refl, tt)))))))))
      (λ a q.
      one_blamed command.Run ws gs m is (sweep_in (last_of (tries_of gs)))
      (λ s. then_ok (operand_number address (operand_at 0 (operands_of gs))) (λ start.
      then_ok (operand_number (λ w. decimal (2 ^ 64 - 1) w) (operand_at 1 (operands_of gs))) (λ limit.
      Ok (record { a = a; start = start; limit = limit; sweep = s }))))
      e (sweep_blamed command.Run ws gs m is e refl)
      (λ s q.
      one_blamed command.Run ws gs m is (operand_number address (operand_at 0 (operands_of gs)))
      (λ start. then_ok (operand_number (λ w. decimal (2 ^ 64 - 1) w) (operand_at 1 (operands_of gs))) (λ limit.
      Ok (record { a = a; start = start; limit = limit; sweep = s })))
      e (operand_blamed command.Run ws gs m is 0 address e (omega arith))
      (λ start q.
      last_blamed command.Run ws gs m is (operand_number (λ w. decimal (2 ^ 64 - 1) w) (operand_at 1 (operands_of gs)))
      (λ limit. record { a = a; start = start; limit = limit; sweep = s }) e
      (operand_blamed command.Run ws gs m is 1 (λ w. decimal (2 ^ 64 - 1) w) e (omega arith)) q)
      q)
      q)
      h

  pub work_blamed : (c : Command) → given_in c ws ≡ goes gs m → work_of c gs ≡ Err e → IsComplaint c ws e
  work_blamed command.Assemble is h =
      last_blamed command.Assemble ws gs m is (base_in gs) (λ b. Asked.assemble (has_json gs) b (branches_in gs) (file_in 0 gs)) e
      (base_blamed command.Assemble ws gs m is e refl) h
  work_blamed command.Manual is h =
      last_blamed command.Manual ws gs m is (base_in gs) (λ b. Asked.manual b (file_in 0 gs)) e (base_blamed command.Manual ws gs m is e refl) h
  work_blamed command.Move is h =
      last_blamed command.Move ws gs m is (operand_number distance (operand_at 0 (operands_of gs))) (λ d. Asked.move d (file_in 1 gs)) e
      (operand_blamed command.Move ws gs m is 0 distance e (omega arith)) h
  work_blamed command.Symbols is h =
      last_blamed command.Symbols ws gs m is (base_in gs) (λ b. Asked.symbols (has_json gs) b (file_in 0 gs)) e
      (base_blamed command.Symbols ws gs m is e refl) h
  work_blamed command.Nearest is h =
      one_blamed command.Nearest ws gs m is (base_in gs)
      (λ b. then_ok (operand_number address (operand_at 0 (operands_of gs))) (λ a. Ok (Asked.nearest (has_json gs) b a (file_in 1 gs)))) e
      (base_blamed command.Nearest ws gs m is e refl)
      (λ b q.
      last_blamed command.Nearest ws gs m is (operand_number address (operand_at 0 (operands_of gs))) (λ a. Asked.nearest (has_json gs) b a (file_in 1 gs)) e
      (operand_blamed command.Nearest ws gs m is 0 address e (omega arith)) q)
      h
  work_blamed command.Why is h =
      one_blamed command.Why ws gs m is (base_in gs)
      (λ b. then_ok (line_in gs) (λ l. Ok (Asked.why (has_json gs) b (branches_in gs) l (all_froms (operands_of gs))))) e
      (base_blamed command.Why ws gs m is e refl)
      (λ b q.
      last_blamed command.Why ws gs m is (line_in gs) (λ l. Asked.why (has_json gs) b (branches_in gs) l (all_froms (operands_of gs))) e
      (number_blamed command.Why ws gs m is {A = Option ℕ} setting.Line
      (λ w. elim (decimal (2 ^ 32 - 1) w) [ None ↦ None | Some n ↦ Some (Some n) ]) None e refl) q)
      h
  work_blamed command.Tidy is h = absurd (ok_apart (Asked.tidy (file_in 0 gs)) e h)
  work_blamed command.Run is h =
      last_blamed command.Run ws gs m is (runs_in gs) (λ r. Asked.run (has_json gs) r (file_in 2 gs)) e (run_blamed is) h
  work_blamed command.Sheet is h = absurd (ok_apart (Asked.sheet (has_json gs) (values_of setting.Sheet gs) (file_in 0 gs)) e h)
  work_blamed command.List is h =
      last_blamed command.List ws gs m is (base_in gs) (λ b. Asked.list b (branches_in gs) (all_froms (operands_of gs))) e
      (base_blamed command.List ws gs m is e refl) h
  work_blamed command.Check is h =
      last_blamed command.Check ws gs m is (base_in gs) (λ b. Asked.check b (branches_in gs) (all_froms (operands_of gs))) e
      (base_blamed command.Check ws gs m is e refl) h

-- ---- the command that a word names
find_true : {X : Type 0} (p : X → Bool) (xs : List X) (x : X) → find p xs ≡ Some x → p x ≡ true
find_true p [] x h = absurd cc
find_true {X} p (y ∷ ys) x h = go (p y) refl h (find_true p ys x)
  where
    go : (b : Bool) → p y ≡ b → cond b (Some y) (find p ys) ≡ Some x → (find p ys ≡ Some x → p x ≡ true) → p x ≡ true
    go true e h k = let q : y ≡ x = cc in rw (← q) e
    go false e h k = k h

named_is : (w : Text) (c : Command) → named_command w ≡ Some c → command_name c ≡ w
named_is w c h = same_text (command_name c) w (find_true (λ c. bytes_eq (command_name c) w) commands c h)

-- ---- what a call is not
module _ (c : Command) (gs : List Given) where
  abbrev output : Option Text
  output = named_file (last_of (values_of setting.Output gs))

  named_never : (o q : Option Text) (x : Call) (t : Text) → named_by Open o (named_by Write q (calls x)) ≡ prints t → ⊥
  named_never (Some n) q x t h = cc
  named_never None (Some n) x t h = cc
  named_never None None x t h = cc

  pub call_never_prints : (r : Result Work Complaint) (t : Text) → asked_by c gs r ≡ prints t → ⊥
  call_never_prints (Ok w) t h =
      named_never (find is_broken (read_names c (number_count c) gs)) (find is_broken (option_list output)) (record { work = w; output = output }) t h
  call_never_prints (Err e) t h = cc

  named_no_misuse : (o q : Option Text) (x : Call) (d : Option Text) (t : Text) → named_by Open o (named_by Write q (calls x)) ≡ fails (misused d t) → ⊥
  named_no_misuse (Some n) q x d t h = cc
  named_no_misuse None (Some n) x d t h = cc
  named_no_misuse None None x d t h = cc

  pub call_no_misuse : (w : Work) (d : Option Text) (t : Text) → asked_by c gs (Ok w) ≡ fails (misused d t) → ⊥
  call_no_misuse w d t h =
      named_no_misuse (find is_broken (read_names c (number_count c) gs)) (find is_broken (option_list output)) (record { work = w; output = output }) d t h

-- ---- help
help_by : (w : Text) (ws : List Text) (t : Text) (c : Command) (x : Step) → given_in c ws ≡ x → asked_at c x ≡ prints t
    → (Among (codes "--help") (w ∷ ws) × IsHelp t) ⊎ (Among (codes "--version") (w ∷ ws) × (t ≡ VERSION.now))
help_by w ws t c (goes gs m) is h = absurd (call_never_prints c gs (work_of c gs) t h)
help_by w ws t c (stops help) is h = let p : command_help_text c ≡ t = cc in inl (inr (ends c ws help is), inr (c, sym p))
help_by w ws t c (stops version) is h = let p : VERSION.now ≡ t = cc in inr (inr (ends c ws version is), sym p)
help_by w ws t c (stops (wrong e)) is h = absurd cc

module _ (w : Text) (ws : List Text) (t : Text) where
  abbrev AsksText : Asked.Asked → Type 0
  AsksText x = x ≡ prints t → (Among (codes "--help") (w ∷ ws) × IsHelp t) ⊎ (Among (codes "--version") (w ∷ ws) × (t ≡ VERSION.now))

  named_text : (o : Option Command) → AsksText (asked_for w ws o)
  named_text None h = absurd cc
  named_text (Some c) h = help_by w ws t c (given_in c ws) refl h

  whole_text : bytes_eq w (codes "--help") ≡ true → AsksText (prints (help_text refusals_text))
  whole_text e h = let p : help_text refusals_text ≡ t = cc in inl (inl (sym (same_text w (codes "--help") e)), inl (sym p))

  version_text : bytes_eq w (codes "--version") ≡ true → AsksText (prints VERSION.now)
  version_text e h = let p : VERSION.now ≡ t = cc in inr (inl (sym (same_text w (codes "--version") e)), sym p)

  text_asked : AsksText (asked_of (w ∷ ws))
  text_asked =
      on_cond AsksText (bytes_eq w (codes "--help")) (prints (help_text refusals_text))
      (cond (bytes_eq w (codes "--version")) (prints VERSION.now) (asked_for w ws (named_command w))) whole_text
      (λ n. on_cond AsksText (bytes_eq w (codes "--version")) (prints VERSION.now) (asked_for w ws (named_command w)) version_text
      (λ n. named_text (named_command w)))

pub help_is_requested : HelpIsRequested
unfolding HelpIsRequested
help_is_requested [] t h = absurd cc
help_is_requested (w ∷ ws) t h = text_asked w ws t h

-- ---- usage errors
module _ (w : Text) (ws : List Text) (d : Option Text) (t : Text) where
  abbrev Misuse : Type 0
  Misuse = HasNoWord (w ∷ ws) d t ⊎ (NamesNoCommand (w ∷ ws) d t ⊎ MisusesCommand (w ∷ ws) d t)

  complained : (c : Command) (e : Complaint) → named_command w ≡ Some c → IsComplaint c ws e → complains c e ≡ fails (misused d t) → Misuse
  complained c e n k h =
      let p : Some (command_name c) ≡ d = cc in
      let q : shown (complaint_text c e) ≡ t = cc in
      inr (inr (c, ws, e, ap (λ v. v ∷ ws) (sym (named_is w c n)), k, sym p, sym q))

  named_complaint : (c : Command) (e : Complaint) → Blames c ws e → IsComplaint c ws e
  named_complaint c (no_option n) b = b
  named_complaint c (too_many v) b = b
  named_complaint c (takes s) b = b
  named_complaint c (no_number v) b = b
  named_complaint c missing b = absurd b.2

  given_wrong : (c : Command) (gs : List Given) (m : Mode) (r : Result Work Complaint) → named_command w ≡ Some c → given_in c ws ≡ goes gs m → work_of c gs ≡ r
      → asked_by c gs r ≡ fails (misused d t) → Misuse
  given_wrong c gs m (Ok x) n is k h = absurd (call_no_misuse c gs x d t h)
  given_wrong c gs m (Err e) n is k h = complained c e n (work_blamed ws gs m e c is k) h

  misuse_by : (c : Command) (x : Step) → named_command w ≡ Some c → given_in c ws ≡ x → asked_at c x ≡ fails (misused d t) → Misuse
  misuse_by c (goes gs m) n is h = given_wrong c gs m (work_of c gs) n is refl h
  misuse_by c (stops help) n is h = absurd cc
  misuse_by c (stops version) n is h = absurd cc
  misuse_by c (stops (wrong e)) n is h = complained c e n (named_complaint c e (ends c ws (wrong e) is)) h

  misuse_named : (o : Option Command) → named_command w ≡ o → asked_for w ws o ≡ fails (misused d t) → Misuse
  misuse_named None n h =
      let p : ◌≡◌ {A = Option Text} None d = cc in
      let q : codes "no command " ++ shown w ≡ t = cc in
      inr (inl (w, ws, refl, n, sym p, sym q))
  misuse_named (Some c) n h = misuse_by c (given_in c ws) n refl h

  abbrev Misuses : Asked.Asked → Type 0
  Misuses x = x ≡ fails (misused d t) → Misuse

  text_is_none : (u : Text) → Misuses (prints u)
  text_is_none u h = absurd cc

  misuse_asked : Misuses (asked_of (w ∷ ws))
  misuse_asked =
      on_cond Misuses (bytes_eq w (codes "--help")) (prints (help_text refusals_text))
      (cond (bytes_eq w (codes "--version")) (prints VERSION.now) (asked_for w ws (named_command w))) (λ e. text_is_none (help_text refusals_text))
      (λ n. on_cond Misuses (bytes_eq w (codes "--version")) (prints VERSION.now) (asked_for w ws (named_command w)) (λ e. text_is_none VERSION.now)
      (λ n. misuse_named (named_command w) refl))

pub misuse_is_named : MisuseIsNamed
unfolding MisuseIsNamed
misuse_is_named [] d t h =
    let p : ◌≡◌ {A = Option Text} None d = cc in
    let q : codes "no command" ≡ t = cc in
    inl (refl, sym p, sym q)
misuse_is_named (w ∷ ws) d t h = misuse_asked w ws d t h
