-- The files of a call are those that words name. Assumes nothing.
use Rattle.std.proofs.Common.{◌≡◌, ℕ, Bool, true, false, cond, List, [], ◌∷◌, sym, refl, ap, inl, inr}
use Rattle.std.specs.Prelude.{Option, None, Some, Result, Ok, Err, find, bytes_eq, codes}
use Rattle.rules.specs.Text.{Text}
use Rattle.cli_error.specs.Refusals.{refusals_text}
use Rattle.cli_error.specs.declared.What.TheVariants.{Open, Write}
use Rattle.cli_run.specs.From.{standard, file, again}
use Rattle.cli_args.specs.Number.{address, distance}
use Rattle.cli_args.specs.Table.{named_command}
use Rattle.cli_args.specs.Help.{help_text}
use Rattle.cli_args.specs.declared.help.TheConstants.{VERSION}
use Rattle.cli_args.specs.declared.Command.{Command}
use Rattle.cli_args.specs.declared.Command.TheVariants as command
use Rattle.cli_args.specs.declared.Setting.TheVariants as setting
use Rattle.cli_args.specs.Given.{Given, Mode, Complaint, help, version, wrong, Step, goes, stops, number_count, given_in}
use Rattle.cli_args.specs.Asked as Asked
use Rattle.cli_args.specs.Asked.{Work, Call, calls, prints, then_ok, base_in, line_in, runs_in, last_of, values_of, operands_of, operand_number, operand_at, has_json, named_file, froms, all_froms, branches_in, file_in, work_of, is_broken, option_list, read_names, named_by, asked_by, asked_at, asked_for, asked_of}
use Rattle.cli_args.specs.Stated.{Among, Spelled, branches_of, sheets_of, names_of, files_of, IsNamed, FilesAreNamed}
use Rattle.cli_args.proofs.Spelling.{on_cond, spelled}
use Rattle.cli_args.proofs.Wordings.{last_among, operand_among, spelled_value, spelled_operand, later}

-- ---- FILE
named_is : (o : Option Text) (n : Text) → named_file o ≡ Some n → o ≡ Some n
named_is None n h = absurd cc
named_is (Some w) n h = go (bytes_eq w (codes "-")) h
  where
    go : (b : Bool) → cond b None (Some w) ≡ Some n → Some w ≡ Some n
    go true h = absurd cc
    go false h = h

listed_is : (o : Option Text) (n : Text) → Among n (option_list o) → o ≡ Some n
listed_is None n h = absurd h
listed_is (Some w) n (inl e) = ap (λ t. Some t) (sym e)
listed_is (Some w) n (inr h) = absurd h

file_among : (k : ℕ) (ws : List Text) (n : Text) → Among n (option_list (named_file (operand_at k ws))) → Among n ws
file_among k ws n h = operand_among k ws n (named_is (operand_at k ws) n (listed_is (named_file (operand_at k ws)) n h))

froms_among : (n : Text) (was : Bool) (ws : List Text) → Among n (names_of (froms was ws)) → Among n ws
unfolding froms names_of
froms_among n was [] h = absurd h
froms_among n was (w ∷ ws) h = go (bytes_eq w (codes "-")) was (froms_among n true ws) (froms_among n was ws) h
  where
    go : (b z : Bool) → (Among n (names_of (froms true ws)) → Among n ws) → (Among n (names_of (froms was ws)) → Among n ws)
        → Among n (names_of (cond b (cond z again standard ∷ froms true ws) (file w ∷ froms was ws))) → Among n (w ∷ ws)
    go true true k l h = inr (k h)
    go true false k l h = inr (k h)
    go false z k l (inl e) = inl e
    go false z k l (inr h) = inr (l h)

all_among : (n : Text) (ws : List Text) → Among n (names_of (all_froms ws)) → Among n ws
unfolding names_of
all_among n [] h = absurd h
all_among n (w ∷ ws) h = froms_among n false (w ∷ ws) h

-- ---- what is given
module _ (gs : List Given) where
  record Chosen (w : Work) : Type 0 where
    pub branches : (n : Text) → branches_of w ≡ Some n → branches_in gs ≡ Some n
    pub sheets : (n : Text) → Among n (sheets_of w) → Among n (values_of setting.Sheet gs)
    pub files : (n : Text) → Among n (files_of w) → Among n (operands_of gs)

  none_is_some : (n : Text) → ◌≡◌ {A = Option Text} None (Some n) → ⊥
  none_is_some n h = cc

  -- the number x, and then what the command is asked for
  one_chosen : {A : Type 0} (r : Result A Complaint) (k : A → Result Work Complaint) (w : Work) → ((x : A) → k x ≡ Ok w → Chosen w) → then_ok r k ≡ Ok w → Chosen w
  one_chosen (Ok x) k w f h = f x h
  one_chosen (Err e) k w f h = absurd cc

  is_work : (v w : Work) → ◌≡◌ {A = Result Work Complaint} (Ok v) (Ok w) → v ≡ w
  is_work v w h = cc

  chosen_as : (v w : Work) → Chosen v → ◌≡◌ {A = Result Work Complaint} (Ok v) (Ok w) → Chosen w
  chosen_as v w k h = rw (is_work v w h) at k

  -- the last number
  last_chosen : {A : Type 0} (r : Result A Complaint) (f : A → Work) (w : Work) → ((x : A) → Chosen (f x)) → then_ok r (λ x. Ok (f x)) ≡ Ok w → Chosen w
  last_chosen r f w k h = one_chosen r (λ x. Ok (f x)) w (λ x q. chosen_as (f x) w (k x) q) h

  chosen : (c : Command) (w : Work) → work_of c gs ≡ Ok w → Chosen w
  chosen command.Assemble w h =
      last_chosen (base_in gs) (λ b. Asked.assemble (has_json gs) b (branches_in gs) (file_in 0 gs)) w
      (λ b. record { branches = λ n e. e; sheets = λ n a. absurd a; files = λ n a. file_among 0 (operands_of gs) n a }) h
  chosen command.Manual w h =
      last_chosen (base_in gs) (λ b. Asked.manual b (file_in 0 gs)) w
      (λ b. record { branches = λ n e. absurd (none_is_some n e); sheets = λ n a. absurd a; files = λ n a. file_among 0 (operands_of gs) n a }) h
  chosen command.Move w h =
      last_chosen (operand_number distance (operand_at 0 (operands_of gs))) (λ d. Asked.move d (file_in 1 gs)) w
      (λ d. record { branches = λ n e. absurd (none_is_some n e); sheets = λ n a. absurd a; files = λ n a. file_among 1 (operands_of gs) n a }) h
  chosen command.Symbols w h =
      last_chosen (base_in gs) (λ b. Asked.symbols (has_json gs) b (file_in 0 gs)) w
      (λ b. record { branches = λ n e. absurd (none_is_some n e); sheets = λ n a. absurd a; files = λ n a. file_among 0 (operands_of gs) n a }) h
  chosen command.Nearest w h =
      one_chosen (base_in gs)
      (λ b. then_ok (operand_number address (operand_at 0 (operands_of gs))) (λ a. Ok (Asked.nearest (has_json gs) b a (file_in 1 gs)))) w
      (λ b q.
      last_chosen (operand_number address (operand_at 0 (operands_of gs))) (λ a. Asked.nearest (has_json gs) b a (file_in 1 gs)) w
      (λ a. record { branches = λ n e. absurd (none_is_some n e); sheets = λ n a. absurd a; files = λ n a. file_among 1 (operands_of gs) n a }) q)
      h
  chosen command.Why w h =
      one_chosen (base_in gs) (λ b. then_ok (line_in gs) (λ l. Ok (Asked.why (has_json gs) b (branches_in gs) l (all_froms (operands_of gs))))) w
      (λ b q.
      last_chosen (line_in gs) (λ l. Asked.why (has_json gs) b (branches_in gs) l (all_froms (operands_of gs))) w
      (λ l. record { branches = λ n e. e; sheets = λ n a. absurd a; files = λ n a. all_among n (operands_of gs) a }) q)
      h
  chosen command.Tidy w h =
      chosen_as (Asked.tidy (file_in 0 gs)) w
      (record { branches = λ n e. absurd (none_is_some n e); sheets = λ n a. absurd a; files = λ n a. file_among 0 (operands_of gs) n a }) h
  chosen command.Run w h =
      last_chosen (runs_in gs) (λ r. Asked.run (has_json gs) r (file_in 2 gs)) w
      (λ r. record { branches = λ n e. absurd (none_is_some n e); sheets = λ n a. absurd a; files = λ n a. file_among 2 (operands_of gs) n a }) h
  chosen command.Sheet w h =
      chosen_as (Asked.sheet (has_json gs) (values_of setting.Sheet gs) (file_in 0 gs)) w
      (record { branches = λ n e. absurd (none_is_some n e); sheets = λ n a. a; files = λ n a. file_among 0 (operands_of gs) n a }) h
  chosen command.List w h =
      last_chosen (base_in gs) (λ b. Asked.list b (branches_in gs) (all_froms (operands_of gs))) w
      (λ b. record { branches = λ n e. e; sheets = λ n a. absurd a; files = λ n a. all_among n (operands_of gs) a }) h
  chosen command.Check w h =
      last_chosen (base_in gs) (λ b. Asked.check b (branches_in gs) (all_froms (operands_of gs))) w
      (λ b. record { branches = λ n e. e; sheets = λ n a. absurd a; files = λ n a. all_among n (operands_of gs) a }) h

-- ---- the call
named_calls : (o q : Option Text) (x y : Call) → named_by Open o (named_by Write q (calls x)) ≡ calls y → x ≡ y
named_calls (Some n) q x y h = absurd cc
named_calls None (Some n) x y h = absurd cc
named_calls None None x y h = cc

module _ (w : Text) (ws : List Text) (x : Call) where
  call_named : (c : Command) (gs : List Given) (m : Mode) (r : Result Work Complaint) → given_in c ws ≡ goes gs m → work_of c gs ≡ r → asked_by c gs r ≡ calls x
      → IsNamed (w ∷ ws) x
  call_named c gs m (Err e) is k h = absurd cc
  call_named c gs m (Ok y) is k h =
      let p : ◌≡◌ {A = Call} (record { work = y; output = named_file (last_of (values_of setting.Output gs)) }) x =
      named_calls (find is_broken (read_names c (number_count c) gs)) (find is_broken (option_list (named_file (last_of (values_of setting.Output gs)))))
      (record { work = y; output = named_file (last_of (values_of setting.Output gs)) }) x h
      in
      let s : Spelled c gs ws = spelled c ws gs m is in
      let d : Chosen gs y = chosen gs c y k in
      rw (← p)
      (record {
        output = λ n e.
            later setting.Output n w ws
            (spelled_value c setting.Output n gs ws s (last_among (values_of setting.Output gs) n (named_is (last_of (values_of setting.Output gs)) n e)));
        branches = λ n e.
            later setting.Branches n w ws (spelled_value c setting.Branches n gs ws s (last_among (values_of setting.Branches gs) n (d.branches n e)));
        sheets = λ n a. later setting.Sheet n w ws (spelled_value c setting.Sheet n gs ws s (d.sheets n a));
        files = λ n a. inr (spelled_operand c n gs ws s (d.files n a));
      })

  step_named : (c : Command) (y : Step) → given_in c ws ≡ y → asked_at c y ≡ calls x → IsNamed (w ∷ ws) x
  step_named c (goes gs m) is h = call_named c gs m (work_of c gs) is refl h
  step_named c (stops help) is h = absurd cc
  step_named c (stops version) is h = absurd cc
  step_named c (stops (wrong e)) is h = absurd cc

  abbrev Names : Asked.Asked → Type 0
  Names y = y ≡ calls x → IsNamed (w ∷ ws) x

  command_named : (o : Option Command) → Names (asked_for w ws o)
  command_named None h = absurd cc
  command_named (Some c) h = step_named c (given_in c ws) refl h

  text_is_none : (u : Text) → Names (prints u)
  text_is_none u h = absurd cc

  word_named : Names (asked_of (w ∷ ws))
  word_named =
      on_cond Names (bytes_eq w (codes "--help")) (prints (help_text refusals_text))
      (cond (bytes_eq w (codes "--version")) (prints VERSION.now) (asked_for w ws (named_command w))) (λ e. text_is_none (help_text refusals_text))
      (λ n. on_cond Names (bytes_eq w (codes "--version")) (prints VERSION.now) (asked_for w ws (named_command w)) (λ e. text_is_none VERSION.now)
      (λ n. command_named (named_command w)))

pub files_are_named : FilesAreNamed
unfolding FilesAreNamed
files_are_named [] x h = absurd cc
files_are_named (w ∷ ws) x h = word_named w ws x h
