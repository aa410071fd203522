-- What the words after the program's name ask for: a call, a text, or nothing that there is. Assumes nothing.
use Rattle.std.specs.List.{list_any}
use Rattle.std.specs.Prelude.{ℕ, ◌-◌, ◌^◌, ℤ, Bool, true, false, cond, leb, eqb, List, [], ◌∷◌, ◌++◌, length, take, drop, zero, suc, get_or, find, Option, None, Some, Result, Ok, Err, bytes_eq, codes}
use Rattle.rules.specs.Text.{Text}
use Rattle.cli_error.specs.declared.What.{What}
use Rattle.cli_error.specs.declared.What.TheVariants.{Open, Write}
use Rattle.cli_error.specs.Fault.{Fault, misused, failed}
use Rattle.cli_error.specs.Refusals.{refusals_text}
use Rattle.cli_run.specs.From.{From, standard, file, again}
use Rattle.cli_args.specs.Number.{address, decimal, distance}
use Rattle.cli_args.specs.Table.{command_name, command_values, option_name, option_taken, named_command}
use Rattle.cli_args.specs.Help.{help_text, command_help_text}
use Rattle.cli_args.specs.declared.help.TheConstants.{VERSION}
use Rattle.cli_args.specs.declared.Command.{Command}
use Rattle.cli_args.specs.declared.Command.TheVariants as command
use Rattle.cli_args.specs.declared.Setting.{Setting}
use Rattle.cli_args.specs.declared.Setting.TheVariants as setting
use Rattle.cli_args.specs.Given.{Given, flag, value, tries, operand, Complaint, no_option, too_many, takes, no_number, missing, help, version, wrong, goes, stops, Step, number_count, given_in}

-- ---- what a call is

-- -w: a run with each value from `from` to `to` as the words at `at`
pub record Sweep : Type 0 where
  pub at : ℕ
  pub from : ℕ
  pub to : ℕ

pub record Runs : Type 0 where
  pub a : List ℕ
  pub start : ℕ
  pub limit : ℕ
  pub sweep : Option Sweep

-- each command with its own arguments: whether JSON is written; the base; the branch table; what else; and FILE
pub data Work : Type 0 where
  assemble : Bool → ℕ → Option Text → Option Text → Work
  manual : ℕ → Option Text → Work
  move : ℤ → Option Text → Work
  symbols : Bool → ℕ → Option Text → Work
  nearest : Bool → ℕ → ℕ → Option Text → Work
  why : Bool → ℕ → Option Text → Option ℕ → List From → Work
  tidy : Option Text → Work
  run : Bool → Runs → Option Text → Work
  sheet : Bool → List Text → Option Text → Work
  list : ℕ → Option Text → List From → Work
  check : ℕ → Option Text → List From → Work

-- and the file that its output goes into: none is standard output
pub record Call : Type 0 where
  pub work : Work
  pub output : Option Text

pub data Asked : Type 0 where
  calls : Call → Asked
  prints : Text → Asked
  fails : Fault → Asked

-- ---- what was given

abbrev pub is_setting : Setting → Setting → Bool
is_setting s t = bytes_eq (option_name s) (option_name t)

-- the value of an option, if this is one of its uses
abbrev pub value_in : Setting → Given → Option Text
value_in s (value t v) = cond (is_setting s t) (Some v) None
value_in s (flag t) = None
value_in s (tries a b d) = None
value_in s (operand w) = None

unfoldable pub values_of : Setting → List Given → List Text
values_of s [] = []
values_of s (g ∷ gs) = elim (value_in s g) [ None ↦ values_of s gs | Some v ↦ v ∷ values_of s gs ]

-- of an option that is given twice the last counts
unfoldable pub last_of : {A : Type 0} → List A → Option A
last_of [] = None
last_of (x ∷ xs) = elim (last_of xs) [ None ↦ Some x | Some y ↦ Some y ]

abbrev pub value_of : Setting → List Given → Option Text
value_of s gs = last_of (values_of s gs)

-- the three values of -w
pub record Three : Type 0 where
  pub at : Text
  pub from : Text
  pub to : Text

unfoldable pub tries_of : List Given → List Three
tries_of [] = []
tries_of (tries a b d ∷ gs) = record { at = a; from = b; to = d } ∷ tries_of gs
tries_of (flag t ∷ gs) = tries_of gs
tries_of (value t v ∷ gs) = tries_of gs
tries_of (operand w ∷ gs) = tries_of gs

unfoldable pub operands_of : List Given → List Text
operands_of [] = []
operands_of (operand w ∷ gs) = w ∷ operands_of gs
operands_of (flag t ∷ gs) = operands_of gs
operands_of (value t v ∷ gs) = operands_of gs
operands_of (tries a b d ∷ gs) = operands_of gs

abbrev pub is_json : Given → Bool
is_json (flag t) = is_setting setting.Json t
is_json (value t v) = false
is_json (tries a b d) = false
is_json (operand w) = false

abbrev pub has_json : List Given → Bool
has_json gs = list_any is_json gs

-- ---- numbers, in this order: of two that are wrong the first is reported

module _ {A B : Type 0} where
  abbrev pub then_ok : Result A Complaint → (A → Result B Complaint) → Result B Complaint
  then_ok (Ok x) k = k x
  then_ok (Err e) k = Err e

-- the number of an option, d if it is not given
abbrev pub number_in : {A : Type 0} → Setting → (Text → Option A) → A → Option Text → Result A Complaint
number_in s read d None = Ok d
number_in s read d (Some w) = elim (read w) [ None ↦ Err (takes s) | Some n ↦ Ok n ]

abbrev pub base_in : List Given → Result ℕ Complaint
base_in gs = number_in setting.Base address 0 (value_of setting.Base gs)

abbrev pub line_in : List Given → Result (Option ℕ) Complaint
line_in gs = number_in setting.Line (λ w. elim (decimal (2 ^ 32 - 1) w) [ None ↦ None | Some n ↦ Some (Some n) ]) None (value_of setting.Line gs)

abbrev pub registers : List Setting
registers = setting.A0 ∷ setting.A1 ∷ setting.A2 ∷ setting.A3 ∷ setting.A4 ∷ setting.A5 ∷ setting.A6 ∷ setting.A7 ∷ []

unfoldable pub registers_in : List Given → List Setting → Result (List ℕ) Complaint
registers_in gs [] = Ok []
registers_in gs (s ∷ ss) = then_ok (number_in s address 0 (value_of s gs)) (λ n. then_ok (registers_in gs ss) (λ ns. Ok (n ∷ ns)))

-- an address and two numbers of 16 bits, the second not below the first
abbrev pub sweep_by : ℕ → ℕ → ℕ → Option Sweep
sweep_by a f t = cond (leb f t) (Some (record { at = a; from = f; to = t })) None

abbrev pub sweep_of : Three → Option Sweep
sweep_of w =
    elim (address w.at) [
      | None ↦ None
      | Some a ↦ elim (decimal (2 ^ 16 - 1) w.from) [ None ↦ None | Some f ↦ elim (decimal (2 ^ 16 - 1) w.to) [ None ↦ None | Some t ↦ sweep_by a f t ] ]
    ]

abbrev pub sweep_in : Option Three → Result (Option Sweep) Complaint
sweep_in None = Ok None
sweep_in (Some w) = elim (sweep_of w) [ None ↦ Err (takes setting.Tries) | Some s ↦ Ok (Some s) ]

-- the k-th operand is a number that has to be there
abbrev pub operand_number : {A : Type 0} → (Text → Option A) → Option Text → Result A Complaint
operand_number read None = Err missing
operand_number read (Some w) = elim (read w) [ None ↦ Err (no_number w) | Some n ↦ Ok n ]

unfoldable pub operand_at : ℕ → List Text → Option Text
operand_at k [] = None
operand_at zero (w ∷ ws) = Some w
operand_at (suc k) (w ∷ ws) = operand_at k ws

-- ---- files

-- `-` is standard input, or standard output, as none is
abbrev pub named_file : Option Text → Option Text
named_file None = None
named_file (Some w) = cond (bytes_eq w (codes "-")) None (Some w)

-- FILE, several times: standard input is read once
unfoldable pub froms : Bool → List Text → List From
froms was [] = []
froms was (w ∷ ws) = cond (bytes_eq w (codes "-")) (cond was again standard ∷ froms true ws) (file w ∷ froms was ws)

abbrev pub all_froms : List Text → List From
all_froms [] = standard ∷ []
all_froms (w ∷ ws) = froms false (w ∷ ws)

-- ---- the call

abbrev pub branches_in : List Given → Option Text
branches_in gs = value_of setting.Branches gs

abbrev pub file_in : ℕ → List Given → Option Text
file_in k gs = named_file (operand_at k (operands_of gs))

abbrev pub runs_in : List Given → Result Runs Complaint
runs_in gs =
    then_ok (registers_in gs registers) (λ a.
    then_ok (sweep_in (last_of (tries_of gs))) (λ s.
    then_ok (operand_number address (operand_at 0 (operands_of gs))) (λ start.
    then_ok (operand_number (λ w. decimal (2 ^ 64 - 1) w) (operand_at 1 (operands_of gs))) (λ limit.
    Ok (record { a = a; start = start; limit = limit; sweep = s })))))

abbrev pub work_of : Command → List Given → Result Work Complaint
work_of command.Assemble gs = then_ok (base_in gs) (λ b. Ok (assemble (has_json gs) b (branches_in gs) (file_in 0 gs)))
work_of command.Manual gs = then_ok (base_in gs) (λ b. Ok (manual b (file_in 0 gs)))
work_of command.Move gs = then_ok (operand_number distance (operand_at 0 (operands_of gs))) (λ d. Ok (move d (file_in 1 gs)))
work_of command.Symbols gs = then_ok (base_in gs) (λ b. Ok (symbols (has_json gs) b (file_in 0 gs)))
work_of command.Nearest gs =
    then_ok (base_in gs) (λ b. then_ok (operand_number address (operand_at 0 (operands_of gs))) (λ a. Ok (nearest (has_json gs) b a (file_in 1 gs))))
work_of command.Why gs =
    then_ok (base_in gs) (λ b. then_ok (line_in gs) (λ l. Ok (why (has_json gs) b (branches_in gs) l (all_froms (operands_of gs)))))
work_of command.Tidy gs = Ok (tidy (file_in 0 gs))
work_of command.Run gs = then_ok (runs_in gs) (λ r. Ok (run (has_json gs) r (file_in 2 gs)))
work_of command.Sheet gs = Ok (sheet (has_json gs) (values_of setting.Sheet gs) (file_in 0 gs))
work_of command.List gs = then_ok (base_in gs) (λ b. Ok (list b (branches_in gs) (all_froms (operands_of gs))))
work_of command.Check gs = then_ok (base_in gs) (λ b. Ok (check b (branches_in gs) (all_froms (operands_of gs))))

-- ---- names that are no UTF-8: such a word ends in byte 0, which no other word has, and is printed without it

abbrev pub is_broken : Text → Bool
is_broken t = eqb (get_or t (length t - 1) 1) 0

abbrev pub shown : Text → Text
shown t = cond (is_broken t) (take (length t - 1) t) t

abbrev pub option_list : Option Text → List Text
option_list None = []
option_list (Some w) = w ∷ []

-- the names of the files of a call: those that are read, in this order, and the output's
abbrev pub read_names : Command → ℕ → List Given → List Text
read_names c k gs = (option_list (branches_in gs) ++ values_of setting.Sheet gs) ++ drop k (operands_of gs)

abbrev pub reason : Text
reason = codes "the name is not UTF-8"

abbrev pub named_by : What → Option Text → Asked → Asked
named_by what None k = k
named_by what (Some n) k = fails (failed what (shown n) reason)

abbrev pub with_names : Command → ℕ → List Given → Call → Asked
with_names c k gs x =
    named_by Open (find is_broken (read_names c k gs)) (named_by Write (find is_broken (option_list x.output)) (calls x))

-- ---- the words

abbrev pub complaint_text : Command → Complaint → Text
complaint_text c (no_option w) = codes "no option " ++ w
complaint_text c (too_many w) = codes "one FILE too many: " ++ w
complaint_text c (takes s) = option_name s ++ codes " takes " ++ option_taken s
complaint_text c (no_number w) = codes "no such number: " ++ w
complaint_text c missing = command_values c ++ codes " is missing"

abbrev pub complains : Command → Complaint → Asked
complains c e = fails (misused (Some (command_name c)) (shown (complaint_text c e)))

abbrev pub asked_by : Command → List Given → Result Work Complaint → Asked
asked_by c gs (Ok w) = with_names c (number_count c) gs (record { work = w; output = named_file (value_of setting.Output gs) })
asked_by c gs (Err e) = complains c e

abbrev pub asked_at : Command → Step → Asked
asked_at c (goes gs m) = asked_by c gs (work_of c gs)
asked_at c (stops help) = prints (command_help_text c)
asked_at c (stops version) = prints VERSION.now
asked_at c (stops (wrong e)) = complains c e

abbrev pub asked_for : Text → List Text → Option Command → Asked
asked_for w ws None = fails (misused None (codes "no command " ++ shown w))
asked_for w ws (Some c) = asked_at c (given_in c ws)

-- ws, the words after the program's name
abbrev pub asked_of : List Text → Asked
asked_of [] = fails (misused None (codes "no command"))
asked_of (w ∷ ws) =
    cond (bytes_eq w (codes "--help")) (prints (help_text refusals_text))
    (cond (bytes_eq w (codes "--version")) (prints VERSION.now) (asked_for w ws (named_command w)))
