-- What the code has of a call, and of what the words ask for. Assumes nothing.
use Rattle.std.specs.Prelude.{Bool, true, cond, List, ◌++◌, map, drop, find, Option, None, Some, option_map, Result, Ok, Err, bytes_eq, codes}
use Rattle.rules.specs.Text.{Text}
use Rattle.cli_error.specs.Fault.{misused, failed}
use Rattle.cli_run.specs.From.{From, standard, file, again, from_of}
use Rattle.cli_args.specs.Table.{command_name}
use Rattle.cli_args.specs.Given.{Given, flag, value, tries, operand, Complaint, number_count}
use Rattle.cli_args.specs.Lexed.{complaint_of}
use Rattle.cli_args.specs.Asked as Of
use Rattle.cli_args.specs.Asked.{Work, Asked, values_of, branches_in, is_broken, option_list, reason}
use Rattle.cli_args.specs.declared.Command.{Command}
use Rattle.cli_args.specs.declared.Setting.TheVariants as setting
use Rattle.cli_args.specs.declared.lexing.Wrong.{Wrong}
use Rattle.cli_args.specs.declared.givens.Three.{Three}
use Rattle.cli_args.specs.declared.args.Sweep.{Sweep}
use Rattle.cli_args.specs.declared.args.Args.{Args}
use Rattle.cli_args.specs.declared.args.Args.TheVariants as A
use Rattle.cli_args.specs.declared.args.Call.{Call}
use Rattle.cli_args.specs.declared.args.Parsed.{Parsed}
use Rattle.cli_args.specs.declared.args.Parsed.TheVariants as P

abbrev pub sweep_of_code : Sweep → Of.Sweep
sweep_of_code s = record { at = s.at; from = s.from; to = s.to }

abbrev pub work_of_args : Args → Work
work_of_args (A.Assemble x) = Of.assemble x.json x.base (option_map (λ s. s.now) x.branches) (option_map (λ s. s.now) x.file)
work_of_args (A.Manual x) = Of.manual x.base (option_map (λ s. s.now) x.file)
work_of_args (A.Move x) = Of.move x.distance (option_map (λ s. s.now) x.file)
work_of_args (A.Symbols x) = Of.symbols x.json x.base (option_map (λ s. s.now) x.file)
work_of_args (A.Nearest x) = Of.nearest x.json x.base x.address (option_map (λ s. s.now) x.file)
work_of_args (A.Why x) = Of.why x.json x.base (option_map (λ s. s.now) x.branches) x.line (map from_of x.files.items)
work_of_args (A.Tidy x) = Of.tidy (option_map (λ s. s.now) x.file)
work_of_args (A.Run x) =
    Of.run x.json (record { a = x.a; start = x.start; limit = x.limit; sweep = option_map sweep_of_code x.sweep })
    (option_map (λ s. s.now) x.file)
work_of_args (A.Sheet x) = Of.sheet x.json (map (λ s. s.now) x.sheets.items) (option_map (λ s. s.now) x.file)
work_of_args (A.List x) = Of.list x.base (option_map (λ s. s.now) x.branches) (map from_of x.files.items)
work_of_args (A.Check x) = Of.check x.base (option_map (λ s. s.now) x.branches) (map from_of x.files.items)

abbrev pub call_of : Call → Of.Call
call_of x = record { work = work_of_args x.args; output = option_map (λ s. s.now) x.output }

abbrev pub asked : Parsed → Asked
asked (P.Run x) = Of.calls (call_of x)
asked (P.Print t) = Of.prints t.items
asked (P.Misuse c wrong) = Of.fails (misused (option_map command_name c) wrong.items)
asked (P.Unnamed what name) = Of.fails (failed what name.now reason)

-- ---- what parts of the code give

-- the word of an operand
abbrev pub operand_in : Given → Option Text
operand_in (operand w) = Some w
operand_in (flag s) = None
operand_in (value s v) = None
operand_in (tries a b d) = None

-- the words of -w
abbrev pub three_in : Given → Option Of.Three
three_in (tries a b d) = Some (record { at = a; from = b; to = d })
three_in (flag s) = None
three_in (value s v) = None
three_in (operand w) = None

abbrev pub three_of : Three → Of.Three
three_of x = record { at = x.at.now; from = x.from.now; to = x.to.now }

-- one of several FILEs; whether standard input was named before it, and then
abbrev pub from_word : Bool → Text → From
from_word was w = cond (bytes_eq w (codes "-")) (cond was again standard) (file w)

abbrev pub was_after : Bool → Text → Bool
was_after was w = cond (bytes_eq w (codes "-")) true was

-- a name that was not UTF-8
abbrev pub broken_in : Option Text → Option Text
broken_in o = find is_broken (option_list o)

-- the first one: of the branch table, the sheets, FILE
abbrev pub unread_among : Option Text → List Text → List Text → Option Text
unread_among b ss xs = find is_broken ((option_list b ++ ss) ++ xs)

-- the same of what is given to a command; ws, the operands
abbrev pub unread_in : Command → List Given → List Text → Option Text
unread_in c gs ws = unread_among (branches_in gs) (values_of setting.Sheet gs) (drop (number_count c) ws)

-- a number, or what is wrong with its word
abbrev pub read_as : {A B : Type 0} → (A → B) → Result A Wrong → Result B Complaint
read_as f (Ok x) = Ok (f x)
read_as f (Err w) = Err (complaint_of w)

abbrev pub read_of : {A : Type 0} → Result A Wrong → Result A Complaint
read_of r = read_as (λ x. x) r
