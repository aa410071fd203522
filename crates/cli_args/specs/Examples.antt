-- What words ask for, by example. Assumes nothing.
use Prim.Native.String.{String}
use Rattle.std.specs.Prelude.{◌≡◌, false, true, pos, neg_ℤ, [], ◌∷◌, ◌++◌, Option, None, Some, codes}
use Rattle.rules.specs.Text.{Text}
use Rattle.cli_error.specs.Fault.{misused, failed}
use Rattle.cli_error.specs.declared.What.TheVariants.{Open, Write}
use Rattle.cli_run.specs.From as From
use Rattle.cli_run.specs.From.{standard, again}
use Rattle.cli_args.specs.Help.{command_help_text}
use Rattle.cli_args.specs.declared.Command.TheVariants as command
use Rattle.cli_args.specs.Asked.{Asked, Work, calls, prints, fails, assemble, move, check, why, run, sheet, list, reason, asked_of}

abbrev M : String → String → Asked
M c w = fails (misused (Some (codes c)) (codes w))

abbrev C : Work → Option Text → Asked
C w o = calls (record { work = w; output = o })

abbrev from_file : String → From.From
from_file n = From.file (codes n)

pub record Examples : Type 0 where
  pub nothing : asked_of ([]) ≡ fails (misused None (codes "no command"))
  pub lists : asked_of (codes "lists" ∷ []) ≡ fails (misused None (codes "no command lists"))
  pub output_first : asked_of (codes "-o" ∷ codes "x" ∷ []) ≡ fails (misused None (codes "no command -o"))
  pub no_output : asked_of (codes "assemble" ∷ codes "-o" ∷ []) ≡ M "assemble" "-o takes FILE"
  pub minus_base : asked_of (codes "assemble" ∷ codes "--base" ∷ codes "-1" ∷ codes "examples/bezel.s" ∷ []) ≡ M "assemble" "--base takes N"
  pub empty_base : asked_of (codes "assemble" ∷ codes "--base=" ∷ []) ≡ M "assemble" "--base takes N"
  pub help_value : asked_of (codes "assemble" ∷ codes "--help=x" ∷ []) ≡ M "assemble" "--help takes nothing"
  pub too_many : asked_of (codes "assemble" ∷ codes "a" ∷ codes "b" ∷ []) ≡ M "assemble" "one FILE too many: b"
  pub option_as_file : asked_of (codes "assemble" ∷ codes "x" ∷ codes "--" ∷ codes "-o" ∷ []) ≡ M "assemble" "one FILE too many: -o"
  pub first_wrong : asked_of (codes "assemble" ∷ codes "--x" ∷ codes "--help" ∷ []) ≡ M "assemble" "no option --x"
  pub no_prefix : asked_of (codes "assemble" ∷ codes "--he" ∷ []) ≡ M "assemble" "no option --he"
  pub no_minus : asked_of (codes "nearest" ∷ codes "-5" ∷ codes "x" ∷ []) ≡ M "nearest" "no option -5"
  pub second_minus : asked_of (codes "move" ∷ codes "-5" ∷ codes "-6" ∷ []) ≡ M "move" "no option -6"
  pub a8 : asked_of (codes "run" ∷ codes "0" ∷ codes "9" ∷ codes "--a8" ∷ codes "5" ∷ []) ≡ M "run" "no option --a8"
  pub no_distance : asked_of (codes "move" ∷ []) ≡ M "move" "DISTANCE is missing"
  pub no_limit : asked_of (codes "run" ∷ codes "0" ∷ []) ≡ M "run" "START LIMIT is missing"
  pub bad_distance : asked_of (codes "move" ∷ codes "x" ∷ []) ≡ M "move" "no such number: x"
  pub plus_limit : asked_of (codes "run" ∷ codes "0" ∷ codes "+5" ∷ []) ≡ M "run" "no such number: +5"
  pub no_sheet : asked_of (codes "sheet" ∷ codes "-t" ∷ []) ≡ M "sheet" "-t takes SHEET"
  pub tries_cut : asked_of (codes "run" ∷ codes "0" ∷ codes "9" ∷ codes "-w" ∷ codes "1" ∷ codes "2" ∷ []) ≡ M "run" "-w takes ADDRESS FROM TO"
  pub tries_dashes : asked_of (codes "run" ∷ codes "-w" ∷ codes "1" ∷ codes "--" ∷ codes "3" ∷ codes "0" ∷ codes "9" ∷ []) ≡ M "run" "-w takes ADDRESS FROM TO"
  pub distance_x : asked_of (codes "move" ∷ codes "-x" ∷ []) ≡ M "move" "no such number: -x"
  pub distance_dashes : asked_of (codes "move" ∷ codes "--5" ∷ []) ≡ M "move" "no such number: --5"
  pub cluster : asked_of (codes "assemble" ∷ codes "-xyz" ∷ []) ≡ M "assemble" "no option -x"
  pub cluster_h : asked_of (codes "assemble" ∷ codes "-hx" ∷ []) ≡ M "assemble" "no option -h"
  pub tries_attached : asked_of (codes "run" ∷ codes "1004" ∷ codes "-w1002" ∷ codes "10" ∷ codes "11" ∷ codes "16" ∷ codes "x" ∷ []) ≡ M "run" "-w takes ADDRESS FROM TO"
  pub json_value : asked_of (codes "assemble" ∷ codes "--json=x" ∷ []) ≡ M "assemble" "--json takes nothing"
  pub file : asked_of (codes "assemble" ∷ codes "--base" ∷ codes "1" ∷ codes "--base=2000" ∷ codes "-oF" ∷ codes "x" ∷ []) ≡ C (assemble false 8192 None (Some (codes "x"))) (Some (codes "F"))
  pub dash : asked_of (codes "assemble" ∷ codes "-" ∷ codes "--json" ∷ codes "--branches" ∷ codes "-o" ∷ []) ≡ C (assemble true 0 (Some (codes "-o")) None) None
  pub moved : asked_of (codes "move" ∷ codes "-o" ∷ codes "-" ∷ codes "-8192" ∷ codes "x" ∷ []) ≡ C (move (neg_ℤ (pos 8192)) (Some (codes "x"))) None
  pub checked : asked_of (codes "check" ∷ codes "a" ∷ codes "-" ∷ codes "-" ∷ codes "-o=f" ∷ []) ≡ C (check 0 None (from_file "a" ∷ standard ∷ again ∷ [])) (Some (codes "f"))
  pub whys : asked_of (codes "why" ∷ codes "--line=3" ∷ codes "-" ∷ []) ≡ C (why false 0 None (Some 3) (standard ∷ [])) None
  pub swept : asked_of (codes "run" ∷ codes "0x1004" ∷ codes "$10" ∷ codes "-w" ∷ codes "1002" ∷ codes "10" ∷ codes "11" ∷ codes "x" ∷ codes "--a1" ∷ codes "5" ∷ []) ≡ C (run false (record { a = 0 ∷ 5 ∷ 0 ∷ 0 ∷ 0 ∷ 0 ∷ 0 ∷ 0 ∷ []; start = 4100; limit = 16; sweep = Some (record { at = 4098; from = 10; to = 11 }) }) (Some (codes "x"))) None
  pub sheets : asked_of (codes "sheet" ∷ codes "-t" ∷ codes "a" ∷ codes "-tb" ∷ codes "-t=c" ∷ codes "x" ∷ []) ≡ C (sheet false (codes "a" ∷ codes "b" ∷ codes "c" ∷ []) (Some (codes "x"))) None
  pub late_help : asked_of (codes "assemble" ∷ codes "--base" ∷ codes "G" ∷ codes "--help" ∷ []) ≡ prints (command_help_text command.Assemble)
  pub move_output : asked_of (codes "move" ∷ codes "-oFILE" ∷ codes "5" ∷ codes "x" ∷ [])
      ≡ C (move (pos 5) (Some (codes "x"))) (Some (codes "FILE"))
  pub move_output_equals : asked_of (codes "move" ∷ codes "-o=FILE" ∷ codes "5" ∷ codes "x" ∷ [])
      ≡ C (move (pos 5) (Some (codes "x"))) (Some (codes "FILE"))
  pub tries_then_option : asked_of (codes "run" ∷ codes "-w" ∷ codes "1" ∷ codes "--" ∷ codes "3" ∷ codes "--x" ∷ [])
      ≡ M "run" "no option --x"
  pub empty_output : asked_of (codes "assemble" ∷ codes "-o=" ∷ []) ≡ C (assemble false 0 None None) (Some [])
  pub empty_branches : asked_of (codes "assemble" ∷ codes "--branches=" ∷ []) ≡ C (assemble false 0 (Some []) None) None
  pub empty_sheet : asked_of (codes "sheet" ∷ codes "-t=" ∷ []) ≡ C (sheet false ([] ∷ []) None) None
  pub two_equals : asked_of (codes "assemble" ∷ codes "-o==a" ∷ []) ≡ C (assemble false 0 None None) (Some (codes "=a"))
  pub json_equals : asked_of (codes "assemble" ∷ codes "--json=" ∷ []) ≡ M "assemble" "--json takes nothing"
  pub version_value : asked_of (codes "assemble" ∷ codes "--version=1" ∷ []) ≡ M "assemble" "--version takes nothing"
  pub dashes_equals : asked_of (codes "assemble" ∷ codes "--=x" ∷ []) ≡ M "assemble" "no option --"
  pub dash_equals : asked_of (codes "assemble" ∷ codes "-=" ∷ []) ≡ M "assemble" "no option -="
  pub three_dashes : asked_of (codes "assemble" ∷ codes "---x" ∷ []) ≡ M "assemble" "no option ---x"
  pub long_output : asked_of (codes "assemble" ∷ codes "--o=x" ∷ []) ≡ M "assemble" "no option --o"
  pub tries_equals : asked_of (codes "run" ∷ codes "-w=1" ∷ codes "0" ∷ codes "9" ∷ []) ≡ M "run" "-w takes ADDRESS FROM TO"
  pub wrong_before_tries : asked_of (codes "run" ∷ codes "--x" ∷ codes "-w" ∷ codes "1" ∷ codes "2" ∷ []) ≡ M "run" "no option --x"
  pub file_before_option : asked_of (codes "assemble" ∷ codes "a" ∷ codes "b" ∷ codes "-o" ∷ []) ≡ M "assemble" "one FILE too many: b"
  pub base_as_distance : asked_of (codes "move" ∷ codes "--base" ∷ codes "5" ∷ []) ≡ M "move" "no such number: --base"
  pub base_value_as_distance : asked_of (codes "move" ∷ codes "--base=5" ∷ codes "x" ∷ []) ≡ M "move" "no such number: --base=5"
  pub output_then_nothing : asked_of (codes "move" ∷ codes "-ofx" ∷ []) ≡ M "move" "DISTANCE is missing"
  pub late_output : asked_of (codes "move" ∷ codes "--" ∷ codes "5" ∷ codes "x" ∷ codes "-o" ∷ []) ≡ M "move" "one FILE too many: -o"
  pub file_of_dash : asked_of (codes "move" ∷ codes "-5" ∷ codes "--" ∷ codes "-o" ∷ [])
      ≡ C (move (neg_ℤ (pos 5)) (Some (codes "-o"))) None
  pub dash_as_address : asked_of (codes "nearest" ∷ codes "-" ∷ []) ≡ M "nearest" "no such number: -"
  pub dashes_twice : asked_of (codes "list" ∷ codes "--" ∷ codes "--" ∷ codes "a" ∷ [])
      ≡ C (list 0 None (from_file "--" ∷ from_file "a" ∷ [])) None
  pub two_bytes : asked_of (codes "assemble" ∷ (45 ∷ 195 ∷ 169 ∷ []) ∷ [])
      ≡ fails (misused (Some (codes "assemble")) (codes "no option " ++ 45 ∷ 195 ∷ 169 ∷ []))
  pub broken_option : asked_of (codes "assemble" ∷ (codes "--x" ++ 0 ∷ []) ∷ []) ≡ M "assemble" "no option --x"
  pub broken_file : asked_of (codes "check" ∷ codes "a" ∷ (codes "b" ++ 0 ∷ []) ∷ (codes "c" ++ 0 ∷ []) ∷ [])
      ≡ fails (failed Open (codes "b") reason)
  pub broken_output : asked_of (codes "assemble" ∷ codes "-o" ∷ (codes "b" ++ 0 ∷ []) ∷ codes "a" ∷ [])
      ≡ fails (failed Write (codes "b") reason)
  pub broken_sheet : asked_of (codes "sheet" ∷ codes "-t" ∷ codes "a" ∷ codes "-t" ∷ (codes "b" ++ 0 ∷ []) ∷ [])
      ≡ fails (failed Open (codes "b") reason)
