-- The commands and the options: names, values, and which command takes which. Assumes nothing.
use Rattle.std.specs.Prelude.{Bool, true, false, List, [], ◌∷◌, Option, codes, bytes_eq, find}
use Rattle.rules.specs.Text.{Text}
use Rattle.cli_args.specs.declared.Command.{Command}
use Rattle.cli_args.specs.declared.Command.TheVariants as command
use Rattle.cli_args.specs.declared.Setting.{Setting}
use Rattle.cli_args.specs.declared.Setting.TheVariants as setting

-- a command's name
abbrev pub command_name : Command → Text
command_name command.Assemble = codes "assemble"
command_name command.Manual = codes "manual"
command_name command.Move = codes "move"
command_name command.Symbols = codes "symbols"
command_name command.Nearest = codes "nearest"
command_name command.Why = codes "why"
command_name command.Tidy = codes "tidy"
command_name command.Run = codes "run"
command_name command.Sheet = codes "sheet"
command_name command.List = codes "list"
command_name command.Check = codes "check"

-- the numbers before FILE
abbrev pub command_values : Command → Text
command_values command.Assemble = codes ""
command_values command.Manual = codes ""
command_values command.Move = codes "DISTANCE"
command_values command.Symbols = codes ""
command_values command.Nearest = codes "ADDRESS"
command_values command.Why = codes ""
command_values command.Tidy = codes ""
command_values command.Run = codes "START LIMIT"
command_values command.Sheet = codes ""
command_values command.List = codes ""
command_values command.Check = codes ""

-- whether FILE may be given several times
abbrev pub takes_several : Command → Bool
takes_several command.Assemble = false
takes_several command.Manual = false
takes_several command.Move = false
takes_several command.Symbols = false
takes_several command.Nearest = false
takes_several command.Why = true
takes_several command.Tidy = false
takes_several command.Run = false
takes_several command.Sheet = false
takes_several command.List = true
takes_several command.Check = true

-- whether ADDRESS or START stands before FILE
abbrev pub takes_address : Command → Bool
takes_address command.Assemble = false
takes_address command.Manual = false
takes_address command.Move = false
takes_address command.Symbols = false
takes_address command.Nearest = true
takes_address command.Why = false
takes_address command.Tidy = false
takes_address command.Run = true
takes_address command.Sheet = false
takes_address command.List = false
takes_address command.Check = false

-- whether --base is taken
abbrev pub takes_base : Command → Bool
takes_base command.Assemble = true
takes_base command.Manual = true
takes_base command.Move = false
takes_base command.Symbols = true
takes_base command.Nearest = true
takes_base command.Why = true
takes_base command.Tidy = false
takes_base command.Run = false
takes_base command.Sheet = false
takes_base command.List = true
takes_base command.Check = true

-- whether --branches is taken
abbrev pub takes_branches : Command → Bool
takes_branches command.Assemble = true
takes_branches command.Manual = false
takes_branches command.Move = false
takes_branches command.Symbols = false
takes_branches command.Nearest = false
takes_branches command.Why = true
takes_branches command.Tidy = false
takes_branches command.Run = false
takes_branches command.Sheet = false
takes_branches command.List = true
takes_branches command.Check = true

-- whether --json is taken
abbrev pub takes_json : Command → Bool
takes_json command.Assemble = true
takes_json command.Manual = false
takes_json command.Move = false
takes_json command.Symbols = true
takes_json command.Nearest = true
takes_json command.Why = true
takes_json command.Tidy = false
takes_json command.Run = true
takes_json command.Sheet = true
takes_json command.List = false
takes_json command.Check = false

-- whether --line is taken
abbrev pub is_why : Command → Bool
is_why command.Assemble = false
is_why command.Manual = false
is_why command.Move = false
is_why command.Symbols = false
is_why command.Nearest = false
is_why command.Why = true
is_why command.Tidy = false
is_why command.Run = false
is_why command.Sheet = false
is_why command.List = false
is_why command.Check = false

-- whether --a0 to --a7 and -w are taken
abbrev pub is_run : Command → Bool
is_run command.Assemble = false
is_run command.Manual = false
is_run command.Move = false
is_run command.Symbols = false
is_run command.Nearest = false
is_run command.Why = false
is_run command.Tidy = false
is_run command.Run = true
is_run command.Sheet = false
is_run command.List = false
is_run command.Check = false

-- whether DISTANCE stands before FILE
abbrev pub is_move : Command → Bool
is_move command.Assemble = false
is_move command.Manual = false
is_move command.Move = true
is_move command.Symbols = false
is_move command.Nearest = false
is_move command.Why = false
is_move command.Tidy = false
is_move command.Run = false
is_move command.Sheet = false
is_move command.List = false
is_move command.Check = false

-- whether -t is taken
abbrev pub is_sheet : Command → Bool
is_sheet command.Assemble = false
is_sheet command.Manual = false
is_sheet command.Move = false
is_sheet command.Symbols = false
is_sheet command.Nearest = false
is_sheet command.Why = false
is_sheet command.Tidy = false
is_sheet command.Run = false
is_sheet command.Sheet = true
is_sheet command.List = false
is_sheet command.Check = false

-- whether a command takes an option
abbrev pub takes_option : Command → Setting → Bool
takes_option c setting.Output = true
takes_option c setting.Base = takes_base c
takes_option c setting.Branches = takes_branches c
takes_option c setting.Line = is_why c
takes_option c setting.A0 = is_run c
takes_option c setting.A1 = is_run c
takes_option c setting.A2 = is_run c
takes_option c setting.A3 = is_run c
takes_option c setting.A4 = is_run c
takes_option c setting.A5 = is_run c
takes_option c setting.A6 = is_run c
takes_option c setting.A7 = is_run c
takes_option c setting.Tries = is_run c
takes_option c setting.Sheet = is_sheet c
takes_option c setting.Json = takes_json c
takes_option c setting.Help = true
takes_option c setting.Version = true

-- an option's name among the words
abbrev pub option_name : Setting → Text
option_name setting.Output = codes "-o"
option_name setting.Base = codes "--base"
option_name setting.Branches = codes "--branches"
option_name setting.Line = codes "--line"
option_name setting.A0 = codes "--a0"
option_name setting.A1 = codes "--a1"
option_name setting.A2 = codes "--a2"
option_name setting.A3 = codes "--a3"
option_name setting.A4 = codes "--a4"
option_name setting.A5 = codes "--a5"
option_name setting.A6 = codes "--a6"
option_name setting.A7 = codes "--a7"
option_name setting.Tries = codes "-w"
option_name setting.Sheet = codes "-t"
option_name setting.Json = codes "--json"
option_name setting.Help = codes "--help"
option_name setting.Version = codes "--version"

-- its values
abbrev pub option_values : Setting → Text
option_values setting.Output = codes "FILE"
option_values setting.Base = codes "N"
option_values setting.Branches = codes "FILE"
option_values setting.Line = codes "N"
option_values setting.A0 = codes "N"
option_values setting.A1 = codes "N"
option_values setting.A2 = codes "N"
option_values setting.A3 = codes "N"
option_values setting.A4 = codes "N"
option_values setting.A5 = codes "N"
option_values setting.A6 = codes "N"
option_values setting.A7 = codes "N"
option_values setting.Tries = codes "ADDRESS FROM TO"
option_values setting.Sheet = codes "SHEET"
option_values setting.Json = codes ""
option_values setting.Help = codes ""
option_values setting.Version = codes ""

-- what it is said to take
abbrev pub option_taken : Setting → Text
option_taken setting.Output = option_values setting.Output
option_taken setting.Base = option_values setting.Base
option_taken setting.Branches = option_values setting.Branches
option_taken setting.Line = option_values setting.Line
option_taken setting.A0 = option_values setting.A0
option_taken setting.A1 = option_values setting.A1
option_taken setting.A2 = option_values setting.A2
option_taken setting.A3 = option_values setting.A3
option_taken setting.A4 = option_values setting.A4
option_taken setting.A5 = option_values setting.A5
option_taken setting.A6 = option_values setting.A6
option_taken setting.A7 = option_values setting.A7
option_taken setting.Tries = option_values setting.Tries
option_taken setting.Sheet = option_values setting.Sheet
option_taken setting.Json = codes "nothing"
option_taken setting.Help = codes "nothing"
option_taken setting.Version = codes "nothing"

-- ---- what is said of them
-- what is printed
abbrev pub command_summary : Command → Text
command_summary command.Assemble = codes "the list of a script, a line for each word: address, word, mark"
command_summary command.Manual = codes "the same list by the manual's own words, for a real 68000"
command_summary command.Move = codes "a list, moved by DISTANCE bytes"
command_summary command.Symbols = codes "the labels of a script, a line for each: name, address, line"
command_summary command.Nearest = codes "the nearest label at or below ADDRESS, and how far past it that is"
command_summary command.Why = codes "of each line of a script, whether it has a word, and if not why"
command_summary command.Tidy = codes "the tidy copy of a script: the lines that are read, without needless blanks"
command_summary command.Run = codes "how a run of at most LIMIT steps ends: why, steps, PC, D0 to D7, flags"
command_summary command.Sheet = codes "the totals of scripts: lines by class, words, labels, scripts"
command_summary command.List = codes "a script for people: each line with its address and words, then the labels"
command_summary command.Check = codes "of each script whether it is accepted, and if not why"

-- what FILE has
abbrev pub command_input : Command → Text
command_input command.Assemble = codes "a script"
command_input command.Manual = codes "a script"
command_input command.Move = codes "a list, of assemble or manual"
command_input command.Symbols = codes "a script"
command_input command.Nearest = codes "a script"
command_input command.Why = codes "a script"
command_input command.Tidy = codes "a script"
command_input command.Run = codes "a list, of assemble or manual"
command_input command.Sheet = codes "the names of scripts, one a line"
command_input command.List = codes "a script"
command_input command.Check = codes "a script"

-- the numbers before FILE in the usage
abbrev pub values_in_usage : Command → Text
values_in_usage command.Assemble = codes ""
values_in_usage command.Manual = codes ""
values_in_usage command.Move = codes " DISTANCE"
values_in_usage command.Symbols = codes ""
values_in_usage command.Nearest = codes " ADDRESS"
values_in_usage command.Why = codes ""
values_in_usage command.Tidy = codes ""
values_in_usage command.Run = codes " START LIMIT"
values_in_usage command.Sheet = codes ""
values_in_usage command.List = codes ""
values_in_usage command.Check = codes ""

-- FILE in the usage
abbrev pub files_in_usage : Command → Text
files_in_usage command.Assemble = codes " [FILE]"
files_in_usage command.Manual = codes " [FILE]"
files_in_usage command.Move = codes " [FILE]"
files_in_usage command.Symbols = codes " [FILE]"
files_in_usage command.Nearest = codes " [FILE]"
files_in_usage command.Why = codes " [FILE ..]"
files_in_usage command.Tidy = codes " [FILE]"
files_in_usage command.Run = codes " [FILE]"
files_in_usage command.Sheet = codes " [FILE]"
files_in_usage command.List = codes " [FILE ..]"
files_in_usage command.Check = codes " [FILE ..]"

-- what is said of several files
abbrev pub several_text : Command → Text
several_text command.Assemble = codes ".\n\n"
several_text command.Manual = codes ".\n\n"
several_text command.Move = codes ".\n\n"
several_text command.Symbols = codes ".\n\n"
several_text command.Nearest = codes ".\n\n"
several_text command.Why = codes "; of several each is printed behind a line with its name.\n\n"
several_text command.Tidy = codes ".\n\n"
several_text command.Run = codes ".\n\n"
several_text command.Sheet = codes ".\n\n"
several_text command.List = codes "; of several each is printed behind a line with its name.\n\n"
several_text command.Check = codes "; of several each has a line.\n\n"

-- what is said of an option
abbrev pub option_help : Setting → Text
option_help setting.Output = codes "write FILE, whole or not at all, in place of standard output"
option_help setting.Base = codes "assemble at this base, hexadecimal, in place of 0"
option_help setting.Branches = codes "take the branches' names from this table, in place of the built-in eleven"
option_help setting.Line = codes "say it of line N alone"
option_help setting.A0 = codes "start with this in A0, hexadecimal, in place of 0; so --a1 to --a7"
option_help setting.A1 = codes ""
option_help setting.A2 = codes ""
option_help setting.A3 = codes ""
option_help setting.A4 = codes ""
option_help setting.A5 = codes ""
option_help setting.A6 = codes ""
option_help setting.A7 = codes ""
option_help setting.Tries = codes "run with each value from FROM to TO as the words at ADDRESS, a row each"
option_help setting.Sheet = codes "add a sheet, as sheet prints it; any number of times"
option_help setting.Json = codes "print one line of JSON in place of the text"
option_help setting.Help = codes "print this"
option_help setting.Version = codes "print the version"

-- whether it is --a1 to --a7
abbrev pub is_later_register : Setting → Bool
is_later_register setting.Output = false
is_later_register setting.Base = false
is_later_register setting.Branches = false
is_later_register setting.Line = false
is_later_register setting.A0 = false
is_later_register setting.A1 = true
is_later_register setting.A2 = true
is_later_register setting.A3 = true
is_later_register setting.A4 = true
is_later_register setting.A5 = true
is_later_register setting.A6 = true
is_later_register setting.A7 = true
is_later_register setting.Tries = false
is_later_register setting.Sheet = false
is_later_register setting.Json = false
is_later_register setting.Help = false
is_later_register setting.Version = false

-- whether a usage tells it
abbrev pub is_in_usage : Setting → Bool
is_in_usage setting.Output = true
is_in_usage setting.Base = true
is_in_usage setting.Branches = true
is_in_usage setting.Line = true
is_in_usage setting.A0 = true
is_in_usage setting.A1 = true
is_in_usage setting.A2 = true
is_in_usage setting.A3 = true
is_in_usage setting.A4 = true
is_in_usage setting.A5 = true
is_in_usage setting.A6 = true
is_in_usage setting.A7 = true
is_in_usage setting.Tries = true
is_in_usage setting.Sheet = true
is_in_usage setting.Json = true
is_in_usage setting.Help = false
is_in_usage setting.Version = false

-- whether it has values
abbrev pub has_values : Setting → Bool
has_values setting.Output = true
has_values setting.Base = true
has_values setting.Branches = true
has_values setting.Line = true
has_values setting.A0 = true
has_values setting.A1 = true
has_values setting.A2 = true
has_values setting.A3 = true
has_values setting.A4 = true
has_values setting.A5 = true
has_values setting.A6 = true
has_values setting.A7 = true
has_values setting.Tries = true
has_values setting.Sheet = true
has_values setting.Json = false
has_values setting.Help = false
has_values setting.Version = false

-- ---- the commands, and one by its name
abbrev pub commands : List Command
commands =
    command.Assemble ∷ command.Manual ∷ command.Move ∷ command.Symbols ∷ command.Nearest ∷ command.Why ∷ command.Tidy ∷ command.Run
    ∷ command.Sheet ∷ command.List ∷ command.Check ∷ []

-- the command of this name
abbrev pub named_command : Text → Option Command
named_command w = find (λ c. bytes_eq (command_name c) w) commands
