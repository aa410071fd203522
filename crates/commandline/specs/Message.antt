-- What is wrong with the words, in words. Assumes nothing.
use Rattle.std.specs.Prelude.{◌++◌, Option, None, Some, codes, string_bytes}
use Rattle.rules.specs.Text.{Text}
use Rattle.commandline.specs.Table.{command_values, option_name, option_taken}
use Rattle.commandline.specs.declared.Command.{Command}
use Rattle.commandline.specs.declared.Wrong.{Wrong}
use Rattle.commandline.specs.declared.Wrong.TheVariants.{NoCommand, UnknownCommand, UnknownOption, TooMany, Takes, NoNumber, Missing, Unclear, OutOfMemory}

abbrev pub message_text : Wrong → Text
message_text NoCommand = codes "no command"
message_text (UnknownCommand w) = codes "no command " ++ string_bytes w
message_text (UnknownOption c w) = codes "no option " ++ string_bytes w
message_text (TooMany c w) = codes "one FILE too many: " ++ string_bytes w
message_text (Takes c s) = option_name s ++ codes " takes " ++ option_taken s
message_text (NoNumber c w) = codes "no such number: " ++ string_bytes w
message_text (Missing c) = command_values c ++ codes " is missing"
message_text (Unclear c) = codes "the words are not understood"
message_text OutOfMemory = codes "out of memory"

-- the command whose words are wrong
abbrev pub command_of : Wrong → Option Command
command_of NoCommand = None
command_of (UnknownCommand w) = None
command_of (UnknownOption c w) = Some c
command_of (TooMany c w) = Some c
command_of (Takes c s) = Some c
command_of (NoNumber c w) = Some c
command_of (Missing c) = Some c
command_of (Unclear c) = Some c
command_of OutOfMemory = None
