-- What the command says on standard error before any work. Assumes nothing.
use Rattle.std.specs.Prelude.{◌≡◌, ◌⊎◌, ⊤, List, ℕ, Option, None, Some, Result, string_bytes}
use Rattle.std.specs.declared.io.Error.{Error}
use Rattle.rules.specs.Text.{Text, bytes}
use Rattle.commandline.specs.Message.{message_text, command_of}
use Rattle.commandline.specs.Table.{command_name}
use Rattle.commandline.specs.declared.Command.{Command}
use Rattle.commandline.specs.declared.Wrong.{Wrong}
use Rattle.commandline.specs.declared.Wrong.TheVariants.{NoCommand, UnknownCommand, UnknownOption, TooMany, Takes, NoNumber, Missing, Unclear, OutOfMemory}
use Rattle.diagnostic.specs.Said.{wrong_use_text, no_command_text, not_a_command_text, no_memory_text}
use Rattle.outcome.specs.Outcome.{Left}
use Rattle.asked.specs.Names.{shown}

-- old and new, what standard error has taken before and after: the text, as far as it took it
abbrev pub Took : Option (List ℕ) → Option (List ℕ) → Text → Type 0
Took old new s = (r : Result ⊤ Error) × Left old new s r

-- the same, or that there was no memory for the text
abbrev pub Says : Option (List ℕ) → Option (List ℕ) → Text → Type 0
Says old new s = Took old new s ⊎ Took old new no_memory_text

-- what is wrong with the words, and where their right use is told
abbrev pub wrong_text : Wrong → Text
wrong_text NoCommand = no_command_text
wrong_text (UnknownCommand w) = not_a_command_text (shown (string_bytes w))
wrong_text (UnknownOption c w) = wrong_use_text (command_name c) (shown (message_text (UnknownOption c w)))
wrong_text (TooMany c w) = wrong_use_text (command_name c) (shown (message_text (TooMany c w)))
wrong_text (Takes c s) = wrong_use_text (command_name c) (shown (message_text (Takes c s)))
wrong_text (NoNumber c w) = wrong_use_text (command_name c) (shown (message_text (NoNumber c w)))
wrong_text (Missing c) = wrong_use_text (command_name c) (shown (message_text (Missing c)))
wrong_text (Unclear c) = wrong_use_text (command_name c) (shown (message_text (Unclear c)))
wrong_text OutOfMemory = no_memory_text
