-- What the words ask for. Assumes nothing.
use Rattle.std.specs.Prelude.{◌≡◌, ◌⊎◌, List, Ok, Err}
use Rattle.rules.specs.Text.{Text}
use Rattle.commandline.specs.Start.{StartAnswer, IsRequest}
use Rattle.commandline.specs.Help.{help_text, command_help_text}
use Rattle.commandline.specs.declared.help.TheConstants.{VERSION}
use Rattle.commandline.specs.declared.Asked.{Asked}
use Rattle.commandline.specs.declared.Command.{Command}
use Rattle.commandline.specs.declared.Wrong.{Wrong}
use Rattle.commandline.specs.declared.parse.Start.TheVariants.{Help, Version, Of}
use Rattle.commandline.specs.declared.parse.Request.TheVariants.{Work}
use Rattle.diagnostic.specs.Refusals.{refusals_text}
use Rattle.asked.specs.declared.task.Task.{Task}
use Rattle.asked.specs.declared.task.Task.TheVariants as task

-- ws, the words after the program's name: a text that they ask for
pub data AsksText (ws : List Text) (t : Text) : Type 0 where
  of_help : StartAnswer ws (Ok Help) → t ≡ help_text refusals_text → AsksText ws t
  of_version : StartAnswer ws (Ok Version) → t ≡ VERSION.now → AsksText ws t
  of_command_help : (c : Command) → StartAnswer ws (Ok (Of c)) → t ≡ command_help_text c → AsksText ws t
  of_command_version : (c : Command) → StartAnswer ws (Ok (Of c)) → t ≡ VERSION.now → AsksText ws t

-- work that they ask of a command, by what clap found among them
abbrev pub AsksWork : List Text → Asked → Type 0
AsksWork ws a = (c : Command) × StartAnswer ws (Ok (Of c)) × IsRequest c (Work a)

-- what is wrong with them: with the first, or with those of a command
abbrev pub AreWrong : List Text → Wrong → Type 0
AreWrong ws w = StartAnswer ws (Err w) ⊎ ((c : Command) × StartAnswer ws (Ok (Of c)))

abbrev pub IsTask : List Text → Task → Type 0
IsTask ws (task.Print t) = AsksText ws t.items
IsTask ws (task.Work a) = AsksWork ws a
IsTask ws (task.Wrong w) = AreWrong ws w
