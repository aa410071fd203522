-- What the first word asks for. Assumes nothing.
use Rattle.std.specs.Prelude.{◌≡◌, true, false, ⊤, List, [], ◌∷◌, Option, None, Some, Result, Ok, Err, codes, string_bytes, bytes_eq, find}
use Rattle.rules.specs.Text.{Text}
use Rattle.clap.specs.declared.parser.matches.Found.{Found}
use Rattle.commandline.specs.Asked.{FailsWith, Shows}
use Rattle.commandline.specs.Table.{command_name}
use Rattle.commandline.specs.declared.Command.{Command}
use Rattle.commandline.specs.declared.Command.TheVariants as command
use Rattle.commandline.specs.declared.Wrong.{Wrong}
use Rattle.commandline.specs.declared.Wrong.TheVariants.{NoCommand, UnknownCommand, UnknownOption, TooMany, Takes, NoNumber, Missing, Unclear, OutOfMemory}
use Rattle.commandline.specs.declared.parse.Start.{Start}
use Rattle.commandline.specs.declared.parse.Start.TheVariants as start
use Rattle.commandline.specs.declared.parse.Request.{Request}
use Rattle.commandline.specs.declared.parse.Request.TheVariants as request

abbrev pub commands : List Command
commands =
    command.Assemble ∷ command.Manual ∷ command.Move ∷ command.Symbols ∷ command.Nearest ∷ command.Why ∷ command.Tidy ∷ command.Run
    ∷ command.Sheet ∷ command.List ∷ command.Check ∷ []

-- the command of this name
abbrev pub named_command : Text → Option Command
named_command w = find (λ c. bytes_eq (command_name c) w) commands

-- the word is said to be no command; or there was no memory to say so
abbrev pub IsUnknown : Text → Wrong → Type 0
IsUnknown w NoCommand = ⊥
IsUnknown w (UnknownCommand s) = string_bytes s ≡ w
IsUnknown w (UnknownOption d s) = ⊥
IsUnknown w (TooMany d s) = ⊥
IsUnknown w (Takes d s) = ⊥
IsUnknown w (NoNumber d s) = ⊥
IsUnknown w (Missing d) = ⊥
IsUnknown w (Unclear d) = ⊥
IsUnknown w OutOfMemory = ⊤

abbrev pub NamedAnswer : Text → Option Command → Result Start Wrong → Type 0
NamedAnswer w None r = FailsWith (IsUnknown w) r
NamedAnswer w (Some c) r = r ≡ Ok (start.Of c)

abbrev pub WordAnswer : Text → Result Start Wrong → Type 0
WordAnswer w r =
    elim (bytes_eq w (codes "--help")) [
      | true ↦ r ≡ Ok start.Help
      | false ↦ elim (bytes_eq w (codes "--version")) [ true ↦ r ≡ Ok start.Version | false ↦ NamedAnswer w (named_command w) r ]
    ]

abbrev pub StartAnswer : List Text → Result Start Wrong → Type 0
StartAnswer [] r = r ≡ Err NoCommand
StartAnswer (w ∷ ws) r = WordAnswer w r

-- what is asked of a command is shown by what clap found, whatever that is
abbrev pub IsRequest : Command → Request → Type 0
IsRequest c request.Help = ⊤
IsRequest c request.Version = ⊤
IsRequest c (request.Work a) = (f : Found) × Shows c f a
